-- What printing a task's sections asks: its tables filled.
use Rattle.std.specs.Prelude.{ℕ, List}
use Rattle.card.specs.Represents.{task_of, Represented}
use Rattle.card.specs.declared.Task.{Task}
use Rattle.prepared.specs.Prepared.{Given}
use Rattle.prepared.specs.declared.Prepared.{Prepared}

pub record Ready (task : Task) (prepared : Prepared) (preconditions deletes adds counts : List ℕ) : Type 0 where
  pub represented : Represented task (task_of task)
  pub given : Given (task_of task) prepared preconditions deletes adds counts
