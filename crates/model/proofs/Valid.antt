-- A state of a task, apart from any buffer: its facts are known to the task and strictly ascending.
use mathlib.Core.Path.{◌≡◌}
use mathlib.Core.Bool.{true}
use mathlib.Core.Option.{none}
use Rattle.laws.specs.Lists.{all}
use Rattle.model.specs.Card.{Task}
use Rattle.model.specs.Writer.{known}
use Rattle.model.specs.Strips.{State, ascending}

pub record Valid (t : Task) (s : State) : Type 0 where
  pub facts_known : all (known t.arities t.objects) s ≡ true
  pub in_order : ascending none s ≡ true
