-- The lines of the schemas that are left remain, and the parameters of those passed are counted.
use Rattle.model.specs.Lines.{type_lines}
use Rattle.model.specs.Spaces.{spaces}
use Rattle.model.specs.Text.{text}
use Rattle.card.specs.Represents.{task_of}
use Rattle.properties.proofs.ParameterRows.{sizes_of, Counted}
use Rattle.text.proofs.Writing.{Remains}
use Rattle.closing.proofs.SchemaLines.{schemas_left}
use Rattle.closing.proofs.typing.write_type_lines.Given as goal

abbrev pub invariant-loop-i : goal.invariant-loop-i
invariant-loop-i l =
    let task = task_of l.fn.task in
    record {
      remains : Remains (text (type_lines task (spaces task) 0 task.schemas)) (schemas_left task l.i) l.fn.out l.out l.at;
      counted : Counted (sizes_of task.schemas) l.i l.first;
    }
