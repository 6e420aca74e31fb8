-- The lines of the predicates that are left remain.
use Rattle.std.proofs.Common.{length}
use mathlib.Core.List.{flat_map}
use Rattle.laws.specs.Lists.{up_to}
use Rattle.model.specs.Lines.{ceilings}
use Rattle.model.specs.Text.{text}
use Rattle.card.specs.Represents.{task_of}
use Rattle.text.proofs.Writing.{Remains}
use Rattle.closing.proofs.LineLoops.{lines_left}
use Rattle.closing.proofs.ceilings.write_ceilings.Given as goal

abbrev pub invariant-loop-p : goal.invariant-loop-p
invariant-loop-p l =
    Remains (text (flat_map (ceilings (task_of l.fn.task)) (up_to (length (task_of l.fn.task).arities))))
    (lines_left (ceilings (task_of l.fn.task)) l.fn.task.predicates.count l.p) l.fn.out l.out l.at
