-- The lines of the parameters that are left remain.
use Rattle.std.proofs.Common.{◌+◌}
use Rattle.model.specs.Lines.{types}
use Rattle.model.specs.Text.{text}
use Rattle.masks.specs.Sets.{members_of}
use Rattle.properties.specs.Tables.{bag_at}
use Rattle.spaces.specs.Steps.{enabled_by}
use Rattle.text.proofs.Writing.{Remains}
use Rattle.closing.specs.Typing.{typed_lines}
use Rattle.closing.proofs.LineLoops.{each_left}
use Rattle.closing.proofs.typing.write_schema_types.Given as goal

abbrev pub invariant-loop-k : goal.invariant-loop-k
invariant-loop-k l =
    Remains (text (typed_lines l.size l.groups l.masks l.objects l.preconditions l.n l.first l.parameters))
    (each_left (λ k. types l.n k (members_of (enabled_by l.groups l.objects l.masks (bag_at l.size l.preconditions (l.first + k))))) l.parameters l.k)
    l.fn.out l.out l.at
