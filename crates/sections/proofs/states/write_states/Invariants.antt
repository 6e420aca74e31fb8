-- The lines of the rows from i on remain to be written.
use Rattle.std.proofs.Common.{map}
use Rattle.model.specs.Lines.{state}
use Rattle.model.specs.Text.{text}
use Rattle.properties.specs.Tables.{bags_in}
use Rattle.properties.proofs.RowTables.{bags_from}
use Rattle.text.proofs.Writing.{Remains}
use Rattle.sections.proofs.states.write_states.Given as goal

abbrev pub invariant-loop-i : goal.invariant-loop-i
invariant-loop-i l =
    Remains
    (text (map state (bags_in l.size l.count l.table)))
    (text (map state (bags_from l.size l.count l.table l.i)))
    l.initial.out
    l.out
    l.at
