-- The lines of the own properties from a column on remain to be written.
use Rattle.std.proofs.Common.{length}
use Rattle.model.specs.Text.{text}
use Rattle.properties.specs.Tables.{bags_in}
use Rattle.sections.specs.Limits.{limits_by}
use Rattle.sections.proofs.LimitLines.{limits_from}
use Rattle.text.proofs.Writing.{Remains}
use Rattle.sections.proofs.limits.write_limits.Given as goal

abbrev pub invariant-loop-column : goal.invariant-loop-column
invariant-loop-column l =
    Remains
    (text (limits_by l.arities l.own (bags_in (length l.own) l.count l.table)))
    (limits_from l.arities l.own l.count l.table l.column)
    l.initial.out
    l.out
    l.at
