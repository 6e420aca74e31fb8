-- The totals of the own properties passed are entered.
use Rattle.std.proofs.Common.{◌≡◌, map, take, length}
use Rattle.model.specs.Lines.{count_of}
use Rattle.properties.specs.Tables.{bags_in}
use Rattle.totals.specs.Totals.{given_by}
use Rattle.totals.proofs.EnteringTotals.{set_all}
use Rattle.totals.proofs.enter_totals.Given as goal

abbrev pub invariant-loop-column : goal.invariant-loop-column
invariant-loop-column l =
    l.fixed
    ≡ set_all (λ c. given_by l.members (map (count_of l.own c) (bags_in (length l.own) l.count l.table))) l.fn.fixed (take l.column l.own)
