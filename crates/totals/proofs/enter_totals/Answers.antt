-- A property more, and all of them.
use Rattle.std.proofs.Common.{ℕ, List, get_or, arith, ap, ◌∙◌}
use mathlib.Core.Path.{ap₂}
use lib.ListN.{set}
use lib.Seq.{take_all}
use Rattle.totals.specs.Totals.{entered}
use Rattle.totals.proofs.EnteringTotals.{set_all, set_all_next, column_gives}
use Rattle.totals.proofs.enter_totals.Goals as goal

pub total_by-requires : goal.total_by-requires
total_by-requires c =
    let pre = c.requires in
    (pre.rows_there.long, omega (arith, pre.rows_there.narrow), pre.few_members)

pub bounds-fixed-c : goal.bounds-fixed-c
bounds-fixed-c c = omega (arith, c.requires.places_there c.loop-column.column c.loop-column-test.true)

pub loop-column-preserved : goal.loop-column-preserved
loop-column-preserved c =
    let pre = c.requires in
    let l = c.loop-column in
    let h = c.loop-column-test.true in
    ap₂ (λ (f : List ℕ) (n : ℕ). set f (get_or c.args.own.now l.column 0) n) l.invariant
    (column_gives _ _ _ _ l.column pre.rows_there pre.apart h c.total_by.ensures)
    ∙ set_all_next _ _ _ l.column h

pub returns : goal.returns
unfolding entered
returns c = c.loop-column.invariant ∙ ap (set_all _ _) (take_all c.loop-column.column _ (omega arith))
