-- The rows differ at the place of this turn, agree there too, or agree to the end.
use Rattle.std.proofs.Common.{arith}
use mathlib.Core.Path.{sym, ◌∙◌}
use Rattle.properties.proofs.Rows.{length_bag_at, get_d_bag_at}
use Rattle.conditions.proofs.Compared.{alike_next, differ_here, differ_nowhere}
use Rattle.conditions.proofs.bags.first_difference.Goals as goal

pub returns-then-table-first : goal.returns-then-table-first
returns-then-table-first c =
    let h = c.requires in
    let k = c.loop-k-test.true in
    differ_here c.loop-k.invariant (omega (arith, k, length_bag_at h.0))
    (λ e. c.if-table-first.true (sym (get_d_bag_at h.0 c.loop-k.k k) ∙ e ∙ get_d_bag_at h.1 c.loop-k.k k))

pub loop-k-preserved : goal.loop-k-preserved
loop-k-preserved c =
    let h = c.requires in
    let k = c.loop-k-test.true in
    alike_next c.loop-k.invariant (get_d_bag_at h.0 c.loop-k.k k ∙ c.if-table-first.false ∙ sym (get_d_bag_at h.1 c.loop-k.k k))

pub returns : goal.returns
returns c = differ_nowhere c.loop-k.invariant (omega (arith, c.loop-k-test.false, length_bag_at c.requires.0))
