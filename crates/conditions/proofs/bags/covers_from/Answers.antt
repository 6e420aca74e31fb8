-- A count of row i is smaller at the place of this turn, none is up to it, or none is to the end.
use Rattle.std.proofs.Common.{arith}
use mathlib.Core.Path.{sym, ◌∙◌}
use Rattle.properties.proofs.Rows.{length_bag_at, get_d_bag_at}
use Rattle.conditions.proofs.Compared.{covering_start, covering_next, covering_fails, covering_ends}
use Rattle.conditions.proofs.bags.covers_from.Goals as goal

pub loop-k-init : goal.loop-k-init
loop-k-init c = covering_start

pub returns-then-table-first : goal.returns-then-table-first
returns-then-table-first c =
    let h = c.requires in
    let l = c.loop-k in
    let k = c.loop-k-test.true in
    covering_fails l.invariant (length_bag_at h.0 ∙ sym (length_bag_at h.1)) (omega (arith, k, length_bag_at h.0))
    (omega (arith, c.if-table-first.true, get_d_bag_at h.0 l.k k, get_d_bag_at h.1 l.k k))

pub loop-k-preserved : goal.loop-k-preserved
loop-k-preserved c =
    let h = c.requires in
    let l = c.loop-k in
    let k = c.loop-k-test.true in
    covering_next l.invariant (length_bag_at h.0 ∙ sym (length_bag_at h.1)) (omega (arith, k, length_bag_at h.0))
    (omega (arith, c.if-table-first.false, get_d_bag_at h.0 l.k k, get_d_bag_at h.1 l.k k))

pub returns : goal.returns
returns c =
    let h = c.requires in
    covering_ends c.loop-k.invariant (length_bag_at h.0 ∙ sym (length_bag_at h.1)) (omega (arith, c.loop-k-test.false, length_bag_at h.0))
