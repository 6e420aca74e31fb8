-- The first entry that is not 0 decides.
use Rattle.std.proofs.Common.{ℕ, ◌≡◌, ◌+◌, ◌-◌, ◌<◌, get_or, take, drop, length-take, length-drop, arith, sym, List, ◌∙◌}
use lib.Seq.{get_or-take, get_or-drop}
use Rattle.closing.proofs.FirstTotals.{position_found, position_passed, positions_end}
use Rattle.closing.proofs.fixed.total_of.Goals as goal

-- the entry of a position
entry : (fixed : List ℕ) (first arity i : ℕ) → i < arity
    → get_or (take (first + arity - first) (drop first fixed)) i 0 ≡ get_or fixed (first + i) 0
entry fixed first arity i h = get_or-take (first + arity - first) (drop first fixed) i 0 (omega arith) ∙ get_or-drop first fixed i 0

pub returns-then-n-ne0 : goal.returns-then-n-ne0
returns-then-n-ne0 c =
    let a = c.args in
    let i = c.loop-n.n-index in
    let more : i < a.arity = omega (arith, length-take (a.first + a.arity - a.first) (drop a.first a.fixed.now)) in
    let here = entry a.fixed.now a.first a.arity i more in
    here ∙ position_found a.fixed.now a.first a.arity c.requires i c.loop-n.invariant more (λ none. c.if-n-ne0.true (here ∙ none))

pub loop-n-preserved : goal.loop-n-preserved
loop-n-preserved c =
    let a = c.args in
    let i = c.loop-n.n-index in
    let more : i < a.arity = omega (arith, length-take (a.first + a.arity - a.first) (drop a.first a.fixed.now)) in
    let here = entry a.fixed.now a.first a.arity i more in
    position_passed a.fixed.now a.first a.arity c.requires i c.loop-n.invariant more (sym here ∙ c.if-n-ne0.false)

pub returns : goal.returns
returns c =
    let a = c.args in
    positions_end a.fixed.now a.first a.arity c.requires c.loop-n.n-index c.loop-n.invariant
    (omega (arith, length-take (a.first + a.arity - a.first) (drop a.first a.fixed.now), length-drop a.first a.fixed.now))
