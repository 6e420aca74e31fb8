use Rattle.std.proofs.Common.{◌≡◌, ℕ, ◌∙◌, max, arith}
use Rattle.std.specs.Ordering.{ord_max, nat_cmp}
use Rattle.std.proofs.lemmas.Bool.Decides.{nat_tests}
use Rattle.sections.proofs.Columns.{largest_start, largest_next, largest_end}
use Rattle.sections.proofs.limits.largest_in.Goals as goal

larger : (a b : ℕ) → ord_max nat_cmp a b ≡ max a b
larger a b = grind (arith, nat_tests)

pub loop-i-init : goal.loop-i-init
loop-i-init c = largest_start _ _ _

pub loop-i-preserved : goal.loop-i-preserved
loop-i-preserved c =
    let l = c.loop-i in
    largest_next _ _ _ l.most l.i c.loop-i-test.true (c.max-most.ensures ∙ larger _ _) l.invariant

pub returns : goal.returns
returns c = let l = c.loop-i in largest_end _ _ _ l.most l.i c.loop-i-test.false l.invariant
