-- 2 ^ n less 1; 64 numbers fill the mask.
use Rattle.std.proofs.Common.{ℕ, ◌-◌, ◌≤◌, ◌^◌, ap, sym, subst, arith}
use lib.Pow.{pow_pos}
use Rattle.masks.specs.Sets.{all_below}
use Rattle.masks.proofs.Operations.{one_shifted}
use Rattle.masks.proofs.all_below.Goals as goal

pub returns-then-n-eq64 : goal.returns-then-n-eq64
unfolding all_below
returns-then-n-eq64 c = ap (λ (n : ℕ). 2 ^ n - 1) (sym c.if-n-eq64.true)

pub overflow_sub-result : goal.overflow_sub-result
overflow_sub-result c =
    subst (λ (k : ℕ). 1 ≤ k) (sym (one_shifted (omega (arith, c.if-n-eq64.false)))) (pow_pos c.args.n)

pub returns : goal.returns
unfolding all_below
returns c = ap (λ (n : ℕ). n - 1) (one_shifted (omega (arith, c.if-n-eq64.false)))
