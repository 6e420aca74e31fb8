-- A mask made number by number: the numbers below n that pass a test, the next of them taken up, and whether there is any.
use Prim.Native.Nat.{ℕ, ◌+◌, ◌^◌}
use native.Mathlib.Nat.{one-mul}
use native.Mathlib.Omega.{arith}
use mathlib.Core.Path.{◌≡◌, refl, sym, ap, ◌∙◌}
use mathlib.Core.Bool.{Bool, true, false, cond, not, ◌||◌}
use mathlib.Core.List.{List, [], ◌∷◌, ◌++◌, map}
use borrow.Author.Tests.{eq-eqb, ne_eqb}
use lib.Bits.{bit_or, or_shifted_r}
use lib.Dec.{eqb}
use Rattle.laws.specs.Lists.{sum, keep, up_to, from, any}
use Rattle.laws.proofs.Walks.{keep_one_more, keep_no_more}
use Rattle.masks.specs.Sets.{mask_of, single_of, union_of}
use Rattle.masks.proofs.Kept.{kept_small}
use Rattle.masks.proofs.Lowest.{mask_none, mask_some}

mask_snoc : (os : List ℕ) (n : ℕ) → mask_of (os ++ (n ∷ [])) ≡ 2 ^ n + mask_of os
unfolding mask_of sum
mask_snoc [] n = refl
mask_snoc (o ∷ os) n = ap (λ (x : ℕ). 2 ^ o + x) (mask_snoc os n) ∙ swapped (2 ^ o) (2 ^ n) (sum (map (λ k. 2 ^ k) os))
  where
    swapped : (a b c : ℕ) → a + (b + c) ≡ b + (a + c)
    swapped a b c = omega arith

-- at the start there is none
pub kept_start : (test : ℕ → Bool) → 0 ≡ mask_of (keep test (up_to 0))
unfolding mask_of sum keep up_to from
kept_start test = refl

-- the next number passes and joins those below it, or fails
pub kept_joined : (test : ℕ → Bool) (n : ℕ) → test n ≡ true
    → union_of (mask_of (keep test (up_to n))) (single_of n) ≡ mask_of (keep test (up_to (n + 1)))
unfolding union_of single_of
kept_joined test n e =
    ap (bit_or (mask_of (keep test (up_to n)))) (sym (one-mul (2 ^ n)))
    ∙ or_shifted_r 1 n (mask_of (keep test (up_to n))) (kept_small test n)
    ∙ ap (λ (x : ℕ). x + mask_of (keep test (up_to n))) (one-mul (2 ^ n))
    ∙ sym (mask_snoc (keep test (up_to n)) n)
    ∙ ap mask_of (sym (keep_one_more test n e))

pub kept_skipped : (test : ℕ → Bool) (n : ℕ) → test n ≡ false → mask_of (keep test (up_to n)) ≡ mask_of (keep test (up_to (n + 1)))
kept_skipped test n e = ap mask_of (sym (keep_no_more test n e))

-- the mask is 0 if none passes
pub kept_empty : (test : ℕ → Bool) (ns : List ℕ) → eqb (mask_of (keep test ns)) 0 ≡ not (any test ns)
unfolding keep any
kept_empty test [] = eq-eqb (mask_of []) 0 mask_none
kept_empty test (n ∷ ns) = go (test n) (kept_empty test ns)
  where
    go : (b : Bool) → eqb (mask_of (keep test ns)) 0 ≡ not (any test ns)
        → eqb (mask_of (cond b (n ∷ keep test ns) (keep test ns))) 0 ≡ not (b || any test ns)
    go true h = ne_eqb (mask_of (n ∷ keep test ns)) 0 (λ e. omega (arith, mask_some n (keep test ns)))
    go false h = h
