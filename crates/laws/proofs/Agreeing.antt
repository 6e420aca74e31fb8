-- Two lists of numbers, of one length, compared place by place.
use Prim.Native.Nat.{ℕ, ◌+◌, ◌≤◌, ◌<◌}
use native.Mathlib.Omega.{arith}
use mathlib.Core.Path.{◌≡◌, sym, ap, subst}
use mathlib.Core.Bool.{true, false}
use mathlib.Core.List.{List}
use lib.ListN.{length, get_or}
use lib.Seq.{ext_get_or}
use borrow.Author.Count.{below_none, below_more}
use Rattle.laws.specs.Lists.{same}
use Rattle.laws.proofs.Tests.{by_test}
use Rattle.laws.proofs.Lists.{same_eq, same_refl}

-- they are the same before place j
pub record Agreeing (a b : List ℕ) (j : ℕ) : Type 0 where
  pub within : j ≤ length a
  agree : (k : ℕ) → k < j → get_or a k 0 ≡ get_or b k 0

pub agreeing_none : {a b : List ℕ} → Agreeing a b 0
agreeing_none = record { within = omega arith; agree = below_none _ }

module _ {a b : List ℕ} {j : ℕ} (h : Agreeing a b j) where
  pub agreeing_next : j < length a → get_or a j 0 ≡ get_or b j 0 → Agreeing a b (j + 1)
  agreeing_next k e = record { within = omega arith; agree = below_more _ j h.agree e }

  pub agreeing_other : (get_or a j 0 ≡ get_or b j 0 → ⊥) → false ≡ same a b
  agreeing_other other = by_test (same a b) (λ e. absurd (other (ap (λ (l : List ℕ). get_or l j 0) (same_eq a b e)))) sym

  pub agreeing_all : length a ≡ length b → length a ≤ j → true ≡ same a b
  agreeing_all e k =
      sym (subst (λ (l : List ℕ). same a l ≡ true) (ext_get_or 0 a b e (λ i m. h.agree i (omega arith))) (same_refl a))
