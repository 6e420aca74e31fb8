-- Closure: a step that only adds to a set is at its end after as many steps as there are elements.
use Prim.Native.Nat.{ℕ, zero, suc, ◌+◌, ◌≤◌, min, zero-le}
use native.Mathlib.Nat.{min-eq_left}
use native.Mathlib.Omega.{arith}
use mathlib.Core.Path.{◌≡◌, refl, ◌∙◌}
use mathlib.Core.Bool.{Bool, true}
use mathlib.Core.Logic.{◌⊎◌, inl, inr, ⊎_elim}
use mathlib.Core.List.{List, Memᴰ}
use lib.Dec.{ltb, leb}
use lib.ListN.{length}
use borrow.Author.Tests.{ltb-true, ltb-false, leb-true, leb-false}
use Rattle.laws.specs.Lists.{count}
use Rattle.laws.proofs.Tests.{by_test}
use Rattle.laws.proofs.Counting.{count_most, count_settles}

-- A step that adds to a set, given as a test.
module _ {A : Type 0} (step : (A → Bool) → A → Bool) where
  -- so many steps
  unfoldable pub repeat : ℕ → (A → Bool) → A → Bool
  repeat zero f = f
  repeat (suc n) f = repeat n (step f)

  -- an element that no step adds stays as it was
  pub repeat_leaves : (x : A) → ((f : A → Bool) → step f x ≡ f x) → (n : ℕ) (f : A → Bool) → repeat n f x ≡ f x
  unfolding repeat
  repeat_leaves x leaves zero f = refl
  repeat_leaves x leaves (suc n) f = repeat_leaves x leaves n (step f) ∙ leaves f

  -- what was there stays
  pub repeat_adds : ((f : A → Bool) (x : A) → f x ≡ true → step f x ≡ true) → (n : ℕ) (f : A → Bool) (x : A)
      → f x ≡ true → repeat n f x ≡ true
  unfolding repeat
  repeat_adds adds zero f x e = e
  repeat_adds adds (suc n) f x e = repeat_adds adds n (step f) x (adds f x e)

-- a further step adds no element of the list
abbrev pub Stable : {A : Type 0} → List A → ((A → Bool) → A → Bool) → (A → Bool) → Type 0
Stable {A} xs step f = (x : A) → Memᴰ x xs → step f x ≡ f x

-- A step on the subsets of a list that only adds, and whose result depends on the list's elements alone.
module _ {A : Type 0} (xs : List A) (step : (A → Bool) → A → Bool)
    (adds : (f : A → Bool) (x : A) → f x ≡ true → step f x ≡ true)
    (own : (f g : A → Bool) → ((x : A) → Memᴰ x xs → f x ≡ g x) → (x : A) → Memᴰ x xs → step f x ≡ step g x) where
  -- a step that adds no more than was there is the last
  full_stable : (f : A → Bool) → count (step f) xs ≤ count f xs → Stable xs step f
  full_stable f = count_settles f (step f) xs (λ x m. adds f x)

  -- a step adds an element, or nothing changes any more
  step_grows : (k : ℕ) (f : A → Bool) → (k ≤ count f xs) ⊎ Stable xs step f → (suc k ≤ count (step f) xs) ⊎ Stable xs step (step f)
  step_grows k f (inr stable) = inr (own (step f) f stable)
  step_grows k f (inl most) =
      by_test (ltb (count f xs) (count (step f) xs))
      (λ e. let more = ltb-true (count f xs) (count (step f) xs) e in inl (omega arith))
      (λ e. inr (own (step f) f (full_stable f (ltb-false (count f xs) (count (step f) xs) e))))

  repeat_grows : (n k : ℕ) (f : A → Bool) → (k ≤ count f xs) ⊎ Stable xs step f
      → (k + n ≤ count (repeat step n f) xs) ⊎ Stable xs step (repeat step n f)
  unfolding repeat
  repeat_grows zero k f (inl most) = inl (omega arith)
  repeat_grows zero k f (inr stable) = inr stable
  repeat_grows (suc n) k f h =
      ⊎_elim (λ (most : suc k + n ≤ count (repeat step n (step f)) xs). inl (omega arith)) (λ stable. inr stable)
      (repeat_grows n (suc k) (step f) (step_grows k f h))

  -- as many steps as the list has elements are enough
  pub repeat_closes : (f : A → Bool) → Stable xs step (repeat step (length xs) f)
  repeat_closes f =
      let last = repeat step (length xs) f in
      ⊎_elim
      (λ (most : 0 + length xs ≤ count last xs). let fits = count_most (step last) xs in full_stable last (omega arith))
      (λ stable. stable)
      (repeat_grows (length xs) 0 f (inl zero-le))

-- the lower of two numbers is one of them
pub min_cases : (g h : ℕ) → (min g h ≡ g) ⊎ (min g h ≡ h)
min_cases g h =
    by_test (leb g h) (λ e. inl (min-eq_left (leb-true g h e))) (λ e. let more = leb-false g h e in inr (omega arith))
