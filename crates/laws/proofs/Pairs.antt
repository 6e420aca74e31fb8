-- Pairs of elements of a list that pass a test, counted. Two relations of which no two elements are in both, either way round, have
-- together no more pairs than there are pairs of two elements.
use Prim.Native.Nat.{ℕ, suc, ◌+◌, ◌*◌, ◌≤◌}
use native.Mathlib.Nat.{mul-suc}
use native.Mathlib.Omega.{arith}
use mathlib.Core.Path.{◌≡◌, refl, sym, ◌∙◌}
use mathlib.Core.Bool.{Bool, true, false, cond}
use mathlib.Core.Logic.{⊎_elim}
use mathlib.Core.List.Memᴰ
use mathlib.Core.List.{List, [], ◌∷◌, Memᴰ}
use lib.ListN.{length}
use Rattle.laws.specs.Lists.{count}
use Rattle.laws.proofs.Tests.{never}

module _ {A : Type 0} where
  -- an element with a later one
  unfoldable pub later_pairs : (A → A → Bool) → List A → ℕ
  later_pairs test [] = 0
  later_pairs test (x ∷ xs) = count (test x) xs + later_pairs test xs

  -- an element of one list with one of another
  unfoldable pub pairs_with : (A → A → Bool) → List A → List A → ℕ
  pairs_with test [] ys = 0
  pairs_with test (x ∷ xs) ys = count (test x) ys + pairs_with test xs ys

  -- with one element more in the second list
  pairs_more : (test : A → A → Bool) (xs : List A) (y : A) (ys : List A)
      → pairs_with test xs (y ∷ ys) ≡ count (λ x. test x y) xs + pairs_with test xs ys
  unfolding pairs_with count
  pairs_more test [] y ys = refl
  pairs_more test (x ∷ xs) y ys = go (test x y) (pairs_more test xs y ys)
    where
      go : (b : Bool) → pairs_with test xs (y ∷ ys) ≡ count (λ z. test z y) xs + pairs_with test xs ys
          → cond b (suc (count (test x) ys)) (count (test x) ys) + pairs_with test xs (y ∷ ys)
          ≡ cond b (suc (count (λ z. test z y) xs)) (count (λ z. test z y) xs) + (count (test x) ys + pairs_with test xs ys)
      go true rest = omega arith
      go false rest = omega arith

  -- Of an element and a later one at most one of three holds: they are in the first relation, or in the second, or in the second the
  -- other way round. No element is in the second relation to itself.
  pub record Once (first second : A → A → Bool) (xs : List A) : Type 0 where
    pub alone : (x y : A) → Memᴰ x xs → Memᴰ y xs → first x y ≡ true → (second x y ≡ false) × (second y x ≡ false)
    pub one_way : (x y : A) → Memᴰ x xs → Memᴰ y xs → second x y ≡ true → second y x ≡ false
    pub not_itself : (x : A) → Memᴰ x xs → second x x ≡ false

  module _ (first second : A → A → Bool) where
    -- it is so of fewer elements
    once_among : (xs ys : List A) → ((x : A) → Memᴰ x xs → Memᴰ x ys) → Once first second ys → Once first second xs
    once_among xs ys among o =
        record {
          alone = λ x y m k. o.alone x y (among x m) (among y k);
          one_way = λ x y m k. o.one_way x y (among x m) (among y k);
          not_itself = λ x m. o.not_itself x (among x m);
        }

    -- so each later element gives at most one pair
    one_each : (x : A) (xs : List A) → Once first second (x ∷ xs)
        → count (first x) xs + count (second x) xs + count (λ y. second y x) xs ≤ length xs
    unfolding count
    one_each x [] o = omega arith
    one_each x (y ∷ ys) o =
        go (first x y) (second x y) (second y x) refl refl refl
        (one_each x ys
        (once_among (x ∷ ys) (x ∷ y ∷ ys)
        (λ u m. ⊎_elim Memᴰ.head (λ k. Memᴰ.tail (Memᴰ.tail k)) (Memᴰ.cases_cons m))
        o))
      where
        here : Memᴰ x (x ∷ y ∷ ys)
        here = Memᴰ.head refl

        there : Memᴰ y (x ∷ y ∷ ys)
        there = Memᴰ.tail (Memᴰ.head refl)

        go : (p q r : Bool) → first x y ≡ p → second x y ≡ q → second y x ≡ r
            → count (first x) ys + count (second x) ys + count (λ z. second z x) ys ≤ length ys
            → cond p (suc (count (first x) ys)) (count (first x) ys)
            + cond q (suc (count (second x) ys)) (count (second x) ys)
            + cond r (suc (count (λ z. second z x) ys)) (count (λ z. second z x) ys)
            ≤ suc (length ys)
        go true true r e f g rest = never (sym f ∙ (o.alone x y here there e).0)
        go true false true e f g rest = never (sym g ∙ (o.alone x y here there e).1)
        go true false false e f g rest = omega arith
        go false true true e f g rest = never (sym g ∙ o.one_way x y here there f)
        go false true false e f g rest = omega arith
        go false false true e f g rest = omega arith
        go false false false e f g rest = omega arith

    -- and of n elements there are at most n (n - 1) / 2 pairs
    pub pairs_once : (xs : List A) → Once first second xs
        → 2 * (later_pairs first xs + pairs_with second xs xs) + length xs ≤ length xs * length xs
    unfolding later_pairs pairs_with count
    pairs_once [] o = omega arith
    pairs_once (x ∷ xs) o =
        omega (
          arith,
          itself (second x x) (o.not_itself x (Memᴰ.head refl)),
          pairs_more second xs x xs,
          one_each x xs o,
          pairs_once xs (once_among xs (x ∷ xs) (λ y m. Memᴰ.tail m) o),
          mul-suc (suc (length xs)) (length xs),
          mul-suc (length xs) (length xs),
        )
      where
        itself : (b : Bool) → b ≡ false → cond b (suc (count (second x) xs)) (count (second x) xs) ≡ count (second x) xs
        itself true e = never e
        itself false e = refl
