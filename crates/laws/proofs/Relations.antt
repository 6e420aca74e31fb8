-- Relations along lists: between each element and every later one, and between the elements of two lists place by place.
use Prim.Native.Nat.{ℕ, zero, suc, ◌<◌}
use native.Mathlib.Nat.{le_of_suc-le-suc, not-suc-le-zero}
use mathlib.Core.Path.{◌≡◌, refl, sym, ap, subst}
use mathlib.Core.Logic.{⊎_elim}
use mathlib.Core.List.Memᴰ
use mathlib.Core.List.{List, [], ◌∷◌, ◌++◌, Memᴰ}
use lib.ListN.{length, get_or}

module _ {A : Type 0} where
  -- each element is related to every later one
  abbrev pub Pairwise : (A → A → Type 0) → List A → Type 0
  Pairwise R [] = Unit {0}
  Pairwise R (x ∷ xs) = ((y : A) → Memᴰ y xs → R x y) × Pairwise R xs

  -- two such lists in sequence
  pub pairwise_append : (R : A → A → Type 0) (xs ys : List A) → Pairwise R xs → Pairwise R ys
      → ((x y : A) → Memᴰ x xs → Memᴰ y ys → R x y) → Pairwise R (xs ++ ys)
  pairwise_append R [] ys p q h = q
  pairwise_append R (x ∷ xs) ys p q h = (
    λ y k. ⊎_elim (p.0 y) (h x y (Memᴰ.head refl)) (Memᴰ.append_cases xs k),
    pairwise_append R xs ys p.1 q (λ z y k. h z y (Memᴰ.tail k)),
  )

module _ {A B : Type 0} where
  -- two lists of one length whose elements are related place by place
  abbrev pub Each : (A → B → Type 0) → List A → List B → Type 0
  Each R [] [] = Unit {0}
  Each R [] (y ∷ ys) = ⊥
  Each R (x ∷ xs) [] = ⊥
  Each R (x ∷ xs) (y ∷ ys) = R x y × Each R xs ys

  -- they are as long, related at each place, and each of the first list has one of the second
  pub each_length : (R : A → B → Type 0) (xs : List A) (ys : List B) → Each R xs ys → length ys ≡ length xs
  each_length R [] [] e = refl
  each_length R [] (y ∷ ys) e = absurd e
  each_length R (x ∷ xs) [] e = absurd e
  each_length R (x ∷ xs) (y ∷ ys) e = ap suc (each_length R xs ys e.1)

  pub each_at : (R : A → B → Type 0) (xs : List A) (ys : List B) → Each R xs ys
      → (i : ℕ) (d : A) (c : B) → i < length xs → R (get_or xs i d) (get_or ys i c)
  each_at R [] [] e i d c h = absurd (not-suc-le-zero h)
  each_at R [] (y ∷ ys) e i d c h = absurd e
  each_at R (x ∷ xs) [] e i d c h = absurd e
  each_at R (x ∷ xs) (y ∷ ys) e zero d c h = e.0
  each_at R (x ∷ xs) (y ∷ ys) e (suc i) d c h = each_at R xs ys e.1 i d c (le_of_suc-le-suc h)

  pub each_has : (R : A → B → Type 0) (xs : List A) (ys : List B) → Each R xs ys → (x : A) → Memᴰ x xs
      → (y : B) × Memᴰ y ys × R x y
  each_has R [] [] e x k = absurd (Memᴰ.not-nil k)
  each_has R [] (y ∷ ys) e x k = absurd e
  each_has R (z ∷ xs) [] e x k = absurd e
  each_has R (z ∷ xs) (y ∷ ys) e x k =
      ⊎_elim (λ p. (y, Memᴰ.head refl, subst (λ (w : A). R w y) (sym p) e.0))
      (λ j. let r = each_has R xs ys e.1 x j in (r.0, Memᴰ.tail r.1, r.2))
      (Memᴰ.cases_cons k)
