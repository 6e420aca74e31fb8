-- Increasing lists: each element stands before all later ones, in an order that is given as a test.
use Prim.Native.Nat.{ℕ, zero, suc}
use mathlib.Core.Path.{◌≡◌, refl, sym, ap, ap₂, ◌∙◌, subst}
use mathlib.Core.Bool.{Bool, true, false, cond}
use mathlib.Core.Logic.{⊎_elim}
use mathlib.Core.List.Memᴰ
use mathlib.Core.List.{List, [], ◌∷◌, ◌++◌, map, flat_map, Memᴰ}
use lib.Dec.{ltb}
use borrow.Author.Tests.{lt-ltb}
use Rattle.laws.specs.Lists.{keep, from, up_to, before}
use Rattle.laws.proofs.Tests.{never, cond_false, by_test}
use Rattle.laws.proofs.Lists.{keep_at, flat_map_at, from_at}
use Rattle.laws.proofs.Counting.{NoRepeat}
use Rattle.laws.proofs.Mapped.{keep_none, keep_all}
use Rattle.laws.proofs.Fronts.{keep_parts}
use Rattle.laws.proofs.Orders.{before_irreflexive, before_transitive}

-- A strict order, given as a test: nothing stands before itself, and the order passes on.
pub record Strict {A : Type 0} (less : A → A → Bool) : Type 0 where
  pub irreflexive : (x : A) → less x x ≡ false
  pub transitive : (x y z : A) → less x y ≡ true → less y z ≡ true → less x z ≡ true

-- lists of numbers, in the order by elements
pub before_strict : Strict before
before_strict = record { irreflexive = before_irreflexive; transitive = before_transitive }

module _ {A : Type 0} where
  -- each element stands before all later ones
  abbrev pub Increasing : (A → A → Bool) → List A → Type 0
  Increasing less [] = Unit {0}
  Increasing less (x ∷ xs) = ((y : A) → Memᴰ y xs → less x y ≡ true) × Increasing less xs

module _ {A : Type 0} (less : A → A → Bool) where
  -- two increasing lists one after the other, each element of the first before each of the second
  pub increasing_append : (xs ys : List A) → Increasing less xs → Increasing less ys
      → ((x y : A) → Memᴰ x xs → Memᴰ y ys → less x y ≡ true) → Increasing less (xs ++ ys)
  increasing_append [] ys p q across = q
  increasing_append (x ∷ xs) ys p q across = (
    λ y m. ⊎_elim (p.0 y) (across x y (Memᴰ.head refl)) (Memᴰ.append_cases xs m),
    increasing_append xs ys p.1 q (λ z y m. across z y (Memᴰ.tail m)),
  )

  -- and the other way round: the second part of an increasing list increases, and stands after the first
  pub increasing_across : (xs ys : List A) → Increasing less (xs ++ ys) → (x y : A) → Memᴰ x xs → Memᴰ y ys → less x y ≡ true
  increasing_across [] ys p x y m k = absurd (Memᴰ.not-nil m)
  increasing_across (z ∷ xs) ys p x y m k =
      ⊎_elim (λ q. subst (λ (w : A). less w y ≡ true) (sym q) (p.0 y (Memᴰ.append_right xs k)))
      (λ j. increasing_across xs ys p.1 x y j k)
      (Memᴰ.cases_cons m)

  pub increasing_back : (xs ys : List A) → Increasing less (xs ++ ys) → Increasing less ys
  increasing_back [] ys p = p
  increasing_back (x ∷ xs) ys p = increasing_back xs ys p.1

  -- what is kept of an increasing list is increasing
  pub increasing_keep : (test : A → Bool) (xs : List A) → Increasing less xs → Increasing less (keep test xs)
  unfolding keep
  increasing_keep test [] p = tt
  increasing_keep test (x ∷ xs) p = go (test x) (increasing_keep test xs p.1)
    where
      go : (b : Bool) → Increasing less (keep test xs) → Increasing less (cond b (x ∷ keep test xs) (keep test xs))
      go true later = (λ y m. p.0 y (keep_at test xs y m).0, later)
      go false later = later

  -- in an increasing list no element stands twice
  pub increasing_once : Strict less → (xs : List A) → Increasing less xs → NoRepeat xs
  increasing_once strict [] p = tt
  increasing_once strict (x ∷ xs) p = (λ m. never (sym (p.0 x m) ∙ strict.irreflexive x), increasing_once strict xs p.1)

  -- two increasing lists with the same elements are one list
  pub increasing_unique : Strict less → (xs ys : List A) → Increasing less xs → Increasing less ys
      → ((x : A) → Memᴰ x xs → Memᴰ x ys) → ((x : A) → Memᴰ x ys → Memᴰ x xs) → xs ≡ ys
  increasing_unique strict [] [] p q into back = refl
  increasing_unique strict [] (y ∷ ys) p q into back = absurd (Memᴰ.not-nil (back y (Memᴰ.head refl)))
  increasing_unique strict (x ∷ xs) [] p q into back = absurd (Memᴰ.not-nil (into x (Memᴰ.head refl)))
  increasing_unique strict (x ∷ xs) (y ∷ ys) p q into back =
      ap₂ (λ (z : A) (zs : List A). z ∷ zs) first
      (increasing_unique strict xs ys p.1 q.1
      (λ z m. later y ys (into z (Memᴰ.tail m)) (subst (λ (w : A). less w z ≡ true) first (p.0 z m)))
      (λ z m. later x xs (back z (Memᴰ.tail m)) (subst (λ (w : A). less w z ≡ true) (sym first) (q.0 z m))))
    where
      -- an element that comes after the first of a list is one of the others
      later : (w : A) (ws : List A) {z : A} → Memᴰ z (w ∷ ws) → less w z ≡ true → Memᴰ z ws
      later w ws {z} m e =
          ⊎_elim (λ is. never (sym e ∙ subst (λ (v : A). less w v ≡ false) (sym is) (strict.irreflexive w))) (λ k. k) (Memᴰ.cases_cons m)

      first : x ≡ y
      first =
          ⊎_elim (λ is. is)
          (λ k.
          ⊎_elim (λ is. sym is)
          (λ j. never (sym (strict.transitive x y x (p.0 y j) (q.0 x k)) ∙ strict.irreflexive x))
          (Memᴰ.cases_cons (back y (Memᴰ.head refl))))
          (Memᴰ.cases_cons (into x (Memᴰ.head refl)))

  -- the elements after one of an increasing list are those that follow it there
  pub keep_after : Strict less → (front : List A) (x : A) (later : List A) → Increasing less (front ++ (x ∷ later))
      → keep (less x) (front ++ (x ∷ later)) ≡ later
  unfolding keep
  keep_after strict front x later p =
      keep_parts (less x) front (x ∷ later)
      ∙ ap (λ (l : List A). l ++ keep (less x) (x ∷ later)) (keep_none (less x) front earlier)
      ∙ cond_false (less x x) _ _ (strict.irreflexive x)
      ∙ keep_all (less x) later (increasing_back front (x ∷ later) p).0
    where
      earlier : (y : A) → Memᴰ y front → less x y ≡ false
      earlier y m =
          by_test (less x y)
          (λ e. never (sym (strict.transitive x y x e (increasing_across front (x ∷ later) p y x m (Memᴰ.head refl)))
          ∙ strict.irreflexive x))
          (λ e. e)

module _ {A B : Type 0} (less : A → A → Bool) (below : B → B → Bool) where
  -- a function that keeps the order keeps a list increasing
  pub increasing_map : (f : A → B) → ((x y : A) → less x y ≡ true → below (f x) (f y) ≡ true)
      → (xs : List A) → Increasing less xs → Increasing below (map f xs)
  increasing_map f keeps [] p = tt
  increasing_map f keeps (x ∷ xs) p = (
    λ y m. let r = Memᴰ.of_map f xs m in subst (λ (z : B). below (f x) z ≡ true) r.2 (keeps x r.0 (p.0 r.0 r.1)),
    increasing_map f keeps xs p.1,
  )

  -- increasing lists made of the elements of an increasing list, one after the other
  pub increasing_flat_map : (f : A → List B)
      → ((x y : A) → less x y ≡ true → (u v : B) → Memᴰ u (f x) → Memᴰ v (f y) → below u v ≡ true)
      → (xs : List A) → ((x : A) → Memᴰ x xs → Increasing below (f x)) → Increasing less xs → Increasing below (flat_map f xs)
  unfolding flat_map
  increasing_flat_map f across [] each p = tt
  increasing_flat_map f across (x ∷ xs) each p =
      increasing_append below (f x) (flat_map f xs) (each x (Memᴰ.head refl))
      (increasing_flat_map f across xs (λ y m. each y (Memᴰ.tail m)) p.1)
      (λ u v m k. let r = flat_map_at f xs v k in across x r.0 (p.0 r.0 r.1) u v m r.2)

-- numbers in sequence are increasing
increasing_from : (start size : ℕ) → Increasing ltb (from start size)
unfolding from
increasing_from start zero = tt
increasing_from start (suc size) = (λ n m. lt-ltb start n (from_at (suc start) size n m).0, increasing_from (suc start) size)

pub increasing_up_to : (n : ℕ) → Increasing ltb (up_to n)
unfolding up_to
increasing_up_to n = increasing_from 0 n
