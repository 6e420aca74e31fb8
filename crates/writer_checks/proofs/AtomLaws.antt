-- Atoms compared as far as the arity of their predicates goes: no more than the three arguments that an atom is kept with.
use Rattle.std.proofs.Common.{◌≡◌, ℕ, zero, suc, ◌≤◌, ◌<◌, Bool, true, false, ◌&&◌, ◌||◌, List, [], ◌∷◌, length, take, get_or, min}
use Rattle.std.proofs.Common.{Some, refl, ap, ◌∙◌, arith}
use Rattle.std.specs.Ordering.{is_some_and, is_lt, nat_cmp}
use Rattle.std.specs.Cmp.Lexicographic.{pointwise, slice_partial_cmp}
use Rattle.std.proofs.lemmas.Bool.Decides.{nat_tests}
use Rattle.std.proofs.lemmas.Cmp.{same_from_slice_cmp_tested}
use Rattle.std.proofs.Math.Seq.{take-nil, length-take-le}
use mathlib.Core.Bool.{and-false}
use lib.Dec.{eqb, ltb}
use borrow.Author.Tests.{eq-eqb, ne_eqb, lt-ltb, le-ltb}
use Rattle.laws.specs.Lists.{all, same, before}
use Rattle.model.specs.Card.{below, same_atom}
use Rattle.model.specs.Writer.{known}
use Rattle.card.specs.Represents.{atom_of}
use Rattle.card.specs.declared.Atom.{Atom}

-- the arguments that an atom is kept with
abbrev pub three : Atom → List ℕ
three a = a.first ∷ a.second ∷ a.third ∷ []

first_three : (k : ℕ) (a : Atom) → take k (three a) ≡ take (min k 3) (three a)
first_three zero a = refl
first_three (suc zero) a = refl
first_three (suc (suc zero)) a = refl
first_three (suc (suc (suc k))) a =
    let most : min (suc (suc (suc k))) 3 ≡ 3 = omega arith in
    rw (most, take-nil k)

or-false : (a : Bool) → (a || false) ≡ a
or-false true = refl
or-false false = refl

-- lists compared by the code and by the definition
same_pointwise : (xs ys : List ℕ) → pointwise eqb xs ys ≡ same xs ys
unfolding same
same_pointwise [] [] = refl
same_pointwise [] (y ∷ ys) = refl
same_pointwise (x ∷ xs) [] = refl
same_pointwise (x ∷ xs) (y ∷ ys) = ap (λ b. eqb x y && b) (same_pointwise xs ys)

before_compared : (xs ys : List ℕ) (r : Bool) → r ≡ is_some_and is_lt (slice_partial_cmp (λ x y. Some (nat_cmp x y)) xs ys) → r ≡ before xs ys
unfolding before
before_compared =
    same_from_slice_cmp_tested nat_cmp is_lt before refl (λ y ys. refl) (λ x xs. refl) (λ x y xs ys o h. grind (arith, nat_tests))

module _ (arities : List ℕ) (a b : Atom) where
  -- atoms of different predicates
  pub same_by_predicate : (a.predicate ≡ b.predicate → ⊥) → eqb a.predicate b.predicate ≡ same_atom (atom_of arities a) (atom_of arities b)
  unfolding same_atom atom_of
  same_by_predicate d = rw (ne_eqb _ _ d)

  pub below_by_predicate : (a.predicate ≡ b.predicate → ⊥) → ltb a.predicate b.predicate ≡ below (atom_of arities a) (atom_of arities b)
  unfolding below atom_of
  below_by_predicate d = rw (ne_eqb _ _ d, or-false)

  -- atoms of one predicate, by the arguments that count
  module _ (n : ℕ) (arity : n ≡ min (get_or arities a.predicate 0) 3) (one : a.predicate ≡ b.predicate) (r : Bool) where
    pub same_by_arguments : r ≡ pointwise eqb (take n (three a)) (take n (three b)) → r ≡ same_atom (atom_of arities a) (atom_of arities b)
    unfolding same_atom atom_of
    same_by_arguments h =
        rw (eq-eqb _ _ one, ← one, first_three (get_or arities a.predicate 0) a, first_three (get_or arities a.predicate 0) b, ← arity)
        (h ∙ same_pointwise _ _)

    pub below_by_arguments : r ≡ is_some_and is_lt (slice_partial_cmp (λ x y. Some (nat_cmp x y)) (take n (three a)) (take n (three b)))
        → r ≡ below (atom_of arities a) (atom_of arities b)
    unfolding below atom_of
    below_by_arguments h =
        rw (
          eq-eqb _ _ one,
          le-ltb a.predicate b.predicate (omega arith),
          ← one,
          first_three (get_or arities a.predicate 0) a,
          first_three (get_or arities a.predicate 0) b,
          ← arity,
        )
        (before_compared _ _ r h)

module _ (arities : List ℕ) (bound : ℕ) (a : Atom) where
  -- no such predicate, or one of a higher arity
  pub unknown_predicate : length arities ≤ a.predicate → false ≡ known arities bound (atom_of arities a)
  unfolding known atom_of
  unknown_predicate h = rw (le-ltb a.predicate (length arities) h)

  pub unknown_arity : 3 < get_or arities a.predicate 0 → false ≡ known arities bound (atom_of arities a)
  unfolding known atom_of
  unknown_arity h =
      let n = get_or arities a.predicate 0 in
      let most : min n 3 ≡ 3 = omega arith in
      rw (first_three n a, most, ne_eqb 3 n (λ e. omega arith), and-false)

  -- a predicate of arity n, up to 3
  pub known_arguments : (n : ℕ) → n ≡ get_or arities a.predicate 0 → n ≤ 3 → a.predicate < length arities
      → all (λ x. ltb x bound) (take n (three a)) ≡ known arities bound (atom_of arities a)
  unfolding known atom_of
  known_arguments n e h there =
      let counted : length (take n (three a)) ≡ n = length-take-le n (three a) h in
      rw (lt-ltb a.predicate (length arities) there, ← e, counted, eq-eqb n n refl)
