-- Entries of a table counted, or tested, one after the other: what is left of them at each place.
use Prim.Native.Nat.{ℕ, suc, ◌+◌, ◌≤◌, ◌<◌}
use native.Mathlib.Nat.{zero-add}
use native.Mathlib.Numerals.{add-one}
use native.Mathlib.Omega.{arith}
use mathlib.Core.Path.{◌≡◌, refl, sym, ap, ◌∙◌, subst}
use mathlib.Core.Bool.{Bool, true, false, ◌&&◌}
use mathlib.Core.List.{List, [], ◌∷◌}
use lib.Dec.{eqb}
use lib.ListN.{length, get_or, set, take, drop, replicate, length-set, get_or-replicate, drop_of_length-le}
use lib.Seq.{drop-cons, get_or-take, length-take-le, get_or-set_same, get_or-set_other}
use borrow.Author.Tests.{eqb-true, eqb-false}
use Rattle.laws.specs.Lists.{all, count}
use Rattle.laws.proofs.Tests.{by_test}
use Rattle.card.specs.declared.Atom.{Atom}
use Rattle.card.specs.Represents.{blank_atom, entries}
use Rattle.card.proofs.Entries.{next_entry, no_entry}

module _ {A : Type 0} (size : ℕ) (xs : List A) (within : size ≤ length xs) (i : ℕ) where
  -- the first entries of a table, from place i on: the one there, and those behind it
  pub entry_next : (d : A) → i < size → drop i (take size xs) ≡ get_or xs i d ∷ drop (i + 1) (take size xs)
  entry_next d h =
      drop-cons (take size xs) i d (omega (arith, length-take-le size xs within))
      ∙ rw (get_or-take size xs i d h, add-one i)

  -- and none at the end
  pub entry_none : size ≤ i → drop i (take size xs) ≡ []
  entry_none h = drop_of_length-le (take size xs) {i = i} (omega (arith, length-take-le size xs within))

-- So many of the entries before place i pass the test, and with those left they are all.
pub record Tally {A : Type 0} (test : A → Bool) (size : ℕ) (blank : A) (xs : List A) (n i : ℕ) : Type 0 where
  pub inside : i ≤ size
  pub few : n ≤ i
  pub whole : n + count test (drop i (entries size blank xs)) ≡ count test (entries size blank xs)

module _ {A : Type 0} {test : A → Bool} {size : ℕ} {blank : A} {xs : List A} where
  pub tally_start : Tally test size blank xs 0 0
  tally_start = record { inside = omega arith; few = omega arith; whole = zero-add _ }

  module _ {n i : ℕ} (t : Tally test size blank xs n i) where
    -- an entry that passes, and one that fails
    pub tally_passes : i < size → test (get_or xs i blank) ≡ true → {m : ℕ} → m ≡ n + 1 → Tally test size blank xs m (i + 1)
    unfolding count
    tally_passes h e p =
        let next : count test (drop i (entries size blank xs)) ≡ suc (count test (drop (i + 1) (entries size blank xs))) =
        ap (count test) (next_entry size blank xs i h) ∙ rw e in
        let few = t.few in
        record { inside = omega arith; few = omega arith; whole = omega (arith, next, p, t.whole) }

    pub tally_fails : i < size → test (get_or xs i blank) ≡ false → {m : ℕ} → m ≡ n → Tally test size blank xs m (i + 1)
    unfolding count
    tally_fails h e p =
        let next : count test (drop i (entries size blank xs)) ≡ count test (drop (i + 1) (entries size blank xs)) =
        ap (count test) (next_entry size blank xs i h) ∙ rw e in
        let few = t.few in
        record { inside = omega arith; few = omega arith; whole = omega (arith, next, p, t.whole) }

    -- after the last all are counted
    pub tally_end : size ≤ i → n ≡ count test (entries size blank xs)
    unfolding count
    tally_end h =
        let none : count test (drop i (entries size blank xs)) ≡ 0 = ap (count test) (no_entry size blank xs i h) in omega (arith, t.whole)

-- A table of tallies: at each predicate the number of its atoms before place i.
pub record Tallies (size : ℕ) (xs : List Atom) (counts : List ℕ) (i : ℕ) : Type 0 where
  pub long : length counts ≡ 20
  pub each : (p : ℕ) → p < 20 → Tally (λ a. eqb p a.predicate) size blank_atom xs (get_or counts p 0) i

module _ {size : ℕ} {xs : List Atom} where
  pub tallies_start : Tallies size xs (replicate 20 0) 0
  tallies_start = record {
    long = refl;
    each =
        λ p h. subst (λ (n : ℕ). Tally (λ a. eqb p a.predicate) size blank_atom xs n 0) (sym (get_or-replicate 20 p 0 0 h)) tally_start;
  }

  -- the entry of the next atom's predicate is raised
  pub tallies_next : {counts : List ℕ} {i : ℕ} → Tallies size xs counts i → i < size → {q : ℕ} → q ≡ (get_or xs i blank_atom).predicate
      → Tallies size xs (set counts q (get_or counts q 0 + 1)) (i + 1)
  tallies_next {counts} so_far h {q} q_is = record {
    long = length-set counts q (get_or counts q 0 + 1) ∙ so_far.long;
    each =
        λ p k. by_test (eqb p q)
        (λ e.
        tally_passes (so_far.each p k) h (ap (eqb p) (sym q_is) ∙ e)
        (subst (λ (n : ℕ). get_or (set counts n (get_or counts n 0 + 1)) p 0 ≡ get_or counts p 0 + 1) (eqb-true p q e)
        (get_or-set_same counts p (get_or counts p 0 + 1) 0 (omega (arith, k, so_far.long)))))
        (λ e.
        tally_fails (so_far.each p k) h (ap (eqb p) (sym q_is) ∙ e) (get_or-set_other counts q p (get_or counts q 0 + 1) 0 (eqb-false p q e)));
  }

-- A test of every entry: what those before place i say, and those from there on, is what all say.
and_swap : (t b rest : Bool) → ((t && b) && rest) ≡ (b && (t && rest))
and_swap true b rest = refl
and_swap false true rest = refl
and_swap false false rest = refl

and-true : (b : Bool) → (b && true) ≡ b
and-true true = refl
and-true false = refl

module _ {A : Type 0} (test : A → Bool) (size : ℕ) (blank : A) (xs : List A) where
  abbrev pub Decides : Bool → ℕ → Type 0
  Decides b i = (b && all test (drop i (entries size blank xs))) ≡ all test (entries size blank xs)

  pub decides_start : (b : Bool) → b ≡ true → Decides b 0
  decides_start b e = ap (λ (x : Bool). x && all test (entries size blank xs)) e

  module _ (b : Bool) (i : ℕ) (so_far : Decides b i) where
    -- the next entry
    pub decides_next : i < size → (c : Bool) → c ≡ (test (get_or xs i blank) && b) → Decides c (i + 1)
    unfolding all
    decides_next h c e =
        let rest = all test (drop (i + 1) (entries size blank xs)) in
        ap (λ (x : Bool). x && rest) e
        ∙ and_swap (test (get_or xs i blank)) b rest
        ∙ ap (λ (l : List A). b && all test l) (sym (next_entry size blank xs i h))
        ∙ so_far

    -- after the last all are told
    pub decides_end : size ≤ i → b ≡ all test (entries size blank xs)
    unfolding all
    decides_end h = sym (and-true b) ∙ ap (λ (l : List A). b && all test l) (sym (no_entry size blank xs i h)) ∙ so_far
