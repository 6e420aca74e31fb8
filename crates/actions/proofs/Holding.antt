-- A test of the atoms of a list, one after the other: whether all pass, and how many fail.
use Prim.Native.Nat.{ℕ, suc, ◌+◌, ◌≤◌, ◌<◌}
use native.Mathlib.Omega.{arith}
use mathlib.Core.Path.{◌≡◌, refl, sym, ap, ◌∙◌}
use mathlib.Core.Bool.{Bool, true, false, cond, not, ◌&&◌}
use mathlib.Core.List.{List, [], ◌∷◌}
use lib.ListN.{get_or, take, drop}
use lib.Seq.{get_or-take}
use Rattle.laws.specs.Lists.{all, count}
use Rattle.model.specs.Card.{Atom}
use Rattle.card.specs.Represents.{atom_of, atoms_of, blank_atom}
use Rattle.card.specs.declared.Atom.{Atom as Kept}
use Rattle.card.specs.declared.AtomList.{AtomList}
use Rattle.card.proofs.Entries.{next_item, no_item}

module _ (arities : List ℕ) (l : AtomList) (i : ℕ) where
  abbrev pub atom_here : Atom
  atom_here = atom_of arities (get_or l.atoms i blank_atom)

  next_atom : i < l.count → drop i (atoms_of arities l) ≡ atom_here ∷ drop (i + 1) (atoms_of arities l)
  unfolding atoms_of
  next_atom h = next_item (atom_of arities) l.count blank_atom l.atoms i h

  no_atom : l.count ≤ i → drop i (atoms_of arities l) ≡ []
  unfolding atoms_of
  no_atom h = no_item (atom_of arities) l.count blank_atom l.atoms i h

-- what was found of an atom of the part that counts is so of the list's
pub front_says : (test : Atom → Bool) (arities : List ℕ) (l : AtomList) {i : ℕ} {r : Bool} → i < l.count
    → r ≡ test (atom_of arities (get_or (take l.count l.atoms) i blank_atom)) → r ≡ test (atom_here arities l i)
front_says test arities l {i} h says =
    says ∙ ap (λ (a : Kept). test (atom_of arities a)) (get_or-take l.count l.atoms i blank_atom h)

-- The first i atoms of a list pass a test.
pub record Passed (test : Atom → Bool) (arities : List ℕ) (l : AtomList) (i : ℕ) : Type 0 where
  pub within : i ≤ l.count
  pub left : all test (drop i (atoms_of arities l)) ≡ all test (atoms_of arities l)

pub none_passed : {test : Atom → Bool} {arities : List ℕ} {l : AtomList} → Passed test arities l 0
none_passed = record { within = omega arith; left = refl }

module _ {test : Atom → Bool} {arities : List ℕ} {l : AtomList} {i : ℕ} (passed : Passed test arities l i) where
  next_tested : i < l.count → (test (atom_here arities l i) && all test (drop (i + 1) (atoms_of arities l))) ≡ all test (atoms_of arities l)
  unfolding all
  next_tested h = sym (ap (all test) (next_atom arities l i h)) ∙ passed.left

  -- an atom that fails decides
  pub atom_fails : {r : Bool} → i < l.count → r ≡ test (atom_here arities l i) → r ≡ false → false ≡ all test (atoms_of arities l)
  atom_fails h says e = ap (λ (b : Bool). b && all test (drop (i + 1) (atoms_of arities l))) (sym e ∙ says) ∙ next_tested h

  -- one that passes leaves it to the others
  pub atom_passes : {r : Bool} → i < l.count → r ≡ test (atom_here arities l i) → r ≡ true → Passed test arities l (i + 1)
  atom_passes h says e = record {
    within = omega arith;
    left = ap (λ (b : Bool). b && all test (drop (i + 1) (atoms_of arities l))) (sym e ∙ says) ∙ next_tested h;
  }

  pub all_passed : l.count ≤ i → true ≡ all test (atoms_of arities l)
  unfolding all
  all_passed h = sym (ap (all test) (no_atom arities l i h)) ∙ passed.left

-- Of the first i atoms of a list n fail a test.
pub record Failed (test : Atom → Bool) (arities : List ℕ) (l : AtomList) (i n : ℕ) : Type 0 where
  pub within : i ≤ l.count
  pub few : n ≤ i
  pub left : n + count (λ a. not (test a)) (drop i (atoms_of arities l)) ≡ count (λ a. not (test a)) (atoms_of arities l)

pub none_failed : {test : Atom → Bool} {arities : List ℕ} {l : AtomList} → Failed test arities l 0 0
none_failed = record { within = omega arith; few = omega arith; left = omega arith }

module _ {test : Atom → Bool} {arities : List ℕ} {l : AtomList} {i n : ℕ} (failed : Failed test arities l i n) where
  abbrev later : ℕ
  later = count (λ a. not (test a)) (drop (i + 1) (atoms_of arities l))

  next_counted : {r : Bool} → i < l.count → r ≡ test (atom_here arities l i)
      → count (λ a. not (test a)) (drop i (atoms_of arities l)) ≡ cond (not r) (suc later) later
  unfolding count
  next_counted h says =
      ap (count (λ a. not (test a))) (next_atom arities l i h) ∙ ap (λ (b : Bool). cond (not b) (suc later) later) (sym says)

  -- an atom counts, or it does not
  pub atom_counts : {r : Bool} → i < l.count → r ≡ test (atom_here arities l i) → r ≡ false → Failed test arities l (i + 1) (n + 1)
  atom_counts h says e =
      let few = failed.few in
      let left = failed.left in
      let more = next_counted h says ∙ ap (λ (b : Bool). cond (not b) (suc later) later) e in
      record { within = omega arith; few = omega arith; left = omega arith }

  pub atom_passed_over : {r : Bool} → i < l.count → r ≡ test (atom_here arities l i) → r ≡ true → Failed test arities l (i + 1) n
  atom_passed_over h says e =
      let few = failed.few in
      let left = failed.left in
      let same = next_counted h says ∙ ap (λ (b : Bool). cond (not b) (suc later) later) e in
      record { within = omega arith; few = omega arith; left = omega arith }

  pub all_counted : l.count ≤ i → n ≡ count (λ a. not (test a)) (atoms_of arities l)
  unfolding count
  all_counted h = let left = failed.left in let none = ap (count (λ a. not (test a))) (no_atom arities l i h) in omega arith
