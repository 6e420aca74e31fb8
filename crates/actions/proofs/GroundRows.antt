-- The rows of facts and of ground atoms, and lists of them filled one after the other.
use Prim.Native.Nat.{ℕ, zero, suc, ◌+◌, ◌≤◌, ◌<◌}
use native.Mathlib.Nat.{not-suc-le-zero}
use native.Mathlib.Omega.{arith}
use native.Mathlib.Numerals.{add-one}
use mathlib.Core.Path.{◌≡◌, refl, sym, ap, ◌∙◌}
use mathlib.Core.Bool.{true}
use mathlib.Core.List.{List, [], ◌∷◌, ◌++◌, map, map-append, map-map}
use lib.Dec.{ltb}
use lib.ListN.{length, get_or, take, drop, set, length-map}
use lib.Seq.{take-suc, length-take-le}
use borrow.Author.Tests.{ltb-true}
use Rattle.laws.specs.Lists.{all, padded}
use Rattle.laws.proofs.Padded.{map_written}
use Rattle.laws.proofs.Tests.{and_left, and_right}
use Rattle.laws.proofs.Lists.{all_at}
use Rattle.laws.proofs.Mapped.{take_map}
use Rattle.model.specs.Card.{Atom, in_range}
use Rattle.model.specs.Writer.{known}
use Rattle.model.specs.Strips.{fact_bytes, ground}
use Rattle.model.proofs.Order.{known_predicate, known_arguments}
use Rattle.model.proofs.Checked.{arity_within}
use Rattle.card.specs.Represents.{atom_of, atoms_of, facts_of, blank_atom}
use Rattle.card.proofs.Entries.{item_in, atoms_within, facts_within}
use Rattle.card.specs.declared.Atom.{Atom as Kept}
use Rattle.card.specs.declared.AtomList.{AtomList}
use Rattle.card.specs.declared.FactList.{FactList}
use Rattle.state.specs.Rows.{row_number, fact_number}
use Rattle.state.proofs.Writing.{store_next}
use Rattle.actions.specs.Grounds.{place_byte, facts_kept, Bound, FactsRight}

-- the row of an atom with one to three arguments
row_of :
    (arity p x y z : ℕ) → 1 ≤ arity → arity ≤ 3
    → (p ∷ place_byte arity 1 x ∷ place_byte arity 2 y ∷ place_byte arity 3 z ∷ [])
    ≡ fact_bytes (record { predicate = p; arguments = take arity (x ∷ y ∷ z ∷ []) })
unfolding place_byte fact_bytes
row_of zero p x y z low high = absurd (not-suc-le-zero low)
row_of (suc zero) p x y z low high = refl
row_of (suc (suc zero)) p x y z low high = refl
row_of (suc (suc (suc zero))) p x y z low high = refl
row_of (suc (suc (suc (suc n)))) p x y z low high = absurd (omega arith)

-- the number of a row by its bytes
row_by :
    (p x y z x₁ y₁ z₁ : ℕ) → x ≡ x₁ → y ≡ y₁ → z ≡ z₁ → row_number (p ∷ x ∷ y ∷ z ∷ []) ≡ row_number (p ∷ x₁ ∷ y₁ ∷ z₁ ∷ [])
row_by p x y z x₁ y₁ z₁ e f g = λ k. row_number (p ∷ e k ∷ f k ∷ g k ∷ [])

-- the number of a fact's row
pub fact_row :
    (arities : List ℕ) (f : Kept) → in_range arities ≡ true → f.predicate < length arities → (x y z : ℕ)
    → x ≡ place_byte (get_or arities f.predicate 0) 1 f.first → y ≡ place_byte (get_or arities f.predicate 0) 2 f.second
    → z ≡ place_byte (get_or arities f.predicate 0) 3 f.third
    → row_number (f.predicate ∷ x ∷ y ∷ z ∷ []) ≡ fact_number (atom_of arities f)
unfolding fact_number atom_of
fact_row arities f right h x y z first second third =
    let within = arity_within arities f.predicate right h in
    row_by f.predicate x y z _ _ _ first second third
    ∙ ap row_number (row_of (get_or arities f.predicate 0) f.predicate f.first f.second f.third
    within.0 within.1)

-- the number of the row of a ground atom
pub ground_row :
    (arities objects : List ℕ) (a : Kept) → in_range arities ≡ true → a.predicate < length arities → (x y z : ℕ)
    → x ≡ place_byte (get_or arities a.predicate 0) 1 (get_or objects a.first 0)
    → y ≡ place_byte (get_or arities a.predicate 0) 2 (get_or objects a.second 0)
    → z ≡ place_byte (get_or arities a.predicate 0) 3 (get_or objects a.third 0)
    → row_number (a.predicate ∷ x ∷ y ∷ z ∷ []) ≡ fact_number (ground objects (atom_of arities a))
unfolding fact_number ground atom_of
ground_row arities objects a right h x y z first second third =
    let arity : ℕ = get_or arities a.predicate 0 in
    let within = arity_within arities a.predicate right h in
    row_by a.predicate x y z _ _ _ first second third
    ∙ ap row_number
    (row_of arity a.predicate (get_or objects a.first 0) (get_or objects a.second 0) (get_or objects a.third 0)
    within.0 within.1
    ∙ ap (λ (l : List ℕ). fact_bytes (record { predicate = a.predicate; arguments = l }))
    (take_map arity (λ k. get_or objects k 0) (a.first ∷ a.second ∷ a.third ∷ [])))

-- the arguments that count are below the bound
pub arguments_below :
    (arity bound x y z : ℕ) → arity ≤ 3 → all (λ v. ltb v bound) (take arity (x ∷ y ∷ z ∷ [])) ≡ true
    → (1 ≤ arity → x < bound) × (2 ≤ arity → y < bound) × (3 ≤ arity → z < bound)
unfolding all
arguments_below zero bound x y z high e = (λ h. absurd (omega arith), λ h. absurd (omega arith), λ h. absurd (omega arith))
arguments_below (suc zero) bound x y z high e =
    (λ h. ltb-true x bound (and_left (ltb x bound) true e), λ h. absurd (omega arith), λ h. absurd (omega arith))
arguments_below (suc (suc zero)) bound x y z high e = (
  λ h. ltb-true x bound (and_left (ltb x bound) _ e),
  λ h. ltb-true y bound (and_left (ltb y bound) true (and_right (ltb x bound) _ e)),
  λ h. absurd (omega arith),
)
arguments_below (suc (suc (suc zero))) bound x y z high e = (
  λ h. ltb-true x bound (and_left (ltb x bound) _ e),
  λ h. ltb-true y bound (and_left (ltb y bound) _ (and_right (ltb x bound) _ e)),
  λ h. ltb-true z bound (and_left (ltb z bound) true (and_right (ltb y bound) _ (and_right (ltb x bound) _ e))),
)
arguments_below (suc (suc (suc (suc n)))) bound x y z high e = absurd (omega arith)

-- a known atom: its predicate, and its arguments that count
pub atom_predicate : (arities : List ℕ) (bound : ℕ) (a : Kept) → known arities bound (atom_of arities a) ≡ true → a.predicate < length arities
unfolding atom_of
atom_predicate arities bound a k = ltb-true a.predicate (length arities) (known_predicate arities bound (atom_of arities a) k)

pub atom_arguments :
    (arities : List ℕ) (bound : ℕ) (a : Kept) → in_range arities ≡ true → known arities bound (atom_of arities a) ≡ true
    → (1 ≤ get_or arities a.predicate 0 → a.first < bound) × (2 ≤ get_or arities a.predicate 0 → a.second < bound)
    × (3 ≤ get_or arities a.predicate 0 → a.third < bound)
unfolding atom_of
atom_arguments arities bound a right k =
    arguments_below (get_or arities a.predicate 0) bound a.first a.second a.third
    (arity_within arities a.predicate right (atom_predicate arities bound a k)).1
    (known_arguments arities bound (atom_of arities a) k)

module _ {A : Type 0} where
  -- one more element
  pub map_next : (f : A → ℕ) (xs : List A) (i : ℕ) (d : A) → i < length xs → map f (take (i + 1) xs) ≡ map f (take i xs) ++ (f (get_or xs i d) ∷ [])
  map_next f xs i d h =
      ap (λ (k : ℕ). map f (take k xs)) (add-one i) ∙ ap (map f) (take-suc xs i d h) ∙ map-append f (take i xs) (get_or xs i d ∷ [])

-- the number of the fact that an atom becomes
abbrev pub number_of : List ℕ → List ℕ → Kept → ℕ
number_of arities objects a = fact_number (ground objects (atom_of arities a))

-- Ground facts of the first i atoms.
module _ (arities objects : List ℕ) (l : AtomList) (bound : Bound arities objects l) where
  -- an atom of the list is known
  pub atom_known : (i : ℕ) → i < l.count → known arities (length objects) (atom_of arities (get_or l.atoms i blank_atom)) ≡ true
  unfolding atoms_of
  atom_known i h =
      all_at (known arities (length objects)) (atoms_of arities l) bound.atoms_known (atom_of arities (get_or l.atoms i blank_atom))
      (item_in (atom_of arities) l.count blank_atom l.atoms i h)

  pub grounded_step :
      (i v : ℕ) (numbers : List ℕ) → i < l.count → numbers ≡ padded 8 0 (map (number_of arities objects) (take i l.atoms))
      → v ≡ number_of arities objects (get_or l.atoms i blank_atom) → set numbers i v ≡ padded 8 0 (map (number_of arities objects) (take (i + 1) l.atoms))
  grounded_step i v numbers h e p =
      let few = bound.few in
      let size = bound.size in
      ap (set numbers i) p ∙ map_written 8 (number_of arities objects) l.atoms blank_atom numbers i (omega arith) (omega arith) e

  pub grounded_end :
      (i : ℕ) (numbers : List ℕ) → i ≡ l.count → numbers ≡ padded 8 0 (map (number_of arities objects) (take i l.atoms))
      → record { count = l.count; numbers = numbers } ≡ facts_kept (map (ground objects) (atoms_of arities l))
  unfolding facts_kept
  grounded_end i numbers all e =
      let atoms : List Kept = take l.count l.atoms in
      let few = bound.few in
      let size = bound.size in
      let n : l.count ≡ length (map (ground objects) (map (atom_of arities) atoms)) =
      (sym (length-take-le l.count l.atoms (omega arith)) ∙ sym (length-map atoms (atom_of arities))
      ∙ sym (length-map (map (atom_of arities) atoms) (ground objects))) in
      let same : numbers ≡ padded 8 0 (map fact_number (map (ground objects) (map (atom_of arities) atoms))) =
      (e ∙ ap (λ (k : ℕ). padded 8 0 (map (number_of arities objects) (take k l.atoms))) all
      ∙ ap (padded 8 0)
      (sym (map-map fact_number (λ a. ground objects (atom_of arities a)) atoms)
      ∙ ap (map fact_number) (sym (map-map (ground objects) (atom_of arities) atoms)))) in
      let whole : record { count = l.count; numbers = numbers } ≡ facts_kept (map (ground objects) (map (atom_of arities) atoms)) =
      λ k. record { count = n k; numbers = same k } in
      whole ∙ ap (λ (xs : List Atom). facts_kept (map (ground objects) xs)) (sym (atoms_within arities l (omega arith)))

-- the number of a fact
abbrev pub fact_number_of : List ℕ → Kept → ℕ
fact_number_of arities f = fact_number (atom_of arities f)

-- Facts of a task, the first i of them.
module _ (arities : List ℕ) (l : FactList) (was : List ℕ) (kept : FactsRight arities l was) where
  pub fact_predicate : (i : ℕ) → i < l.count → (get_or l.facts i blank_atom).predicate < length arities
  unfolding facts_of atom_of
  fact_predicate i h =
      ltb-true _ _
      (all_at (λ f. ltb f.predicate (length arities)) (facts_of arities l) kept.predicates_known (atom_of arities (get_or l.facts i blank_atom))
      (item_in (atom_of arities) l.count blank_atom l.facts i h))

  pub facts_step :
      (i v : ℕ) (numbers : List ℕ) → i < l.count → numbers ≡ map (fact_number_of arities) (take i l.facts) ++ drop i was
      → v ≡ fact_number_of arities (get_or l.facts i blank_atom) → set numbers i v ≡ map (fact_number_of arities) (take (i + 1) l.facts) ++ drop (i + 1) was
  facts_step i v numbers h e p =
      let few = kept.few in
      let size = kept.size in
      let room = kept.room in
      ap (λ (ns : List ℕ). set ns i v) e
      ∙ store_next (map (fact_number_of arities) (take i l.facts)) was i v
      (length-map (take i l.facts) (fact_number_of arities) ∙ length-take-le i l.facts (omega arith)) (omega arith)
      ∙ ap (λ (ns : List ℕ). ns ++ drop (i + 1) was)
      (ap (λ (n : ℕ). map (fact_number_of arities) (take i l.facts) ++ (n ∷ [])) p ∙ sym (map_next (fact_number_of arities) l.facts i blank_atom (omega arith)))

  pub facts_end :
      (i : ℕ) (numbers : List ℕ) → i ≡ l.count → numbers ≡ map (fact_number_of arities) (take i l.facts) ++ drop i was
      → numbers ≡ map fact_number (facts_of arities l) ++ drop l.count was
  facts_end i numbers all e =
      e ∙ ap (λ (k : ℕ). map (fact_number_of arities) (take k l.facts) ++ drop k was) all
      ∙ ap (λ (ns : List ℕ). ns ++ drop l.count was) (sym (map-map fact_number (atom_of arities) (take l.count l.facts)))
      ∙ ap (λ (fs : List Atom). map fact_number fs ++ drop l.count was) (sym (facts_within arities l (omega (arith, kept.few, kept.size))))
