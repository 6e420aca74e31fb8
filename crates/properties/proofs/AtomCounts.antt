-- A row of a bag over some atoms, with the code's next atom counted.
use Prim.Native.Nat.{ℕ, suc, ◌≤◌, ◌<◌}
use native.Mathlib.Omega.{arith}
use mathlib.Core.Path.{◌≡◌, ap, ◌∙◌}
use mathlib.Core.List.{List, [], ◌∷◌, ◌++◌, map}
use lib.ListN.{length, get_or, take}
use lib.Seq.{take-suc, length-take-le}
use Rattle.model.specs.Card as model
use Rattle.model.specs.Transitions.{properties_from, bag_of}
use Rattle.model.proofs.RuleCount.{bag_at_most}
use Rattle.card.specs.declared.Atom.{Atom}
use Rattle.card.specs.declared.ArityList.{ArityList}
use Rattle.card.specs.Represents.{blank_atom, entries, arities_of, atom_of}
use Rattle.card.proofs.Entries.{length_table, item_at}
use Rattle.properties.specs.Represented.{AritiesRight}
use Rattle.properties.specs.Tables.{row}
use Rattle.properties.specs.Tallies.{tallied}
use Rattle.properties.proofs.Rows.{get_d_row}
use Rattle.properties.proofs.Tally.{tallied_atom}
use Rattle.properties.proofs.Predicates.{Placed, sum_arities}

-- an atom's arguments are as many as its predicate's arity
pub length_arguments : (arities : List ℕ) (a : Atom) → get_or arities a.predicate 0 ≤ 3
    → length (atom_of arities a).arguments ≡ get_or arities a.predicate 0
unfolding atom_of
length_arguments arities a h = length-take-le (get_or arities a.predicate 0) (a.first ∷ a.second ∷ a.third ∷ []) h

-- the front part of the model's atoms grows by the code's next atom
pub atoms_next : (arities : List ℕ) (atoms : List Atom) (n i : ℕ) → i < n
    → let list = map (atom_of arities) (entries n blank_atom atoms) in
    take (suc i) list ≡ take i list ++ (atom_of arities (get_or atoms i blank_atom) ∷ [])
atoms_next arities atoms n i h =
    let list = map (atom_of arities) (entries n blank_atom atoms) in
    take-suc list i (atom_of arities blank_atom) (omega (arith, h, length_table (atom_of arities) n blank_atom atoms))
    ∙ ap (λ (a : model.Atom). take i list ++ (a ∷ [])) (item_at (atom_of arities) n blank_atom atoms i h)

module _ (predicates : ArityList) (firsts : List ℕ) (right : AritiesRight predicates) where
  -- the code's next atom counted: first property and arity are read from the arrays
  pub counted_next : (atoms : List model.Atom) (a : Atom) (x : ℕ) → a.predicate < length (arities_of predicates) → Placed predicates firsts a.predicate
      → tallied x (get_or firsts a.predicate 0) (take (get_or predicates.arities a.predicate 0) (a.first ∷ a.second ∷ a.third ∷ []))
      (row (bag_of (properties_from 0 (arities_of predicates)) atoms x))
      ≡ row (bag_of (properties_from 0 (arities_of predicates)) (atoms ++ (atom_of (arities_of predicates) a ∷ [])) x)
  unfolding atom_of
  counted_next atoms a x known p =
      let arities = arities_of predicates in
      let arity = p.arity_is in
      let high = p.arity_high in
      ap (λ (n : ℕ). tallied x (get_or firsts a.predicate 0) (take n (a.first ∷ a.second ∷ a.third ∷ [])) old) p.arity_is
      ∙ ap (λ (n : ℕ). tallied x n (atom_of arities a).arguments old) p.first_is
      ∙ tallied_atom arities (sum_arities predicates right) (atom_of arities a) known
      (length_arguments arities a (omega arith)) x atoms
    where
      old : List ℕ
      old = row (bag_of (properties_from 0 (arities_of predicates)) atoms x)

-- no count is above the number of atoms
pub row_small : (arities : List ℕ) (atoms : List model.Atom) (x i : ℕ) → get_or (row (bag_of (properties_from 0 arities) atoms x)) i 0 ≤ length atoms
row_small arities atoms x i =
    omega (arith, get_d_row (bag_of (properties_from 0 arities) atoms x) i, bag_at_most (properties_from 0 arities) atoms x i)
