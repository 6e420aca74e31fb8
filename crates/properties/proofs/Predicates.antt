-- What the arrays of arities and first properties say of a known predicate, and what a list of the code's atoms says of each atom.
use Prim.Native.Nat.{ℕ, suc, ◌+◌, ◌-◌, ◌≤◌, ◌<◌}
use native.Mathlib.Omega.{arith}
use mathlib.Core.Path.{◌≡◌, sym, ap, ◌∙◌}
use mathlib.Core.Bool.{true, ◌&&◌}
use mathlib.Core.List.{List, map}
use lib.Dec.{ltb, eqb}
use lib.ListN.{length, get_or, take, replicate, length-map, get_or-append, get_or-map}
use borrow.Author.Tests.{ltb-true}
use Rattle.laws.specs.Lists.{all, sum, up_to, padded}
use Rattle.laws.proofs.Tests.{and_left}
use Rattle.laws.proofs.Lists.{all_at, mem_get_d, length_up_to, get_d_up_to}
use Rattle.laws.proofs.Fronts.{sum_take_next, sum_take_all}
use Rattle.model.specs.Card.{between}
use Rattle.model.specs.Writer.{known}
use Rattle.model.proofs.Checked.{between_low, between_high}
use Rattle.model.specs.Transitions.{properties_from}
use Rattle.model.proofs.RuleCount.{sum_all, length_properties}
use Rattle.card.specs.declared.Atom.{Atom}
use Rattle.card.specs.declared.ArityList.{ArityList}
use Rattle.card.specs.Represents.{blank_atom, entries, arities_of, atom_of}
use Rattle.card.proofs.Entries.{get_d_entries, item_in, length_arities}
use Rattle.properties.specs.Represented.{AritiesRight, first_properties}

-- What the arrays hold for predicate p: its arity, and where its properties begin.
pub record Placed (predicates : ArityList) (firsts : List ℕ) (p : ℕ) : Type 0 where
  pub below : p < 20
  pub arity_is : get_or predicates.arities p 0 ≡ get_or (arities_of predicates) p 0
  pub arity_low : 1 ≤ get_or predicates.arities p 0
  pub arity_high : get_or predicates.arities p 0 ≤ 3
  pub first_is : get_or firsts p 0 ≡ sum (take p (arities_of predicates))
  pub room : get_or firsts p 0 + get_or predicates.arities p 0 ≤ 60

-- at most 60 properties
pub sum_arities : (predicates : ArityList) → AritiesRight predicates → sum (arities_of predicates) ≤ 60
sum_arities predicates right =
    omega (arith, sum_all 3 (arities_of predicates) right.each_in_range, length_arities predicates, right.few)

pub few_properties : (predicates : ArityList) → AritiesRight predicates → length (properties_from 0 (arities_of predicates)) ≤ 60
few_properties predicates right = omega (arith, sum_arities predicates right, length_properties 0 (arities_of predicates))

module _ (predicates : ArityList) (firsts : List ℕ) (right : AritiesRight predicates)
    (numbered : firsts ≡ padded 20 0 (first_properties (arities_of predicates))) where
  pub placed : (p : ℕ) → p < length (arities_of predicates) → Placed predicates firsts p
  placed p there =
      let arities = arities_of predicates in
      let few = right.few in
      let is : get_or predicates.arities p 0 ≡ get_or arities p 0 =
      unfold arities_of in sym (get_d_entries predicates.count 0 predicates.arities p inside) in
      let range = all_at (between 1 3) arities right.each_in_range (get_or arities p 0) (mem_get_d arities p 0 there) in
      let low = between_low 1 3 (get_or arities p 0) range in
      let high = between_high 1 3 (get_or arities p 0) range in
      record {
        below = omega (arith, inside);
        arity_is = is;
        arity_low = omega arith;
        arity_high = omega arith;
        first_is = first;
        room =
            omega (arith, first, is, sum_arities predicates right, sum_take_next arities p there, sum_take_all (suc p) arities);
      }
    where
      inside : p < predicates.count
      inside = omega (arith, there, length_arities predicates)

      first : get_or firsts p 0 ≡ sum (take p (arities_of predicates))
      first =
          unfold padded first_properties sum in
          let arities = arities_of predicates in
          let starts : List ℕ = map (λ q. sum (take q arities)) (up_to (length arities)) in
          let many : length starts ≡ length arities = length-map (up_to (length arities)) (λ q. sum (take q arities)) ∙ length_up_to (length arities) in
          ap (λ (l : List ℕ). get_or l p 0) numbered
          ∙ get_or-append starts (replicate (20 - length starts) 0) 0 p (omega (arith, many, there))
          ∙ get_or-map (λ q. sum (take q arities)) (up_to (length arities)) p 0
          ∙ ap (λ (q : ℕ). sum (take q arities)) (get_d_up_to (length arities) p 0 there)

  -- the predicate of a known atom is known, and its properties have their places
  pub known_placed : (bound : ℕ) (a : Atom) → known (arities_of predicates) bound (atom_of (arities_of predicates) a) ≡ true
      → (a.predicate < length (arities_of predicates)) × Placed predicates firsts a.predicate
  unfolding known atom_of
  known_placed bound a there =
      let arities = arities_of predicates in
      let arguments = (atom_of arities a).arguments in
      let p : a.predicate < length arities =
      ltb-true a.predicate (length arities)
      (and_left (ltb a.predicate (length arities)) (eqb (length arguments) (get_or arities a.predicate 0))
      (and_left (ltb a.predicate (length arities) && eqb (length arguments) (get_or arities a.predicate 0))
      (all (λ x. ltb x bound) arguments) there)) in
      (p, placed a.predicate p)

-- an atom of a list is known, if all are
pub atom_known : (arities : List ℕ) (atoms : List Atom) (n bound : ℕ) → all (known arities bound) (map (atom_of arities) (entries n blank_atom atoms)) ≡ true
    → (i : ℕ) → i < n → known arities bound (atom_of arities (get_or atoms i blank_atom)) ≡ true
atom_known arities atoms n bound all_are_known i h =
    all_at (known arities bound) (map (atom_of arities) (entries n blank_atom atoms)) all_are_known (atom_of arities (get_or atoms i blank_atom))
    (item_in (atom_of arities) n blank_atom atoms i h)

-- an arity that was read is 1, 2 or 3
pub arity_asked : {predicates : ArityList} {firsts : List ℕ} {p q arity : ℕ} → Placed predicates firsts p → q ≡ p
    → arity ≡ get_or predicates.arities q 0 → (1 ≤ arity) × (arity ≤ 3)
arity_asked {predicates} r e f =
    let same = f ∙ ap (λ (k : ℕ). get_or predicates.arities k 0) e in
    (omega (arith, same, r.arity_low), omega (arith, same, r.arity_high))
