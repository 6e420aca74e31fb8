-- F lines predicate by predicate: where the positions of the next predicate stand in the table, and the line that they give.
use Prim.Native.Nat.{ℕ, suc, ◌+◌, ◌≤◌, ◌<◌}
use native.Mathlib.Numerals.{add-one}
use native.Mathlib.Omega.{arith}
use mathlib.Core.Path.{◌≡◌, sym, ap, ◌∙◌}
use mathlib.Core.List.{List, [], ◌∷◌}
use lib.ListN.{get_or, take, drop}
use Rattle.laws.specs.Lists.{sum}
use Rattle.laws.proofs.Fronts.{sum_take_next, sum_take_all}
use Rattle.model.specs.Lines.{total}
use Rattle.card.specs.declared.ArityList.{ArityList}
use Rattle.card.specs.Represents.{arities_of}
use Rattle.card.proofs.Entries.{get_d_entries, length_arities}
use Rattle.properties.specs.Represented.{AritiesRight}
use Rattle.properties.proofs.Predicates.{sum_arities}
use Rattle.closing.specs.Fixed.{first_some, total_line, total_found}
use Rattle.closing.proofs.FirstTotals.{line_of, line_of_none}

module _ (predicates : ArityList) (right : AritiesRight predicates) (p first : ℕ) (h : p < predicates.count)
    (begins : first ≡ sum (take p (arities_of predicates))) where
  arity_is : get_or (arities_of predicates) p 0 ≡ get_or predicates.arities p 0
  unfolding arities_of
  arity_is = get_d_entries predicates.count 0 predicates.arities p h

  one_further : sum (take (suc p) (arities_of predicates)) ≡ sum (take p (arities_of predicates)) + get_or (arities_of predicates) p 0
  one_further = sum_take_next (arities_of predicates) p (omega (arith, h, length_arities predicates))

  -- where those of the one after it stand
  pub begins_next : first + get_or predicates.arities p 0 ≡ sum (take (p + 1) (arities_of predicates))
  begins_next = sym (ap (λ (n : ℕ). sum (take n (arities_of predicates))) (add-one p) ∙ omega (arith, one_further, arity_is, begins))

  -- all of them are within the 60 properties
  pub positions_inside : first + get_or predicates.arities p 0 ≤ 60
  positions_inside =
      omega (arith, begins, one_further, arity_is, sum_arities predicates right, sum_take_all (suc p) (arities_of predicates))

  module _ (fixed : List ℕ) {entry : ℕ} (found : entry ≡ first_some (take (get_or predicates.arities p 0) (drop first fixed))) where
    line_found : total_line p entry ≡ total_found (arities_of predicates) fixed p
    unfolding total_found
    line_found =
        ap (total_line p) found
        ∙ ap (λ (a : ℕ). total_line p (first_some (take a (drop first fixed)))) (sym arity_is)
        ∙ ap (λ (s : ℕ). total_line p (first_some (take (get_or (arities_of predicates) p 0) (drop s fixed)))) begins

    -- an entry that is not 0 is the total and one
    pub total_next : (entry ≡ 0 → ⊥) → {m : ℕ} → m + 1 ≡ entry → total_found (arities_of predicates) fixed p ≡ total p m ∷ []
    total_next some e = sym line_found ∙ line_of p entry some e

    pub total_none : entry ≡ 0 → total_found (arities_of predicates) fixed p ≡ []
    total_none none = sym line_found ∙ line_of_none p entry none
