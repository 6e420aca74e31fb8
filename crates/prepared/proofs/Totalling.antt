-- What the closing section is written from: the totals, entered space by space, and the rows of preconditions.
use Prim.Native.Nat.{ℕ, ◌+◌, ◌≤◌}
use native.Mathlib.Numerals.{add-one}
use native.Mathlib.Omega.{arith}
use mathlib.Core.Path.{◌≡◌, refl, sym, ap, ◌∙◌}
use mathlib.Core.List.{List, [], ◌∷◌, ◌++◌}
use lib.ListN.{take, replicate}
use lib.Seq.{take-suc, take_all}
use Rattle.model.specs.Card.{Task}
use Rattle.model.specs.Analysis.{Analysis, analysis}
use Rattle.model.proofs.RuleCount.{properties_few}
use Rattle.properties.specs.Tables.{stride}
use Rattle.space_lines.proofs.Conditions.{bags_are}
use Rattle.closing.specs.Fixed.{fixed_table}
use Rattle.closing.specs.Typing.{PreconditionRows}
use Rattle.closing.proofs.RowsHeld.{preconditions_held}
use Rattle.totals.specs.Totals.{totals_of}
use Rattle.totals.proofs.AllTotals.{totals_next, totals_are}
use Rattle.prepared.specs.declared.Prepared.{Prepared}
use Rattle.prepared.specs.declared.Found.{Found}
use Rattle.prepared.specs.Prepared.{Given}
use Rattle.prepared.specs.Found.{analysis_at, FoundOf, found_totals}
use Rattle.prepared.proofs.Finding.{writable_found}
use Rattle.prepared.proofs.SectionsOf.{length_analysis, analysis_at_lem}

-- the totals before the first space
pub totals_none : (t : Task) → replicate stride 0 ≡ totals_of (take 0 (analysis t))
unfolding totals_of
totals_none t = refl

-- the totals of one space more
pub totals_with : {t : Task} {number : ℕ} {p : Prepared} {f : Found} {conditions : List ℕ} → FoundOf t number p f conditions
    → found_totals number p f conditions (totals_of (take number (analysis t))) ≡ totals_of (take (number + 1) (analysis t))
unfolding found_totals
totals_with {t} {number} h =
    let a = analysis_at t number in
    let before = take number (analysis t) in
    let w = writable_found h in
    rw (h.held.own_is, h.held.members_are, bags_are w.sized w.narrow h.held.conditions_held)
    (sym (totals_next before a)
    ∙ ap (λ (x : Analysis). totals_of (before ++ (x ∷ []))) (sym (analysis_at_lem t number a h.known))
    ∙ ap totals_of (sym (take-suc (analysis t) number a (omega (arith, h.known, length_analysis t))))
    ∙ ap (λ (n : ℕ). totals_of (take n (analysis t))) (sym (add-one number)))

module _ {t : Task} {r : Prepared} {p d a c : List ℕ} (given : Given t r p d a c) where
  -- the totals of all spaces are the task's
  pub totals_all : {number : ℕ} → r.spaces.count ≤ number → totals_of (take number (analysis t)) ≡ fixed_table t
  totals_all {number} h =
      ap totals_of (take_all number (analysis t) (omega (arith, h, length_analysis t, given.prepared.spaces_are.count)))
      ∙ totals_are t given.checked

  -- the table of preconditions begins with the task's
  pub preconditions_given : PreconditionRows t p
  preconditions_given =
      preconditions_held t (properties_few t given.checked) given.prepared.tables
      (omega (arith, given.room.preconditions_room, given.prepared.tables.counted))
