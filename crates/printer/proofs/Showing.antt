-- The line that refuses a card, with one digit or two.
use Prim.Native.Nat.{ℕ, ◌+◌, ◌/◌, ◌%◌, ◌≤◌, ◌<◌}
use native.Mathlib.Omega.{arith}
use mathlib.Core.Path.{◌≡◌, sym, ap, ◌∙◌}
use mathlib.Core.List.{List, [], ◌∷◌, ◌++◌}
use Rattle.model.specs.Answer.{refused}
use Rattle.model.specs.Calls.{printed}
use Rattle.card.specs.Represents.{refusal_number}
use Rattle.card.specs.declared.Refusal.{Refusal}
use Rattle.card.specs.declared.Refusal.TheVariants.{CardEnds, PredicateRange, ObjectRange, SchemaRange, HeaderRange, ListRange, AtomUnknown}
use Rattle.card.specs.declared.Refusal.TheVariants.{AtomOrder, DeleteNotPrecondition, AddIsPrecondition, FactRange, FactUnknown, FactOrder}
use Rattle.card.specs.declared.Refusal.TheVariants.{BytesFollow}
use Rattle.text.proofs.Decimal.{decimal_digit, decimal_more}

-- the reader's refusals are numbered 1 to 14
pub few_refusals : (r : Refusal) → refusal_number r ≤ 14
unfolding refusal_number
few_refusals CardEnds = omega arith
few_refusals PredicateRange = omega arith
few_refusals ObjectRange = omega arith
few_refusals SchemaRange = omega arith
few_refusals HeaderRange = omega arith
few_refusals ListRange = omega arith
few_refusals AtomUnknown = omega arith
few_refusals AtomOrder = omega arith
few_refusals DeleteNotPrecondition = omega arith
few_refusals AddIsPrecondition = omega arith
few_refusals FactRange = omega arith
few_refusals FactUnknown = omega arith
few_refusals FactOrder = omega arith
few_refusals BytesFollow = omega arith

-- `refused`, a blank, what stands for the number, and the line's end
abbrev line : List ℕ → List ℕ
line digits = 114 ∷ 101 ∷ 102 ∷ 117 ∷ 115 ∷ 101 ∷ 100 ∷ 32 ∷ digits

pub one_digit : (n : ℕ) → n < 10 → line ((48 + n) ∷ 10 ∷ []) ≡ printed (refused n)
unfolding printed
one_digit n h = ap (λ (digits : List ℕ). line (digits ++ (10 ∷ []))) (sym (decimal_digit n h))

pub two_digits : (n : ℕ) → 10 ≤ n → n < 100 → line ((48 + n / 10) ∷ (48 + n % 10) ∷ 10 ∷ []) ≡ printed (refused n)
unfolding printed
two_digits n h k =
    ap (λ (digits : List ℕ). line (digits ++ (10 ∷ [])))
    (sym (decimal_more n h ∙ ap (λ (digits : List ℕ). digits ++ ((48 + n % 10) ∷ [])) (decimal_digit (n / 10) (omega arith))))
