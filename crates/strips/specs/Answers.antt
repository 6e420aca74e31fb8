-- What the answers of the opening call and of applying an action say, document 01's number or value for each case, and what may be applied.
use Rattle.std.specs.Prelude.{ℕ, ◌≤◌, ◌≡◌, true, List, length, Result, Ok, Err, IfOk}
use Rattle.model.specs.Answer.{Answer, refused, accepted, ◌>>=◌}
use Rattle.model.specs.Strips.{facts_in, applicable}
use Rattle.model.specs.Calls.{Call}
use Rattle.card.specs.Represents.{refusal_number, arities_for, schema_for, schema_of}
use Rattle.strips.specs.Admission.{Admissible}
use Rattle.strips.specs.Steps.{lent, ActionReady}
use Rattle.strips.specs.declared.Admitted.{Admitted}
use Rattle.strips.specs.declared.PressRefusal.{PressRefusal}
use Rattle.strips.specs.declared.PressRefusal.TheVariants.{Card, StateMalformed, SchemaUnknown, ObjectsWrong, ObjectsRepeated}
use Rattle.strips.specs.declared.PressRefusal.TheVariants.{PreconditionMissing, StateFull}

-- the number of a refusal
unfoldable pub press_number : PressRefusal → ℕ
press_number (Card r) = refusal_number r
press_number StateMalformed = 15
press_number SchemaUnknown = 16
press_number ObjectsWrong = 17
press_number ObjectsRepeated = 18
press_number PreconditionMissing = 19
press_number StateFull = 20

-- the value, or the refusal by its number
unfoldable pub applied_says : {A : Type 0} → Result A PressRefusal → Answer A
applied_says (Ok a) = accepted a
applied_says (Err e) = refused (press_number e)

-- A function's answer, and the buffer lent to it as the function leaves it, are those of a call of the definitions.
pub record Matches (call : Call) (after : List ℕ) (r : Result ℕ PressRefusal) : Type 0 where
  pub answer : applied_says r ≡ call.answer
  pub buffer : after ≡ call.buffer

-- what may be applied, as the definitions have it, and as the code keeps it
abbrev pub admissible_of : Admitted → Admissible
admissible_of a = record { arities = lent a.predicates; schema = schema_of (lent a.predicates) a.schema }

unfoldable pub admitted_for : Admissible → Admitted
admitted_for s = record { predicates = arities_for s.arities; schema = schema_for s.schema }

-- An action that may be applied to the state in a buffer, with the arities that are lent on and its schema; what is past their lists is 0.
pub record Granted (buffer : List ℕ) (count : ℕ) (objects : List ℕ) (a : Admitted) : Type 0 where
  pub inside : a.predicates.count ≤ length a.predicates.arities
  pub ready : ActionReady (lent a.predicates) objects a.schema buffer count
  pub allowed : applicable (schema_of (lent a.predicates) a.schema) objects (facts_in (lent a.predicates) count buffer) ≡ true
  pub whole : a ≡ admitted_for (admissible_of a)

-- The function answers as the definitions do.
pub record Admits (answer : Answer Admissible) (buffer : List ℕ) (count : ℕ) (objects : List ℕ) (r : Result Admitted PressRefusal) : Type 0 where
  pub answers : (applied_says r >>= (λ a. accepted (admissible_of a))) ≡ answer
  pub granted : IfOk r (Granted buffer count objects)
