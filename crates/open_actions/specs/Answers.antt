-- What is handed to the call for the next open action, and what its answers say: document 01's number, or the action, for each case.
use Rattle.std.specs.Prelude.{ℕ, ◌≡◌, List, [], length, take, Option as Optional, Some, None, Result, Ok, Err}
use Rattle.std.proofs.Math.Option.{Option, none, some}
use Rattle.laws.specs.Lists.{padded}
use Rattle.model.specs.Answer.{Answer, refused, accepted}
use Rattle.model.specs.Strips.{Action}
use Rattle.card.specs.Represents.{refusal_number}
use Rattle.open_actions.specs.declared.OpenAction.{OpenAction}
use Rattle.open_actions.specs.declared.OpenRefusal.{OpenRefusal}
use Rattle.open_actions.specs.declared.OpenRefusal.TheVariants.{Card, StateMalformed, SchemaUnknown, ObjectsWrong, ObjectsRepeated}

-- the given action's schema, with the objects that are lent beside it
unfoldable pub given_of : Optional ℕ → List ℕ → Option Action
given_of None objects = none
given_of (Some schema) objects = some (record { schema = schema; objects = objects })

-- what the call answers: an action, or none at the end, or why there is no answer
abbrev pub NextOpen : Type 0
NextOpen = Result (Optional OpenAction) OpenRefusal

unfoldable pub action_said : OpenAction → Action
action_said a = record { schema = a.schema; objects = take a.object_count a.objects }

unfoldable pub number_said : OpenRefusal → ℕ
number_said (Card r) = refusal_number r
number_said StateMalformed = 15
number_said SchemaUnknown = 16
number_said ObjectsWrong = 17
number_said ObjectsRepeated = 18

unfoldable pub next_open_says : NextOpen → Answer (Option Action)
next_open_says (Ok (Some a)) = accepted (some (action_said a))
next_open_says (Ok None) = accepted none
next_open_says (Err e) = refused (number_said e)

-- the objects of the action that is answered; none at the end, or where the call is refused
unfoldable pub objects_in : Answer (Option Action) → List ℕ
objects_in (accepted (some a)) = a.objects
objects_in (accepted none) = []
objects_in (refused n) = []

-- The answer is that of the definitions. With an action the number of its objects is told, and the places past them are 0.
pub record Says (answer : Answer (Option Action)) (r : NextOpen) : Type 0 where
  pub answers : next_open_says r ≡ answer
  pub counted : (a : OpenAction) → r ≡ Ok (Some a) → a.object_count ≡ length (objects_in answer)
  pub rest_zero : (a : OpenAction) → r ≡ Ok (Some a) → a.objects ≡ padded 6 0 (objects_in answer)
