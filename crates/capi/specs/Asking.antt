-- The next open action in C: what is given as a number, and what is answered as a number and seven bytes.
use Rattle.std.specs.Prelude.{ℕ, zero, suc, ◌≤◌, ◌<◌, ◌≡◌, List, ◌∷◌, ℤ, pos, negsuc, length, Option as Optional, Some, None, Ok, Err}
use Rattle.std.proofs.Math.Option.{Option, none, some}
use Rattle.laws.specs.Lists.{padded}
use Rattle.model.specs.Answer.{Answer, refused, accepted}
use Rattle.model.specs.Strips.{Action}
use Rattle.open_actions.specs.Answers.{NextOpen, number_said}
use Rattle.open_actions.specs.declared.OpenAction.{OpenAction}

-- 0 for none, any other number for an action of the schema
unfoldable pub given_as : ℤ → ℕ → Optional ℕ
given_as (pos zero) schema = None
given_as (pos (suc n)) schema = Some schema
given_as (negsuc n) schema = Some schema

-- the number of the objects of the action that is answered, and 0 at the end
unfoldable pub object_count : Answer (Option Action) → Answer ℕ
object_count (accepted (some a)) = accepted (length a.objects)
object_count (accepted none) = accepted 0
object_count (refused n) = refused n

-- the seven bytes: an action that is answered, with 0 past its objects; otherwise they are as they were
unfoldable pub shown_in : Answer (Option Action) → List ℕ → List ℕ
shown_in (accepted (some a)) bytes = a.schema ∷ padded 6 0 a.objects
shown_in (accepted none) bytes = bytes
shown_in (refused n) bytes = bytes

-- the same of the answer as the code has it
unfoldable pub count_said : NextOpen → Answer ℕ
count_said (Ok (Some a)) = accepted a.object_count
count_said (Ok None) = accepted 0
count_said (Err e) = refused (number_said e)

unfoldable pub bytes_said : NextOpen → List ℕ → List ℕ
bytes_said (Ok (Some a)) bytes = a.schema ∷ a.objects
bytes_said (Ok None) bytes = bytes
bytes_said (Err e) bytes = bytes

-- The numbers of an action that is found fit a byte.
pub record SmallAction (r : NextOpen) : Type 0 where
  pub small : (a : OpenAction) → r ≡ Ok (Some a) → (a.schema < 256) × (a.object_count ≤ 6)
