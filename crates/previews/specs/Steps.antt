-- What asking and committing come to once 1 to 19 have passed, and what each function relies on.
use Rattle.std.specs.Prelude.{ℕ, ◌≤◌, ◌≡◌, Bool, true, cond, List, ltb, length}
use Rattle.model.specs.Answer.{Answer, accepted, ◌>>=◌, ◌>>◌, need}
use Rattle.model.specs.Card as model
use Rattle.model.specs.Strips.{State, Action, facts_in, applicable, successor, limited}
use Rattle.model.specs.Calls.{Call, finish, store}
use Rattle.model.specs.Preview.{Preview, Asked, preview, agree}
use Rattle.card.specs.Represents.{schema_of}
use Rattle.card.specs.declared.Schema.{Schema}
use Rattle.actions.specs.declared.Facts.{Facts}
use Rattle.strips.specs.Steps.{ActionReady}

-- asking: 20, then the count and the preview
unfoldable pub ask_admitted : model.Schema → Action → State → Answer Asked
ask_admitted schema action state = do
  next ← limited (successor schema action.objects state)
  accepted (record { count = length next; foreseen = preview schema action state })

-- 23, then the next state is stored
unfoldable pub store_agreed : List ℕ → Bool → Answer State → Call
store_agreed buffer agreed answer =
    finish buffer (do
      need agreed 23
      next ← answer
      accepted (store next buffer))

-- committing: 20, then 23, and the next state is stored
unfoldable pub commit_admitted : List ℕ → model.Schema → List ℕ → State → Preview → Call
commit_admitted buffer schema objects state p =
    finish buffer (do
      next ← limited (successor schema objects state)
      need (agree p (preview schema (record { schema = p.action.schema; objects = objects }) state)) 23
      accepted (store next buffer))

-- how many objects are lent on: none where there are more than six
unfoldable pub lent_count : ℕ → ℕ
lent_count count = cond (ltb 6 count) 0 count

-- An action that may be applied: it is ready, and every precondition is in the state.
pub record Allowed (arities objects : List ℕ) (schema : Schema) (buffer : List ℕ) (count : ℕ) : Type 0 where
  pub ready : ActionReady arities objects schema buffer count
  pub holds : applicable (schema_of arities schema) objects (facts_in arities count buffer) ≡ true

-- Facts as the code keeps them: at most eight, in an array of eight.
pub record FactsHeld (facts : Facts) : Type 0 where
  pub few : facts.count ≤ 8
  pub size : length facts.numbers ≡ 8
