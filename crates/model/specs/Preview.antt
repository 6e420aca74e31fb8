-- Document 02, No. 4: what an action would do (document 02: asking), and doing it if that is still so (document 02: committing).
use Rattle.std.specs.Prelude.{ℕ, Bool, true, false, not, ◌&&◌, List, [], ◌∷◌, map, length}
use Rattle.laws.specs.Lists.{keep, same}
use Rattle.model.specs.Answer.{Answer, refused, accepted, ◌>>=◌, ◌>>◌, need}
use Rattle.model.specs.Card.{Atom, Schema, Task, has, decode}
use Rattle.model.specs.Strips.{State, Action, fact_bytes, facts_in, taken_out, successor, schema_at}
use Rattle.model.specs.Calls.{Call, finish, store, next_state}

-- the facts that an action takes out of a state, and those that it newly puts in, both in the state's order
unfoldable pub going : Schema → List ℕ → State → List Atom
going schema objects state = keep (has (taken_out schema objects)) state

unfoldable pub coming : Schema → List ℕ → State → List Atom
coming schema objects state = keep (λ f. not (has state f)) (successor schema objects state)

-- What asking gives and committing takes: the action, and the two lists in the state's form, four bytes a fact. Handed in, it may hold anything.
pub record Preview : Type 0 where
  pub action : Action
  pub gone : List (List ℕ)
  pub come : List (List ℕ)

unfoldable pub preview : Schema → Action → State → Preview
preview schema action state =
    record {
      action = action;
      gone = map fact_bytes (going schema action.objects state);
      come = map fact_bytes (coming schema action.objects state);
    }

-- What asking answers: the count that a press would answer, and the preview.
pub record Asked : Type 0 where
  pub count : ℕ
  pub foreseen : Preview

-- asking, on a task: 15 to 20 as at a press
unfoldable pub ask_of : Task → List ℕ → ℕ → Action → Answer Asked
ask_of t buffer count action = do
  next ← next_state t buffer count action
  accepted (record {
    count = length next;
    foreseen = preview (schema_at t action.schema) action (facts_in t.arities count buffer);
  })

-- asking: 1 to 20. It only reads what is lent to it
unfoldable pub ask : List ℕ → List ℕ → ℕ → Action → Answer Asked
ask card buffer count action = do
  t ← decode card
  ask_of t buffer count action

-- two lists of facts are the same in content, order and number
unfoldable pub same_rows : List (List ℕ) → List (List ℕ) → Bool
same_rows [] [] = true
same_rows [] (y ∷ ys) = false
same_rows (x ∷ xs) [] = false
same_rows (x ∷ xs) (y ∷ ys) = same x y && same_rows xs ys

-- the same facts go, and the same come
unfoldable pub agree : Preview → Preview → Bool
agree p q = same_rows p.gone q.gone && same_rows p.come q.come

-- committing, on a task: 15 to 20 of the action that is carried, then 23
unfoldable pub commit_of : Task → List ℕ → ℕ → Preview → Answer Call
commit_of t buffer count p = do
  next ← next_state t buffer count p.action
  need (agree p (preview (schema_at t p.action.schema) p.action (facts_in t.arities count buffer))) 23
  accepted (store next buffer)

-- committing: 1 to 20, then 23
unfoldable pub commit : List ℕ → List ℕ → ℕ → Preview → Call
commit card buffer count p =
    finish buffer (do
      t ← decode card
      commit_of t buffer count p)

-- what was answered is committed; a refused asking leaves nothing to commit
unfoldable pub committed : List ℕ → List ℕ → ℕ → Answer Asked → Call
committed card buffer count (refused n) = record { answer = refused n; buffer = buffer }
committed card buffer count (accepted asked) = commit card buffer count asked.foreseen

-- asking and committing straight after one another
unfoldable pub ask_then_commit : List ℕ → List ℕ → ℕ → Action → Call
ask_then_commit card buffer count action = committed card buffer count (ask card buffer count action)

-- opens every definition of this module, for what is proved by computation
unfoldable pub preview_opens : Unit {0}
unfolding going coming preview ask_of ask same_rows agree commit_of commit committed ask_then_commit
preview_opens = tt
