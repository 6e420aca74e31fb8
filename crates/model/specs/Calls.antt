-- The calls of document 01 with what each answers and what it leaves in the buffer lent to it, and the history of demand 3.
use Rattle.std.specs.Prelude.{ℕ, leb, ltb, length, get_or, drop}
use mathlib.Core.List.{List, [], ◌∷◌, ◌++◌, flat_map, foldl}
use Rattle.model.specs.Answer.{Answer, refused, accepted, ◌>>=◌, ◌>>◌, need}
use Rattle.model.specs.Card.{Task, decode}
use Rattle.model.specs.Writer.{check_task, task_bytes}
use Rattle.model.specs.Strips.{Action, State, state_bytes, facts_in, well_formed, written, apply}
use Rattle.model.specs.Lines.{sections}
use Rattle.model.specs.Text.{decimal, text}

abbrev pub output_bytes : ℕ
output_bytes = 65536

-- What a call answers, and the buffer lent to it as the call leaves it.
pub record Call : Type 0 where
  pub answer : Answer ℕ
  pub buffer : List ℕ

-- a refusal returns only its number and alters no lent byte
unfoldable pub finish : List ℕ → Answer Call → Call
finish buffer (refused n) = record { answer = refused n; buffer = buffer }
finish buffer (accepted call) = call

-- bytes are written from byte 0, the length is answered, the bytes after it are left
unfoldable pub output : List ℕ → List ℕ → Call
output bytes buffer = record { answer = accepted (length bytes); buffer = bytes ++ drop (length bytes) buffer }

-- the card writer: 2 to 13, then 21
unfoldable pub encode : Task → List ℕ → Call
encode t out =
    finish out (do
      check_task t
      need (leb output_bytes (length out)) 21
      accepted (output (task_bytes t) out))

-- the state is written to its buffer, and its count is answered
unfoldable pub store : State → List ℕ → Call
store state buffer = record { answer = accepted (length state); buffer = written state buffer }

-- the opening call on a task: a short buffer by 15
unfoldable pub initial_of : Task → List ℕ → Answer Call
initial_of t buffer = do
  need (leb state_bytes (length buffer)) 15
  accepted (store t.facts buffer)

-- the opening call: 1 to 14, and a short buffer by 15
unfoldable pub initial : List ℕ → List ℕ → Call
initial card buffer =
    finish buffer (do
      t ← decode card
      initial_of t buffer)

-- what an action makes of the state in a buffer: the state first (15), then 16 to 20, or the next state
unfoldable pub next_state : Task → List ℕ → ℕ → Action → Answer State
next_state t buffer count action = do
  need (well_formed t.arities t.objects buffer count) 15
  apply t action (facts_in t.arities count buffer)

-- the press call on a task: the next state is stored
unfoldable pub press_of : Task → List ℕ → ℕ → Action → Answer Call
press_of t buffer count action = do
  next ← next_state t buffer count action
  accepted (store next buffer)

-- the press call: 1 to 20
unfoldable pub press : List ℕ → List ℕ → ℕ → Action → Call
press card buffer count action =
    finish buffer (do
      t ← decode card
      press_of t buffer count action)

-- the listing call: 1 to 14, 21, 22
unfoldable pub section : List ℕ → ℕ → List ℕ → Call
section card number out =
    finish out (do
      t ← decode card
      need (leb output_bytes (length out)) 21
      need (ltb number (length (sections t))) 22
      accepted (output (text (get_or (sections t) number [])) out))

-- what the program prints: the whole listing, or one line, `refused` and the number
unfoldable pub printed : Answer Task → List ℕ
printed (refused n) = 114 ∷ 101 ∷ 102 ∷ 117 ∷ 115 ∷ 101 ∷ 100 ∷ 32 ∷ decimal n ++ (10 ∷ [])
printed (accepted t) = flat_map text (sections t)

unfoldable pub program : List ℕ → List ℕ
program card = printed (decode card)

-- A history: the state's buffer and the count last answered.
pub record Standing : Type 0 where
  pub buffer : List ℕ
  pub count : ℕ

-- the count that a call answers; a refused one answers none, so the earlier count stays
unfoldable pub counted : ℕ → Answer ℕ → ℕ
counted earlier (refused n) = earlier
counted earlier (accepted count) = count

-- a call is handed the buffer as the call before it left it, with the count last answered
unfoldable pub pressed : List ℕ → Standing → Action → Standing
pressed card standing action =
    let call = press card standing.buffer standing.count action in
    record { buffer = call.buffer; count = counted standing.count call.answer }

-- a list of press calls, empty or of any length, each accepted or refused by any number
unfoldable pub history : List ℕ → List Action → Standing → Standing
history card actions standing = foldl (pressed card) standing actions

-- the set of facts in the buffer, up to the count
unfoldable pub state_of : Task → Standing → State
state_of t standing = facts_in t.arities standing.count standing.buffer

-- opens every definition of this module, for what is proved by computation
unfoldable pub calls_open : Unit {0}
unfolding finish output encode store initial_of initial next_state press_of press section printed program counted pressed history state_of
calls_open = tt
