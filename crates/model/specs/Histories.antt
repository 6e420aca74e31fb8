-- Document 02, No. 4: histories that mix presses, asking and committing. What happens is of one type, so that a history is a list of it.
use mathlib.Core.List.{List, foldl}
use Rattle.std.specs.Prelude.{ℕ}
use Rattle.model.specs.Strips.{Action}
use Rattle.model.specs.Calls.{Standing, counted, pressed}
use Rattle.model.specs.Preview.{Preview, commit}

-- A call of a history, whatever it is handed.
pub data Event : Type 0 where
  pressing : Action → Event
  asking : Action → Event
  committing : Preview → Event

-- what stands after a call: asking alters nothing, and the count that it answers is that of no state yet
unfoldable pub happened : List ℕ → Standing → Event → Standing
happened card standing (pressing action) = pressed card standing action
happened card standing (asking action) = standing
happened card standing (committing p) =
    let call = commit card standing.buffer standing.count p in
    record { buffer = call.buffer; count = counted standing.count call.answer }

-- a list of calls, empty or of any length, each accepted or refused by any number
unfoldable pub mixed : List ℕ → List Event → Standing → Standing
mixed card events standing = foldl (happened card) standing events

-- opens every definition of this module, for what is proved by computation
unfoldable pub histories_open : Unit {0}
unfolding happened mixed
histories_open = tt
