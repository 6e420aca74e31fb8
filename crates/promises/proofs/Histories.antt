-- Demand 3 on the calls: what is listed for a card is true after every list of calls on it, whichever of them press, ask or commit.
--
-- `Calls card before events after` says that calls, one for each event in order, each handed the buffer and the count as the call before
-- left them, led from one standing to the other. A press does as `strips::apply` promises, asking as `previews::preview`, and committing as
-- `previews::commit`, whatever it is handed and whatever it answers.
use Prim.Native.Nat.{ℕ}
use mathlib.Core.Path.{◌≡◌, refl, sym, ap, ◌∙◌, subst}
use mathlib.Core.List.{List, [], ◌∷◌}
use Rattle.std.specs.Prelude.{Result}
use Rattle.model.specs.Answer.{accepted}
use Rattle.model.specs.Card as model
use Rattle.model.specs.Strips.{Action}
use Rattle.model.specs.Calls.{initial, press, Standing, pressed, counted, state_of}
use Rattle.model.specs.Preview.{ask, commit}
use Rattle.model.specs.Histories.{Event, pressing, asking, committing, happened, mixed}
use Rattle.model.specs.Truth.{Holds}
use Rattle.model.proofs.MixedHolds.{mixed_holds}
use Rattle.strips.specs.Answers.{applied_says, Matches}
use Rattle.strips.specs.declared.PressRefusal.{PressRefusal}
use Rattle.previews.specs.Represents.{preview_of}
use Rattle.previews.specs.Answers.{committed_says, Asks, Commits}
use Rattle.previews.specs.declared.Changes.{Changes}
use Rattle.previews.specs.declared.Foreseen.{Foreseen}
use Rattle.previews.specs.declared.CommitRefusal.{CommitRefusal}

pub data Calls (card : List ℕ) : Standing → List Event → Standing → Type 0 where
  none : {s : Standing} → Calls card s [] s
  then_press : {s after : Standing} {events : List Event} (a : Action) (buffer : List ℕ) (answer : Result ℕ PressRefusal)
      → Matches (press card s.buffer s.count a) buffer answer
      → Calls card (record { buffer = buffer; count = counted s.count (applied_says answer) }) events after
      → Calls card s (pressing a ∷ events) after
  then_ask : {s after : Standing} {events : List Event} (a : Action) (answer : Result Foreseen PressRefusal)
      → Asks (ask card s.buffer s.count a) answer
      → Calls card s events after
      → Calls card s (asking a ∷ events) after
  then_commit : {s after : Standing} {events : List Event} (changes : Changes) (buffer : List ℕ) (answer : Result ℕ CommitRefusal)
      → Commits (commit card s.buffer s.count (preview_of changes)) buffer answer
      → Calls card (record { buffer = buffer; count = counted s.count (committed_says answer) }) events after
      → Calls card s (committing (preview_of changes) ∷ events) after

-- such a list of calls is a history of the definitions
pub calls_are_mixed : (card : List ℕ) {s after : Standing} {events : List Event} → Calls card s events after → after ≡ mixed card events s
unfolding mixed happened pressed
calls_are_mixed card none = refl
calls_are_mixed card (then_press {s = s} {events = events} a buffer answer applies rest) =
    calls_are_mixed card rest
    ∙ ap (mixed card events) (λ i. record { buffer = applies.buffer i; count = counted s.count (applies.answer i) })
calls_are_mixed card (then_ask a answer asks rest) = calls_are_mixed card rest
calls_are_mixed card (then_commit {s = s} {events = events} changes buffer answer commits rest) =
    calls_are_mixed card rest
    ∙ ap (mixed card events) (λ i. record { buffer = commits.buffer i; count = counted s.count (commits.answer i) })

-- after the opening call and any list of these calls, everything that the card's listing says is true of the state in the buffer
pub calls_keep_the_listing : (card before opened : List ℕ) (t : model.Task) (n : ℕ) (r : Result ℕ PressRefusal) (events : List Event) (after : Standing)
    → model.decode card ≡ accepted t → Matches (initial card before) opened r → applied_says r ≡ accepted n
    → Calls card (record { buffer = opened; count = n }) events after → Holds t (state_of t after)
calls_keep_the_listing card before opened t n r events after decoded opens e calls =
    subst (λ (s : Standing). Holds t (state_of t s))
    (sym
    (calls_are_mixed card calls
    ∙ ap (λ (b : List ℕ). mixed card events (record { buffer = b; count = n })) opens.buffer))
    (mixed_holds card before t n decoded (sym opens.answer ∙ e) events)
