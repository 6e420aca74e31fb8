-- Document 02, No. 4: histories that mix presses, asking and committing.
--
-- mixed_holds: for every run of bytes C that decode accepts, every buffer that the opening call accepts, and every list of calls on C that
-- press, ask or commit (any schema number and objects, any preview, each accepted or refused by any number), `Holds` of specs/Truth.antt is
-- so of the state in the buffer up to the count last answered by a press or a commit.
use Prim.Native.Nat.{ℕ}
use mathlib.Core.Path.{◌≡◌, refl, sym, subst}
use mathlib.Core.Logic.{inl}
use mathlib.Core.List.{List, [], ◌∷◌, map}
use Rattle.model.specs.Answer.{accepted}
use Rattle.model.specs.Card.{Task, decode}
use Rattle.model.specs.Strips.{Action}
use Rattle.model.specs.Calls.{Call, Standing, initial, pressed, counted, history, state_of}
use Rattle.model.specs.Preview.{commit}
use Rattle.model.specs.Histories.{Event, pressing, asking, committing, happened, mixed}
use Rattle.model.specs.Truth.{Holds}
use Rattle.model.proofs.History.{Step, press_step, Events}
use Rattle.model.proofs.PreviewCalls.{CommitCase, as_refused, as_pressed, as_outdated, commit_cases}
use Rattle.model.proofs.ListingHolds.{holds_after}

-- what stands after a call
after : Standing → Call → Standing
after standing call = record { buffer = call.buffer; count = counted standing.count call.answer }

-- each call of a mixed history changes nothing, or does what an accepted press does
pub event_steps : (card : List ℕ) (t : Task) → decode card ≡ accepted t → (standing : Standing) (e : Event)
    → Step t standing (happened card standing e)
unfolding happened pressed counted after
event_steps card t decoded standing (pressing a) = press_step card t decoded standing a
event_steps card t decoded standing (asking a) = inl refl
event_steps card t decoded standing (committing p) = go (commit_cases card standing.buffer standing.count p)
  where
    by_call : {call : Call} → commit card standing.buffer standing.count p ≡ call → Step t standing (after standing call)
        → Step t standing (after standing (commit card standing.buffer standing.count p))
    by_call is step = subst (λ (c : Call). Step t standing (after standing c)) (sym is) step

    go : CommitCase card standing.buffer standing.count p
        → Step t standing (after standing (commit card standing.buffer standing.count p))
    go (as_refused refusal is) = by_call is (press_step card t decoded standing p.action)
    go (as_pressed current is) = by_call is (press_step card t decoded standing p.action)
    go (as_outdated outdated is) = by_call is (inl refl)

-- they are the events of one kind of history
abbrev pub mixed_events : (card : List ℕ) (t : Task) → decode card ≡ accepted t → Events t Standing Event
mixed_events card t decoded = record { standing = λ standing. standing; happens = happened card; each_steps = event_steps card t decoded }

pub mixed_holds : (card buffer : List ℕ) (t : Task) (n : ℕ) → decode card ≡ accepted t → (initial card buffer).answer ≡ accepted n
    → (events : List Event)
    → Holds t (state_of t (mixed card events (record { buffer = (initial card buffer).buffer; count = n })))
unfolding mixed
mixed_holds card buffer t n decoded opened events =
    holds_after card buffer t n decoded opened (mixed_events card t decoded) _ refl events

-- a history of presses is one of them
pub presses_are_mixed : (card : List ℕ) (actions : List Action) (standing : Standing)
    → history card actions standing ≡ mixed card (map pressing actions) standing
unfolding history mixed happened
presses_are_mixed card [] standing = refl
presses_are_mixed card (a ∷ actions) standing = presses_are_mixed card actions (pressed card standing a)
