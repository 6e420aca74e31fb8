-- Document 02, No. 1, on the calls: asking for the next open action, from none and then each time after the action answered before, shows
-- every open action once and in order, and then the end.
--
-- `Shows card buffer count given actions` says that calls on one state, the first of them handed the given action or none, and each later
-- one the action answered before, answered these actions in turn and then the end. Each call does as `open_actions::next_open` promises.
use Prim.Native.Nat.{ℕ, zero, suc, ◌+◌, ◌<◌}
use native.Mathlib.Omega.{arith}
use mathlib.Core.Path.{◌≡◌, sym, ap, ◌∙◌}
use mathlib.Core.Bool.{true}
use mathlib.Core.List.{List, [], ◌∷◌}
use mathlib.Core.Option.{Option, none, some}
use lib.ListN.{length}
use Rattle.model.specs.Answer.{accepted}
use Rattle.model.specs.Card as model
use Rattle.model.specs.Strips.{Action, facts_in, well_formed}
use Rattle.model.specs.Open.{open_actions, next_open, and_then, one_by_one}
use Rattle.model.proofs.OpenCalls.{answered, calls_show_all}
use Rattle.open_actions.specs.Answers.{NextOpen, next_open_says, Says}

pub data Shows (card buffer : List ℕ) (count : ℕ) : Option Action → List Action → Type 0 where
  ends : {given : Option Action} (answer : NextOpen) → Says (next_open card buffer count given) answer → next_open_says answer ≡ accepted none
      → Shows card buffer count given []
  shows : {given : Option Action} {later : List Action} (a : Action) (answer : NextOpen) → Says (next_open card buffer count given) answer
      → next_open_says answer ≡ accepted (some a) → Shows card buffer count (some a) later → Shows card buffer count given (a ∷ later)

module _ (card buffer : List ℕ) (count : ℕ) where
  -- the action that the call of the definitions answers
  abbrev ask : Option Action → Option Action
  ask given = answered (next_open card buffer count given)

  asked : (given : Option Action) {found : Option Action} {answer : NextOpen} → Says (next_open card buffer count given) answer
      → next_open_says answer ≡ accepted found → ask given ≡ found
  unfolding answered
  asked given says e = ap answered (sym says.answers ∙ e)

  -- such calls show what the definitions do, however often one asks beyond the end
  pub calls_show : {given : Option Action} {actions : List Action} → Shows card buffer count given actions → (n : ℕ) → length actions < n
      → one_by_one ask n given ≡ actions
  unfolding one_by_one and_then
  calls_show (ends {given = given} answer says e) zero h = absurd (omega arith)
  calls_show (ends {given = given} answer says e) (suc n) h =
      ap (λ (found : Option Action). and_then found (λ a. one_by_one ask n (some a))) (asked given says e)
  calls_show (shows {given = given} {later = later} a answer says e rest) zero h = absurd (omega arith)
  calls_show (shows {given = given} {later = later} a answer says e rest) (suc n) h =
      ap (λ (found : Option Action). and_then found (λ a. one_by_one ask n (some a))) (asked given says e)
      ∙ ap (λ (l : List Action). a ∷ l) (calls_show rest n (omega arith))

-- from none until the end: the whole list of open actions, and no other action
pub calls_show_open_actions : (card buffer : List ℕ) (count : ℕ) (t : model.Task) (actions : List Action) → model.decode card ≡ accepted t
    → well_formed t.arities t.objects buffer count ≡ true → Shows card buffer count none actions
    → actions ≡ open_actions t (facts_in t.arities count buffer)
calls_show_open_actions card buffer count t actions decoded well calls =
    sym (calls_show card buffer count calls often (omega arith)) ∙ calls_show_all card buffer count t decoded well often (omega arith)
  where
    often : ℕ
    often = suc (length actions + length (open_actions t (facts_in t.arities count buffer)))
