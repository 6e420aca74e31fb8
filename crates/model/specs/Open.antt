-- The actions that a state leaves open (document 02, No. 1: open presses), in order, and the call that hands them over one at a time.
use Rattle.std.specs.Prelude.{ℕ, zero, suc, Bool, true, false, ◌&&◌, ◌||◌, ltb, eqb, length}
use mathlib.Core.List.{List, [], ◌∷◌, map, flat_map}
use Rattle.std.proofs.Math.Option.{Option, none, some}
use Rattle.laws.specs.Lists.{up_to, keep, before}
use Rattle.model.specs.Answer.{Answer, refused, accepted, ◌>>=◌, ◌>>◌, need}
use Rattle.model.specs.Card.{Task, decode}
use Rattle.model.specs.Strips.{State, Action, facts_in, well_formed, schema_at, check_action, apply}

unfoldable pub first : {A : Type 0} → List A → Option A
first [] = none
first (x ∷ xs) = some x

unfoldable pub is_accepted : {A : Type 0} → Answer A → Bool
is_accepted (refused n) = false
is_accepted (accepted x) = true

-- every list of n objects out of m, in the order of the objects, front to back
unfoldable pub bindings : ℕ → ℕ → List (List ℕ)
bindings m zero = [] ∷ []
bindings m (suc n) = flat_map (λ o. map (λ rest. o ∷ rest) (bindings m n)) (up_to m)

-- every action of a task, by schema number, then by the objects of the parameters in order
unfoldable pub actions : Task → List Action
actions t =
    flat_map (λ n. map (λ objects. record { schema = n; objects = objects }) (bindings t.objects (schema_at t n).parameters))
    (up_to (length t.schemas))

-- open: the press call would accept it, so no number from 16 to 20 refuses it
unfoldable pub is_open : Task → State → Action → Bool
is_open t s a = is_accepted (apply t a s)

unfoldable pub open_actions : Task → State → List Action
open_actions t s = keep (is_open t s) (actions t)

-- the order of actions: by schema number, then by the objects in order
unfoldable pub precedes : Action → Action → Bool
precedes a b = ltb a.schema b.schema || (eqb a.schema b.schema && before a.objects b.objects)

-- the action comes after the given one, if one is given
unfoldable pub comes_after : Option Action → Action → Bool
comes_after none a = true
comes_after (some given) a = precedes given a

-- the next open action after the given one, or none at the end; the given one need not be open
unfoldable pub open_after : Task → State → Option Action → Option Action
open_after t s given = first (keep (comes_after given) (open_actions t s))

-- 16 to 18 of the given action, as at a press; with none given there is nothing to refuse
unfoldable pub check_given : Task → Option Action → Answer (Unit {0})
check_given t none = accepted tt
check_given t (some a) = check_action t a

-- the call on a task: the state first (15), then 16 to 18 of the given action
unfoldable pub next_open_of : Task → List ℕ → ℕ → Option Action → Answer (Option Action)
next_open_of t buffer count given = do
  need (well_formed t.arities t.objects buffer count) 15
  check_given t given
  accepted (open_after t (facts_in t.arities count buffer) given)

-- the call for the next open action: 1 to 18. It only reads what is lent to it
unfoldable pub next_open : List ℕ → List ℕ → ℕ → Option Action → Answer (Option Action)
next_open card buffer count given = do
  t ← decode card
  next_open_of t buffer count given

-- an action that is answered, and what is shown after it; nothing follows the end
unfoldable pub and_then : Option Action → (Action → List Action) → List Action
and_then none later = []
and_then (some a) later = a ∷ later a

-- what is shown by asking at most n times, first after the given action or none, then each time after the action answered before
unfoldable pub one_by_one : (Option Action → Option Action) → ℕ → Option Action → List Action
one_by_one ask zero given = []
one_by_one ask (suc n) given = and_then (ask given) (λ a. one_by_one ask n (some a))

-- opens every definition of this module, for what is proved by computation
unfoldable pub open_opens : Unit {0}
unfolding
    first is_accepted bindings actions is_open open_actions precedes comes_after open_after check_given next_open_of next_open and_then one_by_one
open_opens = tt
