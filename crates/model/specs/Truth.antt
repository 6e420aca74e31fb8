-- Demand 3, in document 01's words: what "listed" and "true of a state" mean.
--
-- Let C be an accepted card and S the state after any history of presses on C. Each member of a property space listed as P has in S
-- a condition that the listing gives for that space. An object outside a space has none of that space's properties. Every limit,
-- membership, exclusion, fixed total and ceiling listed for C is true of S. A press that S allows puts into each role an object
-- listed for that role. Document 02, No. 2: an E line names two of a space's conditions, the first strictly within the second. No. 5: what
-- holds of P spaces holds of H spaces too.
--
-- `Holds t S` says this of a task t and a state S, over the lines of the sections whose text the listing call writes
-- (`Calls.section`). That it is so after every history is the theorem `listing_holds` of proofs/ListingHolds.antt.
use Rattle.std.specs.Prelude.{ℕ, ◌≤◌, ◌<◌, ◌≡◌, Bool, true, false, ◌&&◌, length, get_or}
use mathlib.Core.List.{List, [], ◌∷◌, Memᴰ}
use Rattle.laws.specs.Lists.{member}
use Rattle.laws.specs.Bags.{Bag, contains, strictly_within}
use Rattle.model.specs.Answer.{accepted}
use Rattle.model.specs.Card.{Task}
use Rattle.model.specs.Strips.{State, Action, schema_at, check_action, applicable}
use Rattle.model.specs.Transitions
use Rattle.model.specs.Transitions.{bag_of}
use Rattle.model.specs.Spaces.{Kind, static, attribute, property, mixed, wide, rescued, condition}
use Rattle.model.specs.Lines.{Line, space, state, limit, membership, exclusion, nesting, total, ceiling, types, of_predicate}
use Rattle.model.specs.Lines.{sections}

-- a line stands in a section, a section in the listing of a task
infix 5 ◌is_on◌
abbrev pub ◌is_on◌ : Line → List Line → Type 0
line is_on lines = Memᴰ line lines

infix 5 ◌is_section_of◌
abbrev pub ◌is_section_of◌ : List Line → Task → Type 0
lines is_section_of t = Memᴰ lines (sections t)

-- a space of this kind is listed with its conditions: P, and H, where a mixed space was rescued
unfoldable pub gives_conditions : Kind → Bool
gives_conditions static = false
gives_conditions attribute = false
gives_conditions property = true
gives_conditions mixed = false
gives_conditions wide = false
gives_conditions rescued = true

-- the conditions that a section gives: the counts of its T lines, in order. At most one space of a section is listed with conditions
unfoldable pub states_of : List Line → List Bag
states_of [] = []
states_of (space n kind properties members ∷ lines) = states_of lines
states_of (state counts ∷ lines) = counts ∷ states_of lines
states_of (limit c most ∷ lines) = states_of lines
states_of (membership i ∷ lines) = states_of lines
states_of (exclusion i j ∷ lines) = states_of lines
states_of (nesting i j ∷ lines) = states_of lines
states_of (total p n ∷ lines) = states_of lines
states_of (ceiling p n ∷ lines) = states_of lines
states_of (types n k objects ∷ lines) = states_of lines

-- an object's count for property c in a state
unfoldable pub count_in : Task → State → ℕ → ℕ → ℕ
count_in t s o c = get_or (bag_of (Transitions.properties t) s o) c 0

-- the state allows an action: it names a schema and as many different known objects as roles, and every precondition holds.
-- It counts whether or not 20 then refuses it
pub record Allowed (t : Task) (s : State) (a : Action) : Type 0 where
  pub named : check_action t a ≡ accepted tt
  pub holds : applicable (schema_at t a.schema) a.objects s ≡ true

-- Each clause of demand 3, of a task t and a state s.

-- each member of a space listed as P or H has a condition that the listing gives for that space
abbrev pub StatesListed : Task → State → Type 0
StatesListed t s =
    (lines : List Line) (n : ℕ) (kind : Kind) (properties members : List ℕ) (o : ℕ) → lines is_section_of t
    → space n kind properties members is_on lines → gives_conditions kind ≡ true → member o members ≡ true
    → state (condition t properties s o) is_on lines

-- an object outside a space, of whatever kind, has none of that space's properties
abbrev pub NoneOutside : Task → State → Type 0
NoneOutside t s =
    (lines : List Line) (n : ℕ) (kind : Kind) (properties members : List ℕ) (o c : ℕ) → lines is_section_of t
    → space n kind properties members is_on lines → member o members ≡ false → member c properties ≡ true
    → count_in t s o c ≡ 0

-- no object's count for an M property is above its most
abbrev pub LimitsTrue : Task → State → Type 0
LimitsTrue t s = (lines : List Line) (c most o : ℕ) → lines is_section_of t → limit c most is_on lines → count_in t s o c ≤ most

-- the condition of each member of a P or H space contains one of that space's D conditions
abbrev pub MembershipsTrue : Task → State → Type 0
MembershipsTrue t s =
    (lines : List Line) (n : ℕ) (kind : Kind) (properties members : List ℕ) (o : ℕ) → lines is_section_of t
    → space n kind properties members is_on lines → gives_conditions kind ≡ true → member o members ≡ true
    → (i : ℕ) × (membership i is_on lines) × (contains (condition t properties s o) (get_or (states_of lines) i []) ≡ true)

-- no member's condition contains both of an X
abbrev pub ExclusionsTrue : Task → State → Type 0
ExclusionsTrue t s =
    (lines : List Line) (n : ℕ) (kind : Kind) (properties members : List ℕ) (o i j : ℕ) → lines is_section_of t
    → space n kind properties members is_on lines → gives_conditions kind ≡ true → member o members ≡ true → exclusion i j is_on lines
    → (contains (condition t properties s o) (get_or (states_of lines) i [])
    && contains (condition t properties s o) (get_or (states_of lines) j []))
    ≡ false

-- an E names two listed conditions, the first strictly within the second. It says nothing of the state
abbrev pub NestingsTrue : Task → Type 0
NestingsTrue t =
    (lines : List Line) (i j : ℕ) → lines is_section_of t → nesting i j is_on lines
    → (i < length (states_of lines)) × (j < length (states_of lines))
    × (strictly_within (get_or (states_of lines) i []) (get_or (states_of lines) j []) ≡ true)

-- an F total is the predicate's number of facts
abbrev pub TotalsTrue : Task → State → Type 0
TotalsTrue t s = (lines : List Line) (p n : ℕ) → lines is_section_of t → total p n is_on lines → of_predicate p s ≡ n

-- a C number is at least that
abbrev pub CeilingsTrue : Task → State → Type 0
CeilingsTrue t s = (lines : List Line) (p n : ℕ) → lines is_section_of t → ceiling p n is_on lines → of_predicate p s ≤ n

-- an allowed action has in each role an object on that role's R line
abbrev pub TypesTrue : Task → State → Type 0
TypesTrue t s =
    (lines : List Line) (n k : ℕ) (objects : List ℕ) (a : Action) → lines is_section_of t → types n k objects is_on lines
    → Allowed t s a → a.schema ≡ n → member (get_or a.objects k 0) objects ≡ true

-- and each role has an R line
abbrev pub TypesListed : Task → State → Type 0
TypesListed t s =
    (a : Action) (k : ℕ) → Allowed t s a → k < length a.objects
    → (lines : List Line) × (objects : List ℕ) × (lines is_section_of t) × (types a.schema k objects is_on lines)

-- all of them
pub record Holds (t : Task) (s : State) : Type 0 where
  pub state_listed : StatesListed t s
  pub outside : NoneOutside t s
  pub limit_true : LimitsTrue t s
  pub membership_true : MembershipsTrue t s
  pub exclusion_true : ExclusionsTrue t s
  pub nesting_true : NestingsTrue t
  pub total_true : TotalsTrue t s
  pub ceiling_true : CeilingsTrue t s
  pub types_true : TypesTrue t s
  pub types_listed : TypesListed t s
