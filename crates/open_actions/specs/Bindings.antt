-- The bindings of a schema's parameters by objects, and what a search among them says. A parameter is bound if the search has chosen an object for it.
use Rattle.std.specs.Prelude.{ℕ, ◌≤◌, ◌<◌, ◌≡◌, Bool, true, false, ◌&&◌, List, ltb, length, get_or, Result, Ok, Err}
use Rattle.laws.specs.Lists.{all, distinct, before}
use Rattle.model.specs.Card as model
use Rattle.model.specs.Strips.{State, facts_in, progress}
use Rattle.model.specs.Open.{is_accepted}
use Rattle.card.specs.Represents.{schema_of}
use Rattle.card.specs.declared.Schema.{Schema}
use Rattle.masks.specs.Sets.{is_member}
use Rattle.open_actions.specs.Masked.{Agree, Inside, Begins, StartsFrom, BoundBelow, Covers}
use Rattle.open_actions.specs.declared.query.Query.{Query as Asked}

-- What is searched: a schema's bindings by so many objects, on a state.
pub record Query : Type 0 where
  pub schema : model.Schema
  pub known : ℕ
  pub state : State

-- the query of a task's arities and number of objects, a schema, and the state's bytes and count
unfoldable pub query_of : List ℕ → ℕ → Schema → List ℕ → ℕ → Query
query_of arities known schema buffer count = record { schema = schema_of arities schema; known = known; state = facts_in arities count buffer }

-- the query that the code's value stands for
unfoldable pub query_in : Asked → Query
query_in asked = query_of asked.arities.now asked.known asked.schema asked.state.now asked.count

-- the binding is open: no two objects are the same (18), and neither 19 nor 20 refuses
unfoldable pub open_binding : Query → List ℕ → Bool
open_binding q objects = distinct objects && is_accepted (progress q.schema objects q.state)

-- A full binding: a known object for each parameter.
pub record Full (q : Query) (objects : List ℕ) : Type 0 where
  pub one_for_each : length objects ≡ q.schema.parameters
  pub objects_known : all (λ o. ltb o q.known) objects ≡ true

-- No binding is open that has the bound objects at the culprits and, at the level, an object from the given one on.
pub record Stuck (q : Query) (bound level from : ℕ) (x : List ℕ) (culprits : ℕ) : Type 0 where
  pub inside : Inside culprits bound
  pub none : (y : List ℕ) → Full q y → Agree culprits x y → StartsFrom level from y → open_binding q y ≡ false

-- The first open binding that begins like x and has, at the level, an object from the given one on.
pub record Earliest (q : Query) (level from : ℕ) (x found : List ℕ) : Type 0 where
  pub open_now : open_binding q found ≡ true
  pub reaches : StartsFrom level from found
  pub none_before : (y : List ℕ) → Full q y → Begins level x y → StartsFrom level from y → before y found ≡ true → open_binding q y ≡ false

-- What a search from a level on answers, and the binding that it leaves. What is found counts only in a search that is exact.
pub record SearchOutcome (q : Query) (exact : Bool) (bound level from : ℕ) (x after : List ℕ)
    (r : Result (Unit {0}) ℕ) : Type 0 where
  pub full : Full q after
  pub begins : Begins level x after
  pub stuck : (culprits : ℕ) → r ≡ Err culprits → Stuck q bound level from x culprits
  pub found : r ≡ Ok tt → exact ≡ true → Earliest q level from x after

-- A full binding of which the parameters of a mask, all below a level, are bound.
-- In a search that is exact every parameter below the level is.
pub record Searchable (asked : Asked) (exact : Bool) (bound level : ℕ) (x : List ℕ) : Type 0 where
  pub full : Full (query_in asked) x
  pub bound_below : BoundBelow bound level
  pub all_bound : exact ≡ true → Covers bound level
  pub within : level ≤ length x

-- The objects that are left to the parameter of a level: an open binding that has the bound objects at the culprits has one of them.
pub record Leaves (q : Query) (bound level : ℕ) (x : List ℕ) (mask culprits : ℕ) : Type 0 where
  pub inside : Inside culprits bound
  pub holds : (y : List ℕ) → Full q y → level < length y → Agree culprits x y → open_binding q y ≡ true → is_member mask (get_or y level 0) ≡ true

-- A parameter below a level that is bound to the object.
pub record Taken (x : List ℕ) (bound level o p : ℕ) : Type 0 where
  pub below : p < level
  pub is_bound : is_member bound p ≡ true
  pub has_object : get_or x p 0 ≡ o
