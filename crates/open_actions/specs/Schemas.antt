-- What is relied on and what is answered by the search among the bindings of a schema and over the schemas of a task.
use Rattle.std.specs.Prelude.{ℕ, ◌≤◌, ◌<◌, ◌≡◌, Bool, true, false, ◌⊎◌, List, ltb, get_or, take, Option as Optional, Some, None, Ok}
use Rattle.laws.specs.Lists.{padded, before}
use Rattle.model.specs.Answer.{Answer, refused, accepted, ◌>>◌, need}
use Rattle.model.specs.Strips.{Action, check_objects}
use Rattle.model.proofs.Bindings.{FirstBinding}
use Rattle.card.specs.Represents.{schema_of}
use Rattle.card.specs.declared.SchemaList.{SchemaList}
use Rattle.open_actions.specs.Ready.{unset}
use Rattle.open_actions.specs.Bindings.{Query, query_of, query_in, open_binding, Full}
use Rattle.open_actions.specs.Notes.{Notes}
use Rattle.open_actions.specs.Answers.{NextOpen, Says}
use Rattle.open_actions.specs.declared.OpenAction.{OpenAction}
use Rattle.open_actions.specs.declared.query.Queries.{Queries}
use Rattle.open_actions.specs.declared.query.Query.{Query as Asked}

-- What a search relies on that starts with a full binding and notes.
pub record NotesReady (asked : Asked) (x notes : List ℕ) : Type 0 where
  pub full : Full (query_in asked) x
  pub true_notes : Notes (query_in asked) notes

-- no binding is open, of those among which one is looked for
abbrev pub NoneOpen : Query → (List ℕ → Bool) → Type 0
NoneOpen q among = (y : List ℕ) → Full q y → among y ≡ true → open_binding q y ≡ false

-- the binding is the first open one, of those among which one is looked for
abbrev pub FirstOpen : Query → (List ℕ → Bool) → List ℕ → Type 0
FirstOpen q among x = FirstBinding q.known q.schema.parameters among (open_binding q) x

-- The answer of a test that shows, where it is false, that no binding is open; and the binding that the test leaves.
pub record FitTested (q : Query) (after : List ℕ) (r : Bool) : Type 0 where
  pub full : Full q after
  pub none : r ≡ false → NoneOpen q (λ y. true)

-- The answer alone.
pub record MayFit (q : Query) (r : Bool) : Type 0 where
  pub none : r ≡ false → NoneOpen q (λ y. true)

-- The answer of a search among some bindings, and the binding that it leaves.
pub record Picks (q : Query) (among : List ℕ → Bool) (after : List ℕ) (r : Bool) : Type 0 where
  pub full : Full q after
  pub found : r ≡ true → FirstOpen q among after
  pub none : r ≡ false → NoneOpen q among

-- The same with the binding in an array, whose places past the parameters are 0.
pub record BindingPicked (q : Query) (among : List ℕ → Bool) (r : Optional (List ℕ)) : Type 0 where
  pub rest_zero : (objects : List ℕ) → r ≡ Some objects → objects ≡ padded 6 0 (take q.schema.parameters objects)
  pub found : (objects : List ℕ) → r ≡ Some objects → FirstOpen q among (take q.schema.parameters objects)
  pub none : r ≡ None → NoneOpen q among

-- the bindings of a schema of a list
abbrev pub query_at : List ℕ → ℕ → SchemaList → List ℕ → ℕ → ℕ → Query
query_at arities known schemas buffer count k = query_of arities known (get_or schemas.schemas k unset) buffer count

-- The schemas from the first to one allow no binding.
pub record PassedOver (arities : List ℕ) (known : ℕ) (schemas : SchemaList) (buffer : List ℕ) (count first number : ℕ) : Type 0 where
  pub started : first ≤ number
  pub in_list : (k : ℕ) → first ≤ k → k < number → k < schemas.count
  pub none_open : (k : ℕ) → first ≤ k → k < number → NoneOpen (query_at arities known schemas buffer count k) (λ y. true)

-- The answer of the search over the schemas of a list: the first open binding of the first schema that has one, or the end.
pub record FoundAmong (arities : List ℕ) (known : ℕ) (schemas : SchemaList) (buffer : List ℕ) (count first : ℕ) (r : Optional OpenAction) : Type 0 where
  pub number : ℕ
  pub passed : PassedOver arities known schemas buffer count first number
  pub within : number < schemas.count
  pub objects : List ℕ
  pub chooses : BindingPicked (query_at arities known schemas buffer count number) (λ y. true) (Some objects)
  pub is : r ≡ Some (record { schema = number; object_count = (get_or schemas.schemas number unset).parameters; objects = objects })

pub record NoneAmong (arities : List ℕ) (known : ℕ) (schemas : SchemaList) (buffer : List ℕ) (count first : ℕ) (r : Optional OpenAction) : Type 0 where
  pub number : ℕ
  pub passed : PassedOver arities known schemas buffer count first number
  pub past : schemas.count ≤ number
  pub is : r ≡ None

-- The answer within the schema of a given action: its first open binding after the given one, or the end where it has none.
pub record FoundAfter (q : Query) (given : Action) (r : Optional OpenAction) : Type 0 where
  pub objects : List ℕ
  pub chooses : BindingPicked q (before given.objects) (Some objects)
  pub is : r ≡ Some (record { schema = given.schema; object_count = q.schema.parameters; objects = objects })

pub record NoneAfter (q : Query) (given : Action) (r : Optional OpenAction) : Type 0 where
  pub none_open : NoneOpen q (before given.objects)
  pub is : r ≡ None

abbrev pub RestOfSchema : Query → Action → Optional OpenAction → Type 0
RestOfSchema q given r = FoundAfter q given r ⊎ NoneAfter q given r

-- 16 to 18 of an action, by the schemas of a list
unfoldable pub check_listed : List ℕ → ℕ → SchemaList → Action → Answer (Unit {0})
check_listed arities known schemas action = do
  need (ltb action.schema schemas.count) 16
  check_objects known (schema_of arities (get_or schemas.schemas action.schema unset)) action.objects

-- The answer to a given action before the later schemas: the refusal by 16, 17 or 18, or the rest of its schema.
pub record GivenRefused (arities : List ℕ) (known : ℕ) (schemas : SchemaList) (given : Action) (r : NextOpen) : Type 0 where
  pub number : ℕ
  pub refuses : check_listed arities known schemas given ≡ refused number
  pub says : Says (refused number) r

pub record GivenPassed (arities : List ℕ) (known : ℕ) (schemas : SchemaList) (buffer : List ℕ) (count : ℕ) (given : Action) (r : NextOpen) : Type 0 where
  pub passes : check_listed arities known schemas given ≡ accepted tt
  pub answer : Optional OpenAction
  pub rest : RestOfSchema (query_at arities known schemas buffer count given.schema) given answer
  pub is : r ≡ Ok answer

abbrev pub GivenAnswered : List ℕ → ℕ → SchemaList → List ℕ → ℕ → Action → NextOpen → Type 0
GivenAnswered arities known schemas buffer count given r =
    GivenRefused arities known schemas given r ⊎ GivenPassed arities known schemas buffer count given r

-- Both answers, of the code's value.
abbrev pub AmongAnswered : Queries → ℕ → Optional OpenAction → Type 0
AmongAnswered all first r =
    FoundAmong all.arities.now all.known all.schemas.now all.state.now all.count first r
    ⊎ NoneAmong all.arities.now all.known all.schemas.now all.state.now all.count first r

abbrev pub AfterAnswered : Queries → Action → NextOpen → Type 0
AfterAnswered all given r = GivenAnswered all.arities.now all.known all.schemas.now all.state.now all.count given r

-- the query that the code makes of a schema of the list
abbrev pub query_within : Queries → ℕ → Query
query_within all number = query_at all.arities.now all.known all.schemas.now all.state.now all.count number
