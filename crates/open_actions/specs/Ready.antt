-- What the values of a query are, and of the queries of all schemas.
use Rattle.std.specs.Prelude.{ℕ, ◌≤◌, ◌<◌, List, [], get_or}
use Rattle.card.specs.declared.Schema.{Schema}
use Rattle.card.specs.declared.SchemaList.{SchemaList}
use Rattle.strips.specs.Steps.{StateKept, SchemaKept}

-- A schema of a checked task, which has an object, and a well-formed state.
pub record SchemaReady (arities : List ℕ) (known : ℕ) (schema : Schema) (buffer : List ℕ) (count : ℕ) : Type 0 where
  pub state_kept : StateKept arities known buffer count
  pub schema_kept : SchemaKept arities schema
  pub some_object : 1 ≤ known

-- what a read past an array of schemas would give
abbrev pub unset : Schema
unset = record {
  parameters = 0;
  preconditions = record { count = 0; atoms = [] };
  deletes = record { count = 0; atoms = [] };
  adds = record { count = 0; atoms = [] };
}

-- The schemas of a list, each of which is ready.
pub record SchemasReady (arities : List ℕ) (known : ℕ) (schemas : SchemaList) (buffer : List ℕ) (count : ℕ) : Type 0 where
  pub few : (k : ℕ) → k < schemas.count → k < 32
  pub each : (k : ℕ) → k < schemas.count → SchemaReady arities known (get_or schemas.schemas k unset) buffer count
