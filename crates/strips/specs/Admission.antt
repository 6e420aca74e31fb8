-- The checks that pressing, asking and committing make alike, 1 to 19, and what they leave to be applied.
use Rattle.std.specs.Prelude.{ℕ, List}
use Rattle.model.specs.Answer.{Answer, accepted, ◌>>=◌, ◌>>◌, need}
use Rattle.model.specs.Card.{Schema, Task, decode}
use Rattle.model.specs.Strips.{State, Action, facts_in, well_formed, applicable, schema_at, check_objects, check_action}

-- 17 to 19 of a schema with these objects on a state; the task has `known` objects
unfoldable pub admit_schema : ℕ → Schema → List ℕ → State → Answer (Unit {0})
admit_schema known schema objects state = do
  check_objects known schema objects
  need (applicable schema objects state) 19

-- What may be applied: the arities of a task, and a schema of it.
pub record Admissible : Type 0 where
  pub arities : List ℕ
  pub schema : Schema

-- 15 to 19 of an action, on a task
unfoldable pub admission_of : Task → List ℕ → ℕ → Action → Answer Admissible
admission_of t buffer count action = do
  need (well_formed t.arities t.objects buffer count) 15
  check_action t action
  need (applicable (schema_at t action.schema) action.objects (facts_in t.arities count buffer)) 19
  accepted (record { arities = t.arities; schema = schema_at t action.schema })

-- 1 to 19
unfoldable pub admission : List ℕ → List ℕ → ℕ → Action → Answer Admissible
admission card buffer count action = do
  t ← decode card
  admission_of t buffer count action
