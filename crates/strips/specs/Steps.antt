-- What applying an action leaves in the buffer, the numbers of the next state, and what each function relies on.
use Rattle.std.specs.Prelude.{ℕ, ◌+◌, ◌-◌, ◌≤◌, ◌≡◌, true, List, map, leb, ltb, length, take}
use Rattle.laws.specs.Lists.{all, distinct}
use Rattle.model.specs.Answer.{Answer, accepted, ◌>>=◌, ◌>>◌, need}
use Rattle.model.specs.Card as model
use Rattle.model.specs.Writer.{check_schema}
use Rattle.model.specs.Strips.{State, most_facts, well_formed, taken_out, put_in}
use Rattle.model.specs.Calls.{Call, finish, store}
use Rattle.card.specs.Represents.{schema_of}
use Rattle.card.specs.declared.ArityList.{ArityList}
use Rattle.card.specs.declared.AtomList.{AtomList}
use Rattle.card.specs.declared.Schema.{Schema}
use Rattle.sets.specs.Numbers.{without_all, inserted_all, SetKept}
use Rattle.state.specs.Rows.{fact_number, stored, Shape}
use Rattle.actions.specs.Grounds.{Bound}

-- the state that is answered is stored; a refusal alters no byte
unfoldable pub storing : List ℕ → Answer State → Call
storing buffer answer = finish buffer (answer >>= (λ next. accepted (store next buffer)))

-- 20, on a state's numbers: they are stored, unless they are too many
unfoldable pub storing_numbers : List ℕ → List ℕ → Call
storing_numbers buffer numbers =
    finish buffer (do
      need (leb (length numbers) most_facts) 20
      accepted (record { answer = accepted (length numbers); buffer = stored numbers buffer }))

-- the numbers of the next state
unfoldable pub next_numbers : model.Schema → List ℕ → List ℕ → List ℕ
next_numbers schema objects numbers =
    inserted_all (map fact_number (put_in schema objects)) (without_all (map fact_number (taken_out schema objects)) numbers)

-- the arities as they are lent on
abbrev pub lent : ArityList → List ℕ
lent predicates = take (predicates.count - 0) predicates.arities

-- A list of atoms as the code keeps it: at most eight, in an array of eight.
pub record ListKept (l : AtomList) : Type 0 where
  pub few : l.count ≤ 8
  pub size : length l.atoms ≡ 8

-- A schema of a checked task, as the code keeps it.
pub record SchemaKept (arities : List ℕ) (schema : Schema) : Type 0 where
  pub checks : check_schema arities (schema_of arities schema) ≡ accepted tt
  pub preconditions : ListKept schema.preconditions
  pub deletes : ListKept schema.deletes
  pub adds : ListKept schema.adds

-- An action's two lists with an object for each parameter, and a set with room for eight numbers more.
pub record NextReady (arities objects : List ℕ) (schema : Schema) (numbers : List ℕ) (count : ℕ) : Type 0 where
  pub deletes : Bound arities objects schema.deletes
  pub adds : Bound arities objects schema.adds
  pub set : SetKept count numbers
  pub room : count + 8 ≤ length numbers

-- A well-formed state of a task of this shape.
pub record StateKept (arities : List ℕ) (objects : ℕ) (buffer : List ℕ) (count : ℕ) : Type 0 where
  pub shape : Shape arities objects
  pub well : well_formed arities objects buffer count ≡ true

-- One known object for each parameter, all different, and a well-formed state.
pub record ActionReady (arities objects : List ℕ) (schema : Schema) (buffer : List ℕ) (count : ℕ) : Type 0 where
  pub known_objects : ℕ
  pub state : StateKept arities known_objects buffer count
  pub schema_kept : SchemaKept arities schema
  pub one_for_each : length objects ≡ schema.parameters
  pub objects_known : all (λ o. ltb o known_objects) objects ≡ true
  pub different : distinct objects ≡ true
