-- What the code's structs and enums stand for: the numbers of document 01, and a task with its arrays filled up by a fixed blank.
use Rattle.std.specs.Prelude.{ℕ, List, [], ◌∷◌, map, length, get_or, take, ◌≡◌}
use Rattle.laws.specs.Lists.{padded}
use Rattle.model.specs.Answer.{Answer, refused, accepted}
use Rattle.model.specs.Card as model
use Rattle.model.specs.Writer.{check_task}
use Rattle.card.specs.declared.Atom.{Atom}
use Rattle.card.specs.declared.AtomList.{AtomList}
use Rattle.card.specs.declared.ArityList.{ArityList}
use Rattle.card.specs.declared.SchemaList.{SchemaList}
use Rattle.card.specs.declared.FactList.{FactList}
use Rattle.card.specs.declared.Schema.{Schema}
use Rattle.card.specs.declared.Task.{Task}
use Rattle.card.specs.declared.Decoded.{Decoded}
use Rattle.card.specs.declared.Verdict.{Verdict}
use Rattle.card.specs.declared.Verdict.TheVariants.{Accepted, Refused}
use Rattle.card.specs.declared.Refusal.{Refusal}
use Rattle.card.specs.declared.Refusal.TheVariants.{CardEnds, PredicateRange, ObjectRange, SchemaRange, HeaderRange, ListRange, AtomUnknown}
use Rattle.card.specs.declared.Refusal.TheVariants.{AtomOrder, DeleteNotPrecondition, AddIsPrecondition, FactRange, FactUnknown, FactOrder, BytesFollow}

-- the number of a refusal in document 01
unfoldable pub refusal_number : Refusal → ℕ
refusal_number CardEnds = 1
refusal_number PredicateRange = 2
refusal_number ObjectRange = 3
refusal_number SchemaRange = 4
refusal_number HeaderRange = 5
refusal_number ListRange = 6
refusal_number AtomUnknown = 7
refusal_number AtomOrder = 8
refusal_number DeleteNotPrecondition = 9
refusal_number AddIsPrecondition = 10
refusal_number FactRange = 11
refusal_number FactUnknown = 12
refusal_number FactOrder = 13
refusal_number BytesFollow = 14

-- How the code keeps a task of the model: places that are no part of it hold a blank.
unfoldable pub atom_for : model.Atom → Atom
atom_for a =
    record {
      predicate = a.predicate;
      first = get_or a.arguments 0 0;
      second = get_or a.arguments 1 0;
      third = get_or a.arguments 2 0;
    }

unfoldable pub blank_atom : Atom
blank_atom = record { predicate = 0; first = 0; second = 0; third = 0 }

unfoldable pub atoms_for : List model.Atom → AtomList
atoms_for atoms = record { count = length atoms; atoms = padded 8 blank_atom (map atom_for atoms) }

unfoldable pub schema_for : model.Schema → Schema
schema_for s =
    record {
      parameters = s.parameters;
      preconditions = atoms_for s.preconditions;
      deletes = atoms_for s.deletes;
      adds = atoms_for s.adds;
    }

-- no parameters and no atoms
unfoldable pub blank_schema : Schema
blank_schema = record { parameters = 0; preconditions = atoms_for []; deletes = atoms_for []; adds = atoms_for [] }

unfoldable pub arities_for : List ℕ → ArityList
arities_for arities = record { count = length arities; arities = padded 20 0 arities }

unfoldable pub schemas_for : List model.Schema → SchemaList
schemas_for schemas = record { count = length schemas; schemas = padded 32 blank_schema (map schema_for schemas) }

unfoldable pub facts_for : List model.Atom → FactList
facts_for facts = record { count = length facts; facts = padded 512 blank_atom (map atom_for facts) }

unfoldable pub task_for : model.Task → Task
task_for t =
    record {
      predicates = arities_for t.arities;
      objects = t.objects;
      schemas = schemas_for t.schemas;
      facts = facts_for t.facts;
    }

-- What a value of the code says, whatever it holds: its counts and arities say how much of it counts.
-- as many entries as the count says; where it is beyond the array, blanks stand for what is not there
unfoldable pub entries : {A : Type 0} → ℕ → A → List A → List A
entries count blank xs = take count (padded count blank xs)

-- the atom, with as many arguments as the arity of its predicate
unfoldable pub atom_of : List ℕ → Atom → model.Atom
atom_of arities a =
    record {
      predicate = a.predicate;
      arguments = take (get_or arities a.predicate 0) (a.first ∷ a.second ∷ a.third ∷ []);
    }

unfoldable pub atoms_of : List ℕ → AtomList → List model.Atom
atoms_of arities l = map (atom_of arities) (entries l.count blank_atom l.atoms)

unfoldable pub schema_of : List ℕ → Schema → model.Schema
schema_of arities s =
    record {
      parameters = s.parameters;
      preconditions = atoms_of arities s.preconditions;
      deletes = atoms_of arities s.deletes;
      adds = atoms_of arities s.adds;
    }

unfoldable pub arities_of : ArityList → List ℕ
arities_of l = entries l.count 0 l.arities

unfoldable pub schemas_of : List ℕ → SchemaList → List model.Schema
schemas_of arities l = map (schema_of arities) (entries l.count blank_schema l.schemas)

unfoldable pub facts_of : List ℕ → FactList → List model.Atom
facts_of arities l = map (atom_of arities) (entries l.count blank_atom l.facts)

unfoldable pub task_of : Task → model.Task
task_of t =
    let arities = arities_of t.predicates in
    record {
      arities = arities;
      objects = t.objects;
      schemas = schemas_of arities t.schemas;
      facts = facts_of arities t.facts;
    }

-- the struct stands for the task, and a card can carry the task
pub record Represented (task : Task) (t : model.Task) : Type 0 where
  pub stands : task ≡ task_for t
  pub checked : check_task t ≡ accepted tt

-- no predicates, no objects, no schemas, no facts: the task beside a refusal
unfoldable pub blank_task : Task
blank_task = record { predicates = arities_for []; objects = 0; schemas = schemas_for []; facts = facts_for [] }

-- the answer that a verdict and the task beside it give
unfoldable pub answer_of : Verdict → Task → Answer model.Task
answer_of Accepted t = accepted (task_of t)
answer_of (Refused r) t = refused (refusal_number r)

-- the task that stands beside the verdict on an answer
unfoldable pub task_beside : Answer model.Task → Task
task_beside (accepted t) = task_for t
task_beside (refused n) = blank_task

-- the code's answer to a card, whole: the definition's answer, and the arrays filled up with blanks
pub record Decodes (card : List ℕ) (d : Decoded) : Type 0 where
  pub answer : answer_of d.verdict d.task ≡ model.decode card
  pub kept : d.task ≡ task_beside (model.decode card)
