-- What a represented task says of its parts: its arities, its schemas and its facts are those of the accepted task.
use Prim.Native.Nat.{ℕ, ◌<◌}
use native.Mathlib.Omega.{arith}
use mathlib.Core.Path.{◌≡◌, ap, ◌∙◌, subst}
use mathlib.Core.Bool.{Bool, true}
use mathlib.Core.List.{List}
use lib.ListN.{get_or, take, get_or-map}
use lib.Seq.{get_or-take}
use Rattle.laws.proofs.Lists.{all_at, mem_get_d}
use Rattle.model.specs.Card as model
use Rattle.model.specs.Writer.{known}
use Rattle.model.proofs.Checked.{CheckedSchema, CheckedList}
use Rattle.card.specs.declared.Schema.{Schema}
use Rattle.card.specs.declared.AtomList.{AtomList}
use Rattle.card.specs.declared.FactList.{FactList}
use Rattle.card.specs.declared.Task.{Task}
use Rattle.card.specs.Represents.{blank_atom, atom_of, Represented}
use Rattle.card.specs.Represents.{task_of, arities_of, schema_of, atoms_of, facts_of}
use Rattle.card.proofs.Entries.{schemas_within, item_in, length_atoms}
use Rattle.card.proofs.Counts.{right, predicates_few, objects_few, schema_count, schemas_few, schemas_inside, facts_few}
use Rattle.properties.specs.Represented.{AritiesRight, AtomsRight, SchemaRight, SchemasRight, FactsKnown}

-- a list of atoms that passed
atoms_right : (arities : List ℕ) (parameters : ℕ) (test : model.Atom → Bool) (l : AtomList)
    → CheckedList arities parameters test (atoms_of arities l) → AtomsRight arities parameters l
atoms_right arities parameters test l c = record { few = omega (arith, c.few, length_atoms arities l); atoms_known = c.atoms_known }

module _ (task : Task) (r : Represented task (task_of task)) where
  -- the arities
  pub arities_right : AritiesRight task.predicates
  unfolding task_of
  arities_right = record { few = predicates_few task r; each_in_range = (right task r).arities_right }

  -- the schemas
  module _ (i : ℕ) (d : Schema) (h : i < task.schemas.count) where
    -- the code's schema is the model's
    pub schema_at_lem : get_or (task_of task).schemas i (schema_of (arities_of task.predicates) d)
        ≡ schema_of (arities_of task.predicates) (get_or task.schemas.schemas i d)
    unfolding task_of
    schema_at_lem =
        ap (λ (l : List model.Schema). get_or l i (schema_of (arities_of task.predicates) d))
        (schemas_within (arities_of task.predicates) task.schemas (schemas_inside task r))
        ∙ get_or-map (schema_of (arities_of task.predicates)) (take task.schemas.count task.schemas.schemas) i d
        ∙ ap (schema_of (arities_of task.predicates)) (get_or-take task.schemas.count task.schemas.schemas i d h)

    passed : CheckedSchema (arities_of task.predicates) (schema_of (arities_of task.predicates) (get_or task.schemas.schemas i d))
    unfolding task_of
    passed =
        let arities = arities_of task.predicates in
        subst (CheckedSchema arities) schema_at_lem
        ((right task r).schemas_right (get_or (task_of task).schemas i (schema_of arities d))
        (mem_get_d (task_of task).schemas i (schema_of arities d) (omega (arith, h, schema_count task r))))

    pub schema_right : SchemaRight (arities_of task.predicates) (get_or task.schemas.schemas i d)
    unfolding schema_of
    schema_right =
        let arities = arities_of task.predicates in
        let s = get_or task.schemas.schemas i d in
        record {
          few_parameters = passed.few_parameters;
          preconditions_right = atoms_right arities _ _ s.preconditions passed.preconditions_right;
          deletes_right = atoms_right arities _ _ s.deletes passed.deletes_right;
          adds_right = atoms_right arities _ _ s.adds passed.adds_right;
        }

-- the lists of schemas and of facts
module _ (task : Task) (r : Represented task (task_of task)) where
  pub schemas_right : SchemasRight (arities_of task.predicates) task.schemas
  schemas_right = record { few = schemas_few task r; each_right = schema_right task r }

  pub facts_right : FactsKnown (arities_of task.predicates) task.objects task.facts
  unfolding task_of
  facts_right = record { few_objects = objects_few task r; few = facts_few task r; facts_known = (right task r).facts_right.facts_known }

-- each fact is a known atom
pub fact_known : {arities : List ℕ} {objects : ℕ} {l : FactList} → FactsKnown arities objects l → (i : ℕ) → i < l.count
    → known arities objects (atom_of arities (get_or l.facts i blank_atom)) ≡ true
unfolding facts_of
fact_known {arities} {objects} {l} facts i h =
    all_at (known arities objects) (facts_of arities l) facts.facts_known (atom_of arities (get_or l.facts i blank_atom))
    (item_in (atom_of arities) l.count blank_atom l.facts i h)
