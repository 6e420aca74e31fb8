-- A checked task as the code keeps it: its shape, its schemas and its facts.
use Prim.Native.Nat.{ℕ, zero, suc, ◌≤◌, ◌<◌}
use native.Mathlib.Omega.{arith}
use mathlib.Core.Path.{◌≡◌, refl, sym, ap, ◌∙◌, subst}
use mathlib.Core.Bool.{true}
use mathlib.Core.Option.{none}
use mathlib.Core.List.{List, [], ◌∷◌, map}
use lib.ListN.{length, get_or, length-map, get_or-map}
use Rattle.laws.proofs.Padded.{length_padded, padded_at}
use Rattle.laws.specs.Lists.{all}
use Rattle.laws.proofs.Lists.{all_at, all_intro, mem_get_d}
use Rattle.model.specs.Answer.{accepted}
use Rattle.model.specs.Card as model
use Rattle.model.specs.Writer.{known, check_schema}
use Rattle.model.specs.Strips.{schema_at}
use Rattle.model.proofs.Order.{known_predicate}
use Rattle.model.proofs.CheckParts.{task_parts}
use Rattle.model.proofs.Checked.{CheckedSchema, schema_at_right, each_passed}
use Rattle.card.specs.Represents.{schema_of, arities_of, schemas_of, task_of, Represented}
use Rattle.card.specs.Represents.{atom_for, blank_atom, atoms_for, schema_for, blank_schema, schemas_for, task_for}
use Rattle.card.specs.declared.Schema.{Schema}
use Rattle.card.specs.declared.Task.{Task}
use Rattle.card.proofs.Entries.{item_at}
use Rattle.card.proofs.Counts.{right, schema_count, schemas_few, schemas_inside, facts_few, facts_size}
use Rattle.state.specs.Rows.{Shape}
use Rattle.actions.specs.Grounds.{FactsRight}
use Rattle.strips.specs.Steps.{ListKept, SchemaKept}

-- the default does not matter in range
pub get_d_default : {A : Type 0} (xs : List A) (i : ℕ) (d e : A) → i < length xs → get_or xs i d ≡ get_or xs i e
get_d_default [] i d e h = absurd (omega arith)
get_d_default (x ∷ xs) zero d e h = refl
get_d_default (x ∷ xs) (suc i) d e h = get_d_default xs i d e (omega arith)

list_kept : (atoms : List model.Atom) → length atoms ≤ 8 → ListKept (atoms_for atoms)
unfolding atoms_for
list_kept atoms h = record {
  few = h;
  size = length_padded 8 blank_atom (map atom_for atoms) (let n = length-map atoms atom_for in omega arith);
}

module _ (task : Task) (kept : Represented task (task_of task)) where
  abbrev pub model_task : model.Task
  model_task = task_of task

  abbrev pub arities : List ℕ
  arities = arities_of task.predicates

  pub task_shape : Shape arities task.objects
  unfolding task_of model.in_range
  task_shape =
      let c = right task kept in record { right = c.arities_right; few_predicates = c.few_predicates; few_objects = c.few_objects }

  pub few_schemas : (n : ℕ) → n < task.schemas.count → n < length task.schemas.schemas
  few_schemas n h = omega (arith, h, schemas_inside task kept)

  pub schema_below : (n : ℕ) → n < task.schemas.count → n < 32
  schema_below n h = omega (arith, h, schemas_few task kept)

  -- the schema of a number in range, as the code has it
  module _ (n : ℕ) (within : n < task.schemas.count) where
    abbrev chosen : Schema
    chosen = get_or task.schemas.schemas n blank_schema

    inside : n < length model_task.schemas
    inside = omega (arith, within, schema_count task kept)

    pub chosen_is : schema_of arities chosen ≡ schema_at model_task n
    unfolding task_of schemas_of schema_at
    chosen_is =
        sym (item_at (schema_of arities) task.schemas.count blank_schema task.schemas.schemas n within)
        ∙ get_d_default model_task.schemas n _ _ inside

    pub chosen_for : chosen ≡ schema_for (schema_at model_task n)
    unfolding task_for schemas_for schema_at
    chosen_for =
        let schemas : List model.Schema = model_task.schemas in
        let within_kept : n < length (map schema_for schemas) = (let l = length-map schemas schema_for in let i = inside in omega arith) in
        ap (λ (t : Task). get_or t.schemas.schemas n blank_schema) kept.stands
        ∙ padded_at 32 blank_schema (map schema_for schemas) n blank_schema within_kept
        ∙ get_d_default (map schema_for schemas) n blank_schema (schema_for _) within_kept
        ∙ get_or-map schema_for schemas n (record { parameters = 0; preconditions = []; deletes = []; adds = [] })

    passes : check_schema arities (schema_at model_task n) ≡ accepted tt
    unfolding task_of schema_at
    passes =
        each_passed (check_schema arities) none model_task.schemas (task_parts model_task kept.checked).schemas (schema_at model_task n)
        (mem_get_d model_task.schemas n _ inside)

    pub chosen_kept : SchemaKept arities chosen
    unfolding schema_for task_of
    chosen_kept =
        let schema_right : CheckedSchema arities (schema_at model_task n) = schema_at_right model_task (right task kept) n inside in
        record {
          checks = ap (check_schema arities) chosen_is ∙ passes;
          preconditions = subst ListKept (sym (ap (λ (s : Schema). s.preconditions) chosen_for)) (list_kept _ schema_right.preconditions_right.few);
          deletes = subst ListKept (sym (ap (λ (s : Schema). s.deletes) chosen_for)) (list_kept _ schema_right.deletes_right.few);
          adds = subst ListKept (sym (ap (λ (s : Schema). s.adds) chosen_for)) (list_kept _ schema_right.adds_right.few);
        }

  -- the facts, and room for their numbers
  pub facts_kept_lem : (numbers : List ℕ) → task.facts.count ≤ length numbers → FactsRight arities task.facts numbers
  unfolding task_of
  facts_kept_lem numbers room = record {
    right = task_shape.right;
    few = facts_few task kept;
    size = facts_size task kept;
    predicates_known =
        all_intro _ model_task.facts (λ f m. known_predicate arities task.objects f
        (all_at (known arities task.objects) model_task.facts (right task kept).facts_right.facts_known f m));
    room = room;
  }

  pub facts_known : all (known arities task.objects) model_task.facts ≡ true
  unfolding task_of
  facts_known = (right task kept).facts_right.facts_known
