-- Pressing and opening, for a task as the code keeps it: what its parts say of the definition.
use Prim.Native.Nat.{ℕ, ◌-◌, ◌≤◌, ◌<◌}
use native.Mathlib.Nat.{sub-zero}
use native.Mathlib.Omega.{arith}
use mathlib.Core.Path.{◌≡◌, sym, ap, ◌∙◌, subst}
use mathlib.Core.Bool.{Bool, true, false}
use mathlib.Core.List.{List, ◌++◌, map}
use lib.ListN.{length, get_or, take, drop, length-map}
use lib.Seq.{take_at}
use Rattle.std.specs.Prelude.{Ok, Err}
use Rattle.model.specs.Answer.{Answer, refused, accepted, ◌>>◌}
use Rattle.model.specs.Card as model
use Rattle.model.specs.Strips.{Action, state_bytes, facts_in, well_formed, schema_at}
use Rattle.model.specs.Calls.{finish, initial_of}
use Rattle.model.proofs.Answers.{both_accepted, both_refused}
use Rattle.card.specs.Represents.{arities_for, schema_of, schema_for, facts_of, task_of, task_for, blank_schema, Represented}
use Rattle.card.specs.declared.Schema.{Schema}
use Rattle.card.specs.declared.Task.{Task}
use Rattle.card.proofs.Counts.{predicates_inside, schema_count, fact_count_lem, facts_few}
use Rattle.card.proofs.Entries.{arities_part}
use Rattle.state.specs.Rows.{fact_number, stored, Shape}
use Rattle.state.proofs.FactNumbers.{stored_written}
use Rattle.actions.specs.Grounds.{FactsRight}
use Rattle.strips.specs.Admission.{Admissible, admit_schema, admission_of}
use Rattle.strips.specs.Answers.{press_number, applied_says, admissible_of, admitted_for, Matches, Granted}
use Rattle.strips.specs.Steps.{SchemaKept, StateKept}
use Rattle.strips.specs.declared.Admitted.{Admitted}
use Rattle.strips.specs.declared.PressRefusal.{PressRefusal}
use Rattle.strips.proofs.Admitting.{admitted_tests}
use Rattle.strips.proofs.Tasks.{model_task, arities, task_shape, few_schemas, chosen_is, chosen_for, chosen_kept}
use Rattle.strips.proofs.Tasks.{get_d_default, facts_kept_lem, facts_known}
use Rattle.strips.proofs.Refusing.{state_malformed, schema_unknown, schema_named, task_opened}

module _ (task : Task) (kept : Represented task (task_of task)) where
  -- the arities as they are lent
  abbrev pub part : List ℕ
  part = take (task.predicates.count - 0) task.predicates.arities

  same : part ≡ arities task kept
  same = arities_part task.predicates (predicates_inside task kept)

  pub part_right : model.in_range part ≡ true
  part_right = ap model.in_range same ∙ (task_shape task kept).right

  pub facts_right : (numbers : List ℕ) → task.facts.count ≤ length numbers → FactsRight part task.facts numbers
  facts_right numbers room = subst (λ (l : List ℕ). FactsRight l task.facts numbers) (sym same) (facts_kept_lem task kept numbers room)

  module _ (buffer : List ℕ) (count : ℕ) (action : Action) where
    -- what may be applied, by the task
    abbrev admitting : Answer Admissible
    admitting = admission_of (model_task task kept) buffer count action

    -- what 15 says
    formed : {r : Bool} → r ≡ well_formed part task.objects buffer count → r ≡ well_formed (arities task kept) task.objects buffer count
    formed e = e ∙ ap (λ (l : List ℕ). well_formed l task.objects buffer count) same

    pub refused_malformed : {r : Bool} → r ≡ well_formed part task.objects buffer count → r ≡ false → admitting ≡ refused 15
    unfolding task_of
    refused_malformed e f = state_malformed (model_task task kept) buffer count action (sym (formed e) ∙ f)

    module _ {r : Bool} (says : r ≡ well_formed part task.objects buffer count) (passed : r ≡ true) where
      well : well_formed (arities task kept) task.objects buffer count ≡ true
      well = sym (formed says) ∙ passed

      pub state_kept : StateKept part task.objects buffer count
      state_kept = record {
        shape = subst (λ (l : List ℕ). Shape l task.objects) (sym same) (task_shape task kept);
        well = sym says ∙ passed;
      }

      pub refused_unknown : task.schemas.count ≤ action.schema → admitting ≡ refused 16
      unfolding task_of
      refused_unknown h =
          schema_unknown (model_task task kept) buffer count action well (subst (λ (n : ℕ). n ≤ action.schema) (schema_count task kept) h)

      module _ (blank : Schema) (within : action.schema < task.schemas.count) where
        abbrev chosen : Schema
        chosen = get_or task.schemas.schemas action.schema blank

        usual : chosen ≡ get_or task.schemas.schemas action.schema blank_schema
        usual =
            get_d_default task.schemas.schemas action.schema blank blank_schema (few_schemas task kept action.schema within)

        pub schema_kept : SchemaKept part chosen
        schema_kept =
            subst (λ (l : List ℕ). SchemaKept l chosen) (sym same)
            (subst (SchemaKept (arities task kept)) (sym usual) (chosen_kept task kept action.schema within))

        -- the schema that is chosen is the one that is named
        chosen_named : schema_of part chosen ≡ schema_at (model_task task kept) action.schema
        chosen_named =
            ap (λ (l : List ℕ). schema_of l chosen) same ∙ ap (schema_of (arities task kept)) usual ∙ chosen_is task kept action.schema within

        -- what is left for it: 17 to 19
        abbrev with_schema : List ℕ → model.Schema → Answer Admissible
        with_schema l s =
            admit_schema task.objects s action.objects (facts_in l count buffer) >> accepted (record { arities = l; schema = s })

        schema_left : admitting ≡ with_schema part (schema_of part chosen)
        unfolding task_of
        schema_left =
            schema_named (model_task task kept) buffer count action well (subst (λ (n : ℕ). action.schema < n) (schema_count task kept) within)
            ∙ ap (λ (l : List ℕ). with_schema l (schema_at (model_task task kept) action.schema)) (sym same)
            ∙ ap (with_schema part) (sym chosen_named)

        -- the answer to 17 to 19
        abbrev checks : Answer (Unit {0})
        checks = admit_schema task.objects (schema_of part chosen) action.objects (facts_in part count buffer)

        -- a refusal is that of the action
        pub refused_schema : (e : PressRefusal) → applied_says (Err e) ≡ checks → admitting ≡ refused (press_number e)
        unfolding applied_says
        refused_schema e says = schema_left ∙ both_refused _ (sym says)

        -- an action that passes may be applied
        abbrev pub admitted : Admitted
        admitted = record { predicates = task.predicates; schema = chosen }

        pub schema_passed : applied_says (Ok tt) ≡ checks → admitting ≡ accepted (admissible_of admitted)
        unfolding applied_says
        schema_passed says = schema_left ∙ both_accepted _ (sym says)

        arities_whole : task.predicates ≡ arities_for part
        unfolding task_of task_for
        arities_whole = ap (λ (t : Task). t.predicates) kept.stands ∙ ap arities_for (sym same)

        schema_whole : chosen ≡ schema_for (schema_of part chosen)
        schema_whole = usual ∙ chosen_for task kept action.schema within ∙ ap schema_for (sym chosen_named)

        pub schema_granted : applied_says (Ok tt) ≡ checks → Granted buffer count action.objects admitted
        unfolding applied_says schema_of admitted_for
        schema_granted says =
            let tests = admitted_tests task.objects (schema_of part chosen) action.objects (facts_in part count buffer) (sym says) in
            record {
              inside = predicates_inside task kept;
              ready = record {
                known_objects = task.objects;
                state = state_kept;
                schema_kept = schema_kept;
                one_for_each = tests.one_for_each;
                objects_known = tests.objects_known;
                different = tests.different;
              };
              allowed = tests.holds;
              whole = λ i. record { predicates = arities_whole i; schema = schema_whole i };
            }

  -- the opening call: the numbers of the facts, at the front of an array, stored
  module _ (buffer numbers was : List ℕ) (loaded : numbers ≡ map fact_number (facts_of part task.facts) ++ drop task.facts.count was) where
    numbers_of_facts : take (task.facts.count - 0) numbers ≡ map fact_number (model_task task kept).facts
    unfolding task_of
    numbers_of_facts =
        ap (λ (k : ℕ). take k numbers) (sub-zero task.facts.count)
        ∙ ap (take task.facts.count) (loaded ∙ ap (λ (l : List ℕ). map fact_number (facts_of l task.facts) ++ drop task.facts.count was) same)
        ∙ take_at (map fact_number (model_task task kept).facts) _ task.facts.count
        (length-map (model_task task kept).facts fact_number ∙ sym (fact_count_lem task kept))

    pub numbers_few : length (take (task.facts.count - 0) numbers) ≤ 1024
    numbers_few =
        let size = ap length numbers_of_facts ∙ length-map (model_task task kept).facts fact_number in
        let count = fact_count_lem task kept in
        let few = facts_few task kept in
        omega arith

    pub opened :
        {after : List ℕ} → state_bytes ≤ length buffer → after ≡ stored (take (task.facts.count - 0) numbers) buffer
        → Matches (finish buffer (initial_of (model_task task kept) buffer)) after (Ok task.facts.count)
    opened large e =
        task_opened (model_task task kept) buffer large (fact_count_lem task kept)
        (e ∙ ap (λ (l : List ℕ). stored l buffer) numbers_of_facts
        ∙ stored_written (task_shape task kept) (model_task task kept).facts buffer (facts_known task kept))
