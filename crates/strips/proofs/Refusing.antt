-- Refusals in their order: which check a stage refuses by, and what is left when its checks have passed.
use Prim.Native.Nat.{ℕ, ◌≤◌, ◌<◌}
use mathlib.Core.Path.{◌≡◌, refl, ap}
use mathlib.Core.Bool.{Bool, true, false, ◌&&◌}
use mathlib.Core.List.{List}
use lib.Dec.{ltb, eqb}
use lib.ListN.{length}
use Rattle.std.specs.Prelude.{Ok, Err}
use borrow.Author.Tests.{eq-eqb, ne_eqb, lt-ltb, le-ltb, le-leb, lt-leb}
use Rattle.laws.specs.Lists.{all, distinct}
use Rattle.laws.proofs.Tests.{and_intro, and_false_left, and_false_right}
use Rattle.model.specs.Answer.{Answer, refused, accepted, ◌>>◌, need}
use Rattle.model.specs.Card.{Schema, Task}
use Rattle.model.specs.Strips.{State, Action, state_bytes, facts_in, well_formed, applicable, schema_at, check_objects, check_action, written}
use Rattle.model.specs.Calls.{finish, store, initial_of}
use Rattle.strips.specs.Admission.{Admissible, admit_schema, admission_of}
use Rattle.strips.specs.Answers.{press_number, applied_says, Matches}
use Rattle.strips.specs.declared.PressRefusal.TheVariants.{StateMalformed, ObjectsWrong, ObjectsRepeated, PreconditionMissing}

-- 17 to 19
module _ (known : ℕ) (schema : Schema) (objects : List ℕ) (state : State) where
  complete : Bool
  complete = eqb (length objects) schema.parameters && all (λ o. ltb o known) objects

  -- what is to be answered: the first refusal, or none
  abbrev admitting : Answer (Unit {0})
  admitting = admit_schema known schema objects state

  objects_refused : complete ≡ false → applied_says (Err ObjectsWrong) ≡ admitting
  unfolding complete admit_schema check_objects need ◌>>◌ applied_says press_number
  objects_refused e = rw e refl

  pub wrong_number : (length objects ≡ schema.parameters → ⊥) → applied_says (Err ObjectsWrong) ≡ admitting
  unfolding complete
  wrong_number d = objects_refused (and_false_left _ _ (ne_eqb (length objects) schema.parameters d))

  pub unknown_object : all (λ o. ltb o known) objects ≡ false → applied_says (Err ObjectsWrong) ≡ admitting
  unfolding complete
  unknown_object e = objects_refused (and_false_right (eqb (length objects) schema.parameters) _ e)

  module _ (number : length objects ≡ schema.parameters) (all_are_known : all (λ o. ltb o known) objects ≡ true) where
    completes : complete ≡ true
    unfolding complete
    completes = and_intro _ _ (eq-eqb (length objects) schema.parameters number) all_are_known

    pub object_repeated : distinct objects ≡ false → applied_says (Err ObjectsRepeated) ≡ admitting
    unfolding complete admit_schema check_objects need ◌>>◌ applied_says press_number
    object_repeated e = rw (completes, e) refl

    pub precondition_missing : distinct objects ≡ true → applicable schema objects state ≡ false → applied_says (Err PreconditionMissing) ≡ admitting
    unfolding complete admit_schema check_objects need ◌>>◌ applied_says press_number
    precondition_missing d e = rw (completes, d, e) refl

    pub schema_passed : distinct objects ≡ true → applicable schema objects state ≡ true → applied_says (Ok tt) ≡ admitting
    unfolding complete admit_schema check_objects need ◌>>◌ applied_says press_number
    schema_passed d e = rw (completes, d, e) refl

-- 15 and 16
module _ (t : Task) (buffer : List ℕ) (count : ℕ) (action : Action) where
  pub state_malformed : well_formed t.arities t.objects buffer count ≡ false → admission_of t buffer count action ≡ refused 15
  unfolding admission_of need ◌>>◌
  state_malformed e = rw e refl

  module _ (well : well_formed t.arities t.objects buffer count ≡ true) where
    pub schema_unknown : length t.schemas ≤ action.schema → admission_of t buffer count action ≡ refused 16
    unfolding admission_of check_action need ◌>>◌
    schema_unknown h = rw (well, le-ltb action.schema (length t.schemas) h) refl

    -- the schema is named: 17 to 19 are left
    pub schema_named :
        action.schema < length t.schemas
        → admission_of t buffer count action
        ≡ (admit_schema t.objects (schema_at t action.schema) action.objects (facts_in t.arities count buffer)
        >> accepted (record { arities = t.arities; schema = schema_at t action.schema }))
    unfolding admission_of admit_schema check_action need ◌>>◌
    schema_named h =
        rw (well, lt-ltb action.schema (length t.schemas) h) (regrouped (check_objects t.objects (schema_at t action.schema) action.objects) _ _)
      where
        regrouped : (x y : Answer (Unit {0})) (z : Answer Admissible) → (x >> (y >> z)) ≡ ((x >> y) >> z)
        regrouped (refused n) y z = unfold ◌>>◌ in refl
        regrouped (accepted done) y z = unfold ◌>>◌ in refl

-- 15 of the opening call
module _ (t : Task) (buffer : List ℕ) where
  pub buffer_short : length buffer < state_bytes → Matches (finish buffer (initial_of t buffer)) buffer (Err StateMalformed)
  unfolding initial_of need ◌>>◌ finish applied_says press_number
  buffer_short h = rw (lt-leb state_bytes (length buffer) h) (record { answer = refl; buffer = refl })

  pub task_opened :
      {after : List ℕ} {n : ℕ} → state_bytes ≤ length buffer → n ≡ length t.facts → after ≡ written t.facts buffer
      → Matches (finish buffer (initial_of t buffer)) after (Ok n)
  unfolding initial_of need ◌>>◌ finish store applied_says press_number
  task_opened h p q = rw (le-leb state_bytes (length buffer) h) (record { answer = ap accepted p; buffer = q })
