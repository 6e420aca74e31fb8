-- The next open action over the schemas of a task, from the first open binding of each.
use Prim.Native.Nat.{ℕ, zero, suc, ◌+◌, ◌-◌, ◌≤◌, ◌<◌}
use native.Mathlib.Omega.{arith}
use mathlib.Core.Path.{◌≡◌, refl, sym, ap, ◌∙◌, subst}
use mathlib.Core.Bool.{Bool, true, false}
use mathlib.Core.Logic.{◌⊎◌, ⊎_elim}
use mathlib.Core.List.{List, []}
use mathlib.Core.Option.{Option, none, some}
use lib.Dec.{ltb}
use lib.ListN.{length, get_or, take}
use borrow.Author.Tests.{ltb-true, ltb-false, lt-ltb}
use Rattle.std.specs.Prelude.{Option as Optional, Some, None, Ok, is_some}
use Rattle.std.proofs.lemmas.Option.{none-some, same_Some}
use Rattle.laws.specs.Lists.{padded}
use Rattle.laws.proofs.Tests.{by_test, never}
use Rattle.model.specs.Answer.{Answer, accepted, ◌>>◌}
use Rattle.model.specs.Card as model
use Rattle.model.specs.Strips.{Action, State, facts_in, well_formed, schema_at, check_objects, check_action}
use Rattle.model.specs.Open.{open_after}
use Rattle.model.proofs.Answers.{accepted_not_refused, both_accepted, both_refused, need_both, need_refused}
use Rattle.model.proofs.Bindings.{FirstBinding}
use Rattle.model.proofs.OpenActions.{Named, action_of, checked_named}
use Rattle.model.proofs.OpenBySchema.{admits, FullOf, open_from, from_next, from_found, from_end, after_found, after_past}
use Rattle.card.specs.Represents.{schema_of, task_of, blank_schema, Represented}
use Rattle.card.specs.declared.Schema.{Schema}
use Rattle.card.specs.declared.SchemaList.{SchemaList}
use Rattle.card.specs.declared.Task.{Task}
use Rattle.card.proofs.Counts.{right, predicates_inside, schema_count}
use Rattle.card.proofs.Entries.{arities_part}
use Rattle.strips.proofs.Tasks.{get_d_default, few_schemas, schema_below, chosen_is}
use Rattle.strips.proofs.Pressing.{state_kept, schema_kept}
use Rattle.open_actions.specs.Bindings.{Query, query_of, open_binding}
use Rattle.open_actions.specs.Answers.{NextOpen, action_said, next_open_says, objects_in, Says}
use Rattle.open_actions.specs.Ready.{SchemaReady, unset, SchemasReady}
use Rattle.open_actions.specs.Schemas.{NoneOpen, BindingPicked, query_at, PassedOver, FoundAmong, NoneAmong}
use Rattle.open_actions.specs.Schemas.{FoundAfter, NoneAfter, check_listed, GivenAnswered}
use Rattle.open_actions.specs.declared.OpenAction.{OpenAction}
use Rattle.open_actions.proofs.Searching.{binding_full}

-- A task as the code keeps it, and a well-formed state.
pub record TaskReady (task : Task) (buffer : List ℕ) (count : ℕ) : Type 0 where
  pub represented : Represented task (task_of task)
  pub well : well_formed (task_of task).arities (task_of task).objects buffer count ≡ true

-- the state in a buffer
abbrev pub state_in : Task → List ℕ → ℕ → State
state_in task buffer count = facts_in (task_of task).arities count buffer

-- The answer is the first open action of a schema or a later one.
pub record SaysFrom (task : Task) (buffer : List ℕ) (count first : ℕ) (r : Optional OpenAction) : Type 0 where
  pub says : Says (accepted (open_from (task_of task) (state_in task buffer count) first)) (Ok r)

same_ok : {a b : Optional OpenAction} → ◌≡◌ {A = NextOpen} (Ok a) (Ok b) → a ≡ b
same_ok e = cc

-- one schema more that allows no binding
pub pass_next : {arities : List ℕ} {known : ℕ} {schemas : SchemaList} {buffer : List ℕ} {count first number : ℕ}
    → PassedOver arities known schemas buffer count first number → number < schemas.count
    → NoneOpen (query_at arities known schemas buffer count number) (λ y. true)
    → PassedOver arities known schemas buffer count first (number + 1)
pass_next {arities} {known} {schemas} {buffer} {count} {first} {number} passed inside closed = record {
  started = let h = passed.started in omega arith;
  in_list = λ k h l. omega arith;
  none_open = λ k h l.
      by_test (ltb k number)
      (λ e. passed.none_open k h (ltb-true k number e))
      (λ e.
      subst (λ (n : ℕ). NoneOpen (query_at arities known schemas buffer count n) (λ y. true))
      (let past = ltb-false k number e in let same : number ≡ k = omega arith in same) closed);
}

-- an action is not the end
open_not_end : {C : Type 0} {a : OpenAction} → ◌≡◌ {A = Optional OpenAction} (Some a) None → C
open_not_end {a = a} e = absurd (none-some a (sym e))

-- the end
end_said : Says (accepted none) (Ok None)
unfolding next_open_says
end_said = record { answers = refl; counted = λ a is. absurd (none-some a (same_ok is)); rest_zero = λ a is. absurd (none-some a (same_ok is)) }

module _ {task : Task} {buffer : List ℕ} {count : ℕ} (ready : TaskReady task buffer count) where
  abbrev kept : Represented task (task_of task)
  kept = ready.represented

  abbrev t : model.Task
  t = task_of task

  abbrev state : State
  state = state_in task buffer count

  -- the arities as they are lent
  abbrev pub lent : List ℕ
  lent = take (task.predicates.count - 0) task.predicates.arities

  lent_is : lent ≡ t.arities
  unfolding task_of
  lent_is = arities_part task.predicates (predicates_inside task kept)

  well_lent : true ≡ well_formed lent task.objects buffer count
  unfolding task_of
  well_lent = sym (ap (λ (l : List ℕ). well_formed l task.objects buffer count) lent_is ∙ ready.well)

  module _ (number : ℕ) (within : number < task.schemas.count) where
    abbrev pub chosen : Schema
    chosen = get_or task.schemas.schemas number unset

    -- the bindings of the schema, as the code has them and as the definitions do
    abbrev query : Query
    query = query_at lent task.objects task.schemas buffer count number

    abbrev named : Query
    named = record { schema = schema_at t number; known = t.objects; state = state }

    pub schema_ready : SchemaReady lent task.objects chosen buffer count
    unfolding task_of
    schema_ready = record {
      state_kept = state_kept task kept buffer count (action_of number []) well_lent refl;
      schema_kept = schema_kept task kept buffer count (action_of number []) well_lent refl unset within;
      some_object = (right task kept).some_object;
    }

    schema_is : schema_of lent chosen ≡ schema_at t number
    unfolding task_of
    schema_is =
        ap (λ (l : List ℕ). schema_of l chosen) lent_is
        ∙ ap (schema_of t.arities) (get_d_default task.schemas.schemas number unset blank_schema (few_schemas task kept number within))
        ∙ chosen_is task kept number within

    query_is : query ≡ named
    unfolding query_of task_of
    query_is = λ i. record { schema = schema_is i; known = task.objects; state = ap (λ (l : List ℕ). facts_in l count buffer) lent_is i }

    pub parameters_are : chosen.parameters ≡ (schema_at t number).parameters
    unfolding schema_of
    parameters_are = ap (λ (s : model.Schema). s.parameters) schema_is

    pub schema_known : number < length t.schemas
    schema_known = omega (arith, within, schema_count task kept)

    -- what no binding of the schema says of the definitions
    closed : {among : List ℕ → Bool} → NoneOpen query among → (y : List ℕ) → FullOf t state number y → among y ≡ true
        → admits (schema_at t number) state y ≡ false
    unfolding open_binding
    closed {among} none_open y full e = subst (λ (q : Query). NoneOpen q among) query_is none_open y (binding_full {q = named} full) e

    pub passes_over : NoneOpen query (λ y. true) → open_from t state number ≡ open_from t state (number + 1)
    passes_over none_open = from_next t state number (λ y full. closed none_open y full refl)

    module _ {among : List ℕ → Bool} {array : List ℕ} (chooses : BindingPicked query among (Some array)) where
      abbrev objects : List ℕ
      objects = take (schema_at t number).parameters array

      chooses_named : BindingPicked named among (Some array)
      chooses_named = subst (λ (q : Query). BindingPicked q among (Some array)) query_is chooses

      first_admitted : FirstBinding t.objects (schema_at t number).parameters among (admits (schema_at t number) state) objects
      unfolding open_binding
      first_admitted = chooses_named.found array refl

      -- the answer with the binding's objects
      abbrev pub shown : OpenAction
      shown = record { schema = number; object_count = chosen.parameters; objects = array }

      binding_said : {result : Option Action} → result ≡ some (action_of number objects) → Says (accepted result) (Ok (Some shown))
      unfolding next_open_says action_said objects_in
      binding_said e =
          subst (λ (o : Option Action). Says (accepted o) (Ok (Some shown))) (sym e)
          (record {
            answers = ap (λ (n : ℕ). accepted (some (action_of number (take n array)))) parameters_are;
            counted = λ a is.
                subst (λ (a : OpenAction). a.object_count ≡ length objects) (same_Some shown a (same_ok is))
                (parameters_are ∙ sym first_admitted.full.one_for_each);
            rest_zero = λ a is.
                subst (λ (a : OpenAction). a.objects ≡ padded 6 0 objects) (same_Some shown a (same_ok is)) (chooses_named.rest_zero array refl);
          })

    -- the first open action of this schema
    pub found_first : {array : List ℕ} (chooses : BindingPicked query (λ y. true) (Some array)) → SaysFrom task buffer count number (Some (shown chooses))
    found_first chooses = record { says = binding_said chooses (from_found t state number schema_known _ (first_admitted chooses)) }

  -- schemas that are passed over
  module _ {first number : ℕ} (passed : PassedOver lent task.objects task.schemas buffer count first number) where
    from_passed : open_from t state first ≡ open_from t state number
    from_passed =
        up (number - first) (let h = passed.started in omega arith)
        ∙ ap (open_from t state) (let h = passed.started in let e : first + (number - first) ≡ number = omega arith in e)
      where
        up : (d : ℕ) → first + d ≤ number → open_from t state first ≡ open_from t state (first + d)
        up zero h = ap (open_from t state) (let e : first ≡ first + 0 = omega arith in e)
        up (suc d) h =
            up d (omega arith)
            ∙ passes_over (first + d) (passed.in_list (first + d) (omega arith) (omega arith))
            (passed.none_open (first + d) (omega arith) (omega arith))
            ∙ ap (open_from t state) (let e : first + d + 1 ≡ first + suc d = omega arith in e)

    pub says_passed : {r : Optional OpenAction} → SaysFrom task buffer count number r → SaysFrom task buffer count first r
    says_passed {r} from_number =
        record { says = subst (λ (o : Option Action). Says (accepted o) (Ok r)) (sym from_passed) from_number.says }

  -- past the last schema
  pub says_end : {number : ℕ} → task.schemas.count ≤ number → SaysFrom task buffer count number None
  says_end {number} past = record {
    says =
        subst (λ (o : Option Action). Says (accepted o) (Ok None))
        (sym (from_end t state number (omega (arith, past, schema_count task kept)))) end_said;
  }

  -- the schemas of the task, and what is found among them
  pub schemas_ready : SchemasReady lent task.objects task.schemas buffer count
  schemas_ready = record { few = schema_below task kept; each = schema_ready }

  pub says_among : {first : ℕ} {r : Optional OpenAction}
      → FoundAmong lent task.objects task.schemas buffer count first r ⊎ NoneAmong lent task.objects task.schemas buffer count first r
      → SaysFrom task buffer count first r
  says_among {first} =
      ⊎_elim
      (λ at.
      subst (SaysFrom task buffer count first) (sym at.is)
      (says_passed at.passed (found_first at.number at.within at.chooses)))
      (λ ends. subst (SaysFrom task buffer count first) (sym ends.is) (says_passed ends.passed (says_end ends.past)))

  -- ---- a given action

  module _ (given : Action) where
    abbrev pub after_given : Answer (Option Action)
    after_given = check_action t given >> accepted (open_after t state (some given))

    abbrev pub TaskAnswered : NextOpen → Type 0
    TaskAnswered = GivenAnswered lent task.objects task.schemas buffer count given

    -- the schemas of the list are those of the task
    checks_same : check_listed lent task.objects task.schemas given ≡ check_action t given
    unfolding check_listed check_action task_of
    checks_same =
        by_test (ltb given.schema task.schemas.count)
        (λ e.
        let within = ltb-true given.schema task.schemas.count e in
        need_both 16 _ e
        ∙ ap (λ (s : model.Schema). check_objects task.objects s given.objects) (schema_is given.schema within)
        ∙ sym (need_both 16 _ (lt-ltb given.schema (length t.schemas) (schema_known given.schema within))))
        (λ e.
        both_refused _ (need_refused 16 e)
        ∙ sym (both_refused _ (need_refused 16 (ap (ltb given.schema) (sym (schema_count task kept)) ∙ e))))

    module _ (passes : check_action t given ≡ accepted tt) where
      abbrev is_named : Named t given
      is_named = checked_named t given passes

      given_within : given.schema < task.schemas.count
      given_within = let h = is_named.schema_known in omega (arith, h, schema_count task kept)

      -- the next one of its schema
      found_next : {r : Optional OpenAction} → FoundAfter (query given.schema given_within) given r
          → Says (accepted (open_after t state (some given))) (Ok r)
      unfolding query_of schema_of
      found_next at =
          subst (λ (r : Optional OpenAction). Says (accepted (open_after t state (some given))) (Ok r)) (sym at.is)
          (binding_said given.schema given_within at.chooses
          (after_found t state given is_named.schema_known _ (first_admitted given.schema given_within at.chooses)))

      -- or else the first of a later one
      none_next : {r : Optional OpenAction} → NoneAfter (query given.schema given_within) given r
          → open_after t state (some given) ≡ open_from t state (given.schema + 1)
      none_next ends = after_past t state given (λ y full after. closed given.schema given_within ends.none_open y full after)

    -- an answer that is not the end is the call's
    pub answered_now : {r : NextOpen} → TaskAnswered r → (r ≡ Ok None → ⊥) → Says after_given r
    answered_now {r} answered not_end =
        ⊎_elim
        (λ refusal.
        subst (λ (a : Answer (Option Action)). Says a r) (sym (both_refused _ (sym checks_same ∙ refusal.refuses))) refusal.says)
        (λ passed.
        let passes = sym checks_same ∙ passed.passes in
        ⊎_elim
        (λ at. subst (λ (a : Answer (Option Action)). Says a r) (sym (both_accepted _ passes)) (subst (Says _) (sym passed.is) (found_next passes at)))
        (λ ends. absurd (not_end (passed.is ∙ ap Ok ends.is)))
        passed.rest)
        answered

    -- an action is not the end, and what is no action is
    pub action_now : {r : Optional OpenAction} → TaskAnswered (Ok r) → is_some r ≡ true → Says after_given (Ok r)
    action_now answered found = answered_now answered (λ e. never (sym found ∙ ap is_some (same_ok e)))

    pub end_now : {r : Optional OpenAction} → TaskAnswered (Ok r) → is_some r ≡ false → TaskAnswered (Ok None)
    end_now {r = None} answered e = answered
    end_now {r = Some a} answered e = never e

    -- after the end the later schemas are looked at
    later_left : TaskAnswered (Ok None) → (check_action t given ≡ accepted tt) × (open_after t state (some given) ≡ open_from t state (given.schema + 1))
    unfolding next_open_says
    later_left answered =
        ⊎_elim
        (λ refusal. accepted_not_refused refusal.says.answers)
        (λ passed.
        let passes = sym checks_same ∙ passed.passes in
        ⊎_elim
        (λ at. open_not_end (sym at.is ∙ sym (same_ok passed.is)))
        (λ ends. (passes, none_next passes ends))
        passed.rest)
        answered

    pub answered_later : {answer : Optional OpenAction} → TaskAnswered (Ok None) → SaysFrom task buffer count (given.schema + 1) answer
        → Says after_given (Ok answer)
    answered_later {answer} answered from_next_schema =
        let (passes, later) = later_left answered in
        subst (λ (a : Answer (Option Action)). Says a (Ok answer)) (sym (both_accepted _ passes ∙ ap accepted later)) from_next_schema.says

    pub given_small : TaskAnswered (Ok None) → given.schema < 32
    given_small answered = schema_below task kept given.schema (given_within (later_left answered).0)
