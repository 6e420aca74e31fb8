-- The call's answers in their order: which check refuses, and what is left when all have passed.
use Prim.Native.Nat.{ℕ, ◌+◌, ◌-◌, ◌≤◌, ◌<◌}
use mathlib.Core.Path.{◌≡◌, refl, sym, ap, ◌∙◌, subst}
use mathlib.Core.Bool.{Bool, true, false, ◌&&◌}
use mathlib.Core.Logic.{inl, inr}
use mathlib.Core.List.{List}
use mathlib.Core.Option.{Option}
use lib.Dec.{ltb, eqb}
use lib.ListN.{length, get_or, take}
use borrow.Author.Tests.{eq-eqb, ne_eqb, lt-ltb, le-ltb}
use Rattle.std.specs.Prelude.{Option as Optional, Some, None, Ok, Err, is_some}
use Rattle.laws.specs.Lists.{all, distinct}
use Rattle.laws.proofs.Tests.{and_intro, and_false_left, and_false_right}
use Rattle.model.specs.Answer.{Answer, refused, accepted, need}
use Rattle.model.specs.Strips.{Action, well_formed, check_objects}
use Rattle.model.specs.Open.{check_given, next_open_of, next_open}
use Rattle.model.proofs.Answers.{then_accepted, then_refused, both_accepted, both_refused, need_accepted, need_refused, need_both}
use Rattle.model.proofs.OpenActions.{action_of}
use Rattle.model.proofs.OpenBySchema.{from_start}
use Rattle.card.specs.Represents.{Decodes, schema_of, task_of, Represented}
use Rattle.card.specs.declared.Decoded.{Decoded}
use Rattle.card.specs.declared.Refusal.{Refusal}
use Rattle.card.specs.declared.Schema.{Schema}
use Rattle.card.specs.declared.SchemaList.{SchemaList}
use Rattle.card.specs.declared.Task.{Task}
use Rattle.card.specs.declared.Verdict.TheVariants.{Accepted, Refused}
use Rattle.card.proofs.Counts.{predicates_inside}
use Rattle.card.proofs.Deciding.{refuses, accepts}
use Rattle.card.proofs.Entries.{arities_part}
use Rattle.open_actions.specs.Answers.{NextOpen, given_of, number_said, next_open_says, Says}
use Rattle.open_actions.specs.Bindings.{Query, query_of, query_in, Full}
use Rattle.open_actions.specs.Ready.{unset, SchemasReady}
use Rattle.open_actions.specs.Schemas.{query_at, RestOfSchema, check_listed, GivenAnswered}
use Rattle.open_actions.specs.declared.OpenAction.{OpenAction}
use Rattle.open_actions.specs.declared.OpenRefusal.{OpenRefusal}
use Rattle.open_actions.specs.declared.OpenRefusal.TheVariants.{Card, StateMalformed, SchemaUnknown, ObjectsWrong, ObjectsRepeated}
use Rattle.open_actions.specs.declared.query.Query.{Query as Asked}
use Rattle.open_actions.proofs.OverSchemas.{TaskReady, state_in, SaysFrom, after_given, TaskAnswered, answered_now, action_now, end_now, answered_later}

-- a refusal
no_ok : {e : OpenRefusal} {r : Optional OpenAction} → ◌≡◌ {A = NextOpen} (Err e) (Ok r) → ⊥
no_ok e = cc

refused_says : {answer : Answer (Option Action)} {e : OpenRefusal} → answer ≡ refused (number_said e) → Says answer (Err e)
unfolding next_open_says
refused_says e = record { answers = sym e; counted = λ a is. absurd (no_ok is); rest_zero = λ a is. absurd (no_ok is) }

-- the parameters of the schema that a query is of
pub same_parameters : (asked : Asked) (arities : List ℕ) (known : ℕ) (schema : Schema) (buffer : List ℕ) (count : ℕ)
    → query_in asked ≡ query_of arities known schema buffer count → asked.schema.parameters ≡ schema.parameters
unfolding query_in query_of schema_of
same_parameters asked arities known schema buffer count e = ap (λ (q : Query). q.schema.parameters) e

-- ---- 16 to 18 of the given action

module _ {arities : List ℕ} {known : ℕ} {schemas : SchemaList} {buffer : List ℕ} {count : ℕ} (ready : SchemasReady arities known schemas buffer count)
    (given : Action) where
  abbrev check : Answer (Unit {0})
  check = check_listed arities known schemas given

  abbrev Answered : NextOpen → Type 0
  Answered = GivenAnswered arities known schemas buffer count given

  stopped_by : {e : OpenRefusal} → check ≡ refused (number_said e) → Answered (Err e)
  stopped_by {e} stops = inl (record { number = number_said e; refuses = stops; says = refused_says refl })

  pub schema_refused_lem : schemas.count ≤ given.schema → Answered (Err SchemaUnknown)
  unfolding check_listed number_said
  schema_refused_lem h = stopped_by (both_refused _ (need_refused 16 (le-ltb given.schema schemas.count h)))

  module _ (within : given.schema < schemas.count) where
    abbrev chosen : Schema
    chosen = get_or schemas.schemas given.schema unset

    objects_left : check ≡ check_objects known (schema_of arities chosen) given.objects
    unfolding check_listed
    objects_left = need_both 16 _ (lt-ltb given.schema schemas.count within)

    wrong : (eqb (length given.objects) chosen.parameters && all (λ o. ltb o known) given.objects) ≡ false → Answered (Err ObjectsWrong)
    unfolding check_objects schema_of number_said
    wrong e = stopped_by (objects_left ∙ both_refused _ (need_refused 17 e))

    pub number_refused : (length given.objects ≡ chosen.parameters → ⊥) → Answered (Err ObjectsWrong)
    number_refused differ = wrong (and_false_left _ _ (ne_eqb _ _ differ))

    pub object_refused : all (λ o. ltb o known) given.objects ≡ false → Answered (Err ObjectsWrong)
    object_refused e = wrong (and_false_right (eqb (length given.objects) chosen.parameters) _ e)

    module _ (number : length given.objects ≡ chosen.parameters) (all_are_known : all (λ o. ltb o known) given.objects ≡ true) where
      repeats_left : check ≡ need (distinct given.objects) 18
      unfolding check_objects schema_of
      repeats_left = objects_left ∙ need_both 17 _ (and_intro _ _ (eq-eqb _ _ number) all_are_known)

      pub repeat_refused : distinct given.objects ≡ false → Answered (Err ObjectsRepeated)
      unfolding number_said
      repeat_refused e = stopped_by (repeats_left ∙ need_refused 18 e)

      pub binding_ready : Full (query_at arities known schemas buffer count given.schema) given.objects
      unfolding query_of schema_of
      binding_ready = record { one_for_each = number; objects_known = all_are_known }

      pub given_answered : {r : Optional OpenAction} → distinct given.objects ≡ true
          → RestOfSchema (query_at arities known schemas buffer count given.schema) given r → Answered (Ok r)
      given_answered {r} e rest = inr (record { passes = repeats_left ∙ need_accepted 18 e; answer = r; rest = rest; is = refl })

-- ---- 15

module _ {task : Task} (kept : Represented task (task_of task)) (buffer : List ℕ) (count : ℕ) {r : Bool}
    (says : r ≡ well_formed (take (task.predicates.count - 0) task.predicates.arities) task.objects buffer count) where
  formed : r ≡ well_formed (task_of task).arities (task_of task).objects buffer count
  unfolding task_of
  formed = says ∙ ap (λ (l : List ℕ). well_formed l task.objects buffer count) (arities_part task.predicates (predicates_inside task kept))

  pub state_refused : (given : Option Action) → r ≡ false → Says (next_open_of (task_of task) buffer count given) (Err StateMalformed)
  unfolding next_open_of number_said
  state_refused given e = refused_says (both_refused _ (need_refused 15 (sym formed ∙ e)))

  pub task_ready : r ≡ true → TaskReady task buffer count
  task_ready e = record { represented = kept; well = sym formed ∙ e }

-- ---- whether an action is given

module _ {task : Task} {buffer : List ℕ} {count : ℕ} (ready : TaskReady task buffer count) {given : Optional ℕ} where
  -- with none given the first of all is answered
  pub first_answered : (objects : List ℕ) {first : ℕ} {answer : Optional OpenAction} → given ≡ None → first ≡ 0 → SaysFrom task buffer count first answer
      → Says (next_open_of (task_of task) buffer count (given_of given objects)) (Ok answer)
  unfolding next_open_of check_given given_of
  first_answered objects {first} {answer} is at_first says =
      subst (λ (a : Answer (Option Action)). Says a (Ok answer))
      (sym (ap (λ (g : Optional ℕ). next_open_of (task_of task) buffer count (given_of g objects)) is
      ∙ need_both 15 _ ready.well ∙ both_accepted _ refl ∙ ap accepted (from_start (task_of task) (state_in task buffer count))))
      (subst (λ (n : ℕ). SaysFrom task buffer count n answer) at_first says).says

  module _ {number : ℕ} (objects : List ℕ) (is : given ≡ Some number) where
    as_asked : {answer : NextOpen} → Says (after_given ready (action_of number objects)) answer
        → Says (next_open_of (task_of task) buffer count (given_of given objects)) answer
    unfolding next_open_of check_given given_of
    as_asked {answer} says =
        subst (λ (a : Answer (Option Action)). Says a answer)
        (sym (ap (λ (g : Optional ℕ). next_open_of (task_of task) buffer count (given_of g objects)) is ∙ need_both 15 _ ready.well))
        says

    -- its refusal
    pub given_refused : {e : OpenRefusal} → TaskAnswered ready (action_of number objects) (Err e)
        → Says (next_open_of (task_of task) buffer count (given_of given objects)) (Err e)
    given_refused answered = as_asked (answered_now ready (action_of number objects) answered no_ok)

    -- what is answered to it, unless that is the end of its schema
    pub next_answered : {next : Optional OpenAction} → TaskAnswered ready (action_of number objects) (Ok next) → is_some next ≡ true
        → Says (next_open_of (task_of task) buffer count (given_of given objects)) (Ok next)
    next_answered answered found = as_asked (action_now ready (action_of number objects) answered found)

    -- or else the first of a later schema
    pub later_answered : {next answer : Optional OpenAction} {first : ℕ} → TaskAnswered ready (action_of number objects) (Ok next) → is_some next ≡ false
        → first ≡ number + 1 → SaysFrom task buffer count first answer
        → Says (next_open_of (task_of task) buffer count (given_of given objects)) (Ok answer)
    later_answered {answer = answer} answered ends at_first says =
        as_asked (answered_later ready (action_of number objects) (end_now ready (action_of number objects) answered ends)
        (subst (λ (n : ℕ). SaysFrom task buffer count n answer) at_first says))

-- ---- the card

module _ {card : List ℕ} {d : Decoded} (decodes : Decodes card d) (buffer : List ℕ) (count : ℕ) (given : Option Action) where
  pub card_refused : {refusal : Refusal} → d.verdict ≡ Refused refusal → Says (next_open card buffer count given) (Err (Card refusal))
  unfolding next_open number_said
  card_refused {refusal} verdict = refused_says (then_refused _ (refuses card d decodes refusal verdict))

  pub card_accepted : {answer : NextOpen} → d.verdict ≡ Accepted → Says (next_open_of (task_of d.task) buffer count given) answer
      → Says (next_open card buffer count given) answer
  unfolding next_open
  card_accepted {answer} verdict says =
      subst (λ (a : Answer (Option Action)). Says a answer) (sym (then_accepted _ (accepts card d decodes verdict))) says
