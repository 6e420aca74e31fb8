-- The check of a table in card order: predicates, objects, schemas, facts.
use Prim.Native.Nat.{ℕ, ◌≤◌, ◌<◌}
use mathlib.Core.Path.{◌≡◌}
use mathlib.Core.Bool.{true, false}
use mathlib.Core.List.{List}
use mathlib.Core.Option.{none}
use borrow.Author.Tests.{le-leb, lt-leb}
use Rattle.std.proofs.Common.{Ok, Err}
use Rattle.model.specs.Answer.{Answer, ◌>>◌, need}
use Rattle.model.specs.Card.{between, in_range}
use Rattle.model.specs.Writer.{each, check_schema, check_fact, check_predicates, check_schemas, check_facts, check_task}
use Rattle.card.specs.Represents.{arities_of, schemas_of, facts_of, task_of, refusal_number}
use Rattle.card.specs.declared.SchemaList.{SchemaList}
use Rattle.card.specs.declared.FactList.{FactList}
use Rattle.card.specs.declared.Task.{Task}
use Rattle.card.specs.declared.Refusal.{Refusal}
use Rattle.card.specs.declared.Refusal.TheVariants.{PredicateRange, ObjectRange, SchemaRange, FactRange}
use Rattle.writer_checks.specs.Checking.{checked_says, check_rest}
use Rattle.card.proofs.Entries.{length_arities, length_schemas, length_facts}
use Rattle.writer_checks.proofs.Sequence.{then_refused, then_passed}

module _ (arities : List ℕ) (objects : ℕ) (schemas : SchemaList) (facts : FactList) where
  pub wrong_objects : false ≡ between 1 64 objects → checked_says (Err ObjectRange) ≡ check_rest arities objects schemas facts
  unfolding checked_says check_rest need ◌>>◌ refusal_number
  wrong_objects h = rw (← h)

  module _ (known : true ≡ between 1 64 objects) where
    pub many_schemas : 32 < schemas.count → checked_says (Err SchemaRange) ≡ check_rest arities objects schemas facts
    unfolding checked_says check_rest check_schemas need ◌>>◌ refusal_number
    many_schemas h = rw (← known, length_schemas arities schemas, lt-leb schemas.count 32 h)

    module _ (few : schemas.count ≤ 32) where
      from_schemas : (answer : Answer (Unit {0}))
          → answer ≡ each (λ before. check_schema arities) none (schemas_of arities schemas) >> check_facts arities objects (facts_of arities facts)
          → answer ≡ check_rest arities objects schemas facts
      unfolding check_rest check_schemas need ◌>>◌
      from_schemas answer e = rw (← known, length_schemas arities schemas, le-leb schemas.count 32 few) e

      pub schemas_refused : (r : Refusal) → checked_says (Err r) ≡ each (λ before. check_schema arities) none (schemas_of arities schemas)
          → checked_says (Err r) ≡ check_rest arities objects schemas facts
      schemas_refused r says = from_schemas _ (then_refused r _ says)

      module _ (done : Unit {0}) (passed : checked_says (Ok done) ≡ each (λ before. check_schema arities) none (schemas_of arities schemas)) where
        pub many_facts : 512 < facts.count → checked_says (Err FactRange) ≡ check_rest arities objects schemas facts
        unfolding checked_says check_facts need ◌>>◌ refusal_number
        many_facts h = from_schemas _ (then_passed done passed (rw (length_facts arities facts, lt-leb facts.count 512 h)))

        pub few_facts : facts.count ≤ 512 → (answer : Answer (Unit {0}))
            → answer ≡ each (check_fact arities objects) none (facts_of arities facts) → answer ≡ check_rest arities objects schemas facts
        unfolding check_facts need ◌>>◌
        few_facts h answer e = from_schemas _ (then_passed done passed (rw (length_facts arities facts, le-leb facts.count 512 h) e))

module _ (t : Task) where
  pub wrong_count : false ≡ between 1 20 t.predicates.count → checked_says (Err PredicateRange) ≡ check_task (task_of t)
  unfolding checked_says check_task check_predicates task_of need ◌>>◌ refusal_number
  wrong_count h = rw (length_arities t.predicates, ← h)

  module _ (known : true ≡ between 1 20 t.predicates.count) (part : List ℕ) (read : part ≡ arities_of t.predicates) where
    pub bad_arity : false ≡ in_range part → checked_says (Err PredicateRange) ≡ check_task (task_of t)
    unfolding checked_says check_task check_predicates task_of need ◌>>◌ refusal_number
    bad_arity bad = rw (length_arities t.predicates, ← known, ← read, ← bad)

    pub good_arities : true ≡ in_range part → (answer : Answer (Unit {0}))
        → answer ≡ check_rest part t.objects t.schemas t.facts → answer ≡ check_task (task_of t)
    unfolding check_task check_predicates task_of check_rest need ◌>>◌
    good_arities good answer h = rw (length_arities t.predicates, ← known, ← read, ← good) h
