-- What the checks of document 01 say of a task and an action that pass them.
use Prim.Native.Nat.{ℕ, ◌≤◌, ◌<◌}
use mathlib.Core.Path.{◌≡◌, refl, ap, ◌∙◌}
use mathlib.Core.Bool.{Bool, true, not}
use mathlib.Core.Logic.{⊎_elim}
use mathlib.Core.Option.{Option, none, some}
use mathlib.Core.List.{List, [], ◌∷◌}
use mathlib.Core.List.Memᴰ
use mathlib.Core.List.{Memᴰ}
use lib.Dec.{eqb, ltb, leb}
use lib.ListN.{length, get_or}
use borrow.Author.Tests.{eqb-true, ltb-true, leb-true}
use Rattle.laws.specs.Lists.{all, distinct}
use Rattle.laws.proofs.Tests.{and_left, and_right, and_intro}
use Rattle.laws.proofs.Lists.{all_at, mem_get_d}
use Rattle.model.specs.Answer.{Answer, accepted}
use Rattle.model.specs.Card.{Atom, Schema, Task, has, above, between, in_range}
use Rattle.model.specs.Writer.{each, known, check_schema_atom, check_list, check_schema, check_fact, check_task}
use Rattle.model.specs.Strips.{Action, ascending}
use Rattle.model.specs.Strips.{schema_at, check_objects, check_action}
use Rattle.model.proofs.Valid.{Valid}
use Rattle.model.proofs.Order.{ascending_cons}
use Rattle.model.proofs.CheckParts.{schema_parts, task_parts}
use Rattle.model.proofs.Answers.{need_inv, first_passed, then_passed, need_passed, need_then}

-- a number between two others
pub between_low : (low high n : ℕ) → between low high n ≡ true → low ≤ n
unfolding between
between_low low high n e = leb-true low n (and_left (leb low n) (leb n high) e)

pub between_high : (low high n : ℕ) → between low high n ≡ true → n ≤ high
unfolding between
between_high low high n e = leb-true n high (and_right (leb low n) (leb n high) e)

module _ {A : Type 0} (check : Option A → A → Answer (Unit {0})) where
  -- items that passed their checks pass a test that each check asks
  pub each_all :
      (test : A → Bool) → ((previous : Option A) (x : A) → check previous x ≡ accepted tt → test x ≡ true)
      → (previous : Option A) (xs : List A) → each check previous xs ≡ accepted tt → all test xs ≡ true
  unfolding each all
  each_all test f previous [] e = refl
  each_all test f previous (x ∷ xs) e =
      and_intro (test x) (all test xs) (f previous x (first_passed (check previous x) (each check (some x) xs) tt e))
      (each_all test f (some x) xs (then_passed (check previous x) (each check (some x) xs) tt e))

-- atoms that passed checks of their order are ascending
pub each_ascending :
    (check : Option Atom → Atom → Answer (Unit {0}))
    → ((previous : Option Atom) (x : Atom) → check previous x ≡ accepted tt → above previous x ≡ true)
    → (previous : Option Atom) (xs : List Atom) → each check previous xs ≡ accepted tt → ascending previous xs ≡ true
unfolding each ascending
each_ascending check f previous [] e = refl
each_ascending check f previous (x ∷ xs) e =
    ascending_cons previous x xs (f previous x (first_passed (check previous x) (each check (some x) xs) tt e))
    (each_ascending check f (some x) xs (then_passed (check previous x) (each check (some x) xs) tt e))

-- What the check of a schema's list says of it: known, ascending, and each atom passes the list's own test.
pub record CheckedList (arities : List ℕ) (parameters : ℕ) (test : Atom → Bool) (atoms : List Atom) : Type 0 where
  pub few : length atoms ≤ 8
  pub atoms_known : all (known arities parameters) atoms ≡ true
  pub in_order : ascending none atoms ≡ true
  pub atoms_pass : all test atoms ≡ true

pub checked_list :
    (arities : List ℕ) (parameters : ℕ) (test : Atom → Bool) (number : ℕ) (atoms : List Atom)
    → check_list (check_schema_atom arities parameters test number) atoms ≡ accepted tt → CheckedList arities parameters test atoms
unfolding check_list check_schema_atom
checked_list arities parameters test number atoms e =
    let check : Option Atom → Atom → Answer (Unit {0}) = check_schema_atom arities parameters test number in
    let rest = need_then (leb (length atoms) 8) 6 (each check none atoms) tt e in
    record {
      few = leb-true (length atoms) 8 (need_passed (leb (length atoms) 8) 6 (each check none atoms) tt e);
      atoms_known = each_all check (known arities parameters) (λ previous a c. need_passed _ _ _ _ c) none atoms rest;
      in_order = each_ascending check (λ previous a c. need_passed _ _ _ _ (need_then _ _ _ _ c)) none atoms rest;
      atoms_pass = each_all check test (λ previous a c. need_inv _ _ (need_then _ _ _ _ (need_then _ _ _ _ c))) none atoms rest;
    }

-- What the check of a schema says of it.
pub record CheckedSchema (arities : List ℕ) (s : Schema) : Type 0 where
  pub some_parameter : 1 ≤ s.parameters
  pub few_parameters : s.parameters ≤ 6
  pub preconditions_right : CheckedList arities s.parameters (λ a. true) s.preconditions
  pub deletes_right : CheckedList arities s.parameters (has s.preconditions) s.deletes
  pub adds_right : CheckedList arities s.parameters (λ a. not (has s.preconditions a)) s.adds

pub checked_schema : (arities : List ℕ) (s : Schema) → check_schema arities s ≡ accepted tt → CheckedSchema arities s
checked_schema arities s e =
    let c = schema_parts arities s e in
    record {
      some_parameter = between_low 1 6 s.parameters c.parameters;
      few_parameters = between_high 1 6 s.parameters c.parameters;
      preconditions_right = checked_list arities s.parameters _ 8 s.preconditions c.preconditions;
      deletes_right = checked_list arities s.parameters _ 9 s.deletes c.deletes;
      adds_right = checked_list arities s.parameters _ 10 s.adds c.adds;
    }

-- What the check of a task says of it.
pub record Checked (t : Task) : Type 0 where
  pub some_predicate : 1 ≤ length t.arities
  pub few_predicates : length t.arities ≤ 20
  pub arities_right : all (between 1 3) t.arities ≡ true
  pub some_object : 1 ≤ t.objects
  pub few_objects : t.objects ≤ 64
  pub few_schemas : length t.schemas ≤ 32
  pub schemas_right : (s : Schema) → Memᴰ s t.schemas → CheckedSchema t.arities s
  pub few_facts : length t.facts ≤ 512
  pub facts_right : Valid t t.facts

-- an item that is among those checked passed its check, for checks that do not look at the item before
pub each_passed :
    {A : Type 0} (check : A → Answer (Unit {0})) (previous : Option A) (xs : List A) → each (λ p. check) previous xs ≡ accepted tt
    → (x : A) → Memᴰ x xs → check x ≡ accepted tt
unfolding each
each_passed check previous [] e x m = absurd (Memᴰ.not-nil m)
each_passed check previous (y ∷ ys) e x m =
    ⊎_elim (λ p. ap check p ∙ first_passed _ _ _ e) (λ k. each_passed check (some y) ys (then_passed _ _ _ e) x k)
    (Memᴰ.cases_cons m)

pub checked : (t : Task) → check_task t ≡ accepted tt → Checked t
unfolding check_fact
checked t e =
    let c = task_parts t e in
    record {
      some_predicate = between_low 1 20 _ c.predicates;
      few_predicates = between_high 1 20 _ c.predicates;
      arities_right = c.arities;
      some_object = between_low 1 64 _ c.objects;
      few_objects = between_high 1 64 _ c.objects;
      few_schemas = leb-true _ 32 c.few_schemas;
      schemas_right = λ s m. checked_schema t.arities s (each_passed (check_schema t.arities) none t.schemas c.schemas s m);
      few_facts = leb-true _ 512 c.few_facts;
      facts_right = record {
        facts_known = each_all (check_fact t.arities t.objects) (known t.arities t.objects) (λ previous f p. need_passed _ _ _ _ p)
            none t.facts c.facts;
        in_order = each_ascending (check_fact t.arities t.objects) (λ previous f p. need_inv _ _ (need_then _ _ _ _ p)) none t.facts c.facts;
      };
    }

-- the arity of a known predicate is 1 to 3
pub arity_within : (arities : List ℕ) (p : ℕ) → in_range arities ≡ true → p < length arities → (1 ≤ get_or arities p 0) × (get_or arities p 0 ≤ 3)
unfolding in_range
arity_within arities p right h =
    let e = all_at (between 1 3) arities right (get_or arities p 0) (mem_get_d arities p 0 h) in
    (between_low 1 3 _ e, between_high 1 3 _ e)

pub arity_low : (t : Task) → Checked t → (p : ℕ) → p < length t.arities → 1 ≤ get_or t.arities p 0
unfolding in_range
arity_low t c p h = (arity_within t.arities p c.arities_right h).0

pub arity_high : (t : Task) → Checked t → (p : ℕ) → p < length t.arities → get_or t.arities p 0 ≤ 3
unfolding in_range
arity_high t c p h = (arity_within t.arities p c.arities_right h).1

-- the schema of a number in range is one of the task's
pub schema_at_right : (t : Task) → Checked t → (n : ℕ) → n < length t.schemas → CheckedSchema t.arities (schema_at t n)
unfolding schema_at
schema_at_right t c n h = c.schemas_right (schema_at t n) (mem_get_d t.schemas n _ h)

-- What the check of an action says of it.
pub record CheckedAction (t : Task) (a : Action) : Type 0 where
  pub schema_known : a.schema < length t.schemas
  pub one_for_each : length a.objects ≡ (schema_at t a.schema).parameters
  pub objects_known : all (λ o. ltb o t.objects) a.objects ≡ true
  pub all_different : distinct a.objects ≡ true

pub checked_action : (t : Task) (a : Action) → check_action t a ≡ accepted tt → CheckedAction t a
unfolding check_action check_objects
checked_action t a e =
    let e₂ = need_then _ 16 _ tt e in
    let enough : Bool = eqb (length a.objects) (schema_at t a.schema).parameters in
    let bound = need_passed _ 17 _ tt e₂ in
    record {
      schema_known = ltb-true _ _ (need_passed _ 16 _ tt e);
      one_for_each = eqb-true _ _ (and_left enough _ bound);
      objects_known = and_right enough _ bound;
      all_different = need_inv _ 18 (need_then _ 17 _ tt e₂);
    }
