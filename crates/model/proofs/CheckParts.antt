-- What the writer's check says of a table that it accepts, part by part.
use Prim.Native.Nat.{ℕ, ◌≤◌, ◌<◌}
use mathlib.Core.Path.{◌≡◌, refl, ◌∙◌}
use mathlib.Core.Bool.{Bool, true, false, ◌&&◌, not}
use mathlib.Core.Logic.{⊎_elim}
use mathlib.Core.List.Memᴰ
use mathlib.Core.List.{List, [], ◌∷◌, Memᴰ}
use mathlib.Core.Option.{Option, none, some}
use lib.Dec.{leb, ltb, eqb}
use lib.ListN.{length, get_or}
use borrow.Author.Tests.{leb-true, le-leb, lt-leb, eqb-true, eq-eqb}
use Rattle.laws.specs.Lists.{all}
use Rattle.laws.proofs.Tests.{and_left, and_right, and_intro, and_false_left, and_false_right}
use Rattle.model.specs.Answer.{Answer, accepted}
use Rattle.model.specs.Card.{Atom, Schema, Task, between, in_range, has}
use Rattle.model.specs.Writer.{each, known, check_schema_atom, check_list, check_schema, check_fact}
use Rattle.model.specs.Writer.{check_predicates, check_schemas, check_facts, check_task}
use Rattle.model.proofs.Answers.{RefusedWithin, accepted_not_refused, need_within, both_within, need_both_within, both_inv, both_accepted}
use Rattle.model.proofs.Answers.{need_inv, need_accepted, need_both, need_both_inv}

-- low ≤ n ≤ high, as a test and as a fact
pub between_parts : (low high n : ℕ) → between low high n ≡ true → (low ≤ n) × (n ≤ high)
unfolding between
between_parts low high n e =
    (leb-true low n (and_left (leb low n) (leb n high) e), leb-true n high (and_right (leb low n) (leb n high) e))

pub between_intro : (low high n : ℕ) → low ≤ n → n ≤ high → between low high n ≡ true
unfolding between
between_intro low high n p q = and_intro (leb low n) (leb n high) (le-leb low n p) (le-leb n high q)

pub between_below : (low high n : ℕ) → n < low → between low high n ≡ false
unfolding between
between_below low high n h = and_false_left (leb low n) (leb n high) (lt-leb low n h)

pub between_above : (low high n : ℕ) → high < n → between low high n ≡ false
unfolding between
between_above low high n h = and_false_right (leb low n) (leb n high) (lt-leb n high h)

-- a known atom: its predicate is one of the task, with as many arguments as its arity, each below the bound
pub record Known (arities : List ℕ) (bound : ℕ) (a : Atom) : Type 0 where
  pub predicate : ltb a.predicate (length arities) ≡ true
  pub arity : length a.arguments ≡ get_or arities a.predicate 0
  pub arguments : all (λ x. ltb x bound) a.arguments ≡ true

pub known_parts : (arities : List ℕ) (bound : ℕ) (a : Atom) → known arities bound a ≡ true → Known arities bound a
unfolding known
known_parts arities bound a e =
    let p = ltb a.predicate (length arities) in
    let q = eqb (length a.arguments) (get_or arities a.predicate 0) in
    let r = all (λ x. ltb x bound) a.arguments in
    record {
      predicate = and_left p q (and_left (p && q) r e);
      arity = eqb-true (length a.arguments) (get_or arities a.predicate 0) (and_right p q (and_left (p && q) r e));
      arguments = and_right (p && q) r e;
    }

pub known_intro : (arities : List ℕ) (bound : ℕ) (a : Atom) → Known arities bound a → known arities bound a ≡ true
unfolding known
known_intro arities bound a k =
    and_intro _ _ (and_intro _ _ k.predicate (eq-eqb (length a.arguments) (get_or arities a.predicate 0) k.arity)) k.arguments

-- each item of a list that passes was task-parts, told some item before it
pub each_at : {A : Type 0} (check : Option A → A → Answer (Unit {0})) (previous : Option A) (xs : List A)
    → each check previous xs ≡ accepted tt → (x : A) → Memᴰ x xs → (earlier : Option A) × (check earlier x ≡ accepted tt)
unfolding each
each_at check previous [] e x m = absurd (Memᴰ.not-nil m)
each_at check previous (y ∷ ys) e x m =
    both_inv (check previous y) _ e λ h k.
    ⊎_elim (λ p. (previous, rw p h)) (λ j. each_at check (some y) ys k x j) (Memᴰ.cases_cons m)

-- an accepted schema
pub record SchemaParts (arities : List ℕ) (s : Schema) : Type 0 where
  pub parameters : between 1 6 s.parameters ≡ true
  pub preconditions : check_list (check_schema_atom arities s.parameters (λ a. true) 8) s.preconditions ≡ accepted tt
  pub deletes : check_list (check_schema_atom arities s.parameters (has s.preconditions) 9) s.deletes ≡ accepted tt
  pub adds : check_list (check_schema_atom arities s.parameters (λ a. not (has s.preconditions a)) 10) s.adds ≡ accepted tt

pub schema_parts : (arities : List ℕ) (s : Schema) → check_schema arities s ≡ accepted tt → SchemaParts arities s
unfolding check_schema
schema_parts arities s e =
    need_both_inv (between 1 6 s.parameters) 5 _ e λ h₁ e₁.
    both_inv (check_list _ s.preconditions) _ e₁ λ h₂ e₂.
    both_inv (check_list _ s.deletes) _ e₂ λ h₃ h₄.
    record { parameters = h₁; preconditions = h₂; deletes = h₃; adds = h₄ }

pub check_schema_intro : (arities : List ℕ) (s : Schema) → SchemaParts arities s → check_schema arities s ≡ accepted tt
unfolding check_schema
check_schema_intro arities s c =
    need_both 5 _ c.parameters ∙ both_accepted _ c.preconditions ∙ both_accepted _ c.deletes ∙ c.adds

-- an accepted table
pub record TaskParts (t : Task) : Type 0 where
  pub predicates : between 1 20 (length t.arities) ≡ true
  pub arities : all (between 1 3) t.arities ≡ true
  pub objects : between 1 64 t.objects ≡ true
  pub few_schemas : leb (length t.schemas) 32 ≡ true
  pub schemas : each (λ previous. check_schema t.arities) none t.schemas ≡ accepted tt
  pub few_facts : leb (length t.facts) 512 ≡ true
  pub facts : each (check_fact t.arities t.objects) none t.facts ≡ accepted tt

pub task_parts : (t : Task) → check_task t ≡ accepted tt → TaskParts t
unfolding check_task check_predicates check_schemas check_facts in_range
task_parts t e =
    both_inv (check_predicates t.arities) _ e λ p e₁.
    need_both_inv (between 1 20 (length t.arities)) 2 _ p λ h₁ h₂.
    need_both_inv (between 1 64 t.objects) 3 _ e₁ λ h₃ e₂.
    both_inv (check_schemas t.arities t.schemas) _ e₂ λ s f.
    need_both_inv (leb (length t.schemas) 32) 4 _ s λ h₄ h₅.
    need_both_inv (leb (length t.facts) 512) 11 _ f λ h₆ h₇.
    record {
      predicates = h₁;
      arities = need_inv (in_range t.arities) 2 h₂;
      objects = h₃;
      few_schemas = h₄;
      schemas = h₅;
      few_facts = h₆;
      facts = h₇;
    }

pub check_task_intro : (t : Task) → TaskParts t → check_task t ≡ accepted tt
unfolding check_task check_predicates check_schemas check_facts in_range
check_task_intro t c =
    both_accepted _ (need_both 2 _ c.predicates ∙ need_accepted 2 c.arities) ∙ need_both 3 _ c.objects
    ∙ both_accepted _ (need_both 4 _ c.few_schemas ∙ c.schemas) ∙ need_both 11 _ c.few_facts ∙ c.facts

-- the writer refuses a table by a number from 2 to 13
each_within : {A : Type 0} (low high : ℕ) (check : Option A → A → Answer (Unit {0}))
    → ((previous : Option A) (x : A) → RefusedWithin low high (check previous x)) → (previous : Option A) (xs : List A)
    → RefusedWithin low high (each check previous xs)
unfolding each
each_within low high check f previous [] = λ n e. accepted_not_refused e
each_within low high check f previous (x ∷ xs) =
    both_within low high (check previous x) _ (f previous x) (each_within low high check f (some x) xs)

check_list_within : (check : Option Atom → Atom → Answer (Unit {0}))
    → ((previous : Option Atom) (a : Atom) → RefusedWithin 2 13 (check previous a)) → (atoms : List Atom)
    → RefusedWithin 2 13 (check_list check atoms)
unfolding check_list
check_list_within check f atoms = need_both_within 2 13 _ 6 _ refl (each_within 2 13 check f none atoms)

check_schema_atom_within : (arities : List ℕ) (parameters : ℕ) (test : Atom → Bool) (number : ℕ) → (leb 2 number && leb number 13) ≡ true
    → (previous : Option Atom) (a : Atom) → RefusedWithin 2 13 (check_schema_atom arities parameters test number previous a)
unfolding check_schema_atom
check_schema_atom_within arities parameters test number h previous a =
    need_both_within 2 13 _ 7 _ refl (need_both_within 2 13 _ 8 _ refl (need_within 2 13 _ number h))

check_schema_within : (arities : List ℕ) (s : Schema) → RefusedWithin 2 13 (check_schema arities s)
unfolding check_schema
check_schema_within arities s =
    let atoms = check_schema_atom_within arities s.parameters in
    need_both_within 2 13 _ 5 _ refl
    (both_within 2 13 _ _ (check_list_within _ (atoms _ 8 refl) s.preconditions)
    (both_within 2 13 _ _ (check_list_within _ (atoms _ 9 refl) s.deletes)
    (check_list_within _ (atoms _ 10 refl) s.adds)))

check_fact_within : (arities : List ℕ) (objects : ℕ) (previous : Option Atom) (f : Atom)
    → RefusedWithin 2 13 (check_fact arities objects previous f)
unfolding check_fact
check_fact_within arities objects previous f = need_both_within 2 13 _ 12 _ refl (need_within 2 13 _ 13 refl)

pub check_task_within : (t : Task) → RefusedWithin 2 13 (check_task t)
unfolding check_task check_predicates check_schemas check_facts
check_task_within t =
    both_within 2 13 _ _ (need_both_within 2 13 _ 2 _ refl (need_within 2 13 _ 2 refl))
    (need_both_within 2 13 _ 3 _ refl
    (both_within 2 13 _ _ (need_both_within 2 13 _ 4 _ refl (each_within 2 13 _ (λ previous. check_schema_within t.arities) none t.schemas))
    (need_both_within 2 13 _ 11 _ refl (each_within 2 13 _ (check_fact_within t.arities t.objects) none t.facts))))
