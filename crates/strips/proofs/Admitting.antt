-- What may be applied: what a passed admission says, how a refusal is handed on, and that 1 to 19 come before whatever a call does with
-- the next state.
use Prim.Native.Nat.{ℕ}
use mathlib.Core.Path.{◌≡◌, refl, sym, ap, ◌∙◌, subst}
use mathlib.Core.Bool.{Bool, true, false, ◌&&◌}
use mathlib.Core.List.{List}
use lib.Dec.{ltb, eqb}
use lib.ListN.{length}
use Rattle.std.specs.Prelude.{Result, Ok, Err}
use borrow.Author.Tests.{eqb-true}
use Rattle.laws.specs.Lists.{all, distinct}
use Rattle.laws.proofs.Tests.{and_left, and_right}
use Rattle.model.specs.Answer.{Answer, refused, accepted, ◌>>=◌, ◌>>◌, need}
use Rattle.model.specs.Card.{Schema, Task, decode}
use Rattle.model.specs.Strips.{State, Action, facts_in, well_formed, applicable, successor, schema_at, check_objects, check_action, limited, progress, apply}
use Rattle.model.specs.Calls.{Call, finish, store, next_state, press_of, press}
use Rattle.model.proofs.Answers.{accepted_not_refused, one_number_lem, first_passed, then_passed, need_inv, then_accepted, then_refused}
use Rattle.card.specs.Represents.{Decodes, task_of}
use Rattle.card.proofs.Deciding.{refuses, accepts}
use Rattle.card.specs.declared.Decoded.{Decoded}
use Rattle.card.specs.declared.Refusal.{Refusal}
use Rattle.card.specs.declared.Verdict.TheVariants.{Accepted, Refused}
use Rattle.strips.specs.Admission.{Admissible, admit_schema, admission_of, admission}
use Rattle.strips.specs.Answers.{press_number, applied_says, admissible_of, Matches, Granted, Admits}
use Rattle.strips.specs.Steps.{storing}
use Rattle.strips.specs.declared.Admitted.{Admitted}
use Rattle.strips.specs.declared.PressRefusal.{PressRefusal}
use Rattle.strips.specs.declared.PressRefusal.TheVariants.{Card}

-- What passes 17 to 19.
pub record Passed (known : ℕ) (schema : Schema) (objects : List ℕ) (state : State) : Type 0 where
  pub one_for_each : length objects ≡ schema.parameters
  pub objects_known : all (λ o. ltb o known) objects ≡ true
  pub different : distinct objects ≡ true
  pub holds : applicable schema objects state ≡ true

pub admitted_tests : (known : ℕ) (schema : Schema) (objects : List ℕ) (state : State) → admit_schema known schema objects state ≡ accepted tt
    → Passed known schema objects state
unfolding admit_schema check_objects
admitted_tests known schema objects state e =
    let checks = first_passed _ _ tt e in
    let number : Bool = eqb (length objects) schema.parameters in
    let all_known : Bool = all (λ o. ltb o known) objects in
    let complete = need_inv (number && all_known) 17 (first_passed _ _ tt checks) in
    record {
      one_for_each = eqb-true _ _ (and_left number all_known complete);
      objects_known = and_right number all_known complete;
      different = need_inv _ 18 (then_passed _ _ tt checks);
      holds = need_inv _ 19 (then_passed _ _ tt e);
    }

-- what follows a check does not change its refusal
pub refused_alike : {A B : Type 0} (x : Answer (Unit {0})) (a : A) (b : B) {m : ℕ} → (x >> accepted a) ≡ refused m → (x >> accepted b) ≡ refused m
unfolding ◌>>◌
refused_alike (refused n) a b e = ap refused (one_number_lem e)
refused_alike (accepted done) a b e = accepted_not_refused e

-- nor does what is made of a value
pub refused_before : {A B : Type 0} (x : Answer A) (f : A → B) {m : ℕ} → (x >>= (λ a. accepted (f a))) ≡ refused m → x ≡ refused m
unfolding ◌>>=◌
refused_before (refused n) f e = ap refused (one_number_lem e)
refused_before (accepted a) f e = accepted_not_refused e

module _ {answer : Answer Admissible} {buffer : List ℕ} {count : ℕ} {objects : List ℕ} where
  -- a refusal
  pub refusing : {e : PressRefusal} → answer ≡ refused (press_number e) → Admits answer buffer count objects (Err e)
  unfolding applied_says ◌>>=◌
  refusing is = record { answers = sym is; granted = tt }

  -- what may be applied
  pub granting : {a : Admitted} → answer ≡ accepted (admissible_of a) → Granted buffer count objects a → Admits answer buffer count objects (Ok a)
  unfolding applied_says ◌>>=◌
  granting is g = record { answers = sym is; granted = g }

  -- a refusal of the admission is the call's
  pub refused_so : {e : PressRefusal} → Admits answer buffer count objects (Err e) → answer ≡ refused (press_number e)
  unfolding applied_says ◌>>=◌
  refused_so admits = sym admits.answers

  -- and what it grants may be applied
  pub granted_so : {a : Admitted} → Admits answer buffer count objects (Ok a) → answer ≡ accepted (admissible_of a)
  unfolding applied_says ◌>>=◌
  granted_so admits = sym admits.answers

-- the card's refusal comes first
module _ {card : List ℕ} {d : Decoded} (decodes : Decodes card d) (buffer : List ℕ) (count : ℕ) (action : Action) where
  pub card_not_admitted : {refusal : Refusal} {e : PressRefusal} → d.verdict ≡ Refused refusal → e ≡ Card refusal
      → admission card buffer count action ≡ refused (press_number e)
  unfolding admission press_number
  card_not_admitted {refusal} verdict is = then_refused _ (refuses card d decodes refusal verdict) ∙ ap (λ e. refused (press_number e)) (sym is)

  pub card_admitted : d.verdict ≡ Accepted → admission card buffer count action ≡ admission_of (task_of d.task) buffer count action
  unfolding admission
  card_admitted verdict = then_accepted _ (accepts card d decodes verdict)

-- Whatever follows the next state of an action, 1 to 19 come first and then 20.
module _ {A : Type 0} (card buffer : List ℕ) (count : ℕ) (action : Action) (go_on : List ℕ → Schema → State → Answer A) where
  -- what follows, on a task, and on what may be applied
  abbrev pub on_task : Task → Answer A
  on_task t = next_state t buffer count action >>= go_on t.arities (schema_at t action.schema)

  abbrev pub on_admitted : Admissible → Answer A
  on_admitted s = limited (successor s.schema action.objects (facts_in s.arities count buffer)) >>= go_on s.arities s.schema

  stages : (well : Bool) (checks : Answer (Unit {0})) (holds : Bool) (next : Answer State) (s : Admissible) (k : State → Answer A) (f : Admissible → Answer A)
      → f s ≡ (next >>= k)
      → ((need well 15 >> (checks >> (need holds 19 >> next))) >>= k) ≡ ((need well 15 >> (checks >> (need holds 19 >> accepted s))) >>= f)
  unfolding need ◌>>◌ ◌>>=◌
  stages false checks holds next s k f e = refl
  stages true (refused n) holds next s k f e = refl
  stages true (accepted done) false next s k f e = refl
  stages true (accepted done) true next s k f e = sym e

  by_card : (d : Answer Task) → (d >>= on_task) ≡ ((d >>= (λ t. admission_of t buffer count action)) >>= on_admitted)
  unfolding ◌>>=◌ admission_of next_state apply progress
  by_card (refused n) = refl
  by_card (accepted t) =
      stages (well_formed t.arities t.objects buffer count) (check_action t action)
      (applicable (schema_at t action.schema) action.objects (facts_in t.arities count buffer)) _ _ _ on_admitted refl

  pub admission_first : (decode card >>= on_task) ≡ (admission card buffer count action >>= on_admitted)
  unfolding admission
  admission_first = by_card (decode card)

-- A press: a refusal alters no byte, and of what may be applied the next state is stored.
module _ (card buffer : List ℕ) (count : ℕ) (action : Action) where
  pressing : press card buffer count action
      ≡ finish buffer (admission card buffer count action >>= on_admitted card buffer count action (λ arities schema next. accepted (store next buffer)))
  unfolding press press_of
  pressing = ap (finish buffer) (admission_first card buffer count action (λ arities schema next. accepted (store next buffer)))

  pub press_refused : {e : PressRefusal} → admission card buffer count action ≡ refused (press_number e)
      → Matches (press card buffer count action) buffer (Err e)
  unfolding finish applied_says
  press_refused {e} is =
      subst (λ (call : Call). Matches call buffer (Err e)) (sym (pressing ∙ ap (finish buffer) (then_refused _ is))) (record { answer = refl; buffer = refl })

  pub press_granted : {s : Admissible} {after : List ℕ} {answer : Result ℕ PressRefusal} → admission card buffer count action ≡ accepted s
      → Matches (storing buffer (limited (successor s.schema action.objects (facts_in s.arities count buffer)))) after answer
      → Matches (press card buffer count action) after answer
  unfolding storing
  press_granted {s} {after} {answer} e matches =
      subst (λ (call : Call). Matches call after answer) (sym (pressing ∙ ap (finish buffer) (then_accepted _ e))) matches
