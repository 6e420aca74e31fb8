-- The next open action in C: the numbers fit, and what is answered is what the definitions answer.
use Prim.Native.Nat.{ℕ, zero, suc, ◌≤◌, ◌<◌}
use native.Mathlib.Omega.{arith}
use mathlib.Core.Path.{◌≡◌, refl, sym, ap, ◌∙◌, subst}
use mathlib.Core.List.{List, [], ◌∷◌}
use mathlib.Core.Option.{Option, some}
use lib.IntN.{ℤ, pos, negsuc}
use lib.ListN.{length, get_or, take}
use lib.Seq.{ext_get_or}
use mir.Syntax.{w32}
use mir.Val.{SFits, to_z, of_z}
use mir.Facts.{to_z-of_z, to_z_pos}
use Rattle.std.specs.Prelude.{Option as Optional, Some, None, Ok, Err}
use Rattle.laws.specs.Lists.{padded}
use Rattle.model.specs.Answer.{Answer, refused, accepted}
use Rattle.model.specs.Card.{decode}
use Rattle.model.specs.Strips.{Action, facts_in, well_formed}
use Rattle.model.specs.Open.{check_given, next_open_of, next_open}
use Rattle.model.proofs.Answers.{then_inv, both_inv, need_both_inv, one_value}
use Rattle.model.proofs.Checked.{checked, schema_at_right}
use Rattle.model.proofs.OpenActions.{open_named, answered_next}
use Rattle.model.proofs.RoundTrip.{decode_checks}
use Rattle.open_actions.specs.Answers.{NextOpen, given_of, action_said, number_said, next_open_says, objects_in, Says}
use Rattle.open_actions.specs.declared.OpenAction.{OpenAction}
use Rattle.open_actions.specs.declared.OpenRefusal.{OpenRefusal}
use Rattle.capi.specs.Numbers.{signed}
use Rattle.capi.specs.Asking.{given_as, object_count, shown_in, count_said, bytes_said, SmallAction}
use Rattle.capi.proofs.Codes.{number_fits}

-- an action that is answered: its schema is one of 32, and it has at most six objects
action_small : (card buffer : List ℕ) (count : ℕ) (given : Option Action) (a : Action) → next_open card buffer count given ≡ accepted (some a)
    → (a.schema < 32) × (length a.objects ≤ 6)
unfolding next_open next_open_of
action_small card buffer count given a e =
    then_inv (decode card) (λ t. next_open_of t buffer count given) e (λ t decoded answered.
    need_both_inv (well_formed t.arities t.objects buffer count) 15 _ answered (λ well answered.
    both_inv (check_given t given) _ answered (λ passed answered.
    let s = facts_in t.arities count buffer in
    let right = checked t (decode_checks card t decoded) in
    let named = open_named t s a (answered_next t s given a (one_value answered)).open_now in
    let few = right.few_schemas in
    let known = named.schema_known in
    let short = (schema_at_right t right a.schema known).few_parameters in
    let full = named.full.one_for_each in
    (omega arith, omega arith))))

module _ (card buffer : List ℕ) (count : ℕ) (given : Option Action) {r : NextOpen} (says : Says (next_open card buffer count given) r) where
  pub found_small : SmallAction r
  unfolding next_open_says action_said objects_in
  found_small = record {
    small = λ a e.
        let is : next_open card buffer count given ≡ accepted (some (record { schema = a.schema; objects = take a.object_count a.objects })) =
        sym says.answers ∙ ap next_open_says e in
        let small = action_small card buffer count given _ is in
        let low = small.0 in
        let few = small.1 in
        let told = says.counted a e ∙ ap (λ (x : Answer (Option Action)). length (objects_in x)) is in
        (omega arith, omega arith);
  }

-- what is given is told from a number as it is read back
pub given_told : (z : ℤ) (schema : ℕ) {given : Optional ℕ} → SFits w32 z → given ≡ given_as (to_z w32 (of_z w32 z)) schema
    → given ≡ given_as z schema
given_told z schema fits e = e ∙ ap (λ (y : ℤ). given_as y schema) (to_z-of_z {w = w32} {z = z} fits)

-- the same said of what is given
pub asked_so : (card buffer : List ℕ) (count : ℕ) (objects : List ℕ) {given other : Optional ℕ} {r : NextOpen} → given ≡ other
    → Says (next_open card buffer count (given_of given objects)) r → Says (next_open card buffer count (given_of other objects)) r
asked_so card buffer count objects {r = r} e says = subst (λ (g : Optional ℕ). Says (next_open card buffer count (given_of g objects)) r) e says

-- the number and the bytes of the code's answer are those of the definitions
number_told : (r : NextOpen) {answer : Answer (Option Action)} → Says answer r → count_said r ≡ object_count (next_open_says r)
unfolding next_open_says action_said objects_in count_said object_count
number_told (Ok (Some a)) says = ap accepted (says.counted a refl ∙ ap (λ (x : Answer (Option Action)). length (objects_in x)) (sym says.answers))
number_told (Ok None) says = refl
number_told (Err e) says = refl

bytes_told : (bytes : List ℕ) (r : NextOpen) {answer : Answer (Option Action)} → Says answer r → bytes_said r bytes ≡ shown_in (next_open_says r) bytes
unfolding next_open_says action_said objects_in bytes_said shown_in
bytes_told bytes (Ok (Some a)) says =
    ap (λ (l : List ℕ). a.schema ∷ l)
    (says.rest_zero a refl ∙ ap (λ (x : Answer (Option Action)). padded 6 0 (objects_in x)) (sym says.answers))
bytes_told bytes (Ok None) says = refl
bytes_told bytes (Err e) says = refl

pub number_answered : {answer : Answer (Option Action)} {r : NextOpen} → Says answer r → count_said r ≡ object_count answer
number_answered {r = r} says = number_told r says ∙ ap object_count says.answers

pub bytes_answered : {answer : Answer (Option Action)} {r : NextOpen} (bytes : List ℕ) → Says answer r → bytes_said r bytes ≡ shown_in answer bytes
bytes_answered {r = r} bytes says = bytes_told bytes r says ∙ ap (λ (x : Answer (Option Action)). shown_in x bytes) says.answers

-- an array of six, element by element
pub six_objects : (objects : List ℕ) → length objects ≡ 6
    → get_or objects 0 0 ∷ get_or objects 1 0 ∷ get_or objects 2 0 ∷ get_or objects 3 0 ∷ get_or objects 4 0 ∷ get_or objects 5 0 ∷ [] ≡ objects
six_objects objects size = ext_get_or 0 _ objects (sym size) each
  where
    each : (i : ℕ) → i < 6
        → get_or (get_or objects 0 0 ∷ get_or objects 1 0 ∷ get_or objects 2 0 ∷ get_or objects 3 0 ∷ get_or objects 4 0 ∷ get_or objects 5 0 ∷ []) i 0 ≡ get_or objects i 0
    each zero h = refl
    each (suc zero) h = refl
    each (suc (suc zero)) h = refl
    each (suc (suc (suc zero))) h = refl
    each (suc (suc (suc (suc zero)))) h = refl
    each (suc (suc (suc (suc (suc zero))))) h = refl
    each (suc (suc (suc (suc (suc (suc i)))))) h = absurd (omega arith)

-- ---- the code's answer, case by case

pub given_none : (z : ℤ) (schema : ℕ) → SFits w32 z → of_z w32 z ≡ 0 → None ≡ given_as z schema
unfolding given_as
given_none z schema fits e = ap (λ (y : ℤ). given_as y schema) (sym (sym (to_z-of_z {w = w32} {z = z} fits) ∙ ap (to_z w32) e))

pub given_some : (z : ℤ) (schema : ℕ) → (of_z w32 z ≡ 0 → ⊥) → Some schema ≡ given_as z schema
unfolding given_as
given_some (pos zero) schema differs = absurd (differs refl)
given_some (pos (suc n)) schema differs = refl
given_some (negsuc n) schema differs = refl

-- the number of objects is answered as it is
pub few_fits : (n : ℕ) → n ≤ 6 → SFits w32 (pos n)
few_fits n h = number_fits n (omega arith)

module _ {next : NextOpen} {o : Optional OpenAction} (ok : next ≡ Ok o) where
  pub action_few : {a : OpenAction} → o ≡ Some a → SmallAction next → a.object_count ≤ 6
  action_few {a} is small = (small.small a (ok ∙ ap Ok is)).1

  pub action_code : {a : OpenAction} → o ≡ Some a → a.object_count ≤ 6 → to_z w32 a.object_count ≡ signed (count_said next)
  unfolding signed count_said
  action_code {a} is few = to_z_pos w32 (few_fits a.object_count few).sfits ∙ ap (λ (r : NextOpen). signed (count_said r)) (sym (ok ∙ ap Ok is))

  pub action_told : {a : OpenAction} (bytes : List ℕ) → o ≡ Some a → a.schema ∷ a.objects ≡ bytes_said next bytes
  unfolding bytes_said
  action_told bytes is = ap (λ (r : NextOpen). bytes_said r bytes) (sym (ok ∙ ap Ok is))

  pub end_code : o ≡ None → pos 0 ≡ signed (count_said next)
  unfolding signed count_said
  end_code is = ap (λ (r : NextOpen). signed (count_said r)) (sym (ok ∙ ap Ok is))

  pub end_told : (bytes : List ℕ) → o ≡ None → bytes ≡ bytes_said next bytes
  unfolding bytes_said
  end_told bytes is = ap (λ (r : NextOpen). bytes_said r bytes) (sym (ok ∙ ap Ok is))

module _ {next : NextOpen} {e : OpenRefusal} (err : next ≡ Err e) where
  pub refusal_code : {refusal : OpenRefusal} → e ≡ refusal → signed (refused (number_said refusal)) ≡ signed (count_said next)
  unfolding count_said
  refusal_code is = ap (λ (r : NextOpen). signed (count_said r)) (sym (err ∙ ap Err is))

  pub refusal_told : (bytes : List ℕ) → bytes ≡ bytes_said next bytes
  unfolding bytes_said
  refusal_told bytes = ap (λ (r : NextOpen). bytes_said r bytes) (sym err)
