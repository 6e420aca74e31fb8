-- Every value that a call answers is small: a state has at most 1,024 facts, and a card at most 5,305 bytes.
use Prim.Native.Nat.{ℕ, ◌≤◌}
use native.Mathlib.Omega.{arith}
use mathlib.Core.Path.{◌≡◌, refl, sym, ap, ◌∙◌, subst}
use mathlib.Core.Bool.{Bool, true, false}
use mathlib.Core.Logic.{⊎_elim}
use mathlib.Core.List.{List}
use lib.Dec.{leb}
use lib.ListN.{length}
use Rattle.std.specs.Prelude.{Result}
use Rattle.model.specs.Answer.{Answer, refused, accepted, ◌>>◌, need}
use Rattle.model.specs.Card.{Task, decode}
use Rattle.model.specs.Writer.{check_task, task_bytes}
use Rattle.model.specs.Strips.{Action}
use Rattle.model.specs.Calls.{Call, output_bytes, finish, output, encode, initial, press}
use Rattle.model.proofs.Answers.{one_value, by_answer, not_accepted, then_refused}
use Rattle.model.proofs.Checked.{checked}
use Rattle.model.proofs.RoundTrip.{decode_checks, card_length}
use Rattle.model.proofs.History.{opened, press_cases}
use Rattle.card.specs.declared.Task.{Task as Kept}
use Rattle.strips.specs.Answers.{applied_says, Matches}
use Rattle.strips.specs.declared.PressRefusal.{PressRefusal}
use Rattle.card.specs.Represents.{task_of}
use Rattle.writer.specs.Answers.{writing_says, Encodes}
use Rattle.writer.specs.declared.WriterRefusal.{WriterRefusal}
use Rattle.capi.specs.Numbers.{Small}

-- a call that has refused answers no value
no_value : {C : Type 0} (answer : Answer ℕ) (n k : ℕ) → answer ≡ accepted n → answer ≡ refused k → C
no_value answer n k e e₁ = not_accepted k n (sym e₁ ∙ e)

module _ (card buffer : List ℕ) where
  opening_refused : (k : ℕ) → decode card ≡ refused k → (initial card buffer).answer ≡ refused k
  unfolding initial finish
  opening_refused k e = ap (λ (x : Answer Call). (finish buffer x).answer) (then_refused _ e)

  pressing_refused : (count : ℕ) (action : Action) (k : ℕ) → decode card ≡ refused k → (press card buffer count action).answer ≡ refused k
  unfolding press finish
  pressing_refused count action k e = ap (λ (x : Answer Call). (finish buffer x).answer) (then_refused _ e)

  -- the opening call answers the number of the card's facts
  pub initial_small : Small (initial card buffer).answer
  initial_small = record {
    within = λ n e. by_answer (decode card)
        (λ t d. let count = (opened card t d buffer n e).all_counted in
        let few = (checked t (decode_checks card t d)).few_facts in
        omega arith)
        (λ k d. no_value _ n k e (opening_refused k d));
  }

  -- a press answers the number of the next state's facts
  pub press_small : (count : ℕ) (action : Action) → Small (press card buffer count action).answer
  press_small count action = record {
    within = λ n e. by_answer (decode card)
        (λ t d. ⊎_elim (λ r. no_value _ n r.number e r.answered)
        (λ p. let counted : length p.next ≡ n = one_value (sym p.next_counted ∙ e) in
        let few = p.was_applied.few_next in
        omega arith)
        (press_cases card t d buffer count action))
        (λ k d. no_value _ n k e (pressing_refused count action k d));
  }

-- the card writer answers the length of the card
encode_small : (t : Task) (out : List ℕ) → Small (encode t out).answer
unfolding encode
encode_small t out = record { within = λ n e. go n (check_task t) refl (leb output_bytes (length out)) e }
  where
    go : (n : ℕ) (x : Answer (Unit {0})) → check_task t ≡ x → (b : Bool)
        → (finish out (x >> (need b 21 >> accepted (output (task_bytes t) out)))).answer ≡ accepted n → n ≤ output_bytes
    go n (refused k) c b e = not_accepted k n (unfold finish ◌>>◌ in e)
    go n (accepted u) c false e = not_accepted 21 n (unfold finish ◌>>◌ need in e)
    go n (accepted u) c true e =
        let size : length (task_bytes t) ≡ n = one_value (unfold finish ◌>>◌ need output in e) in
        let few = card_length t c in
        omega arith

-- so what the functions answer is small
pub does_small : {call : Call} {after : List ℕ} {r : Result ℕ PressRefusal} → Matches call after r → Small call.answer → Small (applied_says r)
does_small does small = subst Small (sym does.answer) small

pub encodes_small : {t : Kept} {out after : List ℕ} {w : Result ℕ WriterRefusal} → Encodes t out after w → Small (writing_says w)
encodes_small {t} {out} encodes = subst Small (sym encodes.answer) (encode_small (task_of t) out)
