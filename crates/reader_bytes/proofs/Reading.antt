-- Laws of what a read of the code answers.
use Rattle.std.proofs.Common.{Ok, Err}
use Prim.Native.Nat.{ℕ, ◌≤◌, ◌<◌, ◌+◌}
use native.Mathlib.Numerals.{add-one}
use mathlib.Core.List.{List}
use mathlib.Core.Path.{◌≡◌, ap, ◌∙◌, sym, subst}
use Rattle.std.specs.Result.{IsErrAnd}
use lib.ListN.{length, drop, get_or, drop_of_length-le}
use lib.Seq.{drop-cons}
use Rattle.model.specs.Answer.{Answer, refused, accepted}
use Rattle.model.specs.Card.{byte}
use Rattle.card.specs.declared.Refusal.{Refusal}
use Rattle.card.specs.Represents.{refusal_number}
use Rattle.reader_bytes.specs.declared.Cursor.{Cursor}
use Rattle.reader_bytes.specs.Reads.{Read, Reads}

module _ {A B : Type 0} {value : B → A} {keep : A → B} {card : List ℕ} {answer : Answer (A × List ℕ)} where
  -- a value read: its place is on the card, and it is kept as values are
  pub accepts : {c : Cursor} {b : B} → answer ≡ accepted (value b, drop c.at card) → c.at ≤ length card → b ≡ keep (value b)
      → Reads value keep card answer (Ok (b, c))
  accepts e w k = record { says = e; within = w; keeps = k }

  pub refuses : {r : Refusal} → answer ≡ refused (refusal_number r) → Reads value keep card answer (Err r)
  refuses e = record { says = e; within = tt; keeps = tt }

  -- a read is handed on as it is
  pub passed_on : {read read' : Read B} → read ≡ read' → Reads value keep card answer read' → Reads value keep card answer read
  passed_on e r = subst (λ read. Reads value keep card answer read) (sym e) r

  -- .. and by `?`, which keeps the refusal
  pub hands_on : (k : Refusal) (read : Read B) → IsErrAnd read (λ k'. k' ≡ k) → answer ≡ refused (refusal_number k)
      → Reads value keep card answer read
  hands_on k (Ok r) none e = absurd none
  hands_on k (Err k') same e = refuses (e ∙ ap (λ k. refused (refusal_number k)) (sym same))

  -- an answer to the same reading
  pub reads_as : {answer' : Answer (A × List ℕ)} {read : Read B} → answer ≡ answer' → Reads value keep card answer' read
      → Reads value keep card answer read
  reads_as e r = record { says = e ∙ r.says; within = r.within; keeps = r.keeps }

-- the byte at a place on the card
pub byte_at_lem : (card : List ℕ) (at : ℕ) → at < length card → byte (drop at card) ≡ accepted (get_or card at 0, drop (at + 1) card)
unfolding byte
byte_at_lem card at h = rw (add-one, drop-cons card at 0)

-- no byte past the card's end
pub byte_past : (card : List ℕ) (at : ℕ) → length card ≤ at → byte (drop at card) ≡ refused 1
unfolding byte
byte_past card at h = rw (drop_of_length-le card h)
