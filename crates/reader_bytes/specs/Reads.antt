-- What a read of the code answers, against the answer of a reader of the definitions.
use Rattle.std.specs.Prelude.{ℕ, ◌≤◌, List, ◌≡◌, length, drop, Result, Ok, Err, IfOk}
use Rattle.model.specs.Answer.{Answer, refused, accepted}
use Rattle.card.specs.declared.Refusal.{Refusal}
use Rattle.card.specs.Represents.{refusal_number}
use Rattle.reader_bytes.specs.declared.Cursor.{Cursor}

-- what a read answers
abbrev pub Read : Type 0 → Type 0
Read B = Result (B × Cursor) Refusal

-- what is said by a read: the value with the rest of the card, or the refusal's number
abbrev pub told : {A B : Type 0} → (B → A) → List ℕ → Read B → Answer (A × List ℕ)
told value card (Ok (b, c)) = accepted (value b, drop c.at card)
told value card (Err r) = refused (refusal_number r)

-- The code's whole answer: what it read stands for a value, by `value`; `keep` is how a value is kept.
pub record Reads
    {A B : Type 0}
    (value : B → A)
    (keep : A → B)
    (card : List ℕ)
    (answer : Answer (A × List ℕ))
    (read : Read B) : Type 0 where
  pub says : answer ≡ told value card read
  pub within : IfOk read (λ r. r.1.at ≤ length card)
  pub keeps : IfOk read (λ r. r.0 ≡ keep (value r.0))

abbrev pub ByteReads : List ℕ → Answer (ℕ × List ℕ) → Read ℕ → Type 0
ByteReads card answer r = Reads (λ b. b) (λ b. b) card answer r

-- the code's whole answer where the fact count is due
abbrev pub CountReads : List ℕ → Answer (ℕ × List ℕ) → Read ℕ → Type 0
CountReads card answer r = Reads (λ n. n) (λ n. n) card answer r
