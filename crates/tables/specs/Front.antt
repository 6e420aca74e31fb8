-- What the card writer answers and leaves where it is lent the front of a buffer, and the bytes that tell its answer.
use Rattle.std.specs.Prelude.{ℕ, ◌/◌, ◌%◌, ◌≡◌, List, [], ◌∷◌, ◌++◌, length, take, drop, Result}
use Rattle.model.specs.Answer.{Answer, refused, accepted}
use Rattle.model.specs.Calls.{Call, encode}
use Rattle.card.specs.declared.Task.{Task}
use Rattle.card.specs.Represents.{task_of}
use Rattle.writer.specs.declared.WriterRefusal.{WriterRefusal}
use Rattle.writer.specs.Answers.{writing_says}
use Rattle.tables.specs.Flat.{table_from, lent_from}

-- the number of a refusal; none is 0
unfoldable pub number_of : Answer ℕ → ℕ
number_of (refused number) = number
number_of (accepted length) = 0

-- the length of a card; a refusal has none
unfoldable pub length_of : Answer ℕ → ℕ
length_of (refused number) = 0
length_of (accepted length) = length

-- the answer in three bytes: the number, and the length, high byte first
unfoldable pub head_of : Answer ℕ → List ℕ
head_of answer = number_of answer ∷ length_of answer / 256 % 256 ∷ length_of answer % 256 ∷ []

-- the writer's call on the front of a buffer; what is not lent stays
unfoldable pub encode_front : Task → ℕ → List ℕ → Call
encode_front t lent out =
    let call = encode (task_of t) (take lent out) in
    record { answer = call.answer; buffer = call.buffer ++ drop lent out }

-- what was written, and the whole buffer as the writer leaves it
pub record EncodesFront (t : Task) (lent : ℕ) (out after : List ℕ) (w : Result ℕ WriterRefusal) : Type 0 where
  pub answer : writing_says w ≡ (encode_front t lent out).answer
  pub buffer : after ≡ (encode_front t lent out).buffer

-- a flat table is answered: the bytes that tell the answer, and the whole buffer
pub record Answers (flat out after head : List ℕ) : Type 0 where
  pub head_is : head ≡ head_of (encode_front (table_from flat) (lent_from flat (length out)) out).answer
  pub buffer : after ≡ (encode_front (table_from flat) (lent_from flat (length out)) out).buffer
