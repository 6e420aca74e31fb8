-- What the writer's answer says: document 01's number or value for each case.
use Rattle.std.specs.Prelude.{ℕ, ◌≡◌, List, Result, Ok, Err}
use Rattle.model.specs.Answer.{Answer, refused, accepted}
use Rattle.model.specs.Calls.{encode}
use Rattle.card.specs.Represents.{task_of, refusal_number}
use Rattle.card.specs.declared.Task.{Task}
use Rattle.writer.specs.declared.WriterRefusal.{WriterRefusal}
use Rattle.writer.specs.declared.WriterRefusal.TheVariants.{Table, OutputShort}

unfoldable pub writing_says : Result ℕ WriterRefusal → Answer ℕ
writing_says (Ok length) = accepted length
writing_says (Err (Table r)) = refused (refusal_number r)
writing_says (Err OutputShort) = refused 21

-- the writer's answer and the output buffer as it leaves it
pub record Encodes (t : Task) (out after : List ℕ) (w : Result ℕ WriterRefusal) : Type 0 where
  pub answer : writing_says w ≡ (encode (task_of t) out).answer
  pub buffer : after ≡ (encode (task_of t) out).buffer
