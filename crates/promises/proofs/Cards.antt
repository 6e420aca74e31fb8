-- Demand 2 on the calls: a card that is read and written again has its own bytes, and a table that is written and read again is that table.
use Prim.Native.Nat.{ℕ, ◌≤◌}
use mathlib.Core.Path.{◌≡◌, sym, ap, ◌∙◌}
use mathlib.Core.Bool.{true}
use mathlib.Core.List.{List, ◌++◌}
use lib.ListN.{length, take, drop}
use Rattle.std.specs.Prelude.{Result}
use Rattle.model.specs.Answer.{accepted}
use Rattle.model.specs.Card as model
use Rattle.model.specs.Calls.{output_bytes}
use Rattle.model.proofs.CardSize.{are_bytes}
use Rattle.model.proofs.RoundTrip.{round_trip}
use Rattle.card.specs.Represents.{task_of, answer_of, Decodes}
use Rattle.card.proofs.Deciding.{accepts}
use Rattle.card.specs.declared.Decoded.{Decoded}
use Rattle.card.specs.declared.Task.{Task}
use Rattle.card.specs.declared.Verdict.TheVariants.{Accepted}
use Rattle.writer.specs.Answers.{Encodes, writing_says}
use Rattle.writer.specs.declared.WriterRefusal.{WriterRefusal}

-- an accepted card written again has its own bytes
pub read_then_written : (card out after : List ℕ) (d : Decoded) (w : Result ℕ WriterRefusal) → are_bytes card ≡ true → Decodes card d
    → d.verdict ≡ Accepted → Encodes d.task out after w → output_bytes ≤ length out
    → (writing_says w ≡ accepted (length card)) × (after ≡ card ++ drop (length card) out)
read_then_written card out after d w bytes r e written room =
    let again = round_trip.card_again card bytes (task_of d.task) (accepts card d r e) out room in
    (written.answer ∙ ap (λ c. c.answer) again, written.buffer ∙ ap (λ c. c.buffer) again)

-- a table that the writer accepts, read again, is that table
pub written_then_read : (task : Task) (out after : List ℕ) (w : Result ℕ WriterRefusal) (n : ℕ) (d : Decoded) → Encodes task out after w
    → writing_says w ≡ accepted n → Decodes (take n after) d → answer_of d.verdict d.task ≡ accepted (task_of task)
written_then_read task out after w n d written e r =
    r.answer
    ∙ ap (λ (b : List ℕ). model.decode (take n b)) written.buffer
    ∙ round_trip.table_again (task_of task) out n (sym written.answer ∙ e)
