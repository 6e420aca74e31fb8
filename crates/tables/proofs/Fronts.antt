-- The writer's call on the front of a buffer.
use Prim.Native.Nat.{ℕ}
use Rattle.std.specs.Prelude.{Result}
use mathlib.Core.Path.{ap}
use mathlib.Core.List.{List, ◌++◌}
use lib.ListN.{take, drop}
use Rattle.card.specs.declared.Task.{Task}
use Rattle.writer.specs.declared.WriterRefusal.{WriterRefusal}
use Rattle.writer.specs.Answers.{Encodes}
use Rattle.tables.specs.Front.{encode_front, EncodesFront}

-- what the writer leaves of the front is followed by what is not lent
pub front_encoded : {t : Task} {lent : ℕ} {out after : List ℕ} {w : Result ℕ WriterRefusal} → Encodes t (take lent out) after w
    → EncodesFront t lent out (after ++ drop lent out) w
unfolding encode_front
front_encoded {lent = lent} {out} done = record { answer = done.answer; buffer = ap (λ (l : List ℕ). l ++ drop lent out) done.buffer }
