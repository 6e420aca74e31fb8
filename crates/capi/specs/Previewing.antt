-- Asking and committing in C: changes as 74 bytes, the number that is answered, and what is written.
use Rattle.std.specs.Prelude.{ℕ, ◌+◌, ◌<◌, List, ◌∷◌, ◌++◌, get_or, take, drop, Result, Ok, Err}
use Rattle.model.specs.Answer.{Answer, refused, accepted, ◌>>=◌}
use Rattle.model.specs.Preview.{Asked}
use Rattle.previews.specs.Represents.{changes_for}
use Rattle.previews.specs.declared.Rows.{Rows}
use Rattle.previews.specs.declared.Changes.{Changes}
use Rattle.previews.specs.declared.Foreseen.{Foreseen}
use Rattle.strips.specs.Answers.{applied_says}
use Rattle.strips.specs.declared.PressRefusal.{PressRefusal}

-- rows: their number, then eight places of four bytes
unfoldable pub rows_shown : Rows → List ℕ
rows_shown r = r.count ∷ r.rows

-- the schema, the number of objects and six places, the rows that go, and those that come
unfoldable pub changes_shown : Changes → List ℕ
changes_shown c = c.schema ∷ c.object_count ∷ c.objects ++ rows_shown c.gone ++ rows_shown c.come

-- the same read off the bytes, whatever they are
unfoldable pub rows_held : ℕ → List ℕ → Rows
rows_held at bytes = record { count = get_or bytes at 0; rows = take 32 (drop (at + 1) bytes) }

unfoldable pub changes_held : List ℕ → Changes
changes_held bytes =
    record {
      schema = get_or bytes 0 0;
      object_count = get_or bytes 1 0;
      objects = take 6 (drop 2 bytes);
      gone = rows_held 8 bytes;
      come = rows_held 41 bytes;
    }

-- the count that asking answers
unfoldable pub asked_count : Answer Asked → Answer ℕ
asked_count (accepted asked) = accepted asked.count
asked_count (refused n) = refused n

-- the 74 bytes: what is foreseen; beside a refusal they are as they were
unfoldable pub asked_shown : Answer Asked → List ℕ → List ℕ
asked_shown (accepted asked) bytes = changes_shown (changes_for asked.foreseen)
asked_shown (refused n) bytes = bytes

-- the same of the answer as the code has it
unfoldable pub foreseen_count : Result Foreseen PressRefusal → Answer ℕ
foreseen_count r = applied_says r >>= (λ f. accepted f.count)

unfoldable pub shown_beside : Result Foreseen PressRefusal → List ℕ → List ℕ
shown_beside (Ok f) bytes = changes_shown f.changes
shown_beside (Err e) bytes = bytes

-- The numbers of changes fit a byte.
pub record SmallChanges (c : Changes) : Type 0 where
  pub schema_small : c.schema < 256
  pub objects_small : c.object_count < 256
  pub gone_small : c.gone.count < 256
  pub come_small : c.come.count < 256
