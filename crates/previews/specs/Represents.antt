-- What the rows and changes of the code stand for, whatever they hold, and how the code keeps a preview of the definitions.
use Rattle.std.specs.Prelude.{ℕ, zero, suc, length, take, drop}
use mathlib.Core.List.{List, [], ◌∷◌, flat_map}
use Rattle.laws.specs.Lists.{padded}
use Rattle.model.specs.Preview.{Preview}
use Rattle.card.specs.Represents.{entries}
use Rattle.state.specs.Rows.{row_bytes}
use Rattle.actions.specs.declared.Facts.{Facts}
use Rattle.previews.specs.declared.Rows.{Rows}
use Rattle.previews.specs.declared.Changes.{Changes}

-- the first n rows of a run of bytes, four bytes each; a row past its end is empty
unfoldable pub first_rows : ℕ → List ℕ → List (List ℕ)
first_rows zero bytes = []
first_rows (suc n) bytes = take 4 bytes ∷ first_rows n (drop 4 bytes)

-- as many rows as the count says
unfoldable pub rows_of : Rows → List (List ℕ)
rows_of r = first_rows r.count r.rows

-- the action, with as many objects as their number says (0 stands for one that is not kept), and the two lists
unfoldable pub preview_of : Changes → Preview
preview_of c =
    record {
      action = record { schema = c.schema; objects = entries c.object_count 0 c.objects };
      gone = rows_of c.gone;
      come = rows_of c.come;
    }

-- How the code keeps them: what is past a list is 0.
unfoldable pub rows_for : List (List ℕ) → Rows
rows_for rows = record { count = length rows; rows = padded 32 0 (flat_map (λ row. row) rows) }

unfoldable pub changes_for : Preview → Changes
changes_for p =
    record {
      schema = p.action.schema;
      object_count = length p.action.objects;
      objects = padded 6 0 p.action.objects;
      gone = rows_for p.gone;
      come = rows_for p.come;
    }

-- numbers of facts as the code keeps them, and their rows
unfoldable pub numbers_kept : List ℕ → Facts
numbers_kept ns = record { count = length ns; numbers = padded 8 0 ns }

unfoldable pub rows_kept : List ℕ → Rows
rows_kept ns = record { count = length ns; rows = padded 32 0 (flat_map row_bytes ns) }
