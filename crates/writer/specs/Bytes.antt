-- What writing at a place of the output buffer leaves there, and which tables the writer writes.
use Rattle.std.specs.Prelude.{ℕ, ◌+◌, ◌*◌, ◌≤◌, ◌≡◌, Bool, true, cond, not, ◌&&◌, List, ◌++◌, leb, eqb, length, take, drop}
use Rattle.laws.specs.Lists.{all}
use Rattle.card.specs.Represents.{blank_schema, entries}
use Rattle.card.specs.declared.Schema.{Schema}
use Rattle.card.specs.declared.Task.{Task}

-- how many bytes a piece of a card takes at most.
-- An atom: its predicate and three arguments
abbrev pub atom_room : ℕ
atom_room = 1 + 3

-- a list: its count and eight atoms
abbrev pub list_room : ℕ
list_room = 1 + 8 * atom_room

-- a schema: its map, its role count and three lists
abbrev pub schema_room : ℕ
schema_room = 1 + 1 + 3 * list_room

-- the predicates with their count, the objects, and the count of the schemas
abbrev pub header_room : ℕ
header_room = 1 + 20 + 1 + 1

-- a card: its header, 32 schemas, and 512 facts with their count
abbrev pub card_room : ℕ
card_room = header_room + 32 * schema_room + 2 + 512 * atom_room

-- bytes stand at the place, and what stood before and after them still does; the next place is answered; `room` bounds the bytes
pub record WritesAt (room at : ℕ) (bytes buffer after : List ℕ) (next : ℕ) : Type 0 where
  pub stands : after ≡ take at buffer ++ bytes ++ drop (at + length bytes) buffer
  pub place : next ≡ at + length bytes
  pub within : length bytes ≤ room

-- a bit's value where it stands
unfoldable pub bit_where : Bool → ℕ → ℕ
bit_where stands value = cond stands value 0

-- the map of a schema by its counts
unfoldable pub map_of : Schema → ℕ
map_of s =
    bit_where (not (eqb s.parameters 1)) 1 + bit_where (not (eqb s.preconditions.count 0)) 2
    + bit_where (not (eqb s.deletes.count 0)) 4 + bit_where (not (eqb s.adds.count 0)) 8

-- a schema whose counts are within what a card can carry
unfoldable pub schema_fits : Schema → Bool
schema_fits s =
    leb s.parameters 6 && leb s.preconditions.count 8 && leb s.deletes.count 8 && leb s.adds.count 8

-- a table whose counts are
pub record Fits (t : Task) : Type 0 where
  pub predicates : t.predicates.count ≤ 20
  pub objects : t.objects ≤ 64
  pub schemas : t.schemas.count ≤ 32
  pub lists : all schema_fits (entries t.schemas.count blank_schema t.schemas.schemas) ≡ true
  pub facts : t.facts.count ≤ 512
