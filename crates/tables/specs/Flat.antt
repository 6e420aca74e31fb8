-- The table that flat bytes stand for, as the code keeps it. Past the end of the bytes every byte is 0.
use Rattle.std.specs.Prelude.{ℕ, ◌+◌, ◌*◌, min, List, map, get_or}
use Rattle.laws.specs.Lists.{up_to}
use Rattle.card.specs.declared.Atom.{Atom}
use Rattle.card.specs.declared.AtomList.{AtomList}
use Rattle.card.specs.declared.ArityList.{ArityList}
use Rattle.card.specs.declared.SchemaList.{SchemaList}
use Rattle.card.specs.declared.FactList.{FactList}
use Rattle.card.specs.declared.Schema.{Schema}
use Rattle.card.specs.declared.Task.{Task}

-- an array by its places
unfoldable pub array : {A : Type 0} → ℕ → (ℕ → A) → List A
array size value = map value (up_to size)

abbrev pub byte_at : List ℕ → ℕ → ℕ
byte_at bytes at = get_or bytes at 0

-- four bytes
unfoldable pub atom_from : List ℕ → ℕ → Atom
atom_from bytes at =
    record { predicate = byte_at bytes at; first = byte_at bytes (at + 1); second = byte_at bytes (at + 2); third = byte_at bytes (at + 3) }

-- a count and eight atoms: 33 bytes
unfoldable pub atoms_from : List ℕ → ℕ → AtomList
atoms_from bytes at = record { count = byte_at bytes at; atoms = array 8 (λ i. atom_from bytes (at + 1 + 4 * i)) }

-- the number of roles and three lists: 100 bytes
unfoldable pub schema_from : List ℕ → ℕ → Schema
schema_from bytes at =
    record {
      parameters = byte_at bytes at;
      preconditions = atoms_from bytes (at + 1);
      deletes = atoms_from bytes (at + 34);
      adds = atoms_from bytes (at + 67);
    }

-- from byte 0 on: a count and twenty arities
unfoldable pub arities_from : List ℕ → ArityList
arities_from bytes = record { count = byte_at bytes 0; arities = array 20 (λ i. byte_at bytes (1 + i)) }

-- from byte 22 on: a count and 32 schemas
unfoldable pub schemas_from : List ℕ → SchemaList
schemas_from bytes = record { count = byte_at bytes 22; schemas = array 32 (λ i. schema_from bytes (23 + 100 * i)) }

-- from byte 3,223 on: a count, high byte first, and 512 facts
unfoldable pub facts_from : List ℕ → FactList
facts_from bytes =
    record { count = byte_at bytes 3223 * 256 + byte_at bytes 3224; facts = array 512 (λ i. atom_from bytes (3225 + 4 * i)) }

-- the table; byte 21 is its number of objects
unfoldable pub table_from : List ℕ → Task
table_from bytes =
    record { predicates = arities_from bytes; objects = byte_at bytes 21; schemas = schemas_from bytes; facts = facts_from bytes }

-- from byte 5,273 on: how many bytes of a buffer are lent, high byte first, and no more than it has
abbrev pub lent_from : List ℕ → ℕ → ℕ
lent_from bytes most = min (byte_at bytes 5273 * 65536 + byte_at bytes 5274 * 256 + byte_at bytes 5275) most
