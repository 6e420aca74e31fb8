-- Tables of zeros: each is as long as it is made, and has room for the rows of fewer parameters.
use Prim.Native.Nat.{ℕ, ◌*◌, ◌≤◌}
use mathlib.Core.Path.{◌≡◌, sym, subst}
use mathlib.Core.List.{List}
use lib.ListN.{length, replicate, length-replicate}
use Rattle.properties.specs.Tables.{stride}
use Rattle.properties.specs.Parameters.{RoomForBags}

abbrev pub cleared : ℕ → List ℕ
cleared size = replicate size 0

-- stated for every size: at one size the two numbers can be compared too, but that walks through the whole table
pub cleared_length : (size : ℕ) → size ≡ length (cleared size)
cleared_length size = sym (length-replicate size 0)

pub cleared_long : (size n : ℕ) → n ≤ size → n ≤ length (cleared size)
cleared_long size n h = subst (λ (l : ℕ). n ≤ l) (cleared_length size) h

pub cleared_room : (size : ℕ) {parameters : ℕ} → stride * parameters ≤ size → RoomForBags parameters (cleared size) (cleared size) (cleared size)
cleared_room size {parameters} fits =
    let rows = cleared_long size (stride * parameters) fits in
    record { preconditions_room = rows; deletes_room = rows; adds_room = rows }
