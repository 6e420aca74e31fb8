-- A set of numbers below 64, kept in a mask: the number whose binary digits are 1 at the places of its members.
use Rattle.std.specs.Prelude.{ℕ, ◌-◌, ◌/◌, ◌%◌, ◌^◌, Bool, List, map, eqb, get_or, drop}
use Rattle.std.specs.Int.Bits.{bit_and, bit_or}
use Rattle.laws.specs.Lists.{keep, up_to, sum}

unfoldable pub is_member : ℕ → ℕ → Bool
is_member m o = eqb (m / 2 ^ o % 2) 1

-- the members, ascending
unfoldable pub members_of : ℕ → List ℕ
members_of m = keep (is_member m) (up_to 64)

-- the mask of numbers below 64, no two of them the same
unfoldable pub mask_of : List ℕ → ℕ
mask_of os = sum (map (λ o. 2 ^ o) os)

-- the lowest member, or 64 where there is none; and the mask without it
unfoldable pub first_member : ℕ → ℕ
first_member m = get_or (members_of m) 0 64

unfoldable pub without_first : ℕ → ℕ
without_first m = mask_of (drop 1 (members_of m))

-- the masks of one number, and of all numbers below n
unfoldable pub single_of : ℕ → ℕ
single_of o = 2 ^ o

unfoldable pub all_below : ℕ → ℕ
all_below n = 2 ^ n - 1

-- the members of either, and those of both
unfoldable pub union_of : ℕ → ℕ → ℕ
union_of a b = bit_or a b

unfoldable pub common_of : ℕ → ℕ → ℕ
common_of a b = bit_and a b
