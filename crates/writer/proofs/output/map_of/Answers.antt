-- The four bits add up within a byte.
use Rattle.std.proofs.Common.{◌≡◌, ℕ, ◌≤◌, Bool, true, false, arith}
use Rattle.writer.specs.Bytes.{bit_where, map_of}
use Rattle.writer.proofs.output.map_of.Goals as goal

bit_at_most : (stands : Bool) (value r : ℕ) → r ≡ bit_where stands value → r ≤ value
unfolding bit_where
bit_at_most true value r e = omega arith
bit_at_most false value r e = omega arith

pub overflow_add-result : goal.overflow_add-result
overflow_add-result c = omega (arith, bit_at_most _ _ _ c.bit_where.ensures, bit_at_most _ _ _ c.bit_where-2.ensures)

pub overflow_add-result-2 : goal.overflow_add-result-2
overflow_add-result-2 c =
    omega (
      arith,
      bit_at_most _ _ _ c.bit_where.ensures,
      bit_at_most _ _ _ c.bit_where-2.ensures,
      bit_at_most _ _ _ c.bit_where-3.ensures,
    )

pub overflow_add-result-3 : goal.overflow_add-result-3
overflow_add-result-3 c =
    omega (
      arith,
      bit_at_most _ _ _ c.bit_where.ensures,
      bit_at_most _ _ _ c.bit_where-2.ensures,
      bit_at_most _ _ _ c.bit_where-3.ensures,
      bit_at_most _ _ _ c.bit_where-4.ensures,
    )

pub returns : goal.returns
unfolding map_of
returns c = rw (c.bit_where.ensures, c.bit_where-2.ensures, c.bit_where-3.ensures, c.bit_where-4.ensures)
