-- A turn of a loop with a counter: the counter stays within its bound, and less is left.
use Prim.Native.Nat.{ℕ, ◌+◌, ◌-◌, ◌≤◌, ◌<◌}
use native.Mathlib.Omega.{arith}

pub one_more : {i bound : ℕ} → i < bound → i + 1 ≤ bound
one_more more = omega arith

pub less_left : {i bound : ℕ} → i < bound → bound - (i + 1) < bound - i
less_left more = omega arith
