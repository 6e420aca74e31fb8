-- No property so far is deleted more often than it is added.
use Rattle.std.proofs.Common.{ℕ, ◌+◌, ◌*◌, ◌<◌, ◌≤◌, get_or}
use Rattle.spaces.proofs.grouping.has_start.Given as goal

abbrev pub invariant-loop-c : goal.invariant-loop-c
invariant-loop-c l = (k : ℕ) → k < l.c → get_or l.deletes (60 * l.row + k) 0 ≤ get_or l.adds (60 * l.row + k) 0
