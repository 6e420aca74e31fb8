-- The positions from here on decide.
use Rattle.std.proofs.Common.{◌≡◌, take, drop}
use Rattle.closing.specs.Fixed.{first_some}
use Rattle.closing.proofs.fixed.total_of.Given as goal

abbrev pub invariant-loop-n : goal.invariant-loop-n
invariant-loop-n l =
    first_some (drop l.n-index (take l.fn.arity (drop l.fn.first l.fn.fixed))) ≡ first_some (take l.fn.arity (drop l.fn.first l.fn.fixed))
