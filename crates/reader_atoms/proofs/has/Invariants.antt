-- What is left to look through decides.
use Rattle.std.proofs.Common.{◌≡◌}
use Rattle.reader_atoms.specs.Atoms.{has_bytes}
use Rattle.reader_atoms.proofs.Orders.{has_from}
use Rattle.reader_atoms.proofs.has.Given as goal

abbrev pub invariant-loop-i : goal.invariant-loop-i
invariant-loop-i l = has_bytes l.list l.a ≡ has_from l.list l.a l.i
