-- The two rows agree at the places passed.
use Rattle.properties.specs.Tables.{bag_at}
use Rattle.conditions.proofs.Compared.{Alike}
use Rattle.conditions.proofs.bags.first_difference.Given as goal

abbrev pub invariant-loop-k : goal.invariant-loop-k
invariant-loop-k l = Alike (bag_at l.size l.table l.i) (bag_at l.size l.table l.j) l.k
