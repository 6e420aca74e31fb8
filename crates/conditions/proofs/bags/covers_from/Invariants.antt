-- No count of row i passed is smaller.
use Rattle.properties.specs.Tables.{bag_at}
use Rattle.conditions.proofs.Compared.{Covering}
use Rattle.conditions.proofs.bags.covers_from.Given as goal

abbrev pub invariant-loop-k : goal.invariant-loop-k
invariant-loop-k l = Covering (bag_at l.size l.table l.i) (bag_at l.size l.table l.j) l.place l.k
