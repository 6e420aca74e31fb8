-- Condition i is entered with those before k, and they with it.
use Rattle.laws.specs.Bags.{contains}
use Rattle.properties.specs.Tables.{bag_at}
use Rattle.conditions.proofs.Entering.{Partly}
use Rattle.conditions.proofs.minimal.compare_earlier.Given as goal

abbrev pub invariant-loop-k : goal.invariant-loop-k
invariant-loop-k l =
    Partly (λ a b. contains (bag_at l.size l.table a) (bag_at l.size l.table b)) l.i l.k l.containing
    × Partly (λ a b. contains (bag_at l.size l.table b) (bag_at l.size l.table a)) l.i l.k l.contained
