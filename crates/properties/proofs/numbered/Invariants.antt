-- Where the properties of each predicate passed begin.
use Rattle.std.proofs.Common.{◌≤◌, ◌*◌}
use Rattle.properties.proofs.Firsts.{Begun}
use Rattle.properties.proofs.numbered.Given as goal

abbrev pub invariant-loop-p : goal.invariant-loop-p
invariant-loop-p l = record { small : l.count ≤ 255 * l.p; begun : Begun l.predicates.arities l.p l.firsts l.count }
