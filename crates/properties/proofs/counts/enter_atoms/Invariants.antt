-- The rows hold the bags over the atoms passed.
use Rattle.std.proofs.Common.{map, take}
use Rattle.model.specs.Transitions.{properties_from, bag_of}
use Rattle.card.specs.Represents.{arities_of, atom_of}
use Rattle.properties.proofs.Entering.{BagTable}
use Rattle.properties.proofs.counts.enter_atoms.Given as goal

abbrev pub invariant-loop-atom : goal.invariant-loop-atom
invariant-loop-atom g l =
    BagTable (bag_of (properties_from 0 (arities_of l.predicates)) (take l.atom-index (map (atom_of (arities_of l.predicates)) l.atoms))) l.rows
    (map g.C.Count.number l.fn.table) (map g.C.Count.number l.table)
