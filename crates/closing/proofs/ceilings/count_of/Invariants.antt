-- The atoms of the predicate among those passed.
use Rattle.std.proofs.Common.{eqb}
use Rattle.card.specs.Represents.{blank_atom}
use Rattle.closing.proofs.Tallying.{Tally}
use Rattle.closing.proofs.ceilings.count_of.Given as goal

abbrev pub invariant-loop-a : goal.invariant-loop-a
invariant-loop-a l = Tally (λ a. eqb l.p a.predicate) l.fn.list.count blank_atom l.fn.list.atoms l.n l.a-index
