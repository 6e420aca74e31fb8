-- The atoms from here on decide what is left to decide.
use Rattle.actions.specs.Grounds.{holds_in}
use Rattle.actions.proofs.Holding.{Passed}
use Rattle.actions.proofs.all_hold.Given as goal

abbrev pub invariant-loop-atom : goal.invariant-loop-atom
invariant-loop-atom l = Passed (holds_in l.count l.state l.objects) l.arities l.fn.list l.atom-index
