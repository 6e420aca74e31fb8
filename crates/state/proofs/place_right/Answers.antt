-- A place up to the arity holds an object, one after it filler.
use Rattle.std.proofs.Common.{sym}
use borrow.Author.Tests.{le-leb, lt-leb}
use Rattle.laws.proofs.Tests.{cond_true, cond_false}
use Rattle.state.specs.Rows.{place_right}
use Rattle.state.proofs.place_right.Goals as goal

pub returns-then-k-arity : goal.returns-then-k-arity
unfolding place_right
returns-then-k-arity c = rw c.from.ensures (sym (cond_true _ _ _ (le-leb _ _ c.if-k-arity.true)))

pub returns-else-k-arity : goal.returns-else-k-arity
unfolding place_right
returns-else-k-arity c = sym (cond_false _ _ _ (lt-leb _ _ c.if-k-arity.false))
