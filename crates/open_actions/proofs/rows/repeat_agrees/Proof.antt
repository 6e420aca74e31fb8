-- The two bytes are compared where the parameter has both places.
use borrow.Author.Tests.{eq-eqb}
use borrow.Author.Rules.{rules}
use Rattle.open_actions.proofs.rows.repeat_agrees.Statement.{statement}
use Rattle.open_actions.proofs.rows.repeat_agrees.Tie as tie

returns : tie.Need-returns-then-arity-k
returns c = search rules

returns-2 : tie.Need-returns-then-one-other
returns-2 c = λ same. eq-eqb _ _ (same c.if-arity-k.false c.if-one-other.true)

returns-3 : tie.Need-returns-else-one-other
returns-3 c = search rules

pub repeat_agrees_spec : {M : Type 1} → statement M
repeat_agrees_spec = tie.close (tie.spec returns returns-2 returns-3)
