-- 0 is none.
use borrow.Author.Rules.{rules}
use mir.Syntax.{w32}
use mir.Val.{SFits}
use Rattle.capi.proofs.Asking.{given_none, given_some}
use Rattle.capi.proofs.given_action.Goals as goal

pub returns-then-given-eq0 : goal.returns-then-given-eq0
returns-then-given-eq0 c =
    let fits : SFits w32 c.args.given = search rules in
    given_none c.args.given _ fits c.if-given-eq0.true

pub returns : goal.returns
returns c = given_some c.args.given _ c.if-given-eq0.false
