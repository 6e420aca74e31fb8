-- 23, or the next state is stored.
use Rattle.std.proofs.lemmas.Result.{err_from_is_err_and}
use Rattle.previews.proofs.Committing.{not_agreed, agreed_refused, agreed_stored}
use Rattle.previews.proofs.store_agreed.Goals as goal

pub returns-then-not-agreed : goal.returns-then-not-agreed
returns-then-not-agreed c = not_agreed _ _ _ c.if-not-agreed.true

pub returns-in_err-stored : goal.returns-in_err-stored
returns-in_err-stored c =
    let p = err_from_is_err_and c.from_residual.result c.from_residual.ensures.1 in
    rw (p.1, p.2) (agreed_refused _ _ _ c.if-not-agreed.false c.in_err-stored.ensures)

pub returns : goal.returns
returns c = agreed_stored _ _ _ c.if-not-agreed.false c.in_ok-stored.ensures
