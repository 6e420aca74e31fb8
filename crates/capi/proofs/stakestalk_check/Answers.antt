-- The card reader's verdict as a number: 0 for an accepted card.
use Rattle.capi.proofs.Codes.{same_code}
use Rattle.capi.proofs.Checking.{checks_accepted, checks_refused}
use Rattle.capi.proofs.stakestalk_check.Goals as goal

pub returns-in-Accepted : goal.returns-in-Accepted
returns-in-Accepted c = checks_accepted c.args.card.now c.decode.result c.decode.ensures c.in-Accepted.is

pub returns-in-Refused : goal.returns-in-Refused
returns-in-Refused c =
    same_code c.refusal_code.result c.refusal_code.type_inv c.refusal_code.ensures
    (checks_refused c.args.card.now c.decode.result c.decode.ensures _ c.in-Refused.is)
