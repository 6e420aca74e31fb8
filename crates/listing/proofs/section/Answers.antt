-- The card's refusal is handed through; an accepted card's task is listed.
use Rattle.card.proofs.Deciding.{represented}
use Rattle.listing.proofs.Answering.{card_refused, card_listed}
use Rattle.listing.proofs.section.Goals as goal

pub list_task-requires : goal.list_task-requires
list_task-requires c = represented c.args.card.now c.decode-decoded.result c.decode-decoded.ensures c.in-Accepted.is

pub returns-in-Refused : goal.returns-in-Refused
returns-in-Refused c =
    rw c.into.ensures
    (card_refused c.args.card.now c.decode-decoded.result c.decode-decoded.ensures _ c.in-Refused.is c.args.number c.args.out.now)

pub returns-in-Accepted : goal.returns-in-Accepted
returns-in-Accepted c =
    card_listed c.args.card.now c.decode-decoded.result c.decode-decoded.ensures c.in-Accepted.is
    c.args.number c.args.out.now c.list_task.new.out c.list_task.result
    c.list_task.ensures
