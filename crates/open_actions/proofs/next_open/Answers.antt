-- The card's refusal is handed through; the next open action is looked for in an accepted card's task.
use Rattle.card.proofs.Deciding.{represented}
use Rattle.open_actions.proofs.Answering.{card_refused, card_accepted}
use Rattle.open_actions.proofs.next_open.Goals as goal

pub next_open_of-requires : goal.next_open_of-requires
next_open_of-requires c = represented _ _ c.decode-decoded.ensures c.in-Accepted.is

pub returns-in-Refused : goal.returns-in-Refused
returns-in-Refused c = rw c.from.ensures (card_refused c.decode-decoded.ensures _ _ _ c.in-Refused.is)

pub returns-in-Accepted : goal.returns-in-Accepted
returns-in-Accepted c = card_accepted c.decode-decoded.ensures _ _ _ c.in-Accepted.is c.next_open_of.ensures
