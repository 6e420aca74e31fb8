-- The card's refusal is handed through; an accepted card's task is opened.
use Rattle.card.proofs.Deciding.{represented}
use Rattle.model.specs.Calls.{initial}
use Rattle.strips.proofs.Calling.{card_refused, card_accepted}
use Rattle.strips.proofs.initial.Goals as goal

pub open_task-requires : goal.open_task-requires
open_task-requires c = represented _ _ c.decode-decoded.ensures c.in-Accepted.is

pub returns-in-Refused : goal.returns-in-Refused
unfolding initial
returns-in-Refused c = card_refused c.decode-decoded.ensures _ _ c.in-Refused.is c.from.ensures

pub returns-in-Accepted : goal.returns-in-Accepted
unfolding initial
returns-in-Accepted c = card_accepted c.decode-decoded.ensures _ _ c.in-Accepted.is c.open_task.ensures
