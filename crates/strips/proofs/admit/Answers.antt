-- The card's refusal is handed through; of an accepted card's task the rest is asked.
use Rattle.std.proofs.Common.{sym, subst}
use Rattle.model.specs.Answer.{Answer}
use Rattle.card.proofs.Deciding.{represented}
use Rattle.strips.specs.Admission.{Admissible}
use Rattle.strips.specs.Answers.{Admits}
use Rattle.strips.proofs.Admitting.{refusing, card_not_admitted, card_admitted}
use Rattle.strips.proofs.admit.Goals as goal

pub admit_task-requires : goal.admit_task-requires
admit_task-requires c = represented _ _ c.decode-decoded.ensures c.in-Accepted.is

pub returns-in-Refused : goal.returns-in-Refused
returns-in-Refused c = refusing (card_not_admitted c.decode-decoded.ensures _ _ _ c.in-Refused.is c.from.ensures)

pub returns-in-Accepted : goal.returns-in-Accepted
returns-in-Accepted c =
    subst (λ (a : Answer Admissible). Admits a c.args.state.now c.args.count c.args.objects.now c.admit_task.result)
    (sym (card_admitted c.decode-decoded.ensures _ _ _ c.in-Accepted.is)) c.admit_task.ensures
