-- Each refusal is answered as minus its number.
use Rattle.std.proofs.Common.{ap}
use Rattle.model.specs.Answer.{refused}
use Rattle.strips.specs.Answers.{press_number}
use Rattle.strips.specs.declared.PressRefusal.{PressRefusal}
use Rattle.capi.specs.Numbers.{signed}
use Rattle.capi.proofs.Codes.{refusal_code, same_code}
use Rattle.capi.proofs.press_refusal_code.Goals as goal

pub returns-in-Card : goal.returns-in-Card
unfolding press_number
returns-in-Card c =
    same_code c.refusal_code.result c.refusal_code.type_inv c.refusal_code.ensures (ap (λ (r : PressRefusal). refused (press_number r)) c.in-Card.is)

pub returns-in-StateMalformed : goal.returns-in-StateMalformed
unfolding signed press_number
returns-in-StateMalformed c = refusal_code _ 15 (ap (λ (r : PressRefusal). refused (press_number r)) c.in-StateMalformed.is)

pub returns-in-SchemaUnknown : goal.returns-in-SchemaUnknown
unfolding signed press_number
returns-in-SchemaUnknown c = refusal_code _ 16 (ap (λ (r : PressRefusal). refused (press_number r)) c.in-SchemaUnknown.is)

pub returns-in-ObjectsWrong : goal.returns-in-ObjectsWrong
unfolding signed press_number
returns-in-ObjectsWrong c = refusal_code _ 17 (ap (λ (r : PressRefusal). refused (press_number r)) c.in-ObjectsWrong.is)

pub returns-in-ObjectsRepeated : goal.returns-in-ObjectsRepeated
unfolding signed press_number
returns-in-ObjectsRepeated c = refusal_code _ 18 (ap (λ (r : PressRefusal). refused (press_number r)) c.in-ObjectsRepeated.is)

pub returns-in-PreconditionMissing : goal.returns-in-PreconditionMissing
unfolding signed press_number
returns-in-PreconditionMissing c = refusal_code _ 19 (ap (λ (r : PressRefusal). refused (press_number r)) c.in-PreconditionMissing.is)

pub returns-in-StateFull : goal.returns-in-StateFull
unfolding signed press_number
returns-in-StateFull c = refusal_code _ 20 (ap (λ (r : PressRefusal). refused (press_number r)) c.in-StateFull.is)
