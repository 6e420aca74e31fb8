-- An action is written, and the number of its objects answered; any other answer is its number alone.
use Rattle.std.proofs.Common.{◌∙◌, ap}
use Rattle.model.specs.Answer.{refused}
use Rattle.open_actions.specs.Answers.{number_said}
use Rattle.open_actions.specs.declared.OpenRefusal.{OpenRefusal}
use Rattle.capi.specs.Numbers.{signed}
use Rattle.capi.specs.Asking.{count_said}
use Rattle.capi.proofs.Codes.{same_code}
use Rattle.capi.proofs.Asking.{action_few, action_code, action_told, end_code, end_told, refusal_code, refusal_told}
use Rattle.capi.proofs.next_open_code.Goals as goal

pub returns-in-Ok-Some-clause-value : goal.returns-in-Ok-Some-clause-value
returns-in-Ok-Some-clause-value c =
    let action = rw c.in-Ok-Some.is at c.in-Ok-Some.field-0-is in
    action_code c.in-Ok-Some.is action (action_few c.in-Ok-Some.is action c.requires)

pub returns-in-Ok-Some-clause-found_after : goal.returns-in-Ok-Some-clause-found_after
returns-in-Ok-Some-clause-found_after c = c.action_bytes.ensures ∙ action_told c.in-Ok-Some.is _ (rw c.in-Ok-Some.is at c.in-Ok-Some.field-0-is)

pub returns-in-Ok-None-clause-value : goal.returns-in-Ok-None-clause-value
returns-in-Ok-None-clause-value c = end_code c.in-Ok-None.is (rw c.in-Ok-None.is at c.in-Ok-None.field-0-is)

pub returns-in-Ok-None-clause-found_after : goal.returns-in-Ok-None-clause-found_after
returns-in-Ok-None-clause-found_after c = end_told c.in-Ok-None.is _ (rw c.in-Ok-None.is at c.in-Ok-None.field-0-is)

pub returns-in-Err-Card-clause-value : goal.returns-in-Err-Card-clause-value
unfolding count_said number_said
returns-in-Err-Card-clause-value c =
    same_code c.refusal_code.result c.refusal_code.type_inv c.refusal_code.ensures (ap count_said c.in-Err-Card.is
    ∙ ap (λ (e : OpenRefusal). refused (number_said e)) (rw c.in-Err-Card.is at c.in-Err-Card.field-0-is))

pub returns-in-Err-Card-clause-found_after : goal.returns-in-Err-Card-clause-found_after
returns-in-Err-Card-clause-found_after c = refusal_told c.in-Err-Card.is _

pub returns-in-Err-StateMalformed-clause-value : goal.returns-in-Err-StateMalformed-clause-value
unfolding signed number_said
returns-in-Err-StateMalformed-clause-value c = refusal_code c.in-Err-StateMalformed.is (rw c.in-Err-StateMalformed.is at c.in-Err-StateMalformed.field-0-is)

pub returns-in-Err-StateMalformed-clause-found_after : goal.returns-in-Err-StateMalformed-clause-found_after
returns-in-Err-StateMalformed-clause-found_after c = refusal_told c.in-Err-StateMalformed.is _

pub returns-in-Err-SchemaUnknown-clause-value : goal.returns-in-Err-SchemaUnknown-clause-value
unfolding signed number_said
returns-in-Err-SchemaUnknown-clause-value c = refusal_code c.in-Err-SchemaUnknown.is (rw c.in-Err-SchemaUnknown.is at c.in-Err-SchemaUnknown.field-0-is)

pub returns-in-Err-SchemaUnknown-clause-found_after : goal.returns-in-Err-SchemaUnknown-clause-found_after
returns-in-Err-SchemaUnknown-clause-found_after c = refusal_told c.in-Err-SchemaUnknown.is _

pub returns-in-Err-ObjectsWrong-clause-value : goal.returns-in-Err-ObjectsWrong-clause-value
unfolding signed number_said
returns-in-Err-ObjectsWrong-clause-value c = refusal_code c.in-Err-ObjectsWrong.is (rw c.in-Err-ObjectsWrong.is at c.in-Err-ObjectsWrong.field-0-is)

pub returns-in-Err-ObjectsWrong-clause-found_after : goal.returns-in-Err-ObjectsWrong-clause-found_after
returns-in-Err-ObjectsWrong-clause-found_after c = refusal_told c.in-Err-ObjectsWrong.is _

pub returns-in-Err-ObjectsRepeated-clause-value : goal.returns-in-Err-ObjectsRepeated-clause-value
unfolding signed number_said
returns-in-Err-ObjectsRepeated-clause-value c = refusal_code c.in-Err-ObjectsRepeated.is (rw c.in-Err-ObjectsRepeated.is at c.in-Err-ObjectsRepeated.field-0-is)

pub returns-in-Err-ObjectsRepeated-clause-found_after : goal.returns-in-Err-ObjectsRepeated-clause-found_after
returns-in-Err-ObjectsRepeated-clause-found_after c = refusal_told c.in-Err-ObjectsRepeated.is _
