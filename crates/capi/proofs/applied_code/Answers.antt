-- A count is answered as it is, and a refusal as minus its number.
use Rattle.std.proofs.Common.{ap}
use Rattle.strips.specs.Answers.{applied_says}
use Rattle.capi.proofs.Codes.{value_fits, value_code, same_code}
use Rattle.capi.proofs.applied_code.Goals as goal

pub overflow_cast-result : goal.overflow_cast-result
unfolding applied_says
overflow_cast-result c = value_fits _ _ c.requires (ap applied_says c.in-Ok.is)

pub returns-in-Ok : goal.returns-in-Ok
unfolding applied_says
returns-in-Ok c = value_code _ _ c.requires (ap applied_says c.in-Ok.is)

pub returns-in-Err : goal.returns-in-Err
unfolding applied_says
returns-in-Err c =
    same_code c.press_refusal_code.result c.press_refusal_code.type_inv c.press_refusal_code.ensures (ap applied_says c.in-Err.is)
