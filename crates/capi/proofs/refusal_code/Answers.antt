-- A refusal is answered as minus its number.
use Rattle.capi.proofs.Codes.{number_fits, minus_fits, minus_code}
use Rattle.capi.proofs.refusal_code.Goals as goal

pub overflow_cast-number : goal.overflow_cast-number
overflow_cast-number c = number_fits c.refusal_number-number.result c.refusal_number-number.type_inv

pub overflow_sub-result : goal.overflow_sub-result
overflow_sub-result c = minus_fits c.refusal_number-number.result c.refusal_number-number.type_inv

pub returns : goal.returns
returns c = minus_code c.refusal_number-number.result _ c.refusal_number-number.type_inv c.refusal_number-number.ensures
