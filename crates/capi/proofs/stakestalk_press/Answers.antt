-- The answer is small, so its number is read back as it is; the buffer is as the call leaves it.
use Rattle.std.proofs.Common.{sym}
use Rattle.capi.proofs.Codes.{same_code}
use Rattle.capi.proofs.Sizes.{does_small, press_small}
use Rattle.capi.proofs.stakestalk_press.Goals as goal

pub applied_code-requires : goal.applied_code-requires
applied_code-requires c = does_small c.apply.ensures (press_small _ _ _ _)

pub returns-clause-value : goal.returns-clause-value
returns-clause-value c = same_code c.applied_code.result c.applied_code.type_inv c.applied_code.ensures (sym c.apply.ensures.answer)

pub returns-clause-state_after : goal.returns-clause-state_after
returns-clause-state_after c = c.apply.ensures.buffer
