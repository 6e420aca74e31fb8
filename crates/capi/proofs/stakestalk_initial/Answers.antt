-- The answer is small, so its number is read back as it is; the buffer is as the call leaves it.
use Rattle.std.proofs.Common.{sym}
use Rattle.capi.proofs.Codes.{same_code}
use Rattle.capi.proofs.Sizes.{does_small, initial_small}
use Rattle.capi.proofs.stakestalk_initial.Goals as goal

pub applied_code-requires : goal.applied_code-requires
applied_code-requires c = does_small c.initial.ensures (initial_small _ _)

pub returns-clause-value : goal.returns-clause-value
returns-clause-value c = same_code c.applied_code.result c.applied_code.type_inv c.applied_code.ensures (sym c.initial.ensures.answer)

pub returns-clause-state_after : goal.returns-clause-state_after
returns-clause-state_after c = c.initial.ensures.buffer
