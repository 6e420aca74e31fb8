use Rattle.std.proofs.Common.{refl}
use Rattle.masks.specs.Sets.{common_of}
use Rattle.masks.proofs.common.Goals as goal

pub returns : goal.returns
unfolding common_of
returns c = refl
