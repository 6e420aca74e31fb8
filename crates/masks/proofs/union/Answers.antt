use Rattle.std.proofs.Common.{refl}
use Rattle.masks.specs.Sets.{union_of}
use Rattle.masks.proofs.union.Goals as goal

pub returns : goal.returns
unfolding union_of
returns c = refl
