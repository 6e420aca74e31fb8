-- The trailing zeros.
use Rattle.masks.proofs.Walking.{walk}
use Rattle.masks.proofs.first_member.Goals as goal

pub returns : goal.returns
returns c = (walk c.requires c.ranges.mask.fits).trailing
