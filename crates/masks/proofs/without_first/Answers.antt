use Rattle.masks.proofs.Walking.{walk}
use Rattle.masks.proofs.without_first.Goals as goal

pub returns : goal.returns
returns c = (walk c.requires c.ranges.mask.fits).without
