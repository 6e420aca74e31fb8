-- A digit 1 for each member.
use Rattle.masks.proofs.Walking.{size_members}
use Rattle.masks.proofs.size.Goals as goal

pub returns : goal.returns
returns c = size_members c.ranges.mask.fits
