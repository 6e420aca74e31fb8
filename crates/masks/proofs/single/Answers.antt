-- A 1 shifted to its place.
use Rattle.masks.specs.Sets.{single_of}
use Rattle.masks.proofs.Operations.{one_shifted}
use Rattle.masks.proofs.single.Goals as goal

pub returns : goal.returns
unfolding single_of
returns c = one_shifted c.requires
