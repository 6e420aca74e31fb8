-- The number that is defined is the one that is answered.
use Rattle.std.proofs.Common.{rules}
use Rattle.capi.specs.Numbers.{version_number}
use Rattle.capi.proofs.stakestalk_version.Goals as goal

pub returns : goal.returns
unfolding version_number
returns c = search rules
