-- The mask at the property's label is united with theirs.
use Rattle.std.proofs.Common.{get_or, set}
use mathlib.Core.Path.{ap}
use Rattle.spaces.specs.Steps.{join_at}
use Rattle.spaces.proofs.members.join.Goals as goal

pub returns : goal.returns
unfolding join_at
returns c = ap (set c.args.members.now (get_or c.args.groups.now c.args.c 0)) c.union.ensures
