-- The mask at the label of this turn is written behind those so far.
use Rattle.std.proofs.Common.{get_or, arith}
use mathlib.Core.Path.{refl}
use Rattle.laws.proofs.Padded.{map_written}
use Rattle.laws.specs.Lists.{padded}
use Rattle.spaces.proofs.members.by_number.Goals as goal

pub loop-k-init : goal.loop-k-init
unfolding padded
loop-k-init c = refl

pub loop-k-preserved : goal.loop-k-preserved
loop-k-preserved c =
    let a = c.args in
    map_written 60 (λ l. get_or a.members.now l 0) a.lowest.now 0 c.loop-k.numbered c.loop-k.k (omega arith) (omega arith)
    c.loop-k.invariant
