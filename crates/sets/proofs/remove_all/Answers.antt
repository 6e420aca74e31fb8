use Rattle.sets.specs.Numbers.{without_all}
use Rattle.sets.proofs.Changing.{take_out, changing_start, changing_set, removing_step, changing_end}
use Rattle.sets.proofs.remove_all.Goals as goal

pub loop-n-init : goal.loop-n-init
loop-n-init c = changing_start take_out _ c.requires

pub remove-left-requires : goal.remove-left-requires
remove-left-requires c = changing_set c.loop-n.invariant

pub loop-n-preserved : goal.loop-n-preserved
loop-n-preserved c = removing_step c.loop-n.invariant c.loop-n-test.true c.remove-left.ensures

pub returns : goal.returns
unfolding without_all
returns c = changing_end c.loop-n.invariant c.loop-n-test.false
