use Rattle.std.proofs.Common.{arith}
use lib.Seq.{length-take-le}
use Rattle.sets.specs.Numbers.{inserted_all}
use Rattle.sets.proofs.Changing.{put_in, changing_start, changing_set, changing_length, changing_count, inserting_step, changing_end}
use Rattle.sets.proofs.insert_all.Goals as goal

pub loop-n-init : goal.loop-n-init
loop-n-init c = changing_start put_in _ c.requires.1

pub insert-held-requires : goal.insert-held-requires
insert-held-requires c =
    let size = length-take-le c.args.count c.args.numbers.now c.requires.1.few in
    (omega (arith, changing_length c.loop-n.invariant, changing_count c.loop-n.invariant), changing_set c.loop-n.invariant)

pub loop-n-preserved : goal.loop-n-preserved
loop-n-preserved c =
    let size = length-take-le c.args.count c.args.numbers.now c.requires.1.few in
    inserting_step c.loop-n.invariant c.loop-n-test.true (omega arith) c.insert-held.ensures

pub returns : goal.returns
unfolding inserted_all
returns c = changing_end c.loop-n.invariant c.loop-n-test.false
