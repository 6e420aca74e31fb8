use Rattle.sections.proofs.LinesLeft.{pairs_next, pairs_end, index_below, all_lent}
use Rattle.text.proofs.Writing.{next_fits, next, finish}
use Rattle.sections.proofs.minimal.write_exclusions.Goals as goal

pub write_exclusions_of-n-requires : goal.write_exclusions_of-n-requires
write_exclusions_of-n-requires c =
    let l = c.loop-k in
    let k = c.loop-k-test.true in
    (rw c.from-i.ensures (index_below _ _ _ c.requires.0 k), all_lent _ _ _ c.requires.0, next_fits l.invariant (pairs_next _ _ l.k k c.from-i.ensures))

pub loop-k-preserved : goal.loop-k-preserved
loop-k-preserved c =
    let l = c.loop-k in
    next l.invariant (pairs_next _ _ l.k c.loop-k-test.true c.from-i.ensures) c.write_exclusions_of-n.ensures

pub returns : goal.returns
returns c = finish c.loop-k.invariant (pairs_end _ _ _ c.loop-k-test.false)
