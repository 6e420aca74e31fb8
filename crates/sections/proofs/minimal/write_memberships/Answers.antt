use Rattle.sections.proofs.LinesLeft.{memberships_next, memberships_end}
use Rattle.text.proofs.Writing.{next_fits, next, finish}
use Rattle.sections.proofs.minimal.write_memberships.Goals as goal

pub write_membership-n-requires : goal.write_membership-n-requires
write_membership-n-requires c =
    let l = c.loop-i in
    next_fits l.invariant (memberships_next _ l.i-index c.loop-i-test.true c.from.ensures)

pub loop-i-preserved : goal.loop-i-preserved
loop-i-preserved c =
    let l = c.loop-i in
    next l.invariant (memberships_next _ l.i-index c.loop-i-test.true c.from.ensures) c.write_membership-n.ensures

pub returns : goal.returns
returns c = finish c.loop-i.invariant (memberships_end _ _ c.loop-i-test.false)
