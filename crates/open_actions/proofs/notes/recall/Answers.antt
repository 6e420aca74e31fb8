-- The culprits at the place, and the objects of the binding compared with the noted ones.
use Rattle.open_actions.proofs.Noting.{compare_skip, compare_same, recalls_all}
use Rattle.open_actions.proofs.notes.recall.Goals as goal
use Rattle.open_actions.proofs.notes.recall.Goals.{else-is_member-via-then-is_member+else-o-notes, else-is_member-via-else-is_member}

pub loop-p-preserved : goal.loop-p-preserved
loop-p-preserved c =
    elim c.else-is_member.branch [
      | else-is_member-via-then-is_member+else-o-notes w ↦ compare_same c.loop-p.invariant c.loop-p-test.true w.if-o-notes.false
      | else-is_member-via-else-is_member w ↦ compare_skip c.loop-p.invariant c.loop-p-test.true c.is_member.ensures w.if-is_member.false
    ]

pub returns : goal.returns
returns c =
    recalls_all c.from-culprits.ensures c.is_empty.ensures c.if-is_empty.false c.common.ensures c.if-common-culprits.false c.loop-p.invariant
    c.loop-p-test.false
