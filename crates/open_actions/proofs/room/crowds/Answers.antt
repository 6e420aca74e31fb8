-- One atom after the other takes room, until there is none.
use Rattle.std.proofs.Common.{sym, ◌∙◌}
use Rattle.open_actions.specs.Supports.{support_at, no_support}
use Rattle.open_actions.proofs.Choosing.{crowd_start, crowd_skip, crowd_one, crowd_full}
use Rattle.open_actions.proofs.room.crowds.Goals as goal
use Rattle.open_actions.proofs.room.crowds.Goals.{then-not-is_member+else-left-eq0, else-not-is_member}

pub loop-add-init : goal.loop-add-init
loop-add-init c = crowd_start

pub returns-then-left-eq0 : goal.returns-then-left-eq0
unfolding support_at no_support
returns-then-left-eq0 c =
    crowd_full c.loop-add.invariant c.loop-add-test.true (sym c.is_member.ensures ∙ c.if-not-is_member.true) c.union-culprits.ensures c.if-left-eq0.true

pub loop-add-preserved : goal.loop-add-preserved
unfolding support_at no_support
loop-add-preserved c =
    elim c.if-not-is_member.branch [
      | then-not-is_member+else-left-eq0 w ↦
          rw (w.left-is, w.culprits-is)
          (crowd_one c.loop-add.invariant c.loop-add-test.true (sym c.is_member.ensures ∙ w.if-not-is_member.true) w.union-culprits.ensures
          w.if-left-eq0.false)
      | else-not-is_member w ↦ rw (w.left-is, w.culprits-is) (crowd_skip c.loop-add.invariant c.loop-add-test.true)
    ]
