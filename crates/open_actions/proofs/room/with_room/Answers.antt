-- The candidates in turn: those that leave room are kept.
use Rattle.std.proofs.Common.{◌∙◌, ap}
use Rattle.masks.specs.Sets.{union_of}
use Rattle.open_actions.proofs.Choosing.{room_skip, room_out, room_in}
use Rattle.open_actions.proofs.room.with_room.Goals as goal
use Rattle.open_actions.proofs.room.with_room.Goals.{then-is_member+in-Some, then-is_member+in-None, else-is_member}

pub loop-o-preserved : goal.loop-o-preserved
loop-o-preserved c =
    elim c.if-is_member.branch [
      | then-is_member+in-Some w ↦ rw (w.mask-is, w.culprits-is) (room_out c.loop-o.invariant w.in-Some.ensures w.union-culprits.ensures)
      | then-is_member+in-None w ↦ rw (w.mask-is, w.culprits-is) (room_in c.loop-o.invariant (w.union-mask.ensures ∙ ap (union_of _) w.single.ensures))
      | else-is_member w ↦ rw (w.mask-is, w.culprits-is) (room_skip c.loop-o.invariant c.is_member.ensures w.if-is_member.false)
    ]
