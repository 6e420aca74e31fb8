-- The changes, and 20 from their number.
use Rattle.std.proofs.Common.{arith}
use Rattle.strips.proofs.Applying.{state_formed}
use Rattle.previews.proofs.Foreseeing.{come_few, room_made_lem, asked_full, asked_fits}
use Rattle.previews.proofs.foresee.Goals as goal

pub overflow_add-next : goal.overflow_add-next
overflow_add-next c =
    let few = come_few c.requires _ c.changes_of-changes.ensures in
    let count = (state_formed c.requires.ready.state).count_fits in
    omega arith

pub overflow_sub-next : goal.overflow_sub-next
overflow_sub-next c =
    let room = room_made_lem c.requires _ c.changes_of-changes.ensures in
    omega arith

pub returns-then-next-gt-MOST_FACTS : goal.returns-then-next-gt-MOST_FACTS
returns-then-next-gt-MOST_FACTS c = asked_full c.requires _ c.changes_of-changes.ensures c.if-next-gt-MOST_FACTS.true

pub returns : goal.returns
returns c = asked_fits c.requires _ c.changes_of-changes.ensures c.if-next-gt-MOST_FACTS.false
