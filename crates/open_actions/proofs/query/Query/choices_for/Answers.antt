-- The candidates are enough where there is room for all adds.
use Rattle.std.proofs.Common.{arith}
use Rattle.std.proofs.Math.Seq.{length-take-le}
use Rattle.open_actions.proofs.Choosing.{supports_front}
use Rattle.open_actions.proofs.Descending.{few_rows, few_adds, preconditions_ready, adds_ready, leaves_candidates, leaves_room}
use Rattle.open_actions.proofs.query.Query.choices_for.Goals as goal

pub candidates_for-left-requires : goal.candidates_for-left-requires
candidates_for-left-requires c = preconditions_ready c.requires

pub overflow_sub-room : goal.overflow_sub-room
overflow_sub-room c = omega (arith, few_rows c.requires)

pub returns-then-adds-room : goal.returns-then-adds-room
returns-then-adds-room c = leaves_candidates c.requires c.candidates_for-left.ensures

pub supports_for-supports-requires : goal.supports_for-supports-requires
supports_for-supports-requires c = adds_ready c.requires

pub returns : goal.returns
returns c =
    let few = few_adds c.requires in
    leaves_room c.requires c.candidates_for-left.ensures (supports_front c.supports_for-supports.result (omega arith) c.supports_for-supports.ensures)
    (length-take-le c.args.self.now.schema.adds.count c.supports_for-supports.result (omega (arith, c.supports_for-supports.type_inv))) c.with_room.ensures
