-- A number that is found goes by closing the gap; one that is not found leaves the list.
use Rattle.std.proofs.Common.{arith}
use lib.Seq.{length-take-le}
use Rattle.sets.proofs.Changing.{found_there, found_missing, there_within, removed_missing, removed_there}
use Rattle.sets.proofs.remove.Goals as goal

pub returns-in_default : goal.returns-in_default
returns-in_default c = removed_missing _ _ _ c.requires (found_missing _ _ _ _ c.find.ensures c.in_default.is).0

pub close_gap-requires : goal.close_gap-requires
close_gap-requires c =
    let size = length-take-le c.args.count c.args.numbers.now c.requires.few in
    let there = found_there _ _ _ _ c.find.ensures c.in-Ok.is in
    (omega (arith, there_within _ _ there.0, there.1), c.requires.few)

pub overflow_sub-result : goal.overflow_sub-result
overflow_sub-result c =
    let size = length-take-le c.args.count c.args.numbers.now c.requires.few in
    let there = found_there _ _ _ _ c.find.ensures c.in-Ok.is in
    omega (arith, there_within _ _ there.0)

pub returns : goal.returns
returns c =
    let there = found_there _ _ _ _ c.find.ensures c.in-Ok.is in
    removed_there _ _ _ c.requires _ _ there.0 there.1 c.close_gap.ensures
