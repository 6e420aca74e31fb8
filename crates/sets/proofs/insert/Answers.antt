-- A number that is missing goes to its place; one that is found leaves the list.
use Rattle.std.proofs.Common.{arith, take}
use lib.Seq.{length-take-le}
use Rattle.sets.proofs.Ascending.{place_within}
use Rattle.sets.proofs.Changing.{found_there, found_missing, inserted_again, inserted_new}
use Rattle.sets.proofs.insert.Goals as goal

pub returns-in_default : goal.returns-in_default
returns-in_default c = inserted_again _ _ _ c.requires.1 (found_there _ _ _ _ c.find.ensures c.in_default.is).0

pub make_room-requires : goal.make_room-requires
make_room-requires c =
    let size = length-take-le c.args.count c.args.numbers.now (omega arith) in
    let within = place_within c.args.n (take c.args.count c.args.numbers.now) in
    (omega (arith, (found_missing _ _ _ _ c.find.ensures c.in-Err.is).1), omega arith)

pub returns : goal.returns
returns c =
    let missing = found_missing _ _ _ _ c.find.ensures c.in-Err.is in
    inserted_new _ _ _ c.requires.1 _ _ c.requires.0 missing.0 missing.1 c.make_room.ensures
