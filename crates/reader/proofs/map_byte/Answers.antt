-- `map_byte` reads as the definition does.
use Rattle.std.proofs.Common.{◌<◌, ◌≤◌, refl, arith}
use borrow.Author.Tests.{lt-ltb, le-ltb}
use Rattle.card.specs.Represents.{refusal_number}
use Rattle.reader_bytes.proofs.Answers.{byte_that_ends, byte_that_passes, byte_that_fails}
use Rattle.reader_bytes.proofs.Reading.{accepts, refuses, passed_on}
use Rattle.reader.proofs.map_byte.Goals as goal

pub returns-in_default : goal.returns-in_default
returns-in_default c = passed_on c.in_default.is (refuses (byte_that_ends _ _ _ c.in_default.ensures.says))

pub returns-in-0-to-15 : goal.returns-in-0-to-15
returns-in-0-to-15 c =
    let r = c.in-Ok.ensures in
    let below : c.in-Ok.map < 16 = omega arith in
    passed_on c.in-Ok.is (accepts (byte_that_passes _ _ _ r.says (lt-ltb _ _ below)) r.within refl)

pub returns-in_default-map : goal.returns-in_default-map
unfolding refusal_number
returns-in_default-map c =
    let above : 16 ≤ c.in-Ok.map = omega arith in
    refuses (byte_that_fails _ _ _ c.in-Ok.ensures.says (le-ltb _ _ above))
