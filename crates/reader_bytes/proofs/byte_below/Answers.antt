-- `byte_below` reads as the definition does.
use Rattle.std.proofs.Common.{◌<◌, ◌≤◌, refl, arith}
use borrow.Author.Tests.{lt-ltb, le-ltb}
use Rattle.reader_bytes.proofs.Answers.{byte_that_ends, byte_that_passes, byte_that_fails}
use Rattle.reader_bytes.proofs.Reading.{accepts, refuses, passed_on}
use Rattle.reader_bytes.proofs.byte_below.Goals as goal

pub returns-in_default : goal.returns-in_default
returns-in_default c = passed_on c.in_default.is (refuses (byte_that_ends _ _ _ c.in_default.ensures.says))

pub returns-then-from-bound : goal.returns-then-from-bound
returns-then-from-bound c =
    let r = c.in-Ok.ensures in
    let below : c.in-Ok.b < c.args.bound = omega arith in
    passed_on c.in-Ok.is (accepts (byte_that_passes _ _ _ r.says (lt-ltb _ _ below)) r.within refl)

pub returns-else-from-bound : goal.returns-else-from-bound
returns-else-from-bound c =
    let above : c.args.bound ≤ c.in-Ok.b = omega arith in
    refuses (byte_that_fails _ _ _ c.in-Ok.ensures.says (le-ltb _ _ above))
