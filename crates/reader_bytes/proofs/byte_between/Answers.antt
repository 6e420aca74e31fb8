-- `byte_between` reads as the definition does.
use Rattle.std.proofs.Common.{refl}
use Rattle.model.proofs.CheckParts.{between_intro, between_below, between_above}
use Rattle.reader_bytes.proofs.Answers.{byte_that_ends, byte_that_passes, byte_that_fails}
use Rattle.reader_bytes.proofs.Reading.{accepts, refuses, passed_on}
use Rattle.reader_bytes.proofs.byte_between.Goals as goal

pub returns-in_default : goal.returns-in_default
returns-in_default c = passed_on c.in_default.is (refuses (byte_that_ends _ _ _ c.in_default.ensures.says))

pub returns-then-b-low : goal.returns-then-b-low
returns-then-b-low c = refuses (byte_that_fails _ _ _ c.in-Ok.ensures.says (between_below _ _ _ c.if-b-low.true))

pub returns-then-b-high : goal.returns-then-b-high
returns-then-b-high c =
    let r = c.in-Ok.ensures in
    passed_on c.in-Ok.is (accepts (byte_that_passes _ _ _ r.says (between_intro _ _ _ c.if-b-low.false c.if-b-high.true)) r.within refl)

pub returns-else-b-high : goal.returns-else-b-high
returns-else-b-high c = refuses (byte_that_fails _ _ _ c.in-Ok.ensures.says (between_above _ _ _ c.if-b-high.false))
