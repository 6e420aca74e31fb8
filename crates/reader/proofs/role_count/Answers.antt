-- `role_count` reads as the definition does.
use Rattle.std.proofs.Common.{◌<◌, ◌≤◌, refl, ◌∙◌, arith}
use Rattle.card.specs.Represents.{refusal_number}
use Rattle.model.proofs.CheckParts.{between_intro, between_below, between_above}
use Rattle.reader_bytes.proofs.Answers.{byte_that_ends, byte_that_passes, byte_that_fails}
use Rattle.reader_bytes.proofs.Reading.{accepts, refuses, passed_on}
use Rattle.reader.proofs.Headers.{role_absent, role_present}
use Rattle.reader.proofs.role_count.Goals as goal

pub returns-then-not-present : goal.returns-then-not-present
returns-then-not-present c = accepts (role_absent _ _ c.if-not-present.true) c.requires refl

pub returns-in_default : goal.returns-in_default
returns-in_default c =
    passed_on c.in_default.is (refuses (role_present _ _ c.if-not-present.false ∙ byte_that_ends _ _ _ c.in_default.ensures.says))

pub returns-in-0 : goal.returns-in-0
unfolding refusal_number
returns-in-0 c =
    let few : c.in-Ok.roles < 2 = omega (arith, c.in-0.is) in
    refuses (role_present _ _ c.if-not-present.false ∙ byte_that_fails _ _ _ c.in-Ok.ensures.says (between_below _ _ _ few))

pub returns-in-2-to-6 : goal.returns-in-2-to-6
returns-in-2-to-6 c =
    let r = c.in-Ok.ensures in
    let low : 2 ≤ c.in-Ok.roles = omega arith in
    let high : c.in-Ok.roles ≤ 6 = omega arith in
    let passes = byte_that_passes _ _ _ r.says (between_intro _ _ _ low high) in
    passed_on c.in-Ok.is (accepts (role_present _ _ c.if-not-present.false ∙ passes) r.within refl)

pub returns-in_default-roles : goal.returns-in_default-roles
unfolding refusal_number
returns-in_default-roles c =
    let many : 6 < c.in-Ok.roles = omega arith in
    refuses (role_present _ _ c.if-not-present.false ∙ byte_that_fails _ _ _ c.in-Ok.ensures.says (between_above _ _ _ many))
