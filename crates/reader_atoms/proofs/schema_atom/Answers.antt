-- `schema_atom` reads as the definition does.
use Rattle.std.proofs.Common.{ap, sym, ◌∙◌}
use Rattle.model.specs.Answer.{refused}
use Rattle.card.specs.Represents.{refusal_number}
use Rattle.reader_bytes.proofs.Reading.{accepts, refuses, passed_on}
use Rattle.reader_atoms.proofs.Checks.{above_bytes_lem, belongs_bytes_lem, list_long}
use Rattle.reader_atoms.proofs.Checks.{field_ends, field_unordered, field_strange, field_passes}
use Rattle.reader_atoms.proofs.schema_atom.Goals as goal

pub returns-in_default : goal.returns-in_default
unfolding refusal_number
returns-in_default c = passed_on c.in_default.is (refuses (field_ends _ c.in_default.ensures.says))

pub returns-then-not-is_above : goal.returns-then-not-is_above
unfolding refusal_number
returns-then-not-is_above c =
    let r = c.in-Ok.ensures in
    refuses (field_unordered _ r.says (above_bytes_lem _ _ r.keeps _ c.requires.2 ∙ sym c.is_above.ensures ∙ c.if-not-is_above.true))

pub belongs-requires : goal.belongs-requires
belongs-requires c = (c.requires.1.few, list_long c.requires.1)

pub returns-then-not-belongs : goal.returns-then-not-belongs
unfolding refusal_number
returns-then-not-belongs c =
    let r = c.in-Ok.ensures in
    let above = above_bytes_lem _ _ r.keeps _ c.requires.2 ∙ sym c.is_above.ensures ∙ c.if-not-is_above.false in
    let strange = belongs_bytes_lem _ _ _ _ r.keeps c.requires.1 ∙ sym c.belongs.ensures ∙ c.if-not-belongs.true in
    refuses (field_strange _ r.says above strange ∙ ap (λ r. refused (refusal_number r)) (sym c.refusal_of.ensures))

pub returns : goal.returns
unfolding refusal_number
returns c =
    let r = c.in-Ok.ensures in
    let above = above_bytes_lem _ _ r.keeps _ c.requires.2 ∙ sym c.is_above.ensures ∙ c.if-not-is_above.false in
    let belongs = belongs_bytes_lem _ _ _ _ r.keeps c.requires.1 ∙ sym c.belongs.ensures ∙ c.if-not-belongs.false in
    passed_on c.in-Ok.is (accepts (field_passes _ r.says above belongs) r.within r.keeps)
