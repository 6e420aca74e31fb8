-- A buffer that is short is lent on whole, and no section is written; of another the first 65,536 bytes are lent on.
use Rattle.std.proofs.Common.{sym, subst, ◌∙◌}
use Rattle.capi.specs.Numbers.{Small}
use Rattle.capi.proofs.Codes.{same_code}
use Rattle.capi.proofs.Sections.{short_small, first_answers, first_small, first_leaves}
use Rattle.capi.proofs.stakestalk_section.Goals as goal

pub listed_code-requires : goal.listed_code-requires
listed_code-requires c =
    subst Small (sym c.section.ensures.answer)
    (short_small c.args.number c.args.card.now c.args.out.now c.if-out-lt-OUTPUT_BYTES.true)

pub returns-then-out-lt-OUTPUT_BYTES-clause-value : goal.returns-then-out-lt-OUTPUT_BYTES-clause-value
returns-then-out-lt-OUTPUT_BYTES-clause-value c =
    same_code c.listed_code.result c.listed_code.type_inv c.listed_code.ensures (sym c.section.ensures.answer)

pub returns-then-out-lt-OUTPUT_BYTES-clause-out_after : goal.returns-then-out-lt-OUTPUT_BYTES-clause-out_after
returns-then-out-lt-OUTPUT_BYTES-clause-out_after c = c.section.ensures.buffer

pub listed_code-requires-2 : goal.listed_code-requires-2
listed_code-requires-2 c =
    let called = c.section-2 in
    subst Small (sym called.ensures.answer)
    (first_small c.args.number c.args.card.now c.args.out.now c.if-out-lt-OUTPUT_BYTES.false _ called.ensures.buffer called.auto.out)

pub returns-clause-value : goal.returns-clause-value
returns-clause-value c =
    same_code c.listed_code-2.result c.listed_code-2.type_inv c.listed_code-2.ensures
    (sym (c.section-2.ensures.answer ∙ first_answers c.args.number c.args.card.now c.args.out.now c.if-out-lt-OUTPUT_BYTES.false))

pub returns-clause-out_after : goal.returns-clause-out_after
returns-clause-out_after c =
    first_leaves c.args.number c.args.card.now c.args.out.now c.if-out-lt-OUTPUT_BYTES.false _ c.section-2.ensures.buffer c.section-2.auto.out
