-- Its pieces are the card.
use Rattle.std.proofs.Common.{◌≡◌, length, sym, arith, rules}
use Rattle.std.proofs.Math.Seq.{length-take-le}
use Rattle.card.specs.Represents.{blank_schema}
use Rattle.card.proofs.Entries.{entries_within, arities_within, schemas_within, facts_within}
use Rattle.writer.proofs.CardBytes.{whole_card}
use Rattle.writer.proofs.output.write_task.Goals as goal

pub write_schemas-after_schemas-requires : goal.write_schemas-after_schemas-requires
write_schemas-after_schemas-requires c =
    let schemas = c.args.task.schemas in
    let room : length schemas.schemas ≡ 32 = search rules in
    let fits = c.requires.0 in (
      rw (entries_within schemas.count blank_schema schemas.schemas (omega (arith, fits.schemas))) at fits.lists,
      omega (arith, fits.schemas, length-take-le schemas.count schemas.schemas (omega (arith, fits.schemas))),
    )

pub returns : goal.returns
returns c =
    let task = c.args.task in
    let fits = c.requires.0 in
    let twenty : length task.predicates.arities ≡ 20 = search rules in
    let thirty_two : length task.schemas.schemas ≡ 32 = search rules in
    let most : length task.facts.facts ≡ 512 = search rules in
    whole_card task _ fits c.requires.1 _ _ _ (sym (arities_within task.predicates (omega (arith, fits.predicates))))
    (sym (schemas_within _ task.schemas (omega (arith, fits.schemas)))) (length-take-le _ _ (omega (arith, fits.schemas)))
    (sym (facts_within _ task.facts (omega (arith, fits.facts)))) (length-take-le _ _ (omega (arith, fits.facts)))
    c.write_header-after_header.ensures c.write_schemas-after_schemas.ensures c.write_count-after_count.ensures c.write_atoms.ensures
