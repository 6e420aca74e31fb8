-- `decode` answers as the definition does, and keeps the task with its arrays filled up.
use Rattle.std.proofs.Common.{arith}
use Rattle.card.specs.Represents.{refusal_number}
use Rattle.reader.proofs.Decoding.{no_predicates, no_objects, arities_room, lent_arities, decodes_refused}
use Rattle.reader.proofs.SchemaLoop.{predicates_lent, head_read, schemas_uncounted, schemas_start, filling_right, schema_refused_lem, schemas_go_on}
use Rattle.reader.proofs.SchemaLoop.{facts_refused, bytes_follow, card_decodes}
use Rattle.reader.proofs.decode.Goals as goal

pub returns-in-Err : goal.returns-in-Err
returns-in-Err c = decodes_refused c.refused.ensures (no_predicates _ c.in-Err.ensures.says)

pub shared_ref_as_front-arities : goal.shared_ref_as_front-arities
shared_ref_as_front-arities c = omega (arith, arities_room c.in-Ok.ensures.keeps)

pub returns-in-Err-byte_between : goal.returns-in-Err-byte_between
unfolding refusal_number
returns-in-Err-byte_between c =
    decodes_refused c.refused-in-Err-byte_between.ensures (no_objects _ (predicates_lent c.in-Ok.ensures) c.in-Err-byte_between.ensures.says)

pub returns-in-Err-byte_between-2 : goal.returns-in-Err-byte_between-2
unfolding refusal_number
returns-in-Err-byte_between-2 c =
    let head = head_read c.in-Ok.ensures c.in-Ok-byte_between.ensures.says c.from-objects.ensures in
    decodes_refused c.refused-in-Err-byte_between-2.ensures (schemas_uncounted head c.in-Err-byte_between-2.ensures.says)

pub loop-i-init : goal.loop-i-init
unfolding refusal_number
loop-i-init c =
    let head = head_read c.in-Ok.ensures c.in-Ok-byte_between.ensures.says c.from-objects.ensures in
    let r = c.in-Ok-byte_between-2.ensures in
    schemas_start head r.says c.from-schema_count.ensures r.within c.no_schemas-schemas.ensures

pub schema-requires : goal.schema-requires
schema-requires c = filling_right c.loop-i.invariant

pub returns-in-Err-schema : goal.returns-in-Err-schema
returns-in-Err-schema c =
    decodes_refused c.refused-in-Err-schema.ensures (schema_refused_lem c.loop-i.invariant c.loop-i-test.true c.in-Err-schema.ensures)

pub loop-i-preserved : goal.loop-i-preserved
loop-i-preserved c = schemas_go_on c.loop-i.invariant c.loop-i-test.true c.in-Ok-schema.ensures

pub facts-requires : goal.facts-requires
facts-requires c = filling_right c.loop-i.invariant

pub returns-in-Err-facts : goal.returns-in-Err-facts
returns-in-Err-facts c =
    decodes_refused c.refused-in-Err-facts.ensures (facts_refused c.loop-i.invariant c.loop-i-test.false c.in-Err-facts.ensures)

pub returns-then-c-card : goal.returns-then-c-card
unfolding refusal_number
returns-then-c-card c =
    decodes_refused c.refused-then-c-card.ensures (bytes_follow c.loop-i.invariant c.loop-i-test.false c.in-Ok-facts.ensures c.if-c-card.true)

pub returns : goal.returns
returns c =
    let kept = c.in-Ok.ensures.keeps in
    card_decodes c.loop-i.invariant c.loop-i-test.false c.in-Ok-facts.ensures kept (lent_arities kept) c.if-c-card.false
