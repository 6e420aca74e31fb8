-- Each turn writes one schema.
use Rattle.std.proofs.Common.{arith}
use Rattle.laws.proofs.Lists.{all_at, mem_get_d}
use Rattle.model.specs.Writer.{schema_bytes}
use Rattle.card.specs.Represents.{schema_of}
use Rattle.card.proofs.Entries.{no_schema}
use Rattle.writer.specs.Bytes.{schema_room, schema_fits}
use Rattle.writer.proofs.WriteLaws.{none_written, item_written, items_written}
use Rattle.writer.proofs.output.write_schemas.Goals as goal

pub loop-s-init : goal.loop-s-init
loop-s-init c = none_written schema_bytes (schema_of c.args.arities.now) c.args.schemas.now schema_room _ _

pub write_schema-next-requires : goal.write_schema-next-requires
write_schema-next-requires c = (all_at schema_fits _ c.requires.0 _ (mem_get_d _ _ no_schema c.loop-s-test.true), omega arith)

pub loop-s-preserved : goal.loop-s-preserved
loop-s-preserved c =
    item_written schema_bytes _ _ schema_room _ _ no_schema _ c.loop-s-test.true c.requires.1 c.loop-s.invariant c.write_schema-next.ensures

pub returns : goal.returns
returns c = items_written schema_bytes _ _ schema_room _ _ _ c.loop-s-test.false c.loop-s.auto.s-index-end c.loop-s.invariant
