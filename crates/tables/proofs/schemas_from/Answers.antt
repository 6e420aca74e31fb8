use Rattle.std.proofs.Common.{◌≡◌, ◌+◌, ◌*◌, rules}
use Rattle.tables.specs.Flat.{array, schema_from, schemas_from}
use Rattle.tables.proofs.Filling.{made}
use Rattle.tables.proofs.schemas_from.Goals as goal

pub returns : goal.returns
unfolding schemas_from
returns c =
    let schemas : c.from_fn.result ≡ array 32 (λ i. schema_from c.args.bytes.now (23 + 100 * i)) =
    made (λ i. schema_from c.args.bytes.now (23 + 100 * i)) (λ i y q k. search rules) c.from_fn.ensures.items in
    rw (c.number_at.ensures.0, schemas)
