use Rattle.std.proofs.Common.{◌≡◌, ◌+◌, rules}
use Rattle.tables.specs.Flat.{array, byte_at, arities_from}
use Rattle.tables.proofs.Filling.{made}
use Rattle.tables.proofs.arities_from.Goals as goal

pub returns : goal.returns
unfolding arities_from
returns c =
    let arities : c.from_fn.result ≡ array 20 (λ i. byte_at c.args.bytes.now (1 + i)) =
    made (λ i. byte_at c.args.bytes.now (1 + i)) (λ i y q k. search rules) c.from_fn.ensures.items in
    rw (c.number_at.ensures.0, arities)
