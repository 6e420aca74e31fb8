use Rattle.std.proofs.Common.{◌≡◌, ◌+◌, ◌*◌, rules}
use Rattle.tables.specs.Flat.{array, byte_at, atom_from, facts_from}
use Rattle.tables.proofs.Filling.{made}
use Rattle.tables.proofs.facts_from.Goals as goal

pub returns : goal.returns
unfolding facts_from
returns c =
    let facts : c.from_fn.result ≡ array 512 (λ i. atom_from c.args.bytes.now (3225 + 4 * i)) =
    made (λ i. atom_from c.args.bytes.now (3225 + 4 * i)) (λ i y q k. search rules) c.from_fn.ensures.items in
    let count : c.from.result ≡ byte_at c.args.bytes.now 3223 * 256 + byte_at c.args.bytes.now 3224 =
    rw (c.from.ensures, c.from_be_bytes.ensures, c.byte_at.ensures, c.byte_at-2.ensures) in
    rw (count, facts)
