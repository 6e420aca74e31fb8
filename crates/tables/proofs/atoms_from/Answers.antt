use Rattle.std.proofs.Common.{◌≡◌, ◌+◌, ◌*◌, rules}
use Rattle.tables.specs.Flat.{array, atom_from, atoms_from}
use Rattle.tables.proofs.Filling.{made}
use Rattle.tables.proofs.atoms_from.Goals as goal

pub returns : goal.returns
unfolding atoms_from
returns c =
    let atoms : c.from_fn.result ≡ array 8 (λ i. atom_from c.args.bytes.now (c.args.at + 1 + 4 * i)) =
    made (λ i. atom_from c.args.bytes.now (c.args.at + 1 + 4 * i)) (λ i y q k. search rules) c.from_fn.ensures.items in
    rw (c.number_at.ensures.0, atoms)
