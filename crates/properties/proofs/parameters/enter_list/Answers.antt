-- The atoms are known, and they are counted in rows that were emptied.
use Rattle.std.proofs.Common.{ℕ, ◌≡◌, ◌*◌, ◌++◌, List, length, map, take, drop, replicate, arith, rules, sym, ap, ◌∙◌}
use Rattle.std.proofs.lemmas.List.{map-id}
use Rattle.std.proofs.lemmas.Grind.{common_steps}
use Rattle.model.specs.Card as model
use Rattle.model.specs.Transitions.{properties_from}
use Rattle.card.specs.Represents.{arities_of, atom_of}
use Rattle.card.proofs.Entries.{atoms_within}
use Rattle.properties.specs.Parameters.{bags_over}
use Rattle.properties.specs.Tables.{rows_before}
use Rattle.properties.proofs.Counting.{rows_over_zeros}
use Rattle.properties.proofs.ParameterRows.{length_bags_over}
use Rattle.properties.proofs.parameters.enter_list.Goals as goal

pub enter_atoms-requires-clause-atoms_known : goal.enter_atoms-requires-clause-atoms_known
enter_atoms-requires-clause-atoms_known c =
    let l : length c.args.atoms.atoms ≡ 8 = search rules in
    rw (← atoms_within (arities_of c.args.predicates) c.args.atoms (omega (arith, c.requires.atoms_right.few))) c.requires.atoms_right.atoms_known

pub returns : goal.returns
unfolding bags_over
returns c =
    let n = c.args.parameters in
    let before = c.args.table.now in
    let arities = arities_of c.args.predicates in
    let cs = properties_from 0 arities in
    let l : length c.args.atoms.atoms ≡ 8 = search rules in
    let within = atoms_within arities c.args.atoms (omega (arith, c.requires.atoms_right.few)) in
    let filled : c.fill.new.self ≡ replicate (60 * n) 0 = grind (arith, common_steps) in
    let cleared : map (λ (x : ℕ). x) (c.fill.new.self ++ drop (60 * n) before) ≡ replicate (60 * n) 0 ++ drop (60 * n) before =
    map-id _ ∙ ap (λ (front : List ℕ). front ++ drop (60 * n) before) filled in
    sym (map-id c.enter_atoms.new.table)
    ∙ c.enter_atoms.ensures
    ∙ ap (rows_before (bags_over cs (map (atom_of arities) (take c.args.atoms.count c.args.atoms.atoms)) n)) cleared
    ∙ rows_over_zeros _ n before (length_bags_over cs _ n)
    ∙ ap (λ (known : List model.Atom). rows_before (bags_over cs known n) before) (sym within)
