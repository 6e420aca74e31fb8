-- Each turn counts one atom more.
use Rattle.std.proofs.Common.{ℕ, ◌≡◌, ◌≤◌, ◌<◌, true, List, length, get_or, map, take, length-take, arith, add-one}
use Rattle.std.proofs.lemmas.List.{length-map}
use Rattle.card.specs.declared.ArityList.{ArityList}
use Rattle.card.specs.declared.Atom.{Atom}
use Rattle.card.specs.Represents.{arities_of, atom_of}
use Rattle.laws.specs.Lists.{all, padded}
use Rattle.model.specs.Transitions.{properties_from}
use Rattle.model.specs.Writer.{known}
use Rattle.properties.specs.Represented.{AritiesRight, first_properties}
use Rattle.properties.specs.Parameters.{bags_over}
use Rattle.properties.proofs.Predicates.{Placed, known_placed, sum_arities, arity_asked}
use Rattle.properties.proofs.Counting.{atoms_next, atom_known}
use Rattle.properties.proofs.AtomByAtom.{none_entered, atom_fits, atom_counted, all_entered}
use Rattle.properties.proofs.counts.enter_atoms.Goals as goal

abbrev blank : Atom
blank = record { predicate = 0; first = 0; second = 0; third = 0 }

-- the predicate of the atom that a turn takes
here : (predicates : ArityList) (firsts : List ℕ) (atoms : List Atom) (rows i : ℕ) → AritiesRight predicates
    → firsts ≡ padded 20 0 (first_properties (arities_of predicates))
    → all (known (arities_of predicates) rows) (map (atom_of (arities_of predicates)) atoms) ≡ true → i < length atoms
    → ((get_or atoms i blank).predicate < length (arities_of predicates)) × Placed predicates firsts (get_or atoms i blank).predicate
here predicates firsts atoms rows i right numbered all_are_known h =
    known_placed predicates firsts right numbered rows (get_or atoms i blank) (atom_known (arities_of predicates) atoms i blank h rows all_are_known)

-- no more atoms are passed than there are
few : (arities : List ℕ) (atoms : List Atom) (i most : ℕ) → i < length atoms → length atoms ≤ most
    → length (take i (map (atom_of arities) atoms)) < most
few arities atoms i most h k = omega (arith, length-take i (map (atom_of arities) atoms), length-map atoms (atom_of arities))

pub loop-atom-init : goal.loop-atom-init
loop-atom-init g c =
    let sized = length-map c.args.table.now g.C.Count.number in
    none_entered c.args.rows (map g.C.Count.number c.args.table.now) c.requires.cleared (arities_of c.args.predicates)
    (sum_arities _ c.requires.arities_right) (omega arith)

pub bounds-firsts-p : goal.bounds-firsts-p
bounds-firsts-p g c =
    let at = here _ _ c.args.atoms.now _ c.loop-atom.atom-index c.requires.arities_right c.requires.firsts_value c.requires.atoms_known c.loop-atom-test.true in
    omega (arith, at.1.below, c.from-p.ensures)

pub bounds-predicates-p : goal.bounds-predicates-p
bounds-predicates-p g c =
    let at = here _ _ c.args.atoms.now _ c.loop-atom.atom-index c.requires.arities_right c.requires.firsts_value c.requires.atoms_known c.loop-atom-test.true in
    omega (arith, at.1.below, c.from-p.ensures)

pub enter_atom-requires-clause-le_arity : goal.enter_atom-requires-clause-le_arity
enter_atom-requires-clause-le_arity g c =
    let at = here _ _ c.args.atoms.now _ c.loop-atom.atom-index c.requires.arities_right c.requires.firsts_value c.requires.atoms_known c.loop-atom-test.true in
    arity_asked at.1 c.from-p.ensures c.from.ensures

pub enter_atom-requires-clause-talliable : goal.enter_atom-requires-clause-talliable
enter_atom-requires-clause-talliable g c =
    let i = c.loop-atom.atom-index in
    let arities = arities_of c.args.predicates in
    let more = c.loop-atom-test.true in
    let at = here _ _ c.args.atoms.now _ i c.requires.arities_right c.requires.firsts_value c.requires.atoms_known more in
    let sized = length-map c.args.table.now g.C.Count.number in
    atom_fits c.requires.arities_right _ _ _ c.loop-atom.invariant (omega arith)
    (few arities c.args.atoms.now i _ more c.requires.few)
    (atom_known arities c.args.atoms.now i blank more _ c.requires.atoms_known) at c.from-p.ensures c.from.ensures

pub loop-atom-preserved : goal.loop-atom-preserved
loop-atom-preserved g c =
    let i = c.loop-atom.atom-index in
    let arities = arities_of c.args.predicates in
    let more = c.loop-atom-test.true in
    let at = here _ _ c.args.atoms.now _ i c.requires.arities_right c.requires.firsts_value c.requires.atoms_known more in
    let sized = length-map c.args.table.now g.C.Count.number in
    rw (add-one, atoms_next arities c.args.atoms.now i blank more)
    (atom_counted c.requires.arities_right _ _ _ c.loop-atom.invariant (omega arith)
    (few arities c.args.atoms.now i _ more c.requires.few)
    (atom_known arities c.args.atoms.now i blank more _ c.requires.atoms_known) at c.from-p.ensures c.from.ensures _ c.enter_atom.ensures)

pub returns : goal.returns
unfolding bags_over
returns g c =
    let arities = arities_of c.args.predicates in
    all_entered c.args.rows _ c.requires.cleared (properties_from 0 arities) (map (atom_of arities) c.args.atoms.now) c.loop-atom.atom-index
    (omega (arith, length-map c.args.atoms.now (atom_of arities))) c.loop-atom.invariant
