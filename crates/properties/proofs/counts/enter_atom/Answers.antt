-- An atom of one, two or three arguments is entered argument by argument.
use Rattle.std.proofs.Common.{arith, refl}
use Rattle.std.proofs.lemmas.List.{length-map}
use Rattle.properties.proofs.Entering.{left_all, left_here, left_next, two_on, left_end}
use Rattle.properties.proofs.counts.enter_atom.Goals as goal

pub enter_argument-requires-clause-property_in_bounds : goal.enter_argument-requires-clause-property_in_bounds
enter_argument-requires-clause-property_in_bounds g c =
    let here = left_here (left_all c.requires.talliable) c.requires.le_arity.0 in
    omega (arith, here.0, length-map c.args.table.now g.C.Count.number)

pub enter_argument-requires-clause-property_bound : goal.enter_argument-requires-clause-property_bound
enter_argument-requires-clause-property_bound g c = (left_here (left_all c.requires.talliable) c.requires.le_arity.0).1

pub returns-then-arity-lt2 : goal.returns-then-arity-lt2
returns-then-arity-lt2 g c =
    left_end (left_next (left_all c.requires.talliable) c.requires.le_arity.0 refl c.enter_argument.ensures) (omega arith)

pub enter_argument-requires-2-clause-property_in_bounds : goal.enter_argument-requires-2-clause-property_in_bounds
enter_argument-requires-2-clause-property_in_bounds g c =
    let after_one = left_next (left_all c.requires.talliable) c.requires.le_arity.0 refl c.enter_argument.ensures in
    let here = left_here after_one (omega arith) in
    omega (arith, here.0, length-map c.enter_argument.new.table g.C.Count.number)

pub enter_argument-requires-2-clause-property_bound : goal.enter_argument-requires-2-clause-property_bound
enter_argument-requires-2-clause-property_bound g c =
    let after_one = left_next (left_all c.requires.talliable) c.requires.le_arity.0 refl c.enter_argument.ensures in
    (left_here after_one (omega arith)).1

pub returns-then-arity-lt3 : goal.returns-then-arity-lt3
returns-then-arity-lt3 g c =
    let after_one = left_next (left_all c.requires.talliable) c.requires.le_arity.0 refl c.enter_argument.ensures in
    left_end (left_next after_one (omega arith) refl c.enter_argument-2.ensures) (omega arith)

pub enter_argument-requires-3-clause-property_in_bounds : goal.enter_argument-requires-3-clause-property_in_bounds
enter_argument-requires-3-clause-property_in_bounds g c =
    let after_one = left_next (left_all c.requires.talliable) c.requires.le_arity.0 refl c.enter_argument.ensures in
    let after_two = left_next after_one (omega arith) (two_on c.args.first) c.enter_argument-2.ensures in
    let here = left_here after_two (omega arith) in
    omega (arith, here.0, length-map c.enter_argument-2.new.table g.C.Count.number)

pub enter_argument-requires-3-clause-property_bound : goal.enter_argument-requires-3-clause-property_bound
enter_argument-requires-3-clause-property_bound g c =
    let after_one = left_next (left_all c.requires.talliable) c.requires.le_arity.0 refl c.enter_argument.ensures in
    let after_two = left_next after_one (omega arith) (two_on c.args.first) c.enter_argument-2.ensures in
    (left_here after_two (omega arith)).1

pub returns : goal.returns
returns g c =
    let after_one = left_next (left_all c.requires.talliable) c.requires.le_arity.0 refl c.enter_argument.ensures in
    let after_two = left_next after_one (omega arith) (two_on c.args.first) c.enter_argument-2.ensures in
    left_end (left_next after_two (omega arith) refl c.enter_argument-3.ensures) (omega arith)
