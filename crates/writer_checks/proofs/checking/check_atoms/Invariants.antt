-- What is left to check is the answer.
use Rattle.std.proofs.Common.{◌≡◌, drop, map}
use Rattle.std.proofs.Math.Option.{none}
use Rattle.model.specs.Writer.{each, check_schema_atom}
use Rattle.card.specs.Fields.{field_test, field_refusal}
use Rattle.card.specs.Represents.{atom_of, atoms_of, refusal_number}
use Rattle.writer_checks.specs.Checking.{previous}
use Rattle.writer_checks.proofs.checking.check_atoms.Given as goal

abbrev pub invariant-loop-a : goal.invariant-loop-a
invariant-loop-a l =
    let check = check_schema_atom l.arities l.parameters (field_test l.field (atoms_of l.arities l.preconditions)) (refusal_number (field_refusal l.field)) in
    each check (previous l.arities l.before) (drop l.a-index (map (atom_of l.arities) l.a-items))
    ≡ each check none (map (atom_of l.arities) l.a-items)
