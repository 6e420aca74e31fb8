-- The row of a ground atom.
use Rattle.std.proofs.Common.{ℕ, ◌≡◌, get_or, arith, ap, ◌∙◌}
use Rattle.actions.proofs.GroundRows.{ground_row, atom_predicate, atom_arguments}
use Rattle.actions.proofs.ground.Goals as goal

pub bounds-arities-from : goal.bounds-arities-from
bounds-arities-from c = omega (arith, atom_predicate _ _ _ c.requires.1, c.from.ensures)

pub object-first-requires : goal.object-first-requires
object-first-requires c = rw c.from.ensures (atom_arguments _ _ _ c.requires.0 c.requires.1).0

pub object-second-requires : goal.object-second-requires
object-second-requires c = rw c.from.ensures (atom_arguments _ _ _ c.requires.0 c.requires.1).1

pub object-third-requires : goal.object-third-requires
object-third-requires c = rw c.from.ensures (atom_arguments _ _ _ c.requires.0 c.requires.1).2

pub returns : goal.returns
returns c =
    let a = c.args.a in
    let arity : get_or c.args.arities.now c.from.result 0 ≡ get_or c.args.arities.now a.predicate 0 =
    ap (λ (p : ℕ). get_or c.args.arities.now p 0) c.from.ensures in
    c.row_number.ensures
    ∙ ground_row _ _ _ c.requires.0 (atom_predicate _ _ _ c.requires.1) _ _ _ (rw (← arity) c.object-first.ensures)
    (rw (← arity) c.object-second.ensures) (rw (← arity) c.object-third.ensures)
