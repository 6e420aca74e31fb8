-- The row of a fact.
use Rattle.std.proofs.Common.{ℕ, ◌≡◌, get_or, ap, ◌∙◌}
use Rattle.actions.proofs.GroundRows.{fact_row}
use Rattle.actions.proofs.fact_number.Goals as goal

pub returns : goal.returns
returns c =
    let f = c.args.f in
    let arity : get_or c.args.arities.now c.from.result 0 ≡ get_or c.args.arities.now f.predicate 0 =
    ap (λ (p : ℕ). get_or c.args.arities.now p 0) c.from.ensures in
    c.row_number.ensures
    ∙ fact_row _ _ c.requires.0 c.requires.1 _ _ _ (rw (← arity) c.place_byte-first.ensures) (rw (← arity) c.place_byte-second.ensures)
    (rw (← arity) c.place_byte-third.ensures)
