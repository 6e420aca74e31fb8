-- The property of this turn is changed and the first, is not changed, or none is left.
use mathlib.Core.Path.{sym, ap, ◌∙◌}
use mathlib.Core.Bool.{not}
use Rattle.std.proofs.Common.{◌*◌}
use borrow.Author.Tests.{eq-eqb, ne_eqb}
use Rattle.laws.proofs.Walks.{kept_all}
use Rattle.spaces.specs.Steps.{first_of}
use Rattle.spaces.proofs.Rows.{differs, changed_kept, first_here, first_later, first_none}
use Rattle.spaces.proofs.grouping.first_changed.Goals as goal

pub loop-c-init : goal.loop-c-init
loop-c-init c = ap first_of (kept_all _ c.args.size ∙ sym (changed_kept c.requires.0 c.requires.1))

pub returns-then-deletes-at : goal.returns-then-deletes-at
unfolding differs
returns-then-deletes-at c =
    let a = c.args in
    sym
    (first_here (differs a.deletes.now a.adds.now (60 * a.row)) a.size c.loop-c.c c.loop-c-test.true
    (ap not (ne_eqb _ _ c.if-deletes-at.true)))
    ∙ c.loop-c.invariant

pub loop-c-preserved : goal.loop-c-preserved
unfolding differs
loop-c-preserved c =
    let a = c.args in
    sym
    (first_later (differs a.deletes.now a.adds.now (60 * a.row)) a.size c.loop-c.c c.loop-c-test.true
    (ap not (eq-eqb _ _ c.if-deletes-at.false)))
    ∙ c.loop-c.invariant

pub returns : goal.returns
returns c =
    let a = c.args in
    sym (first_none (differs a.deletes.now a.adds.now (60 * a.row)) a.size c.loop-c.c c.loop-c-test.false)
    ∙ c.loop-c.invariant
