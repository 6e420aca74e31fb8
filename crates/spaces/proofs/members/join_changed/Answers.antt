-- All properties are left, the one of this turn is changed or not, and none is left.
use mathlib.Core.Path.{sym, ap, ◌∙◌}
use mathlib.Core.Bool.{not}
use mathlib.Core.List.{foldl}
use borrow.Author.Tests.{eq-eqb, ne_eqb}
use Rattle.spaces.specs.Steps.{join_at}
use Rattle.spaces.proofs.Rows.{differs, changed_kept}
use Rattle.spaces.proofs.Joining.{join_start, join_passes, join_fails, join_end}
use Rattle.spaces.proofs.members.join_changed.Goals as goal
use Rattle.spaces.proofs.members.join_changed.Goals.{then-deletes-at, else-deletes-at}

pub loop-c-init : goal.loop-c-init
loop-c-init c = join_start

pub loop-c-preserved : goal.loop-c-preserved
unfolding differs
loop-c-preserved c =
    let inv = c.loop-c.invariant in
    let here = c.loop-c-test.true in
    elim c.if-deletes-at.branch [
      | then-deletes-at w ↦ join_passes inv here (ap not (ne_eqb _ _ w.if-deletes-at.true)) (w.members-is ∙ w.join.ensures)
      | else-deletes-at w ↦ join_fails inv here (ap not (eq-eqb _ _ w.if-deletes-at.false)) w.members-is
    ]

pub returns : goal.returns
returns c =
    join_end c.loop-c.invariant c.loop-c-test.false
    ∙ ap (foldl (join_at c.args.groups.now c.args.those) c.args.members.now) (sym (changed_kept c.requires.has_row.0 c.requires.has_row.1))
