-- All properties are left, the object has the one of this turn or not, and none is left.
use Rattle.std.proofs.Common.{ℕ}
use mathlib.Core.Path.{sym, ap, ◌∙◌}
use mathlib.Core.List.{foldl}
use borrow.Author.Tests.{lt-ltb, le-ltb}
use Rattle.laws.specs.Bags.{support}
use Rattle.properties.specs.Tables.{bag_at}
use Rattle.spaces.specs.Steps.{join_at, open_at}
use Rattle.spaces.proofs.Rows.{used, support_kept}
use Rattle.spaces.proofs.Joining.{join_start, join_passes, join_fails, join_end}
use Rattle.spaces.proofs.members.open_object.Goals as goal
use Rattle.spaces.proofs.members.open_object.Goals.{then-counts-at-gt0, else-counts-at-gt0}

pub loop-c-init : goal.loop-c-init
loop-c-init c = join_start

pub loop-c-preserved : goal.loop-c-preserved
unfolding used
loop-c-preserved c =
    let inv = c.loop-c.invariant in
    let here = c.loop-c-test.true in
    elim c.if-counts-at-gt0.branch [
      | then-counts-at-gt0 w ↦ join_passes inv here (lt-ltb 0 _ w.if-counts-at-gt0.true) (w.members-is ∙ w.join.ensures)
      | else-counts-at-gt0 w ↦ join_fails inv here (le-ltb 0 _ w.if-counts-at-gt0.false) w.members-is
    ]

pub returns : goal.returns
unfolding open_at
returns c =
    let a = c.args in
    let alone = c.single-alone in
    join_end c.loop-c.invariant c.loop-c-test.false
    ∙ ap (foldl (join_at a.groups.now alone.result) a.members.now) (sym (support_kept c.requires.has_row))
    ∙ ap (λ (m : ℕ). foldl (join_at a.groups.now m) a.members.now (support (bag_at a.size a.counts.now a.object))) alone.ensures
