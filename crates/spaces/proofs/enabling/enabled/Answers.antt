-- All properties are left, the one of this turn is met or passed over, and none is left.
use Rattle.std.proofs.Common.{ℕ, ◌+◌, ◌*◌, get_or}
use mathlib.Core.Path.{sym, ap, ◌∙◌}
use mathlib.Core.List.{foldl}
use borrow.Author.Tests.{lt-ltb, le-ltb}
use Rattle.laws.specs.Bags.{support}
use Rattle.laws.proofs.Walks.{pick_starts, pick_passes, pick_fails, pick_ends}
use Rattle.properties.specs.Tables.{bag_at}
use Rattle.spaces.specs.Steps.{enabled_by}
use Rattle.spaces.proofs.Rows.{used, support_kept, meet_at}
use Rattle.spaces.proofs.enabling.enabled.Goals as goal
use Rattle.spaces.proofs.enabling.enabled.Goals.{then-preconditions-at-gt0, else-preconditions-at-gt0}

pub loop-c-init : goal.loop-c-init
unfolding enabled_by
loop-c-init c =
    let a = c.args in
    let meet = meet_at a.groups.now a.members.now in
    pick_starts meet (enabled_by a.groups.now a.objects a.members.now (bag_at a.size a.preconditions.now a.row)) a.size
    (used a.preconditions.now (60 * a.row)) c.all_below-those.result
    (ap (foldl meet c.all_below-those.result) (sym (support_kept c.requires.has_row))
    ∙ ap (λ (n : ℕ). foldl meet n (support (bag_at a.size a.preconditions.now a.row))) c.all_below-those.ensures)

pub loop-c-preserved : goal.loop-c-preserved
unfolding used
loop-c-preserved c =
    let a = c.args in
    let l = c.loop-c in
    let meet = meet_at a.groups.now a.members.now in
    let answer = enabled_by a.groups.now a.objects a.members.now (bag_at a.size a.preconditions.now a.row) in
    let test = used a.preconditions.now (60 * a.row) in
    let here = get_or a.preconditions.now (60 * a.row + l.c) 0 in
    elim c.if-preconditions-at-gt0.branch [
      | then-preconditions-at-gt0 w ↦
          pick_passes meet answer a.size test l.c l.those c.if-preconditions-at-gt0.those c.loop-c-test.true
          (lt-ltb 0 here w.if-preconditions-at-gt0.true) (w.those-is ∙ w.common-those.ensures) l.invariant
      | else-preconditions-at-gt0 w ↦
          pick_fails meet answer a.size test l.c l.those c.if-preconditions-at-gt0.those c.loop-c-test.true
          (le-ltb 0 here w.if-preconditions-at-gt0.false) w.those-is l.invariant
    ]

pub returns : goal.returns
returns c =
    let a = c.args in
    pick_ends (meet_at a.groups.now a.members.now)
    (enabled_by a.groups.now a.objects a.members.now (bag_at a.size a.preconditions.now a.row)) a.size
    (used a.preconditions.now (60 * a.row)) c.loop-c.c c.loop-c.those c.loop-c-test.false c.loop-c.invariant
