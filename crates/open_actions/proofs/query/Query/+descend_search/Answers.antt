-- `descend` concludes what the search of the next level does, unless a note or an earlier parameter rules its object out; `search` adds one object
-- of its level after the other.
use borrow.Author.Tests.{not-false}
use Rattle.std.proofs.Common.{◌∙◌, refl, sym, ap, is_some, arith, length-set}
use Rattle.masks.specs.Sets.{union_of}
use Rattle.open_actions.proofs.Searching.{same_length, deeper, at_this_level}
use Rattle.open_actions.proofs.Descending.{few_parameters, small, level_fits, whole_ready, whole_says, choices_ready, inner, step_ready, stays_long}
use Rattle.open_actions.proofs.Descending.{level_ready, level_recalls, level_stuck, taken_already, level_finds}
use Rattle.open_actions.proofs.Descending.{turn_start, turn_skip, turn_found, turn_back, turn_again, turn_end}
use Rattle.open_actions.proofs.query.Query.+descend_search.Goals as goal
use Rattle.open_actions.proofs.query.Query.+descend_search.Goals.{descend-then-exact, descend-else-exact}
use Rattle.open_actions.proofs.query.Query.+descend_search.Goals.{search-then-is_member+in-Err+else-not-is_member, search-else-is_member}

pub descend-single-this-requires : goal.descend-single-this-requires
descend-single-this-requires t c = omega (arith, level_fits c.requires)

pub descend-overflow_mul-place : goal.descend-overflow_mul-place
descend-overflow_mul-place t c = omega (arith, level_fits c.requires)

pub descend-overflow_add-place : goal.descend-overflow_add-place
descend-overflow_add-place t c = omega (arith, level_fits c.requires, small c.requires)

pub descend-recall-requires : goal.descend-recall-requires
descend-recall-requires t c =
    let longer = length-set c.args.objects.now c.args.level c.args.o in
    (omega (arith, level_fits c.requires, small c.requires), omega (arith, few_parameters c.requires.ready))

pub descend-returns-in-Some : goal.descend-returns-in-Some
descend-returns-in-Some t c = level_recalls c.requires c.single-this.ensures c.union-here.ensures c.in-Some.ensures

pub descend-taken_by-owner-requires : goal.descend-taken_by-owner-requires
descend-taken_by-owner-requires t c =
    let longer = length-set c.args.objects.now c.args.level c.args.o in
    (omega (arith, c.requires.inside), omega (arith, few_parameters c.requires.ready))

pub descend-search-later-requires : goal.descend-search-later-requires
descend-search-later-requires t c = (
  deeper c.args.objects.now c.args.level c.args.o c.decreases c.requires.inside,
  level_ready c.requires c.single-this.ensures c.union-here.ensures
      (λ e. elim c.if-exact.branch [ descend-then-exact w ↦ w.if-exact.true | descend-else-exact w ↦ sym w.free-is ∙ e ]),
)

pub descend-note-requires : goal.descend-note-requires
descend-note-requires t c =
    let long = same_length c.search-later.ensures.outcome.full c.requires.ready.full in
    (omega (arith, level_fits c.requires, small c.requires), omega (arith, few_parameters c.requires.ready))

pub descend-returns-in-Err : goal.descend-returns-in-Err
descend-returns-in-Err t c =
    level_stuck c.requires c.single-this.ensures c.union-here.ensures c.in-Err.ensures refl c.union.ensures c.note.ensures

pub descend-single-requires : goal.descend-single-requires
descend-single-requires t c = omega (arith, level_fits c.requires, c.in-Some-owner.ensures.below)

pub descend-returns-in-Some-owner : goal.descend-returns-in-Some-owner
descend-returns-in-Some-owner t c =
    taken_already c.requires c.single-this.ensures c.union-here.ensures c.search-later.ensures c.in-Some-owner.ensures c.single.ensures
    c.union-in-Some-owner.ensures

-- the search of the next level is exact if this one is, since no earlier parameter has the object
pub descend-returns-in-None : goal.descend-returns-in-None
descend-returns-in-None t c =
    level_finds c.requires c.single-this.ensures c.union-here.ensures c.search-later.ensures
    (elim c.if-exact.branch [
      | descend-then-exact w ↦ w.free-is ∙ not-false _ (sym w.is_none-free.ensures ∙ ap is_some c.in-None.is) ∙ sym w.if-exact.true
      | descend-else-exact w ↦ w.free-is
    ])

pub search-complete-requires : goal.search-complete-requires
search-complete-requires t c = whole_ready c.requires c.if-level-objects.true

pub search-returns-then-level-objects : goal.search-returns-then-level-objects
search-returns-then-level-objects t c = whole_says c.requires c.if-level-objects.true c.complete.ensures

pub search-choices_for-left-requires : goal.search-choices_for-left-requires
search-choices_for-left-requires t c = choices_ready c.requires

pub search-loop-o-init : goal.search-loop-o-init
search-loop-o-init t c = turn_start c.requires c.if-level-objects.false c.choices_for-left.ensures

pub search-descend-tried-requires : goal.search-descend-tried-requires
search-descend-tried-requires t c = (
  at_this_level c.args.objects.now c.loop-o.objects c.args.level c.decreases
      (stays_long c.requires c.if-level-objects.false c.choices_for-left.ensures c.loop-o.invariant) (inner c.requires c.if-level-objects.false),
  step_ready c.requires c.if-level-objects.false c.choices_for-left.ensures c.loop-o.invariant c.loop-o-test.true,
)

pub search-returns-in_default : goal.search-returns-in_default
search-returns-in_default t c =
    turn_found c.requires c.if-level-objects.false c.choices_for-left.ensures c.loop-o.invariant c.descend-tried.ensures c.in_default.is

pub search-is_member-requires-then-is_member : goal.search-is_member-requires-then-is_member
search-is_member-requires-then-is_member t c =
    omega (arith, few_parameters c.requires.ready, inner c.requires c.if-level-objects.false)

pub search-returns-then-not-is_member : goal.search-returns-then-not-is_member
search-returns-then-not-is_member t c =
    turn_back c.requires c.if-level-objects.false c.choices_for-left.ensures c.loop-o.invariant c.in-Err.ensures refl
    c.is_member-then-is_member.ensures c.if-not-is_member.true

pub search-loop-o-preserved : goal.search-loop-o-preserved
search-loop-o-preserved t c =
    elim c.if-is_member.branch [
      | search-then-is_member+in-Err+else-not-is_member w ↦ rw (w.objects-is, w.notes-is)
          (turn_again c.requires c.if-level-objects.false c.choices_for-left.ensures c.loop-o.invariant w.in-Err.ensures refl
          (w.culprits-is ∙ w.union-culprits.ensures ∙ ap (union_of _) w.common.ensures))
      | search-else-is_member w ↦ rw (w.objects-is, w.notes-is, w.culprits-is)
          (turn_skip c.requires c.if-level-objects.false c.choices_for-left.ensures c.loop-o.invariant c.is_member.ensures w.if-is_member.false)
    ]

pub search-returns : goal.search-returns
search-returns t c =
    turn_end c.requires c.if-level-objects.false c.choices_for-left.ensures c.loop-o.invariant c.loop-o-test.false
