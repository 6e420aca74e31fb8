-- The test of the last parameters, then the levels from the last one down, each with the given objects below it.
use Rattle.std.proofs.Common.{◌∙◌, sym, arith}
use Rattle.open_actions.proofs.Searching.{same_length}
use Rattle.open_actions.proofs.Noting.{kept_twice}
use Rattle.open_actions.proofs.Levels.{exact_ready, few_given, none_after, resume_next, resume_found, resume_end}
use Rattle.open_actions.proofs.query.Query.next_binding.Goals as goal

pub returns-then-not-may_fit : goal.returns-then-not-may_fit
returns-then-not-may_fit c = (none_after c.requires.full c.may_fit.ensures.0 c.if-not-may_fit.true, c.may_fit.ensures.1.size)

pub all_below-bound-requires : goal.all_below-bound-requires
all_below-bound-requires c = omega (arith, few_given c.args.self.now c.requires.full)

pub search-searched-requires : goal.search-searched-requires
search-searched-requires c =
    let resuming = c.loop-level.invariant.resuming in
    record {
      ready =
          exact_ready resuming.full
          (omega (arith, resuming.within, same_length resuming.full_given_lem resuming.full)) c.all_below-bound.ensures;
      true_notes = c.loop-level.invariant.notes_kept.true_notes;
    }

pub returns-then-is_ok : goal.returns-then-is_ok
returns-then-is_ok c = (
  resume_found c.loop-level-test.true c.loop-level.invariant.resuming c.all_below-bound.ensures
      (rw c.from-from.ensures at c.search-searched.ensures.outcome) (sym c.is_ok.ensures.value ∙ c.if-is_ok.true),
  (kept_twice c.may_fit.ensures.1 (kept_twice c.loop-level.invariant.notes_kept c.search-searched.ensures.notes_kept)).size,
)

pub loop-level-preserved : goal.loop-level-preserved
loop-level-preserved c = record {
  resuming =
      resume_next c.loop-level-test.true c.loop-level.invariant.resuming c.all_below-bound.ensures
      (rw c.from-from.ensures at c.search-searched.ensures.outcome) (sym c.is_ok.ensures.value ∙ c.if-is_ok.false);
  notes_kept = kept_twice c.loop-level.invariant.notes_kept c.search-searched.ensures.notes_kept;
}

pub returns : goal.returns
returns c = (
  resume_end (omega arith) c.loop-level.invariant.resuming,
  (kept_twice c.may_fit.ensures.1 c.loop-level.invariant.notes_kept).size,
)
