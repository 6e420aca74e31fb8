-- Each level is searched alone: where that is stuck no binding is open.
use Rattle.std.proofs.Common.{not, ◌∙◌, ap, arith}
use Rattle.open_actions.proofs.Searching.{same_length}
use Rattle.open_actions.proofs.Noting.{kept_twice}
use Rattle.open_actions.proofs.Levels.{alone_ready, fits_not, few_given, product_fits}
use Rattle.open_actions.proofs.query.Query.last_parameters_fit.Goals as goal

pub overflow_mul-parameters : goal.overflow_mul-parameters
overflow_mul-parameters c = omega (arith, product_fits (few_given c.args.self.now c.requires.full) c.args.self.now.ready.state_kept.shape.few_objects)

pub search-searched-requires : goal.search-searched-requires
search-searched-requires c = record {
  ready = alone_ready c.loop-first.invariant.full (omega (arith, same_length c.loop-first.invariant.full c.requires.full));
  true_notes = c.loop-first.invariant.notes_kept.true_notes;
}

pub returns-then-is_err : goal.returns-then-is_err
returns-then-is_err c = (
  fits_not c.search-searched.ensures.outcome (c.is_err.ensures.negation ∙ ap not c.if-is_err.true),
  kept_twice c.loop-first.invariant.notes_kept c.search-searched.ensures.notes_kept,
)
