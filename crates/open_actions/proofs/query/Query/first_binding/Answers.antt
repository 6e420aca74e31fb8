-- The test of the last parameters, then the search from the first one on.
use Rattle.std.proofs.Common.{refl}
use Prim.Native.Nat.{zero-le}
use Rattle.masks.specs.Sets.{all_below}
use Rattle.open_actions.proofs.Noting.{kept_twice}
use Rattle.open_actions.proofs.Levels.{exact_ready, picks_first}
use Rattle.open_actions.proofs.query.Query.first_binding.Goals as goal

pub search-searched-requires : goal.search-searched-requires
unfolding all_below
search-searched-requires c =
    let fits = c.last_parameters_fit.ensures in
    record { ready = exact_ready fits.0.full zero-le refl; true_notes = fits.1.true_notes }

pub returns : goal.returns
returns c = (
  picks_first c.search-searched.ensures.outcome c.is_ok.ensures.value,
  (kept_twice c.last_parameters_fit.ensures.1 c.search-searched.ensures.notes_kept).size,
)
