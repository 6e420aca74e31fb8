-- The test of the last parameters on an array of zeros.
use Rattle.std.proofs.Common.{sym}
use Rattle.open_actions.proofs.Levels.{few_parameters, zeros_size, zeros_ready}
use Rattle.open_actions.proofs.query.Query.may_fit.Goals as goal

pub slice_bounds-trial-end : goal.slice_bounds-trial-end
slice_bounds-trial-end c = few_parameters c.args.self.now

pub slice_bounds-last_parameters_fit-end : goal.slice_bounds-last_parameters_fit-end
slice_bounds-last_parameters_fit-end c = sym (zeros_size c.args.self.now)

pub last_parameters_fit-requires : goal.last_parameters_fit-requires
last_parameters_fit-requires c = record { full = zeros_ready c.args.self.now; true_notes = c.requires }
