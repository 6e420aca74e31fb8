-- The binding that is found at the front of an array of zeros, with a table of notes or an empty one.
use Rattle.std.proofs.Common.{sym, ◌∙◌, arith}
use Rattle.open_actions.proofs.Noting.{nothing_noted}
use Rattle.open_actions.proofs.Levels.{product_fits, few_parameters, zeros_size, zeros_ready, first_chosen}
use Rattle.open_actions.proofs.query.Query.first_open.Goals as goal
use Rattle.open_actions.proofs.query.Query.first_open.Goals.{then-parameters-self-le-FEW, else-parameters-self-le-FEW}

pub slice_bounds-objects-end : goal.slice_bounds-objects-end
slice_bounds-objects-end c = few_parameters c.args.self.now

pub slice_bounds-bound-end : goal.slice_bounds-bound-end
slice_bounds-bound-end c = sym (zeros_size c.args.self.now)

pub overflow_mul-parameters : goal.overflow_mul-parameters
overflow_mul-parameters c = omega (arith, product_fits (few_parameters c.args.self.now) c.args.self.now.ready.state_kept.shape.few_objects)

pub first_binding-found-requires : goal.first_binding-found-requires
first_binding-found-requires c = record { full = zeros_ready c.args.self.now; true_notes = nothing_noted 0 }

pub first_binding-found-requires-else-parameters-self-le-FEW : goal.first_binding-found-requires-else-parameters-self-le-FEW
first_binding-found-requires-else-parameters-self-le-FEW c = record { full = zeros_ready c.args.self.now; true_notes = nothing_noted 2688 }

pub returns-then-found : goal.returns-then-found
returns-then-found c =
    elim c.if-parameters-self-le-FEW.branch [
      | then-parameters-self-le-FEW w ↦
          rw w.objects-is (first_chosen c.args.self.now w.first_binding-found.ensures.0 (sym w.found-is ∙ c.if-found.true))
      | else-parameters-self-le-FEW w ↦
          rw w.objects-is (first_chosen c.args.self.now w.first_binding-found-else-parameters-self-le-FEW.ensures.0 (sym w.found-is ∙ c.if-found.true))
    ]
