-- The given objects at the front of an array, and then the binding that is found after them, with a table of notes or an empty one.
use Rattle.std.proofs.Common.{sym, ◌∙◌, arith}
use Rattle.open_actions.proofs.Noting.{nothing_noted}
use Rattle.open_actions.proofs.Levels.{product_fits, few_parameters, few_given, front_inside, front_size, given_ready, next_chosen, next_none}
use Rattle.open_actions.proofs.query.Query.open_after.Goals as goal
use Rattle.open_actions.proofs.query.Query.open_after.Goals.{then-parameters-self-le-FEW, else-parameters-self-le-FEW}

pub in_front-objects-requires : goal.in_front-objects-requires
in_front-objects-requires c = few_given c.args.self.now c.requires

pub slice_bounds-objects-end : goal.slice_bounds-objects-end
slice_bounds-objects-end c = front_inside c.args.self.now c.requires c.in_front-objects.ensures

pub slice_bounds-bound-end : goal.slice_bounds-bound-end
slice_bounds-bound-end c = sym (front_size c.args.self.now c.requires c.in_front-objects.ensures)

pub overflow_mul-parameters : goal.overflow_mul-parameters
overflow_mul-parameters c = omega (arith, product_fits (few_parameters c.args.self.now) c.args.self.now.ready.state_kept.shape.few_objects)

pub next_binding-found-requires : goal.next_binding-found-requires
next_binding-found-requires c = record { full = given_ready c.args.self.now c.requires c.in_front-objects.ensures; true_notes = nothing_noted 0 }

pub next_binding-found-requires-else-parameters-self-le-FEW : goal.next_binding-found-requires-else-parameters-self-le-FEW
next_binding-found-requires-else-parameters-self-le-FEW c =
    record { full = given_ready c.args.self.now c.requires c.in_front-objects.ensures; true_notes = nothing_noted 2688 }

pub returns-then-found : goal.returns-then-found
returns-then-found c =
    elim c.if-parameters-self-le-FEW.branch [
      | then-parameters-self-le-FEW w ↦
          rw w.objects-is (next_chosen c.args.self.now c.requires c.in_front-objects.ensures w.next_binding-found.ensures.0 (sym w.found-is ∙ c.if-found.true))
      | else-parameters-self-le-FEW w ↦
          rw w.objects-is (next_chosen c.args.self.now c.requires c.in_front-objects.ensures w.next_binding-found-else-parameters-self-le-FEW.ensures.0
          (sym w.found-is ∙ c.if-found.true))
    ]

pub returns-else-found : goal.returns-else-found
returns-else-found c =
    elim c.if-parameters-self-le-FEW.branch [
      | then-parameters-self-le-FEW w ↦
          next_none c.args.self.now c.requires c.in_front-objects.ensures w.next_binding-found.ensures.0 (sym w.found-is ∙ c.if-found.false)
      | else-parameters-self-le-FEW w ↦
          next_none c.args.self.now c.requires c.in_front-objects.ensures w.next_binding-found-else-parameters-self-le-FEW.ensures.0
          (sym w.found-is ∙ c.if-found.false)
    ]
