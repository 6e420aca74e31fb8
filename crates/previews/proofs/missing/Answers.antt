-- A number that is not in the state takes the next place.
use Rattle.std.proofs.Common.{ℕ, List, not, refl, sym, ap, ◌∙◌, arith}
use lib.Seq.{take_all}
use Rattle.laws.specs.Lists.{keep}
use Rattle.sets.proofs.Changing.{part_front}
use Rattle.previews.specs.Represents.{numbers_kept}
use Rattle.previews.proofs.InOrder.{none_picked, room_picked, picked_next, picked_skipped, picked_all, given_few}
use Rattle.previews.proofs.missing.Invariants.{absent}
use Rattle.previews.proofs.missing.Goals.{then-not-has_row, else-not-has_row}
use Rattle.previews.proofs.missing.Goals as goal

pub loop-n-init : goal.loop-n-init
loop-n-init c = none_picked

pub offset_bounds-numbers-new : goal.offset_bounds-numbers-new
offset_bounds-numbers-new c =
    let few = given_few c.requires.0 in
    let room = room_picked (omega arith) (omega arith) c.loop-n.invariant in
    omega arith

pub bounds-numbers-new : goal.bounds-numbers-new
bounds-numbers-new c = let few = given_few c.requires.0 in room_picked (omega arith) (omega arith) c.loop-n.invariant

pub overflow_add-new : goal.overflow_add-new
overflow_add-new c =
    let few = given_few c.requires.0 in
    let room = room_picked (omega arith) (omega arith) c.loop-n.invariant in
    omega arith

pub loop-n-preserved : goal.loop-n-preserved
loop-n-preserved c =
    let few = given_few c.requires.0 in
    elim c.if-not-has_row.branch [
      | then-not-has_row w ↦
          rw (w.numbers-is, w.new-is)
          (picked_next (omega arith) (omega arith) c.loop-n.invariant (ap not (sym c.has_row.ensures ∙ w.if-not-has_row.true)))
      | else-not-has_row w ↦
          rw (w.numbers-is, w.new-is)
          (picked_skipped (omega arith) (omega arith) c.loop-n.invariant (ap not (sym c.has_row.ensures ∙ w.if-not-has_row.false)))
    ]

pub returns : goal.returns
returns c =
    picked_all _ refl c.loop-n.invariant
    ∙ ap (λ (ns : List ℕ). numbers_kept (keep (absent c.args.count c.args.state.now) ns))
    (take_all _ _ c.loop-n-test.false ∙ part_front c.args.facts.count c.args.facts.numbers)
