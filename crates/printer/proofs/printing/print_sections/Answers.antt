-- The section of each space, and the closing one, until a write fails.
use Rattle.std.proofs.Common.{arith, refl, ◌∙◌}
use Rattle.model.specs.Lines.{sections}
use Rattle.card.specs.Represents.{task_of}
use Rattle.prepared.proofs.Lending.{analysable_given}
use Rattle.prepared.proofs.Totalling.{totals_all, preconditions_given}
use Rattle.printer.proofs.Turns.{room_again, spaces_low, before_first, space_next, closing_next, space_there, closing_given, made_to_the_end}
use Rattle.printer.proofs.Delivered.{none_given, next_given}
use Rattle.printer.proofs.printing.print_sections.Goals as goal

pub loop-number-init : goal.loop-number-init
loop-number-init g c = record {
  earlier = before_first _ _;
  kept = record { starts_kept = refl; finishes_kept = refl; conditions_kept = refl; out_kept = refl };
  given = none_given _ (sections (task_of c.args.task));
}

pub print_space-written-requires-clause-space_ready : goal.print_space-written-requires-clause-space_ready
print_space-written-requires-clause-space_ready g c =
    analysable_given c.requires.ready.given (room_again c.requires.room_for_moves c.loop-number.invariant.kept) c.loop-number-test.true

pub returns-then-not-written-clause-reaches : goal.returns-then-not-written-clause-reaches
returns-then-not-written-clause-reaches g c = omega (arith, space_there c.requires.ready.given c.loop-number-test.true)

pub returns-then-not-written-clause-out_after : goal.returns-then-not-written-clause-out_after
returns-then-not-written-clause-out_after g c =
    (space_next c.requires.ready.given c.loop-number.invariant.earlier c.loop-number-test.true c.print_space-written.ensures.printed).buffer

pub loop-number-preserved : goal.loop-number-preserved
loop-number-preserved g c =
    let given = c.requires.ready.given in
    let inv = c.loop-number.invariant in
    let space = c.print_space-written in
    record {
      earlier = space_next given inv.earlier c.loop-number-test.true space.ensures.printed;
      kept = record {
        starts_kept = space.auto.starts ∙ inv.kept.starts_kept;
        finishes_kept = space.auto.finishes ∙ inv.kept.finishes_kept;
        conditions_kept = space.auto.conditions ∙ inv.kept.conditions_kept;
        out_kept = space.auto.out ∙ inv.kept.out_kept;
      };
      given =
          next_given _ _ _ (sections (task_of c.args.task)) c.loop-number.number (space_there given c.loop-number-test.true) inv.given
          (space.ensures.delivered.whole c.if-not-written.false given);
    }

pub print_closing-written-requires-clause-fixed_value : goal.print_closing-written-requires-clause-fixed_value
print_closing-written-requires-clause-fixed_value g c =
    c.loop-number.invariant.earlier.totals ∙ totals_all c.requires.ready.given c.loop-number-test.false

pub print_closing-written-requires-clause-precondition_rows : goal.print_closing-written-requires-clause-precondition_rows
print_closing-written-requires-clause-precondition_rows g c = preconditions_given c.requires.ready.given

pub overflow_add-result-then-not-written-2 : goal.overflow_add-result-then-not-written-2
overflow_add-result-then-not-written-2 g c = omega (arith, spaces_low c.requires.ready.given)

pub returns-then-not-written-2-clause-reaches : goal.returns-then-not-written-2-clause-reaches
returns-then-not-written-2-clause-reaches g c = omega (arith, made_to_the_end c.requires.ready.given)

pub returns-then-not-written-2-clause-out_after : goal.returns-then-not-written-2-clause-out_after
returns-then-not-written-2-clause-out_after g c =
    let low = c.loop-number.auto.number-end in
    let high = c.loop-number-test.false in
    closing_next c.requires.ready.given c.loop-number.invariant.earlier (omega arith) c.print_closing-written.ensures.out_after

pub returns-clause-out_after : goal.returns-clause-out_after
returns-clause-out_after g c =
    let given = c.requires.ready.given in
    let low = c.loop-number.auto.number-end in
    let high = c.loop-number-test.false in
    rw (← made_to_the_end given) (closing_next given c.loop-number.invariant.earlier (omega arith) c.print_closing-written.ensures.out_after)

pub returns-clause-delivered : goal.returns-clause-delivered
returns-clause-delivered g c =
    let low = c.loop-number.auto.number-end in
    let high = c.loop-number-test.false in
    closing_given c.requires.ready.given _ _ _ (omega arith) c.loop-number.invariant.given
    (c.print_closing-written.ensures.delivered c.if-not-written-2.false)
