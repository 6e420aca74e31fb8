-- A predicate has a line if one of its positions gives a total.
use Rattle.std.proofs.Common.{ℕ, ◌≡◌, ◌+◌, ◌-◌, ◌≤◌, ◌<◌, List, length, get_or, take, drop, arith, sym, refl, ap, ◌∙◌}
use mathlib.Core.List.{flat_map}
use Rattle.laws.specs.Lists.{sum, up_to}
use Rattle.model.specs.Analysis.{analysis}
use Rattle.model.specs.Lines.{totals}
use Rattle.model.specs.Text.{text}
use Rattle.model.proofs.RuleCount.{properties_few}
use Rattle.card.specs.declared.Task.{Task}
use Rattle.card.specs.Represents.{arities_of, task_of, Represented}
use Rattle.card.proofs.Counts.{predicate_count, predicates_few}
use Rattle.properties.proofs.TaskParts.{arities_right}
use Rattle.text.proofs.Writing.{remains_as, start, next_fits, next, finish}
use Rattle.closing.specs.Fixed.{first_some, total_found, fixed_table}
use Rattle.closing.proofs.FirstTotals.{length_fixed, totals_found}
use Rattle.closing.proofs.LineLoops.{room_as, writes_as, lines_start, line_next, no_line, lines_end}
use Rattle.closing.proofs.TotalSteps.{begins_next, positions_inside, total_next, total_none}
use Rattle.closing.proofs.fixed.write_totals.Goals as goal
use Rattle.closing.proofs.fixed.write_totals.Goals.{then-entry-ne0, else-entry-ne0}

-- the lines are those found in the table
found : (task : Task) → Represented task (task_of task) → (fixed : List ℕ) → fixed ≡ fixed_table (task_of task)
    → text (flat_map (totals (task_of task) (analysis (task_of task))) (up_to (length (task_of task).arities)))
    ≡ text (flat_map (total_found (arities_of task.predicates) fixed) (up_to task.predicates.count))
unfolding task_of
found task r fixed table =
    ap text (totals_found (task_of task) fixed table (properties_few (task_of task) r.checked))
    ∙ ap (λ (n : ℕ). text (flat_map (total_found (arities_of task.predicates) fixed) (up_to n))) (sym (predicate_count task r))

-- the positions of a predicate are within the table
inside : (task : Task) → Represented task (task_of task) → (p first : ℕ) → p < task.predicates.count
    → first ≡ sum (take p (arities_of task.predicates)) → first + get_or task.predicates.arities p 0 ≤ 60
inside task r p first h begins = positions_inside task.predicates (arities_right task r) p first h begins

one_less : (n : ℕ) → (n ≡ 0 → ⊥) → n - 1 + 1 ≡ n
one_less n some = omega arith

pub loop-p-init : goal.loop-p-init
unfolding sum
loop-p-init c = record {
  remains = remains_as (lines_start _ _) (start (room_as (found c.args.task c.requires.represented c.args.fixed.now c.requires.fixed_value) c.requires.room));
  begins = refl;
}

pub bounds-predicates-p : goal.bounds-predicates-p
bounds-predicates-p c = omega (arith, predicates_few _ c.requires.represented)

pub total_of-entry-requires : goal.total_of-entry-requires
total_of-entry-requires c =
    let few = inside c.args.task c.requires.represented c.loop-p.p c.loop-p.first c.loop-p-test.true c.loop-p.invariant.begins in
    omega (
      arith,
      c.from-arity.ensures,
      length_fixed _ _ c.requires.fixed_value (properties_few _ c.requires.represented.checked),
    )

pub overflow_add-first : goal.overflow_add-first
overflow_add-first c =
    let few = inside c.args.task c.requires.represented c.loop-p.p c.loop-p.first c.loop-p-test.true c.loop-p.invariant.begins in
    omega (arith, c.from-arity.ensures)

pub write_total-at-requires : goal.write_total-at-requires
write_total-at-requires c =
    let entry_is = c.total_of-entry.ensures ∙ ap (λ (n : ℕ). first_some (take n (drop c.loop-p.first c.args.fixed.now))) c.from-arity.ensures in
    let line = total_next c.args.task.predicates (arities_right c.args.task c.requires.represented) c.loop-p.p c.loop-p.first c.loop-p-test.true
    c.loop-p.invariant.begins c.args.fixed.now entry_is c.if-entry-ne0.true (one_less _ c.if-entry-ne0.true) in
    next_fits c.loop-p.invariant.remains (line_next _ _ c.loop-p.p c.loop-p-test.true line)

pub loop-p-preserved : goal.loop-p-preserved
loop-p-preserved c =
    let predicates = c.args.task.predicates in
    let right = arities_right c.args.task c.requires.represented in
    let more = c.loop-p-test.true in
    let entry_is = c.total_of-entry.ensures ∙ ap (λ (n : ℕ). first_some (take n (drop c.loop-p.first c.args.fixed.now))) c.from-arity.ensures in
    let next_begins : c.loop-p.first + c.from-arity.result ≡ sum (take (c.loop-p.p + 1) (arities_of predicates)) =
    rw c.from-arity.ensures (begins_next predicates right c.loop-p.p c.loop-p.first more c.loop-p.invariant.begins) in
    elim c.if-entry-ne0.branch [
      | then-entry-ne0 w ↦
          let line = total_next predicates right c.loop-p.p c.loop-p.first more c.loop-p.invariant.begins c.args.fixed.now entry_is w.if-entry-ne0.true
          (one_less _ w.if-entry-ne0.true) in
          record {
            remains = rw (w.out-is, w.at-is) (next c.loop-p.invariant.remains (line_next _ _ c.loop-p.p more line) w.write_total-at.ensures);
            begins = next_begins;
          }
      | else-entry-ne0 w ↦
          let none = total_none predicates right c.loop-p.p c.loop-p.first more c.loop-p.invariant.begins c.args.fixed.now entry_is w.if-entry-ne0.false in
          record {
            remains = rw (w.out-is, w.at-is) (remains_as (no_line _ _ c.loop-p.p more none) c.loop-p.invariant.remains);
            begins = next_begins;
          }
    ]

pub returns : goal.returns
returns c =
    writes_as (sym (found c.args.task c.requires.represented c.args.fixed.now c.requires.fixed_value))
    (finish c.loop-p.invariant.remains (lines_end _ _ _ c.loop-p-test.false))
