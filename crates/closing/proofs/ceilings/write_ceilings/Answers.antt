-- A predicate that is capped has a line.
use Rattle.std.proofs.Common.{ℕ, ◌<◌, arith, sym, ap, ◌∙◌}
use mathlib.Core.List.{flat_map}
use Rattle.laws.specs.Lists.{up_to}
use Rattle.model.specs.Lines.{ceilings}
use Rattle.model.specs.Text.{text}
use Rattle.card.specs.Represents.{task_of}
use Rattle.card.proofs.Counts.{predicate_count, predicates_few}
use Rattle.text.proofs.Writing.{remains_as, start, next_fits, next, finish}
use Rattle.closing.proofs.Capping.{capped_line, uncapped}
use Rattle.closing.proofs.LineLoops.{lines_start, line_next, no_line, lines_end}
use Rattle.closing.proofs.Parts.{schemas_fit, facts_fit}
use Rattle.closing.proofs.ceilings.write_ceilings.Goals as goal
use Rattle.closing.proofs.ceilings.write_ceilings.Goals.{then-capped-p, else-capped-p}

pub capped_predicates-capped-requires-clause-schemas_fit : goal.capped_predicates-capped-requires-clause-schemas_fit
capped_predicates-capped-requires-clause-schemas_fit c = schemas_fit _ c.requires.0

pub capped_predicates-capped-requires-clause-predicates_bound : goal.capped_predicates-capped-requires-clause-predicates_bound
capped_predicates-capped-requires-clause-predicates_bound c = predicates_few _ c.requires.0

pub fact_counts-counts-requires : goal.fact_counts-counts-requires
fact_counts-counts-requires c = facts_fit _ c.requires.0

pub loop-p-init : goal.loop-p-init
loop-p-init c =
    let f = ceilings (task_of c.args.task) in
    remains_as
    (ap (λ (n : ℕ). text (flat_map f (up_to n))) (sym (predicate_count c.args.task c.requires.0)) ∙ lines_start f c.args.task.predicates.count)
    (start c.requires.1)

pub bounds-capped-p : goal.bounds-capped-p
bounds-capped-p c = omega (arith, predicates_few _ c.requires.0)

pub write_ceiling-at-requires : goal.write_ceiling-at-requires
write_ceiling-at-requires c =
    let p = c.loop-p.p in
    let few : p < 20 = omega (arith, predicates_few _ c.requires.0) in
    let line = capped_line c.args.task p (c.capped_predicates-capped.ensures p c.loop-p-test.true) c.if-capped-p.true
    (λ arities. c.from.ensures ∙ c.fact_counts-counts.ensures p few arities) in
    next_fits c.loop-p.invariant (line_next _ _ p c.loop-p-test.true line)

pub loop-p-preserved : goal.loop-p-preserved
loop-p-preserved c =
    let p = c.loop-p.p in
    let more = c.loop-p-test.true in
    let few : p < 20 = omega (arith, predicates_few _ c.requires.0) in
    let told = c.capped_predicates-capped.ensures p more in
    elim c.if-capped-p.branch [
      | then-capped-p w ↦
          let line = capped_line c.args.task p told w.if-capped-p.true (λ arities. w.from.ensures ∙ c.fact_counts-counts.ensures p few arities) in
          rw (w.out-is, w.at-is) (next c.loop-p.invariant (line_next _ _ p more line) w.write_ceiling-at.ensures)
      | else-capped-p w ↦
          rw (w.out-is, w.at-is) (remains_as (no_line _ _ p more (uncapped c.args.task p told w.if-capped-p.false)) c.loop-p.invariant)
    ]

pub returns : goal.returns
returns c = finish c.loop-p.invariant (lines_end _ _ _ c.loop-p-test.false)
