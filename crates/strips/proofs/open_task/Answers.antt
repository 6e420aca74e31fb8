-- The facts' numbers, stored.
use Rattle.std.proofs.Common.{ℕ, ◌≤◌, sym, subst}
use Rattle.card.proofs.Counts.{predicates_inside, facts_few}
use Rattle.strips.proofs.Refusing.{buffer_short}
use Rattle.strips.proofs.Pressing.{facts_right, numbers_few, opened}
use Rattle.strips.proofs.open_task.Goals as goal

pub returns-then-state-lt-STATE_BYTES : goal.returns-then-state-lt-STATE_BYTES
returns-then-state-lt-STATE_BYTES c = buffer_short _ _ c.if-state-lt-STATE_BYTES.true

pub slice_bounds-fact_numbers-end : goal.slice_bounds-fact_numbers-end
slice_bounds-fact_numbers-end c = predicates_inside _ c.requires

pub fact_numbers-requires : goal.fact_numbers-requires
fact_numbers-requires c = facts_right _ c.requires _ (facts_few _ c.requires)

pub slice_bounds-store-end : goal.slice_bounds-store-end
slice_bounds-store-end c = subst (λ (n : ℕ). c.args.task.facts.count ≤ n) (sym c.fact_numbers.auto.numbers) (facts_few _ c.requires)

pub store-requires : goal.store-requires
store-requires c = (numbers_few _ c.requires c.args.state.now _ _ c.fact_numbers.ensures, c.if-state-lt-STATE_BYTES.false)

pub returns : goal.returns
returns c = opened _ c.requires _ _ _ c.fact_numbers.ensures c.if-state-lt-STATE_BYTES.false c.store.ensures
