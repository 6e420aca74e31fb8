-- Too many numbers are refused, and others stored.
use Rattle.std.proofs.Common.{arith}
use Rattle.strips.proofs.Replacing.{too_many, not_too_many}
use Rattle.strips.proofs.store_next.Goals as goal

pub returns-then-count-gt-MOST_FACTS : goal.returns-then-count-gt-MOST_FACTS
returns-then-count-gt-MOST_FACTS c = too_many _ _ c.if-count-gt-MOST_FACTS.true

-- found by the check alone too; written down, so that a bound that is too high is refused here
pub store-requires : goal.store-requires
store-requires c = (omega (arith, c.if-count-gt-MOST_FACTS.false), c.requires)

pub returns : goal.returns
returns c = not_too_many _ _ c.if-count-gt-MOST_FACTS.false c.store.ensures
