-- Over six or not.
use borrow.Author.Tests.{lt-ltb, le-ltb}
use Rattle.previews.specs.Steps.{lent_count}
use Rattle.previews.proofs.lent_count.Goals as goal

pub returns-then-count-gt-MOST_PARAMETERS : goal.returns-then-count-gt-MOST_PARAMETERS
unfolding lent_count
returns-then-count-gt-MOST_PARAMETERS c = simp (lt-ltb _ _ c.if-count-gt-MOST_PARAMETERS.true)

pub returns-else-count-gt-MOST_PARAMETERS : goal.returns-else-count-gt-MOST_PARAMETERS
unfolding lent_count
returns-else-count-gt-MOST_PARAMETERS c = simp (le-ltb _ _ c.if-count-gt-MOST_PARAMETERS.false)
