-- The facts that go, then those that come.
use Rattle.std.proofs.Common.{◌∙◌}
use Rattle.previews.proofs.RowLists.{gone_differs, gone_agrees}
use Rattle.previews.proofs.agree.Goals as goal

pub returns-then-same_rows : goal.returns-then-same_rows
returns-then-same_rows c = gone_agrees _ _ c.same_rows.ensures c.if-same_rows.true c.same_rows-then-same_rows.ensures

pub returns-else-same_rows : goal.returns-else-same_rows
returns-else-same_rows c = c.if-same_rows.false ∙ gone_differs _ _ c.same_rows.ensures c.if-same_rows.false
