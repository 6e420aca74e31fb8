-- A search that is not exact says nothing; in one that is, the binding decides.
use Rattle.std.proofs.Common.{sym, ◌∙◌}
use Rattle.open_actions.proofs.Searching.{found_anyway, whole_open, whole_closed}
use Rattle.open_actions.proofs.Descending.{action_ready, decides, repeats}
use Rattle.open_actions.proofs.query.Query.complete.Goals as goal

pub returns-then-not-exact : goal.returns-then-not-exact
returns-then-not-exact c = found_anyway c.requires.full c.if-not-exact.true

pub returns-then-not-all_different : goal.returns-then-not-all_different
returns-then-not-all_different c =
    whole_closed c.requires.full (c.requires.all_bound c.if-not-exact.false)
    (sym (repeats c.requires c.all_different.ensures c.if-not-all_different.true))

pub allows-requires : goal.allows-requires
allows-requires c = action_ready c.requires c.all_different.ensures c.if-not-all_different.false

pub returns-then-allows : goal.returns-then-allows
returns-then-allows c =
    whole_open c.requires.full
    (sym (decides c.requires c.all_different.ensures c.if-not-all_different.false c.allows.ensures) ∙ c.if-allows.true)

pub returns-else-allows : goal.returns-else-allows
returns-else-allows c =
    whole_closed c.requires.full (c.requires.all_bound c.if-not-exact.false)
    (sym (decides c.requires c.all_different.ensures c.if-not-all_different.false c.allows.ensures) ∙ c.if-allows.false)
