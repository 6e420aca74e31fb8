-- The calls of `descend` and `search` in one another: the parameters from the level on are the measure, since they are fewer at each call of
-- `search` in `descend`. And what `search` has tried at its level so far.
use Rattle.std.proofs.Common.{◌-◌, ◌*◌, length}
use Rattle.open_actions.specs.Bindings.{query_in}
use Rattle.open_actions.proofs.Descending.{Turning}
use Rattle.open_actions.proofs.query.Query.+descend_search.Given as goal

abbrev pub decreases-descend : goal.decreases-descend
decreases-descend l = 2 * (length l.objects.now - l.level) - 1

abbrev pub decreases-search : goal.decreases-search
decreases-search l = 2 * (length l.objects.now - l.level)

abbrev pub invariant-search-loop-o : goal.invariant-search-loop-o
invariant-search-loop-o l =
    Turning (query_in l.self) l.bound l.level l.from l.initial.objects l.objects l.culprits l.o
    l.left.culprits l.initial.notes l.notes
