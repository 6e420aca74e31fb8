-- All rows are left to unite, one fewer, or none.
use Rattle.std.proofs.Common.{ℕ, List}
use mathlib.Core.Path.{ap}
use mathlib.Core.List.{foldl}
use Rattle.laws.specs.Lists.{up_to}
use Rattle.laws.proofs.Walks.{walk_starts, walk_next, walk_ends}
use Rattle.spaces.specs.Steps.{groups_in}
use Rattle.spaces.proofs.Uniting.{unite_at}
use Rattle.spaces.proofs.grouping.grouping.Goals as goal

pub loop-row-init : goal.loop-row-init
unfolding groups_in
loop-row-init c =
    let a = c.args in
    let next = unite_at a.size a.deletes.now a.adds.now in
    walk_starts next _ a.count c.each_alone-groups.result (ap (λ (l : List ℕ). foldl next l (up_to a.count)) c.each_alone-groups.ensures)

pub loop-row-preserved : goal.loop-row-preserved
loop-row-preserved c =
    let a = c.args in
    walk_next (unite_at a.size a.deletes.now a.adds.now) _ a.count c.loop-row.row c.loop-row.groups
    c.unite_row-next.result c.loop-row-test.true c.unite_row-next.ensures c.loop-row.invariant

pub returns : goal.returns
returns c =
    let a = c.args in
    walk_ends (unite_at a.size a.deletes.now a.adds.now) _ a.count c.loop-row.row c.loop-row.groups
    c.loop-row-test.false c.loop-row.invariant
