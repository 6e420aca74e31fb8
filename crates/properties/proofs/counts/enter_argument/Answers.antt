-- The count of a property is raised in the row.
use Rattle.std.proofs.Common.{ℕ, ◌+◌, ◌*◌, ◌<◌, length, map, arith, ap, ◌∙◌}
use Rattle.properties.specs.Tallies.{raised}
use Rattle.properties.proofs.Counting.{raised_at}
use Rattle.properties.proofs.counts.enter_argument.Goals as goal

pub returns : goal.returns
returns g c =
    let place : 60 * c.from.result + c.args.property < length c.args.table.now = omega arith in
    raised_at g.C.Count.number c.args.table.now _ c.index-table-place.result _ place c.index-table-place.is c.one_more.ensures
    ∙ ap (λ (o : ℕ). raised (map g.C.Count.number c.args.table.now) (60 * o + c.args.property)) c.from.ensures
