-- The numbers are put into an empty set, which is written as rows.
use Rattle.std.proofs.Common.{ℕ, List, [], ap, ◌∙◌, arith}
use Rattle.sets.specs.Numbers.{inserted_all}
use Rattle.sets.proofs.Changing.{part_front}
use Rattle.previews.specs.Represents.{rows_kept}
use Rattle.previews.proofs.InOrder.{given_few, none_set, ordered_inside, rows_room, rows_in_order}
use Rattle.previews.proofs.in_order.Goals as goal

pub insert_all-count-requires : goal.insert_all-count-requires
insert_all-count-requires c =
    let few = given_few c.requires in
    (omega arith, none_set)

pub slice_bounds-write_rows-end-2 : goal.slice_bounds-write_rows-end-2
slice_bounds-write_rows-end-2 c = ordered_inside _ (given_few c.requires) c.insert_all-count.ensures

pub write_rows-requires : goal.write_rows-requires
write_rows-requires c = rows_room _ (given_few c.requires) c.insert_all-count.ensures

pub returns : goal.returns
returns c =
    rows_in_order _ (given_few c.requires) c.insert_all-count.ensures c.write_rows.ensures
    ∙ ap (λ (ns : List ℕ). rows_kept (inserted_all ns [])) (part_front c.args.facts.count c.args.facts.numbers)
