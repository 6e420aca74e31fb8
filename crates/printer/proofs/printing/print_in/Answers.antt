-- Tables of zeros are as long as they are made.
use Rattle.prepared.proofs.Lending.{cleared_tables}
use Rattle.printer.proofs.printing.print_in.Goals as goal

pub print_with-requires : goal.print_with-requires
print_with-requires g c =
    let pre = c.requires in
    let room = cleared_tables g.row.BAGS g.row.MOVES pre.bags_fit.0 pre.moves_fit.0 in
    record {
      represented = pre.represented;
      output_bytes_in_bounds = pre.output_bytes_in_bounds;
      room_for_bags = room.0;
      in_bounds = room.1.0;
      room_for_moves = room.1.1;
    }
