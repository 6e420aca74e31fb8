-- What is behind the window decides nothing, so that what is printed of the front is what the program prints of all.
use Rattle.std.proofs.Common.{rules}
use Rattle.std.proofs.Math.Nat.{sub-zero}
use Rattle.printer.proofs.Delivered.{of_the_whole}
use Rattle.printer.proofs.print_from.Goals as goal

pub returns-in_default-print_card-clause-program : goal.returns-in_default-print_card-clause-program
returns-in_default-print_card-clause-program g c =
    of_the_whole _ c.read_front.new.window _ _ _ _ (sub-zero c.in-Ok.n) (search rules) c.in-Ok.ensures.bytes
    c.in_default-print_card.ensures.delivered
