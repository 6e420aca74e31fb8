-- The lines of the predicates that are left remain, and their positions are next.
use Rattle.std.proofs.Common.{◌≡◌, take}
use mathlib.Core.List.{flat_map}
use Rattle.laws.specs.Lists.{sum, up_to}
use Rattle.model.specs.Text.{text}
use Rattle.card.specs.Represents.{arities_of}
use Rattle.text.proofs.Writing.{Remains}
use Rattle.closing.specs.Fixed.{total_found}
use Rattle.closing.proofs.LineLoops.{lines_left}
use Rattle.closing.proofs.fixed.write_totals.Given as goal

abbrev pub invariant-loop-p : goal.invariant-loop-p
invariant-loop-p l =
    let predicates = l.fn.task.predicates in
    record {
      remains :
          Remains (text (flat_map (total_found (arities_of predicates) l.fixed) (up_to predicates.count)))
          (lines_left (total_found (arities_of predicates) l.fixed) predicates.count l.p) l.fn.out l.out l.at;
      begins : l.first ≡ sum (take l.p (arities_of predicates));
    }
