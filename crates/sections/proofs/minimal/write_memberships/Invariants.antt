-- The lines of the indices from a place on remain to be written.
use Rattle.std.proofs.Common.{map, drop}
use Rattle.model.specs.Lines.{membership}
use Rattle.model.specs.Text.{text}
use Rattle.text.proofs.Writing.{Remains}
use Rattle.sections.proofs.minimal.write_memberships.Given as goal

abbrev pub invariant-loop-i : goal.invariant-loop-i
invariant-loop-i l =
    Remains (text (map membership l.indices)) (text (map membership (drop l.i-index l.indices))) l.initial.out l.out l.at
