-- The lines with the members of the mask that is left remain to be written. The mask gets smaller.
use Rattle.std.proofs.Common.{◌^◌, ◌<◌}
use Rattle.model.specs.Text.{text}
use Rattle.sections.specs.Nestings.{nestings_of}
use Rattle.sections.proofs.LinesLeft.{nestings_left}
use Rattle.text.proofs.Writing.{Remains}
use Rattle.sections.proofs.nestings.write_nestings_of.Given as goal

abbrev pub invariant-loop-rest : goal.invariant-loop-rest
invariant-loop-rest l = record {
  left : Remains (text (nestings_of l.containing l.i)) (nestings_left l.containing l.i l.rest) l.initial.out l.out l.at;
  fits : l.rest < 2 ^ 64;
}

abbrev pub decreases-loop-rest : goal.decreases-loop-rest
decreases-loop-rest l = l.rest
