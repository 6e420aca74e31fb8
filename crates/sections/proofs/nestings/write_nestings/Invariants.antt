-- The lines of the conditions from i on remain to be written.
use Rattle.model.specs.Text.{text}
use Rattle.sections.specs.Nestings.{nestings_by}
use Rattle.sections.proofs.LinesLeft.{nestings_from}
use Rattle.text.proofs.Writing.{Remains}
use Rattle.sections.proofs.nestings.write_nestings.Given as goal

abbrev pub invariant-loop-i : goal.invariant-loop-i
invariant-loop-i l = Remains (text (nestings_by l.containing l.count)) (nestings_from l.containing l.count l.i) l.initial.out l.out l.at
