-- The lines with the later indices from a place on remain to be written.
use Rattle.std.proofs.Common.{map}
use Rattle.laws.specs.Lists.{keep}
use Rattle.model.specs.Lines.{exclusion}
use Rattle.model.specs.Text.{text}
use Rattle.sections.specs.Exclusions.{excluded_by}
use Rattle.sections.proofs.LinesLeft.{exclusions_from}
use Rattle.text.proofs.Writing.{Remains}
use Rattle.sections.proofs.minimal.write_exclusions_of.Given as goal

abbrev pub invariant-loop-index : goal.invariant-loop-index
invariant-loop-index l =
    Remains
    (text (map (exclusion l.i) (keep (excluded_by l.containing l.i) l.later)))
    (exclusions_from l.containing l.i l.later l.index-index)
    l.initial.out
    l.out
    l.at
