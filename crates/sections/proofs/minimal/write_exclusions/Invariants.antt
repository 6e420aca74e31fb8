-- The lines of the indices from a place on remain to be written.
use Rattle.std.proofs.Common.{drop}
use Rattle.model.specs.Text.{text}
use Rattle.sections.specs.Exclusions.{exclusions_by}
use Rattle.text.proofs.Writing.{Remains}
use Rattle.sections.proofs.minimal.write_exclusions.Given as goal

abbrev pub invariant-loop-k : goal.invariant-loop-k
invariant-loop-k l =
    Remains (text (exclusions_by l.containing l.indices)) (text (exclusions_by l.containing (drop l.k l.indices))) l.initial.out l.out l.at
