-- Before each section: what the sections so far leave, their totals, and what of them the writer was given.
use Rattle.std.proofs.Common.{take}
use Rattle.std.specs.Io.KnownBytes.{Appends}
use mathlib.Core.List.{flat_map}
use Rattle.model.specs.Lines.{sections}
use Rattle.model.specs.Text.{text}
use Rattle.card.specs.Represents.{task_of}
use Rattle.printer.proofs.Turns.{Before, Kept}
use Rattle.printer.proofs.printing.print_sections.Given as goal

abbrev pub invariant-loop-number : goal.invariant-loop-number
invariant-loop-number g l = record {
  earlier : Before (task_of l.task) l.number l.fixed l.initial.out l.out;
  kept : Kept l.initial.starts l.starts l.initial.finishes l.finishes l.initial.conditions l.conditions l.initial.out l.out;
  given : Appends (g.W.Write.contents l.initial.listing) (g.W.Write.contents l.listing) (flat_map text (take l.number (sections (task_of l.task))));
}
