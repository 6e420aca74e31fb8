-- The totals of the spaces passed are entered, and the tables have kept their lengths.
use Rattle.std.proofs.Common.{◌≡◌, length}
use Rattle.listing.proofs.Totalling.{SameLengths, Entered}
use Rattle.listing.proofs.fixed_totals.Given as goal

abbrev pub invariant-loop-number : goal.invariant-loop-number
invariant-loop-number l = record {
  entered : Entered l.prepared l.deletes l.adds l.counts l.number l.fixed;
  long : length l.fixed ≡ 60;
  kept : SameLengths l.initial.starts l.initial.finishes l.initial.conditions l.starts l.finishes l.conditions;
}
