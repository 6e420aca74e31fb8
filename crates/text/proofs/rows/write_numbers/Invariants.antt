-- The numbers from here on remain to be written.
use Rattle.std.proofs.Common.{drop, map}
use Rattle.text.specs.Numbers.{numbers}
use Rattle.text.proofs.Writing.{Remains}
use Rattle.text.proofs.rows.write_numbers.Given as goal

abbrev pub invariant-loop-n : goal.invariant-loop-n
invariant-loop-n g l = Remains (numbers (map g.T.Number.value l.list)) (numbers (drop l.n-index (map g.T.Number.value l.list))) l.initial.out l.out l.at
