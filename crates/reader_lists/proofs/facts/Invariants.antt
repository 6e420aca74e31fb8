-- `i` facts are read, up to the cursor, and `previous` is the last of them.
use Rattle.std.proofs.Common.{drop}
use Rattle.model.specs.Card.{fact}
use Rattle.reader_lists.proofs.Ordered.{Ordered}
use Rattle.reader_lists.proofs.facts.Given as goal

abbrev pub invariant-loop-i : goal.invariant-loop-i
invariant-loop-i l =
    Ordered l.arities 512 (fact l.arities l.objects) l.count (drop l.initial.c.at l.card) l.card l.list.facts l.i l.c.at l.previous
