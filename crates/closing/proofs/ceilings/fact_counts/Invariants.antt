-- For each predicate the tally of the facts passed.
use Rattle.closing.proofs.Tallying.{Tallies}
use Rattle.closing.proofs.ceilings.fact_counts.Given as goal

abbrev pub invariant-loop-fact : goal.invariant-loop-fact
invariant-loop-fact l = Tallies l.fn.list.count l.fn.list.facts l.counts l.fact-index
