-- A property is found, or none is.
use mathlib.Core.Path.{sym}
use native.Mathlib.Nat.{le_trans}
use Rattle.spaces.proofs.Rows.{start_found, start_none}
use Rattle.spaces.proofs.grouping.has_start.Goals as goal

pub returns-then-adds-at : goal.returns-then-adds-at
returns-then-adds-at c = sym (start_found c.requires.0 c.requires.1 c.loop-c.c c.loop-c-test.true c.if-adds-at.true)

pub returns : goal.returns
returns c = sym (start_none c.requires.0 c.requires.1 (λ k h. c.loop-c.invariant k (le_trans h c.loop-c-test.false)))
