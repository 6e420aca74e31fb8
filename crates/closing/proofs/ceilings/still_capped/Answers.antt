-- A schema is asked for each predicate.
use Rattle.std.proofs.Common.{arith, sym, ◌∙◌}
use mathlib.Core.Path.{ap₂}
use lib.Dec.{leb}
use borrow.Author.Tests.{le-leb, lt-leb}
use Rattle.closing.proofs.Capping.{asked_none, asked_capped, asked_uncapped}
use Rattle.closing.proofs.ceilings.still_capped.Goals as goal
use Rattle.closing.proofs.ceilings.still_capped.Goals.{then-count_of, else-count_of}

pub loop-p-init : goal.loop-p-init
loop-p-init c = asked_none

pub loop-p-preserved : goal.loop-p-preserved
loop-p-preserved c =
    elim c.if-count_of.branch [
      | then-count_of w ↦
          rw w.still-is
          (asked_uncapped c.loop-p.invariant
          (λ arities. ap₂ leb (sym (c.count_of.ensures arities)) (sym (c.count_of-in-loop-p.ensures arities)) ∙ lt-leb _ _ w.if-count_of.true))
      | else-count_of w ↦
          rw w.still-is
          (asked_capped c.loop-p.invariant
          (λ arities. ap₂ leb (sym (c.count_of.ensures arities)) (sym (c.count_of-in-loop-p.ensures arities)) ∙ le-leb _ _ w.if-count_of.false))
    ]

pub returns : goal.returns
returns c p h arities = c.loop-p.invariant.passed p (omega (arith, h, c.loop-p-test.false)) arities
