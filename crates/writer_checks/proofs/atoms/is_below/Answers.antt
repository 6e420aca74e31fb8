use Rattle.std.proofs.Common.{ℕ, min, refl, sym, ap, ◌∙◌, arith}
use Rattle.writer_checks.proofs.AtomLaws.{below_by_predicate, below_by_arguments}
use Rattle.writer_checks.proofs.atoms.is_below.Goals as goal

pub returns-then-a-b : goal.returns-then-a-b
returns-then-a-b c = below_by_predicate _ _ _ c.if-a-b.true

pub returns-in-0 : goal.returns-in-0
returns-in-0 c = below_by_arguments _ _ _ 0 (ap (λ (k : ℕ). min k 3) (sym c.in-0.is ∙ c.arity.ensures)) c.if-a-b.false _ refl

pub returns-in-1 : goal.returns-in-1
returns-in-1 c = below_by_arguments _ _ _ 1 (ap (λ (k : ℕ). min k 3) (sym c.in-1.is ∙ c.arity.ensures)) c.if-a-b.false _ c.lt.ensures

pub returns-in-2 : goal.returns-in-2
returns-in-2 c = below_by_arguments _ _ _ 2 (ap (λ (k : ℕ). min k 3) (sym c.in-2.is ∙ c.arity.ensures)) c.if-a-b.false _ c.lt-in-2.ensures

pub returns-in_default : goal.returns-in_default
returns-in_default c =
    below_by_arguments _ _ _ 3 (omega (arith, c.in_default, c.arity.ensures)) c.if-a-b.false _
    (rw (c.arguments.ensures, c.arguments-in_default.ensures) at c.lt-in_default.ensures)
