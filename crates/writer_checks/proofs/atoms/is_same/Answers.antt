use Rattle.std.proofs.Common.{ℕ, min, ap, ◌∙◌}
use Rattle.writer_checks.proofs.AtomLaws.{same_by_predicate, same_by_arguments}
use Rattle.writer_checks.proofs.atoms.is_same.Goals as goal

pub returns-then-a-b : goal.returns-then-a-b
returns-then-a-b c =
    same_by_arguments _ _ _ _ (c.min-n.ensures ∙ ap (λ (k : ℕ). min k 3) c.arity.ensures) c.if-a-b.true _
    (rw (c.arguments.ensures, c.arguments-then-a-b.ensures) at c.eq.ensures)

pub returns-else-a-b : goal.returns-else-a-b
returns-else-a-b c = same_by_predicate _ _ _ c.if-a-b.false
