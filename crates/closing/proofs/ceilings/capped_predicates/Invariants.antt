-- The schemas passed decide as far as they go.
use Rattle.std.proofs.Common.{ℕ, ◌<◌, List, false, get_or}
use Rattle.card.specs.Represents.{blank_schema}
use Rattle.closing.proofs.Capping.{capped}
use Rattle.closing.proofs.Tallying.{Decides}
use Rattle.closing.proofs.ceilings.capped_predicates.Given as goal

abbrev pub invariant-loop-s : goal.invariant-loop-s
invariant-loop-s l =
    (p : ℕ) → p < l.predicates → (arities : List ℕ)
    → Decides (λ s. capped p arities s.deletes s.adds) l.fn.list.count blank_schema l.fn.list.schemas (get_or l.capped p false) l.s-index
