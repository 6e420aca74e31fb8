-- The number of this turn is written behind those so far.
use Rattle.std.proofs.Common.{◌≡◌, ℕ, ◌+◌, ◌<◌, List, set, arith}
use mathlib.Core.Path.{refl, sym, ap, ◌∙◌}
use Rattle.laws.proofs.Padded.{padded_next}
use Rattle.laws.specs.Lists.{from, up_to, padded}
use Rattle.laws.proofs.Lists.{length_up_to}
use Rattle.laws.proofs.Walks.{up_to_next}
use Rattle.spaces.proofs.grouping.each_alone.Goals as goal

pub loop-c-init : goal.loop-c-init
unfolding padded up_to from
loop-c-init c = refl

next : (groups : List ℕ) (c : ℕ) → c < 60 → groups ≡ padded 60 0 (up_to c) → set groups c c ≡ padded 60 0 (up_to (c + 1))
next groups c h e =
    ap (λ (l : List ℕ). set l c c) e
    ∙ ap (λ (i : ℕ). set (padded 60 0 (up_to c)) i c) (sym (length_up_to c))
    ∙ padded_next 60 0 (up_to c) c (rw length_up_to h)
    ∙ ap (padded 60 0) (sym (up_to_next c))

pub loop-c-preserved : goal.loop-c-preserved
loop-c-preserved c = next c.loop-c.groups c.loop-c.c (omega arith) c.loop-c.invariant
