-- What one rule does to the members: an increasing rule brings the objects that it admits into the space of its first property.
use Prim.Native.Nat.{ℕ, zero, suc}
use mathlib.Core.Bool.{cond}
use mathlib.Core.List.{List, [], ◌∷◌, foldl}
use Rattle.laws.specs.Bags.{is_empty}
use Rattle.model.specs.Transitions.{Transition}
use Rattle.model.specs.Spaces.{moved}
use Rattle.spaces.specs.Steps.{join_at, enabled_by}

-- objects join the space that has these properties
unfoldable pub join_first : List ℕ → ℕ → List ℕ → List ℕ → List ℕ
join_first groups objects masks [] = masks
join_first groups objects masks (c ∷ cs) = join_at groups objects masks c

-- what a rule brings in, by the members as they were before the round
unfoldable pub gain_by : List ℕ → ℕ → List ℕ → List ℕ → Transition → List ℕ
gain_by groups objects old masks r =
    cond (is_empty r.start) (join_first groups (enabled_by groups objects old r.enablers) masks (moved r)) masks

-- one round, and so many
unfoldable pub round_of : List ℕ → ℕ → List Transition → List ℕ → List ℕ
round_of groups objects rules masks = foldl (gain_by groups objects masks) masks rules

unfoldable pub rounds_of : List ℕ → ℕ → List Transition → ℕ → List ℕ → List ℕ
rounds_of groups objects rules zero masks = masks
rounds_of groups objects rules (suc n) masks = rounds_of groups objects rules n (round_of groups objects rules masks)
