-- Grouping and rounds by the rows of the parameters are those by the rules that the rows give.
use Prim.Native.Nat.{ℕ, zero, suc, ◌≤◌, ◌<◌}
use native.Mathlib.Omega.{arith}
use mathlib.Core.Path.{◌≡◌, refl, sym, ap, ◌∙◌}
use mathlib.Core.List.{List}
use Rattle.laws.specs.Lists.{up_to, padded}
use Rattle.laws.proofs.Folds.{fold_ext, fold_lists}
use Rattle.laws.proofs.Lists.{length_up_to, up_to_at}
use Rattle.model.specs.Transitions.{Transition, rules_of}
use Rattle.model.specs.Spaces.{moved, unite_all, grouping}
use Rattle.properties.specs.Parameters.{RoomForBags, rules_in}
use Rattle.properties.specs.Tables.{stride, bag_at, HasRow}
use Rattle.properties.proofs.Rows.{length_bag_at}
use Rattle.spaces.specs.Steps.{united_by, groups_in, gain_row, round_in, rounds_in}
use Rattle.spaces.proofs.Rows.{united_below}
use Rattle.spaces.proofs.RuleSteps.{gain_by, round_of, rounds_of}
use Rattle.spaces.proofs.RowRules.{unite_rules, gain_rules}
use Rattle.spaces.proofs.Uniting.{unitings_padded}

-- what the parameter in a row brings
abbrev pub gain_at : List ℕ → ℕ → ℕ → List ℕ → List ℕ → List ℕ → List ℕ → List ℕ → ℕ → List ℕ
gain_at groups objects size p d a old gained row = gain_row groups objects old gained (bag_at size p row) (bag_at size d row) (bag_at size a row)

module _ {size count : ℕ} {p d a : List ℕ} (narrow : size ≤ stride) (room : RoomForBags count p d a) where
  -- each row is in its table
  pub preconditions_there : (row : ℕ) → row < count → HasRow size row p
  preconditions_there row h = let r = room.preconditions_room in record { inside = omega arith }

  pub deletes_there : (row : ℕ) → row < count → HasRow size row d
  deletes_there row h = let r = room.deletes_room in record { inside = omega arith }

  pub adds_there : (row : ℕ) → row < count → HasRow size row a
  adds_there row h = let r = room.adds_room in record { inside = omega arith }

  rules : ℕ → List Transition
  rules row = rules_of (bag_at size p row) (bag_at size d row) (bag_at size a row)

  -- the groups
  pub groups_by_rules : groups_in size count d a ≡ padded 60 0 (grouping size (rules_in size count p d a))
  unfolding groups_in grouping rules_in rules
  groups_by_rules =
      unitings_padded 60 size (λ row. united_by (bag_at size d row) (bag_at size a row)) (up_to count) (up_to size) (length_up_to size)
      (λ row m. let h = up_to_at count row m in united_below (deletes_there row h) (adds_there row h))
      ∙ ap (padded 60 0)
      (sym
      (fold_lists (λ groups r. unite_all groups (moved r)) rules (up_to count) (up_to size)
      ∙ fold_ext _ _ (up_to count)
      (λ groups row m.
      let h = up_to_at count row m in
      unite_rules size (bag_at size p row) (bag_at size d row) (bag_at size a row) (length_bag_at (preconditions_there row h))
      (length_bag_at (deletes_there row h)) (length_bag_at (adds_there row h)) groups)
      (up_to size)))

  -- the rounds
  module _ (groups : List ℕ) (objects : ℕ) where
    round_by_rules : (masks : List ℕ) → round_in groups objects size count p d a masks ≡ round_of groups objects (rules_in size count p d a) masks
    unfolding round_in round_of rules_in rules
    round_by_rules masks =
        sym
        (fold_lists (gain_by groups objects masks) rules (up_to count) masks
        ∙ fold_ext _ _ (up_to count)
        (λ gained row m.
        let h = up_to_at count row m in
        gain_rules size (bag_at size p row) (bag_at size d row) (bag_at size a row) (length_bag_at (preconditions_there row h))
        (length_bag_at (deletes_there row h)) (length_bag_at (adds_there row h)) groups objects masks gained)
        masks)

    pub rounds_by_rules : (n : ℕ) (masks : List ℕ)
        → rounds_in groups objects size count p d a n masks ≡ rounds_of groups objects (rules_in size count p d a) n masks
    unfolding rounds_in rounds_of
    rounds_by_rules zero masks = refl
    rounds_by_rules (suc n) masks =
        ap (rounds_in groups objects size count p d a n) (round_by_rules masks)
        ∙ rounds_by_rules n (round_of groups objects (rules_in size count p d a) masks)
