-- The spaces that the code finds are the spaces of the task that its tables hold.
use Prim.Native.Nat.{ℕ, ◌≤◌, ◌<◌}
use native.Mathlib.Nat.{lt_of_lt_of_le}
use native.Mathlib.Omega.{arith}
use mathlib.Core.Path.{◌≡◌, refl, sym, ap, ◌∙◌, subst}
use mathlib.Core.List.{List, map, Memᴰ}
use lib.Dec.{eqb}
use lib.ListN.{length, get_or, take, length-map}
use lib.Seq.{take_at}
use Rattle.laws.proofs.Padded.{padded_below}
use Rattle.laws.specs.Lists.{keep, up_to, padded}
use Rattle.laws.specs.Bags.{plus}
use Rattle.laws.proofs.Bags.{length_plus, support_at_lem}
use Rattle.laws.proofs.Lists.{keep_at, up_to_at, flat_map_at}
use Rattle.model.specs.Card.{Task}
use Rattle.model.specs.Transitions.{Transition, properties, bag_of, rules_of}
use Rattle.model.specs.Spaces.{moved, grouping, spaces}
use Rattle.model.proofs.Grouping.{grouping_lowest, rules_of_sized}
use Rattle.model.proofs.Closing.{groups, labels, spaces_with, space_with, belongs, spaces_alone}
use Rattle.properties.specs.Parameters.{RoomForBags, rules_in}
use Rattle.properties.specs.Tables.{bag_at}
use Rattle.properties.proofs.Rows.{length_bag_at}
use Rattle.spaces.specs.SpaceTable.{spaces_in, groups_of, lowest_of, SpacesOf}
use Rattle.spaces.specs.Steps.{groups_in, labelled, open_masks, rounds_in}
use Rattle.spaces.specs.Tabled.{TablesOf}
use Rattle.spaces.proofs.RowRounds.{preconditions_there, deletes_there, adds_there, groups_by_rules, rounds_by_rules}
use Rattle.spaces.proofs.RuleSteps.{rounds_of}
use Rattle.spaces.proofs.TaskSpaces.{group_array, grouping_known, labels_found, closed_masks, members_found}

-- the labels in order are below 60
pub labelled_known : (size : ℕ) → size ≤ 60 → (groups : List ℕ) (k : ℕ) → get_or (padded 60 0 (labelled size groups)) k 0 < 60
unfolding labelled
labelled_known size narrow groups =
    padded_below 60 60 (keep (λ c. eqb (get_or groups c 0) c) (up_to size))
    (λ x m. lt_of_lt_of_le (up_to_at size x (keep_at (λ c. eqb (get_or groups c 0) c) (up_to size) x m).0) narrow) (omega arith)

-- and so are the labels of the groups
module _ {size count : ℕ} {p d a : List ℕ} (narrow : size ≤ 60) (room : RoomForBags count p d a) where
  moved_below : (r : Transition) → Memᴰ r (rules_in size count p d a) → (c : ℕ) → Memᴰ c (moved r) → c < size
  unfolding rules_in moved
  moved_below r m c k =
      let found = flat_map_at (λ i. rules_of (bag_at size p i) (bag_at size d i) (bag_at size a i)) (up_to count) r m in
      let row : ℕ = found.0 in
      let h : row < count = up_to_at count row found.1 in
      let lp = length_bag_at (preconditions_there narrow room row h) in
      let sized = rules_of_sized (bag_at size p row) (bag_at size d row) (bag_at size a row)
      (length_bag_at (deletes_there narrow room row h) ∙ sym lp) (length_bag_at (adds_there narrow room row h) ∙ sym lp) r found.2 in
      subst (λ (n : ℕ). c < n) (length_plus size r.start r.finish (sized.start ∙ lp) (sized.finish ∙ lp))
      (support_at_lem (plus r.start r.finish) c k).0

  pub groups_known : (c : ℕ) → get_or (groups_in size count d a) c 0 < 60
  groups_known c =
      subst (λ (l : List ℕ). get_or l c 0 < 60) (sym (groups_by_rules narrow room))
      (grouping_known size narrow (grouping size (rules_in size count p d a)) (grouping_lowest size (rules_in size count p d a) moved_below) c)

-- What the steps of the code find are these spaces.
module _ (size parameters objects : ℕ) (p d a c : List ℕ) {groups lowest masks : List ℕ} {count : ℕ}
    (grouped : groups ≡ groups_in size parameters d a) (counted : count ≡ length (labelled size groups))
    (listed : lowest ≡ padded 60 0 (labelled size groups))
    (closed : masks
    ≡ padded 60 0
    (map (λ l. get_or (rounds_in groups objects size parameters p d a count (open_masks groups size c objects)) l 0) (take count lowest))) where
  count_is : count ≡ length (labelled size (groups_in size parameters d a))
  count_is = counted ∙ ap (λ (g : List ℕ). length (labelled size g)) grouped

  lowest_is : lowest ≡ padded 60 0 (labelled size (groups_in size parameters d a))
  lowest_is = listed ∙ ap (λ (g : List ℕ). padded 60 0 (labelled size g)) grouped

  in_order : take count lowest ≡ labelled size (groups_in size parameters d a)
  unfolding padded
  in_order =
      let all = labelled size (groups_in size parameters d a) in
      (λ i. take (count_is i) (lowest_is i)) ∙ take_at all _ (length all) refl

  pub spaces_found : record { count = count; groups = groups; lowest = lowest; members = masks } ≡ spaces_in size parameters objects p d a c
  unfolding spaces_in
  spaces_found =
      λ i. record {
        count = count_is i;
        groups = grouped i;
        lowest = lowest_is i;
        members =
            (closed
            ∙ (λ j.
            padded 60 0
            (map (λ l. get_or (rounds_in (grouped j) objects size parameters p d a (count_is j) (open_masks (grouped j) size c objects)) l 0)
            (in_order j))))
            i;
      }

-- The spaces of a task from tables that hold it.
module _ {t : Task} {size parameters objects : ℕ} {p d a c : List ℕ} (held : TablesOf t size parameters objects p d a c) (narrow : size ≤ 60)
    (room : RoomForBags parameters p d a) where
  array : groups_in size parameters d a ≡ group_array t
  unfolding group_array Rattle.model.proofs.Closing.groups
  array = groups_by_rules narrow room ∙ (λ i. padded 60 0 (grouping (held.properties_are i) (held.rules_are i)))

  labelled_are : labelled size (groups_in size parameters d a) ≡ labels t
  labelled_are = (λ i. labelled (held.properties_are i) (array i)) ∙ labels_found t

  many : length (labels t) ≡ length (spaces t)
  unfolding spaces_with
  many = sym (ap length (spaces_alone t) ∙ length-map (labels t) (space_with t (belongs t)))

  bags : (o : ℕ) → o < t.objects → bag_at (length (properties t)) c o ≡ bag_of (properties t) t.facts o
  bags o h =
      ap (λ (n : ℕ). bag_at n c o) (sym held.properties_are) ∙ held.bags_are o (subst (λ (n : ℕ). o < n) (sym held.objects_are) h)

  masks : List ℕ
  masks =
      rounds_in (groups_in size parameters d a) objects size parameters p d a (length (labelled size (groups_in size parameters d a)))
      (open_masks (groups_in size parameters d a) size c objects)

  same_masks : masks ≡ closed_masks t c
  unfolding closed_masks masks
  same_masks =
      rounds_by_rules narrow room (groups_in size parameters d a) objects (length (labelled size (groups_in size parameters d a)))
      (open_masks (groups_in size parameters d a) size c objects)
      ∙ (λ i.
      rounds_of (array i) (held.objects_are i) (held.rules_are i) (length (labelled_are i))
      (open_masks (array i) (held.properties_are i) c (held.objects_are i)))

  pub spaces_of_task : SpacesOf t (spaces_in size parameters objects p d a c)
  unfolding spaces_in groups_of lowest_of group_array labels masks Rattle.model.proofs.Closing.groups
  spaces_of_task = record {
    count = ap length labelled_are ∙ many;
    groups = array;
    lowest = ap (padded 60 0) labelled_are;
    members =
        (λ i. padded 60 0 (map (λ l. get_or (same_masks i) l 0) (labelled_are i)))
        ∙ ap (padded 60 0) (members_found t (subst (λ (n : ℕ). n ≤ 60) held.properties_are narrow) c bags);
  }
