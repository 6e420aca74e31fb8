-- Conditions that contain others, by their masks.
use Prim.Native.Nat.{ℕ, ◌≤◌, ◌<◌}
use mathlib.Core.Path.{◌≡◌, refl, sym, ap, ap₂, ◌∙◌, subst}
use mathlib.Core.Bool.{Bool, true, false, not, ◌&&◌, ◌||◌}
use mathlib.Core.List.{List, [], map}
use lib.Dec.{eqb}
use lib.ListN.{length, get_or, length-map}
use borrow.Author.Tests.{eqb-true, eq-eqb}
use Rattle.laws.proofs.Padded.{padded_at}
use Rattle.laws.specs.Bags as laws
use Rattle.laws.specs.Bags.{Bag, contains, compare, is_equal, is_around, strictly_contains, covers}
use Rattle.laws.specs.Lists.{any, keep, up_to, padded}
use Rattle.laws.proofs.Comparisons.{turned, compare_turned, strictly_by_contains, covers_contains}
use Rattle.laws.proofs.Lists.{any_false, any_none, up_to_at, length_up_to, get_d_up_to}
use Rattle.laws.proofs.Mapped.{get_d_map, map_ext, keep_ext, any_ext, any_map}
use Rattle.laws.proofs.Tests.{same_test, not-true, to_not_true}
use Rattle.laws.proofs.Walks.{listed}
use Rattle.masks.specs.Sets.{mask_of, is_member, common_of}
use Rattle.masks.proofs.Joining.{kept_empty}
use Rattle.masks.proofs.Kept.{common_kept}
use Rattle.masks.proofs.Operations.{kept_member}
use Rattle.model.specs.Lines.{minimal, excluded}
use Rattle.properties.specs.Tables.{bag_at, bags_in}
use Rattle.properties.proofs.RowTables.{length_bags_in, get_d_bags_in}
use Rattle.conditions.specs.Comparing.{in_code}
use Rattle.conditions.specs.Minimal.{containing_at, entered_at, entered_if, Masks, masks_by, PairEntered, row_mask, AllEntered}
use Rattle.conditions.specs.declared.bags.Comparison.{Comparison}
use Rattle.conditions.specs.declared.bags.Comparison.TheVariants.{Equal, Within, Around, Apart}
use Rattle.conditions.proofs.Filling.{Picked, picked_all}
use Rattle.conditions.proofs.Compared.{told_equal, told_within, told_around, told_apart}
use Rattle.conditions.proofs.Entering.{entered_all}

-- ---- what a comparison says of containing, in both directions

by_answer : (a b : Bag) {c : laws.Comparison} → compare a b ≡ c → contains a b ≡ (is_equal c || is_around c)
unfolding covers
by_answer a b e = sym (covers_contains a b) ∙ ap (λ (c : laws.Comparison). is_equal c || is_around c) e

module _ (b other : Bag) where
  both_ways : {c : laws.Comparison} → compare b other ≡ c
      → (contains b other ≡ (is_equal c || is_around c)) × (contains other b ≡ (is_equal (turned c) || is_around (turned c)))
  both_ways e = (by_answer b other e, by_answer other b (compare_turned b other ∙ ap turned e))

  -- so a pair is entered by what the answer says
  module _ {answer : Comparison} (e : answer ≡ in_code (compare b other)) {i k : ℕ} {before after : Masks} where
    pair_by : {p q : Bool} → (contains b other ≡ p) × (contains other b ≡ q)
        → after.containing ≡ entered_if p k i (entered_if q i k before.containing)
        → after.contained ≡ entered_if p i k (entered_if q k i before.contained) → PairEntered b other i k before after
    pair_by h up down =
        record {
          containing = up ∙ sym (ap₂ (λ (p q : Bool). entered_if p k i (entered_if q i k before.containing)) h.0 h.1);
          contained = down ∙ sym (ap₂ (λ (p q : Bool). entered_if p i k (entered_if q k i before.contained)) h.0 h.1);
        }

    pub pair_equal : answer ≡ Equal → after.containing ≡ entered_at k i (entered_at i k before.containing)
        → after.contained ≡ entered_at i k (entered_at k i before.contained) → PairEntered b other i k before after
    unfolding is_equal is_around turned entered_if
    pair_equal f = pair_by (both_ways (told_equal b other e f))

    pub pair_within : answer ≡ Within → after.containing ≡ entered_at i k before.containing → after.contained ≡ entered_at k i before.contained
        → PairEntered b other i k before after
    unfolding is_equal is_around turned entered_if
    pair_within f = pair_by (both_ways (told_within b other e f))

    pub pair_around : answer ≡ Around → after.containing ≡ entered_at k i before.containing → after.contained ≡ entered_at i k before.contained
        → PairEntered b other i k before after
    unfolding is_equal is_around turned entered_if
    pair_around f = pair_by (both_ways (told_around b other e f))

    pub pair_apart : answer ≡ Apart → after.containing ≡ before.containing → after.contained ≡ before.contained
        → PairEntered b other i k before after
    unfolding is_equal is_around turned entered_if
    pair_apart f = pair_by (both_ways (told_apart b other e f))

-- a test of all conditions is one of all indices
by_index : (bags : List Bag) (test : Bag → Bool) → any (λ j. test (get_or bags j [])) (up_to (length bags)) ≡ any test bags
by_index bags test = sym (any_map test (λ j. get_or bags j []) (up_to (length bags))) ∙ ap (any test) (listed bags [])

-- ---- the masks of all conditions of a list

module _ (bags : List Bag) (few : length bags ≤ 64) {masks : List ℕ} (are : masks ≡ padded 64 0 (map (containing_at bags) (up_to (length bags)))) where
  pub mask_at_lem : (i : ℕ) → i < length bags → get_or masks i 0 ≡ containing_at bags i
  mask_at_lem i h =
      ap (λ (l : List ℕ). get_or l i 0) are
      ∙ padded_at 64 0 (map (containing_at bags) (up_to (length bags))) i 0 (subst (λ (n : ℕ). i < n) (sym long) h)
      ∙ get_d_map (containing_at bags) (up_to (length bags)) i 0 0 (subst (λ (n : ℕ). i < n) (sym (length_up_to (length bags))) h)
      ∙ ap (containing_at bags) (get_d_up_to (length bags) i 0 h)
    where
      long : length (map (containing_at bags) (up_to (length bags))) ≡ length bags
      long = length-map (up_to (length bags)) (containing_at bags) ∙ length_up_to (length bags)

  -- a member of a mask contains its condition
  pub contains_by : (i k : ℕ) → i < length bags → k < length bags → is_member (get_or masks i 0) k ≡ contains (get_or bags k []) (get_or bags i [])
  unfolding containing_at
  contains_by i k h l =
      ap (λ (m : ℕ). is_member m k) (mask_at_lem i h) ∙ kept_member (λ n. contains (get_or bags n []) (get_or bags i [])) (length bags) k l

  -- and of which two there is no condition that contains both
  pub excluded_by_lem : (i j : ℕ) → i < length bags → j < length bags
      → eqb (common_of (get_or masks i 0) (get_or masks j 0)) 0 ≡ excluded bags i j
  unfolding containing_at excluded
  excluded_by_lem i j h k =
      ap₂ (λ (a b : ℕ). eqb (common_of a b) 0) (mask_at_lem i h) (mask_at_lem j k)
      ∙ ap (λ (m : ℕ). eqb m 0) (common_kept (λ n. contains (get_or bags n []) (get_or bags i [])) (λ n. contains (get_or bags n []) (get_or bags j [])) (length bags))
      ∙ kept_empty (λ n. contains (get_or bags n []) (get_or bags i []) && contains (get_or bags n []) (get_or bags j [])) (up_to (length bags))
      ∙ ap not (by_index bags (λ b. contains b (get_or bags i []) && contains b (get_or bags j [])))
      ∙ ap not (any_ext _ _ bags (λ b m. ap₂ (λ (p q : Bool). p && q) (sym (covers_contains b (get_or bags i []))) (sym (covers_contains b (get_or bags j [])))))

-- ---- the minimal conditions of a table, picked by these masks

-- a set is part of another if their common members are all of it
part_of : (f g : ℕ → Bool) (n : ℕ)
    → eqb (common_of (mask_of (keep f (up_to n))) (mask_of (keep g (up_to n)))) (mask_of (keep f (up_to n))) ≡ not (any (λ k. f k && not (g k)) (up_to n))
part_of f g n =
    let own = mask_of (keep f (up_to n)) in
    let both = common_of own (mask_of (keep g (up_to n))) in
    same_test (eqb both own) (not (any (λ k. f k && not (g k)) (up_to n)))
    (λ e.
    to_not_true (any (λ k. f k && not (g k)) (up_to n))
    (any_false (λ k. f k && not (g k)) (up_to n)
    (λ k m.
    let h = up_to_at n k m in
    inside (f k) (g k)
    (sym (kept_member (λ j. f j && g j) n k h) ∙ ap (λ (x : ℕ). is_member x k) (sym (common_kept f g n) ∙ eqb-true both own e) ∙ kept_member f n k h))))
    (λ e.
    eq-eqb both own
    (common_kept f g n
    ∙ ap mask_of (keep_ext (λ k. f k && g k) f (up_to n)
    (λ k m. whole (f k) (g k) (any_none (λ k. f k && not (g k)) (up_to n) (not-true (any (λ k. f k && not (g k)) (up_to n)) e) k m)))))
  where
    inside : (p q : Bool) → (p && q) ≡ p → (p && not q) ≡ false
    inside true q e = ap not e
    inside false q e = refl

    whole : (p q : Bool) → (p && not q) ≡ false → (p && q) ≡ p
    whole true true e = refl
    whole true false e = sym e
    whole false q e = refl

-- whatever condition i contains contains it
abbrev pub least_by : List ℕ → List ℕ → ℕ → Bool
least_by containing contained i = eqb (common_of (get_or contained i 0) (get_or containing i 0)) (get_or contained i 0)

module _ (size count : ℕ) (table : List ℕ) (few : count ≤ 64) {containing contained : List ℕ}
    (all : AllEntered size table count (masks_by containing contained)) where
  abbrev bags : List Bag
  bags = bags_in size count table

  -- so the masks tell which are minimal
  least_is : (i : ℕ) → i < count → least_by containing contained i ≡ not (any (strictly_contains (get_or bags i [])) bags)
  unfolding row_mask
  least_is i h =
      let inside : ℕ → Bool = λ k. contains (bag_at size table i) (bag_at size table k) in
      let around : ℕ → Bool = λ k. contains (bag_at size table k) (bag_at size table i) in
      ap₂ (λ (down up : ℕ). eqb (common_of down up) down) (all.contained.rows i h) (all.containing.rows i h)
      ∙ part_of inside around count
      ∙ ap not (any_ext (λ k. inside k && not (around k)) (λ k. strictly_contains (get_or bags i []) (get_or bags k [])) (up_to count)
      (λ k m.
      sym (strictly_by_contains (bag_at size table i) (bag_at size table k))
      ∙ ap₂ strictly_contains (sym (get_d_bags_in size count table i h)) (sym (get_d_bags_in size count table k (up_to_at count k m))))
      ∙ ap (λ (n : ℕ). any (λ k. strictly_contains (get_or bags i []) (get_or bags k [])) (up_to n)) (sym (length_bags_in size count table))
      ∙ by_index bags (strictly_contains (get_or bags i [])))

  minimal_are : minimal bags ≡ keep (least_by containing contained) (up_to count)
  unfolding minimal
  minimal_are =
      ap (λ (n : ℕ). keep (λ i. not (any (strictly_contains (get_or bags i [])) bags)) (up_to n)) (length_bags_in size count table)
      ∙ keep_ext _ _ (up_to count) (λ i m. sym (least_is i (up_to_at count i m)))

  -- and which contain each
  containing_are : containing ≡ padded 64 0 (map (containing_at bags) (up_to (length bags)))
  unfolding row_mask containing_at
  containing_are =
      entered_all few all.containing
      ∙ ap (padded 64 0) (map_ext _ _ (up_to count)
      (λ i m.
      ap mask_of (keep_ext _ _ (up_to count)
      (λ k l. ap₂ contains (sym (get_d_bags_in size count table k (up_to_at count k l))) (sym (get_d_bags_in size count table i (up_to_at count i m)))))
      ∙ ap (λ (n : ℕ). mask_of (keep (λ k. contains (get_or bags k []) (get_or bags i [])) (up_to n))) (sym (length_bags_in size count table))))
      ∙ ap (λ (n : ℕ). padded 64 0 (map (containing_at bags) (up_to n))) (sym (length_bags_in size count table))

  pub minimal_found : {indices : List ℕ} {n i : ℕ} → Picked (least_by containing contained) 64 count indices n i → count ≤ i
      → (n ≡ length (minimal bags)) × (indices ≡ padded 64 0 (minimal bags))
      × (containing ≡ padded 64 0 (map (containing_at bags) (up_to (length bags))))
  minimal_found p whole =
      let found = picked_all p whole in
      (found.0 ∙ ap length (sym minimal_are), found.1 ∙ ap (padded 64 0) (sym minimal_are), containing_are)
