-- D, X and E lines of the conditions of a table: what the code finds by comparing them gives the lines of the listing.
use Prim.Native.Nat.{ℕ, ◌-◌, ◌≤◌, ◌<◌}
use native.Mathlib.Nat.{sub-zero}
use native.Mathlib.Omega.{arith}
use mathlib.Core.Path.{◌≡◌, refl, sym, ap, ap₂, ◌∙◌}
use mathlib.Core.Bool.{Bool, true, not, ◌&&◌}
use mathlib.Core.List.{List, [], ◌∷◌, ◌++◌, map, Memᴰ}
use borrow.Author.Tests.{lt-ltb}
use lib.Dec.{ltb}
use lib.ListN.{length, get_or, take, length-map}
use lib.Seq.{take_at}
use Rattle.laws.proofs.Padded.{length_padded}
use Rattle.conditions.specs.Minimal.{containing_at, MinimalOf}
use Rattle.conditions.specs.declared.minimal.Minimal.{Minimal}
use Rattle.conditions.proofs.Containing.{mask_at_lem, contains_by, excluded_by_lem}
use Rattle.laws.specs.Bags.{Bag, contains, strictly_within}
use Rattle.laws.specs.Lists.{all, up_to, keep, padded}
use Rattle.laws.proofs.Comparisons.{within_by_contains}
use Rattle.laws.proofs.Lists.{all_intro, keep_at, up_to_at, length_up_to, flat_map_append}
use Rattle.laws.proofs.Mapped.{keep_ext, keep_narrow, flat_map_ext}
use Rattle.laws.proofs.Tests.{and_left}
use Rattle.laws.proofs.Walks.{keep_few}
use Rattle.masks.specs.Sets.{is_member, members_of}
use Rattle.masks.proofs.Members.{kept_members}
use Rattle.model.specs.Lines.{Line, membership, exclusion, nesting, exclusions, excluded, surrounding, nestings, minimal}
use Rattle.model.specs.Text.{text, line_text}
use Rattle.properties.specs.Tables.{bags_in}
use Rattle.properties.proofs.RowTables.{length_bags_in}
use Rattle.sections.specs.Comparisons.{comparison_lines}
use Rattle.sections.specs.Exclusions.{excluded_by, exclusions_by}
use Rattle.sections.specs.Nestings.{nestings_of, nestings_by}
use Rattle.text.proofs.Writing.{Begins}

-- X lines by masks are those of the listing
module _ (bags : List Bag) (few : length bags ≤ 64) {masks : List ℕ} (are : masks ≡ padded 64 0 (map (containing_at bags) (up_to (length bags)))) where
  exclusions_are : (indices : List ℕ) → ((i : ℕ) → Memᴰ i indices → i < length bags) → exclusions_by masks indices ≡ exclusions bags indices
  unfolding exclusions_by exclusions excluded_by
  exclusions_are [] h = refl
  exclusions_are (i ∷ later) h =
      ap₂ (λ (xs ys : List Line). xs ++ ys)
      (ap (map (exclusion i)) (keep_ext (excluded_by masks i) (excluded bags i) later
      (λ j m. excluded_by_lem bags few are i j (h i (Memᴰ.head refl)) (h j (Memᴰ.tail m)))))
      (exclusions_are later (λ j m. h j (Memᴰ.tail m)))

  -- E lines by masks are those of the listing
  surrounding_are : (i : ℕ) → i < length bags → nestings_of masks i ≡ map (nesting i) (surrounding bags i)
  unfolding nestings_of surrounding containing_at
  surrounding_are i h =
      let inside : ℕ → Bool = λ j. contains (get_or bags j []) (get_or bags i []) in
      let strictly : ℕ → Bool = λ j. strictly_within (get_or bags i []) (get_or bags j []) in
      ap (map (nesting i))
      (ap (λ (m : ℕ). keep (λ j. not (is_member (get_or masks j 0) i)) (members_of m)) (mask_at_lem bags few are i h)
      ∙ ap (keep (λ j. not (is_member (get_or masks j 0) i))) (kept_members inside (length bags) few)
      ∙ keep_ext (λ j. not (is_member (get_or masks j 0) i)) strictly (keep inside (up_to (length bags)))
      (λ j m.
      let k = keep_at inside (up_to (length bags)) j m in
      ap not (contains_by bags few are j i (up_to_at (length bags) j k.0) h)
      ∙ sym (ap (λ (t : Bool). t && not (contains (get_or bags i []) (get_or bags j []))) k.1)
      ∙ sym (within_by_contains (get_or bags i []) (get_or bags j [])))
      ∙ keep_narrow inside strictly (up_to (length bags))
      (λ j e.
      and_left (inside j) (not (contains (get_or bags i []) (get_or bags j []))) (sym (within_by_contains (get_or bags i []) (get_or bags j [])) ∙ e)))

  nestings_are : nestings_by masks (length bags) ≡ nestings bags
  unfolding nestings_by nestings
  nestings_are =
      flat_map_ext (nestings_of masks) (λ i. map (nesting i) (surrounding bags i)) (up_to (length bags))
      (λ i m. surrounding_are i (up_to_at (length bags) i m))

-- the text of X and E lines by masks begins with the X lines
pub exclusions_first : (masks indices : List ℕ) (count : ℕ)
    → Begins (text (exclusions_by masks indices ++ nestings_by masks count)) (text (exclusions_by masks indices)) (text (nestings_by masks count))
unfolding text
exclusions_first masks indices count = record { path = flat_map_append line_text (exclusions_by masks indices) (nestings_by masks count) }

-- minimal conditions have indices of conditions, and there are no more
pub minimal_below : (bags : List Bag) (i : ℕ) → Memᴰ i (minimal bags) → i < length bags
unfolding minimal
minimal_below bags i m = up_to_at (length bags) i (keep_at _ (up_to (length bags)) i m).0

pub minimal_few : (bags : List Bag) → length (minimal bags) ≤ length bags
unfolding minimal
minimal_few bags = keep_few _ (length bags)

-- the minimal conditions as the code finds them
module _ (size count : ℕ) (table : List ℕ) (most : count ≤ 64) {r : Minimal} (found : MinimalOf (bags_in size count table) r) where
  abbrev bags : List Bag
  bags = bags_in size count table

  few : length bags ≤ 64
  few = omega (arith, length_bags_in size count table)

  -- the indices that are lent of its array
  indices_lent : take (r.count - 0) r.indices ≡ minimal bags
  unfolding padded
  indices_lent =
      ap (λ (n : ℕ). take n r.indices) (sub-zero r.count) ∙ ap (take r.count) found.indices
      ∙ take_at (minimal bags) _ r.count (sym found.count)

  pub indices_inside : r.count ≤ length r.indices
  indices_inside =
      omega (arith, found.count, minimal_few bags, few, ap length found.indices, length_padded 64 0 (minimal bags) (omega (arith, minimal_few bags, few)))

  -- have masks
  pub masks_long : length r.containing ≡ 64
  masks_long = ap length found.containing ∙ length_padded 64 0 (map (containing_at bags) (up_to (length bags))) (omega (arith, listed, few))
    where
      listed : length (map (containing_at bags) (up_to (length bags))) ≡ length bags
      listed = length-map (up_to (length bags)) (containing_at bags) ∙ length_up_to (length bags)

  pub masks_there : all (λ i. ltb i (length r.containing)) (take (r.count - 0) r.indices) ≡ true
  masks_there =
      ap (all (λ i. ltb i (length r.containing))) indices_lent
      ∙ all_intro (λ i. ltb i (length r.containing)) (minimal bags)
      (λ i m. lt-ltb i (length r.containing) (omega (arith, minimal_below bags i m, few, masks_long)))

  -- and give the lines: all D, and then all X and all E
  pub comparison_parts : Begins (text (comparison_lines bags)) (text (map membership (take (r.count - 0) r.indices)))
      (text (exclusions_by r.containing (take (r.count - 0) r.indices) ++ nestings_by r.containing count))
  unfolding text comparison_lines
  comparison_parts =
      record {
        path =
            flat_map_append line_text (map membership (minimal bags)) (exclusions bags (minimal bags) ++ nestings bags)
            ∙ ap₂ (λ (is : List ℕ) (lines : List Line). text (map membership is) ++ text lines) (sym indices_lent) (sym pairs_are);
      }
    where
      pairs_are : exclusions_by r.containing (take (r.count - 0) r.indices) ++ nestings_by r.containing count
          ≡ exclusions bags (minimal bags) ++ nestings bags
      pairs_are =
          ap₂ (λ (xs es : List Line). xs ++ es)
          (ap (exclusions_by r.containing) indices_lent ∙ exclusions_are bags few found.containing (minimal bags) (minimal_below bags))
          (ap (nestings_by r.containing) (sym (length_bags_in size count table)) ∙ nestings_are bags few found.containing)
