-- The minimal conditions as the code keeps them: arrays of 64 places, 0 past their ends.
use Rattle.std.specs.Prelude.{ℕ, ◌≤◌, ◌<◌, ◌≡◌, Bool, cond, List, [], map, length, get_or, set}
use Rattle.laws.specs.Bags.{Bag, contains}
use Rattle.laws.specs.Lists.{keep, up_to, padded}
use Rattle.masks.specs.Sets.{mask_of, union_of, single_of}
use Rattle.model.specs.Lines.{minimal}
use Rattle.properties.specs.Tables.{bag_at}
use Rattle.conditions.specs.declared.minimal.Minimal.{Minimal}

-- the mask of the conditions that contain condition i
unfoldable pub containing_at : List Bag → ℕ → ℕ
containing_at bags i = mask_of (keep (λ k. contains (get_or bags k []) (get_or bags i [])) (up_to (length bags)))

-- number q entered into mask p
unfoldable pub entered_at : ℕ → ℕ → List ℕ → List ℕ
entered_at p q masks = set masks p (union_of (get_or masks p 0) (single_of q))

-- where a test passes
unfoldable pub entered_if : Bool → ℕ → ℕ → List ℕ → List ℕ
entered_if holds p q masks = cond holds (entered_at p q masks) masks

-- For each condition the mask of those that contain it, and the mask of those that it contains.
pub record Masks : Type 0 where
  pub containing : List ℕ
  pub contained : List ℕ

abbrev pub masks_by : List ℕ → List ℕ → Masks
masks_by containing contained = record { containing = containing; contained = contained }

-- Conditions i and k, which are these bags, entered into each other's masks as one contains the other.
pub record PairEntered (b other : Bag) (i k : ℕ) (before after : Masks) : Type 0 where
  pub containing : after.containing ≡ entered_if (contains b other) k i (entered_if (contains other b) i k before.containing)
  pub contained : after.contained ≡ entered_if (contains b other) i k (entered_if (contains other b) k i before.contained)

-- the mask of those of the first n conditions that pass a test with condition i
unfoldable pub row_mask : (ℕ → ℕ → Bool) → ℕ → ℕ → ℕ
row_mask test n i = mask_of (keep (λ k. test k i) (up_to n))

-- An array of 64 masks: of each of the first n conditions that of those of the first n that pass a test with it; 0 past these.
pub record Entered (test : ℕ → ℕ → Bool) (n : ℕ) (masks : List ℕ) : Type 0 where
  pub long : length masks ≡ 64
  pub rows : (i : ℕ) → i < n → get_or masks i 0 ≡ row_mask test n i
  pub blank : (i : ℕ) → n ≤ i → get_or masks i 0 ≡ 0

-- The masks of the first n rows of a table, compared with each other.
pub record AllEntered (size : ℕ) (table : List ℕ) (n : ℕ) (masks : Masks) : Type 0 where
  pub containing : Entered (λ k i. contains (bag_at size table k) (bag_at size table i)) n masks.containing
  pub contained : Entered (λ k i. contains (bag_at size table i) (bag_at size table k)) n masks.contained

-- the code's answer for a list of conditions
pub record MinimalOf (bags : List Bag) (r : Minimal) : Type 0 where
  pub count : r.count ≡ length (minimal bags)
  pub indices : r.indices ≡ padded 64 0 (minimal bags)
  pub containing : r.containing ≡ padded 64 0 (map (containing_at bags) (up_to (length bags)))
