-- The lines of a section that are left to be written.
use Prim.Native.Nat.{ℕ, zero, suc, ◌+◌, ◌-◌, ◌^◌, ◌≤◌, ◌<◌}
use mathlib.Core.Path.{◌≡◌, refl, sym, ap, ◌∙◌}
use mathlib.Core.Bool.{Bool, true, false, not}
use mathlib.Core.List.{List, [], ◌∷◌, map, flat_map}
use native.Mathlib.Numerals.{add-one}
use borrow.Author.Tests.{ltb-true, eq-eqb, ne_eqb}
use lib.Dec.{ltb}
use lib.ListN.{length, take, drop, get_or, drop_of_length-le, length-drop}
use lib.Seq.{drop-cons, take_all}
use native.Mathlib.Omega.{arith}
use Rattle.laws.specs.Bags.{Bag}
use Rattle.laws.specs.Lists.{all, keep}
use Rattle.laws.proofs.Lists.{all_at, mem_get_d, flat_map_append}
use Rattle.laws.proofs.Tests.{and_right}
use Rattle.laws.proofs.Walks.{left, left_all, left_one, left_none}
use Rattle.model.specs.Lines.{Line, state, membership, exclusion, nesting}
use Rattle.model.specs.Text.{line_text, text}
use Rattle.properties.specs.Tables.{bags_in}
use Rattle.properties.proofs.RowTables.{bags_from, rows_start, rows_left, rows_end, lent, row_lent}
use Rattle.masks.specs.Sets.{is_member, members_of, first_member, without_first, common_of}
use Rattle.masks.proofs.Walking.{Walk, walk, no_members}
use Rattle.sections.specs.Exclusions.{excluded_by, exclusions_by}
use Rattle.sections.specs.Nestings.{nestings_of, nestings_by}
use Rattle.text.proofs.Writing.{Begins}

-- a text begins with its first line
pub first_line : (line : Line) (lines : List Line) → Begins (text (line ∷ lines)) (line_text line) (text lines)
unfolding text flat_map
first_line line lines = record { path = refl }

pub no_lines : text [] ≡ []
unfolding text flat_map
no_lines = refl

-- T lines
module _ (size count : ℕ) (table : List ℕ) where
  pub states_start : text (map state (bags_in size count table)) ≡ text (map state (bags_from size count table 0))
  states_start = ap (λ (bags : List Bag). text (map state bags)) (rows_start size count table)

  pub states_next : (i : ℕ) → i < count
      → Begins (text (map state (bags_from size count table i))) (line_text (state (lent size table i)))
      (text (map state (bags_from size count table (i + 1))))
  states_next i h = rw (rows_left size count table i h, row_lent size i table) (first_line _ _)

  pub states_end : (i : ℕ) → count ≤ i → text (map state (bags_from size count table i)) ≡ []
  states_end i h = rw (rows_end size count table i h) no_lines

-- D lines of a list of indices, from a place on
module _ (indices : List ℕ) where
  pub memberships_next : (k : ℕ) {i : ℕ} → k < length indices → i ≡ get_or indices k 0
      → Begins (text (map membership (drop k indices))) (line_text (membership i)) (text (map membership (drop (k + 1) indices)))
  memberships_next k h m = rw (m, drop-cons indices k 0 h, add-one k) (first_line _ _)

  pub memberships_end : (k : ℕ) → length indices ≤ k → text (map membership (drop k indices)) ≡ []
  memberships_end k h = rw (drop_of_length-le indices h) no_lines

-- the elements kept of a list, from a place on: the one there passes, or fails
kept_at : (test : ℕ → Bool) (l : List ℕ) (k : ℕ) → k < length l → test (get_or l k 0) ≡ true
    → keep test (drop k l) ≡ get_or l k 0 ∷ keep test (drop (k + 1) l)
unfolding keep
kept_at test l k h e = ap (keep test) (drop-cons l k 0 h) ∙ rw (e, add-one k)

skipped_at : (test : ℕ → Bool) (l : List ℕ) (k : ℕ) → k < length l → test (get_or l k 0) ≡ false
    → keep test (drop k l) ≡ keep test (drop (k + 1) l)
unfolding keep
skipped_at test l k h e = ap (keep test) (drop-cons l k 0 h) ∙ rw (e, add-one k)

-- two masks share no member, or one
module _ (masks : List ℕ) (i j : ℕ) {r : ℕ} (e : r ≡ common_of (get_or masks i 0) (get_or masks j 0)) where
  excluded : r ≡ 0 → excluded_by masks i j ≡ true
  unfolding excluded_by
  excluded f = eq-eqb _ 0 (sym e ∙ f)

  not_excluded : (r ≡ 0 → ⊥) → excluded_by masks i j ≡ false
  unfolding excluded_by
  not_excluded f = ne_eqb _ 0 (λ g. f (e ∙ g))

-- X lines of one index with later ones, from a place among those on
module _ (masks : List ℕ) (i : ℕ) (later : List ℕ) where
  unfoldable pub exclusions_from : ℕ → List ℕ
  exclusions_from k = text (map (exclusion i) (keep (excluded_by masks i) (drop k later)))

  pub exclusions_start : text (map (exclusion i) (keep (excluded_by masks i) later)) ≡ exclusions_from 0
  unfolding exclusions_from
  exclusions_start = refl

  module _ (k : ℕ) {j r : ℕ} (h : k < length later) (m : j ≡ get_or later k 0) (e : r ≡ common_of (get_or masks i 0) (get_or masks j 0)) where
    pub exclusion_next : r ≡ 0 → Begins (exclusions_from k) (line_text (exclusion i j)) (exclusions_from (k + 1))
    unfolding exclusions_from
    exclusion_next f = rw (m, kept_at (excluded_by masks i) later k h (excluded masks i (get_or later k 0) (rw m at e) f)) (first_line _ _)

    pub exclusion_skipped : (r ≡ 0 → ⊥) → exclusions_from k ≡ exclusions_from (k + 1)
    unfolding exclusions_from
    exclusion_skipped f = rw (skipped_at (excluded_by masks i) later k h (not_excluded masks i (get_or later k 0) (rw m at e) f))

  pub exclusions_end : (k : ℕ) → length later ≤ k → exclusions_from k ≡ []
  unfolding exclusions_from keep
  exclusions_end k h = rw (drop_of_length-le later h) no_lines

-- a list that is lent from a place on
pub lent_from_lem : (l : List ℕ) (k : ℕ) → drop k l ≡ take (length l - k) (drop k l)
lent_from_lem l k = sym (take_all (length l - k) (drop k l) (omega (arith, length-drop k l)))

-- X lines of a list of indices, from a place on: those of the index there, with the later ones, and the others
module _ (masks indices : List ℕ) where
  pub pairs_next : (k : ℕ) {i : ℕ} → k < length indices → i ≡ get_or indices k 0
      → Begins (text (exclusions_by masks (drop k indices)))
      (text (map (exclusion i) (keep (excluded_by masks i) (take (length indices - (k + 1)) (drop (k + 1) indices)))))
      (text (exclusions_by masks (drop (k + 1) indices)))
  unfolding exclusions_by text
  pairs_next k h m = record { path = rw (m, ← lent_from_lem indices (k + 1), drop-cons indices k 0 h, add-one k) (flat_map_append line_text _ _) }

  pub pairs_end : (k : ℕ) → length indices ≤ k → text (exclusions_by masks (drop k indices)) ≡ []
  unfolding exclusions_by
  pairs_end k h = rw (drop_of_length-le indices h) no_lines

-- A mask that is not empty, its first member, and the mask without it.
pub record Walked (mask first later : ℕ) : Type 0 where
  pub members : members_of mask ≡ first ∷ members_of later
  pub below : first < 64
  pub fewer : later < mask
  pub small : later < 2 ^ 64

pub walked : {mask first later : ℕ} → (mask ≡ 0 → ⊥) → mask < 2 ^ 64 → first ≡ first_member mask → later ≡ without_first mask → Walked mask first later
walked {mask} some h e f =
    let w : Walk mask = walk (omega arith) h in
    record { members = w.listed ∙ rw (e, f) refl; below = rw e w.below; fewer = rw f w.fewer; small = rw f w.small }

-- E lines of one condition with the members of a mask that is left
module _ (masks : List ℕ) (i : ℕ) where
  unfoldable pub nestings_left : ℕ → List ℕ
  nestings_left rest = text (map (nesting i) (keep (λ j. not (is_member (get_or masks j 0) i)) (members_of rest)))

  pub nestings_start : text (nestings_of masks i) ≡ nestings_left (get_or masks i 0)
  unfolding nestings_of nestings_left
  nestings_start = refl

  -- condition i does not contain the first of them, or it does
  module _ {rest j later : ℕ} {r : Bool} (w : Walked rest j later) (e : r ≡ is_member (get_or masks j 0) i) where
    pub nesting_next : r ≡ false → Begins (nestings_left rest) (line_text (nesting i j)) (nestings_left later)
    unfolding nestings_left keep
    nesting_next f = rw (w.members, sym e ∙ f) (first_line _ _)

    pub nesting_skipped : r ≡ true → nestings_left rest ≡ nestings_left later
    unfolding nestings_left keep
    nesting_skipped f = rw (w.members, sym e ∙ f)

  pub nestings_end : (rest : ℕ) → rest ≡ 0 → nestings_left rest ≡ []
  unfolding nestings_left keep
  nestings_end rest e = rw (e, no_members) no_lines

-- E lines of the first conditions, from one on: its own, and the others
module _ (masks : List ℕ) (count : ℕ) where
  unfoldable pub nestings_from : ℕ → List ℕ
  nestings_from i = text (flat_map (nestings_of masks) (left i count))

  pub nested_start : text (nestings_by masks count) ≡ nestings_from 0
  unfolding nestings_by nestings_from
  nested_start = ap (λ (is : List ℕ). text (flat_map (nestings_of masks) is)) (sym (left_all count))

  pub nested_next : (i : ℕ) → i < count → Begins (nestings_from i) (text (nestings_of masks i)) (nestings_from (i + 1))
  unfolding nestings_from text flat_map
  nested_next i h =
      record { path = rw (left_one i count h) (flat_map_append line_text (nestings_of masks i) (flat_map (nestings_of masks) (left (i + 1) count))) }

  pub nested_end : (i : ℕ) → count ≤ i → nestings_from i ≡ []
  unfolding nestings_from flat_map
  nested_end i h = rw (left_none i count h) no_lines

-- an index of a list is below a bound that all are below
pub index_below : (bound : ℕ) (l : List ℕ) (k : ℕ) → all (λ i. ltb i bound) l ≡ true → k < length l → get_or l k 0 < bound
index_below bound l k h e = ltb-true _ _ (all_at (λ i. ltb i bound) l h (get_or l k 0) (mem_get_d l k 0 e))

-- and so are those that are lent of it
all_drop : (test : ℕ → Bool) (l : List ℕ) (k : ℕ) → all test l ≡ true → all test (drop k l) ≡ true
unfolding all
all_drop test l zero h = h
all_drop test [] (suc k) h = h
all_drop test (x ∷ l) (suc k) h = all_drop test l k (and_right (test x) (all test l) h)

pub all_lent : (test : ℕ → Bool) (l : List ℕ) (k : ℕ) → all test l ≡ true → all test (take (length l - k) (drop k l)) ≡ true
all_lent test l k h = rw (← lent_from_lem l k) (all_drop test l k h)
