-- Objects that join the space of each property that passes a test, property by property.
use Prim.Native.Nat.{ℕ, ◌+◌, ◌≤◌, ◌<◌}
use mathlib.Core.Path.{◌≡◌, refl, ap, ◌∙◌}
use mathlib.Core.Bool.{Bool, true, false}
use mathlib.Core.List.{List, foldl}
use lib.ListN.{length, get_or, length-set}
use Rattle.laws.specs.Lists.{keep, up_to}
use Rattle.laws.proofs.Walks.{left, pick_starts, pick_passes, pick_fails, pick_ends}
use Rattle.masks.specs.Sets.{union_of}
use Rattle.spaces.specs.Steps.{join_at, open_at}

-- an object joins, with the masks in front
abbrev pub open_next : List ℕ → ℕ → List ℕ → List ℕ → ℕ → List ℕ
open_next groups size counts masks o = open_at groups size counts o masks

-- What the loop has before property c: the properties left, joined with the masks so far, make the whole.
pub record Joining (groups : List ℕ) (those : ℕ) (test : ℕ → Bool) (size : ℕ) (before : List ℕ) (c : ℕ) (masks : List ℕ) : Type 0 where
  pub sized : length masks ≡ length before
  pub rest : foldl (join_at groups those) masks (keep test (left c size)) ≡ foldl (join_at groups those) before (keep test (up_to size))

pub join_start : {groups : List ℕ} {those : ℕ} {test : ℕ → Bool} {size : ℕ} {before : List ℕ} → Joining groups those test size before 0 before
join_start {groups} {those} {test} {size} {before} =
    record { sized = refl; rest = pick_starts (join_at groups those) _ size test before refl }

module _ {groups : List ℕ} {those : ℕ} {test : ℕ → Bool} {size : ℕ} {before : List ℕ} {c : ℕ} {masks : List ℕ}
    (so_far : Joining groups those test size before c masks) where
  abbrev whole : List ℕ
  whole = foldl (join_at groups those) before (keep test (up_to size))

  -- a property that passes
  pub join_passes : c < size → test c ≡ true → {later : List ℕ} → later ≡ join_at groups those masks c
      → Joining groups those test size before (c + 1) later
  unfolding join_at
  join_passes h e {later} l = record {
    sized = ap length l ∙ length-set masks (get_or groups c 0) (union_of (get_or masks (get_or groups c 0) 0) those) ∙ so_far.sized;
    rest = pick_passes (join_at groups those) whole size test c masks later h e l so_far.rest;
  }

  -- one that fails
  pub join_fails : c < size → test c ≡ false → {later : List ℕ} → later ≡ masks → Joining groups those test size before (c + 1) later
  join_fails h e {later} l = record {
    sized = ap length l ∙ so_far.sized;
    rest = pick_fails (join_at groups those) whole size test c masks later h e l so_far.rest;
  }

  -- after the last
  pub join_end : size ≤ c → masks ≡ foldl (join_at groups those) before (keep test (up_to size))
  join_end h = pick_ends (join_at groups those) whole size test c masks h so_far.rest
