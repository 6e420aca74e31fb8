-- Masks of parameters, and bindings compared at them.
use Rattle.std.specs.Prelude.{ℕ, ◌≤◌, ◌<◌, ◌≡◌, true, List, length, get_or}
use Rattle.masks.specs.Sets.{is_member}

-- Two bindings have the same objects at the parameters of a mask.
pub record Agree (mask : ℕ) (x y : List ℕ) : Type 0 where
  pub same : (p : ℕ) → is_member mask p ≡ true → get_or y p 0 ≡ get_or x p 0

-- Every member of one mask is a member of another.
pub record Inside (inner outer : ℕ) : Type 0 where
  pub each : (p : ℕ) → is_member inner p ≡ true → is_member outer p ≡ true

-- Two bindings have the same objects at the parameters below a level.
pub record Begins (level : ℕ) (x y : List ℕ) : Type 0 where
  pub same : (p : ℕ) → p < level → get_or y p 0 ≡ get_or x p 0

-- At a level, a binding has an object from a number on.
pub record StartsFrom (level from : ℕ) (y : List ℕ) : Type 0 where
  pub from_on : level < length y → from ≤ get_or y level 0

-- Every member of a mask is below a level; every number below a level is a member.
pub record BoundBelow (mask level : ℕ) : Type 0 where
  pub each : (p : ℕ) → is_member mask p ≡ true → p < level

pub record Covers (mask level : ℕ) : Type 0 where
  pub each : (p : ℕ) → p < level → is_member mask p ≡ true
