-- What a parameter brings into spaces, as the code finds it: it has a start, changes nothing, or brings in properties.
use Prim.Native.Nat.{ℕ, zero, suc, ◌+◌, ◌-◌, ◌≤◌, ◌<◌}
use Rattle.std.specs.Prelude.{Option, None, Some, is_none}
use native.Mathlib.Omega.{arith}
use mathlib.Core.Path.{◌≡◌, refl, sym, ap, ◌∙◌}
use mathlib.Core.Bool.{true, false}
use mathlib.Core.List.{List, [], foldl}
use Rattle.laws.specs.Bags.{Bag}
use Rattle.laws.proofs.Tests.{cond_true, cond_false}
use Rattle.spaces.specs.Steps.{has_start, changed_by, gained_by, first_of, join_at, enabled_by, gain_row, round_in, rounds_in}
use Rattle.spaces.proofs.Rows.{none_first}

module _ (groups : List ℕ) (objects : ℕ) (old masks : List ℕ) (p : Bag) where
  -- a parameter with a start brings nobody
  pub gain_started : (d a : Bag) → has_start d a ≡ true → masks ≡ gain_row groups objects old masks p d a
  unfolding gain_row gained_by
  gain_started d a e = ap (foldl (join_at groups (enabled_by groups objects old p)) masks) (sym (cond_true (has_start d a) [] (changed_by d a) e))

  -- any other brings those whom it enables into the space of each property that it changes
  pub gain_some : (d a : Bag) → has_start d a ≡ false
      → foldl (join_at groups (enabled_by groups objects old p)) masks (changed_by d a) ≡ gain_row groups objects old masks p d a
  unfolding gain_row gained_by
  gain_some d a e = ap (foldl (join_at groups (enabled_by groups objects old p)) masks) (sym (cond_false (has_start d a) [] (changed_by d a) e))

  at_none : {A : Type 0} (o : Option A) → is_none o ≡ true → o ≡ None
  at_none None e = refl
  at_none (Some a) e = absurd (cc)

  -- and nobody where it changes none
  pub gain_still : (d a : Bag) → has_start d a ≡ false → is_none (first_of (changed_by d a)) ≡ true → masks ≡ gain_row groups objects old masks p d a
  gain_still d a e h =
      ap (foldl (join_at groups (enabled_by groups objects old p)) masks) (sym (none_first (changed_by d a) (at_none (first_of (changed_by d a)) h)))
      ∙ gain_some d a e

-- what the rounds go over: the groups, the number of objects, and the first `size` columns of the first `count` rows of the tables P, D and A
pub record Rounds : Type 0 where
  pub groups : List ℕ
  pub objects : ℕ
  pub size : ℕ
  pub count : ℕ
  pub preconditions : List ℕ
  pub deletes : List ℕ
  pub adds : List ℕ

-- Rounds left, done with the members so far: the answer stays the same.
module _ (r : Rounds) where
  -- the members after one round, and after several
  abbrev pub round : List ℕ → List ℕ
  round = round_in r.groups r.objects r.size r.count r.preconditions r.deletes r.adds

  abbrev pub rounds : ℕ → List ℕ → List ℕ
  rounds = rounds_in r.groups r.objects r.size r.count r.preconditions r.deletes r.adds

  -- a round that adds nothing is the last
  pub rounds_fixed : (n : ℕ) (masks : List ℕ) → round masks ≡ masks → rounds n masks ≡ masks
  unfolding rounds_in
  rounds_fixed zero masks e = refl
  rounds_fixed (suc n) masks e = ap (rounds n) e ∙ rounds_fixed n masks e

  module _ {answer : List ℕ} (n : ℕ) where
    pub rounds_next : (i : ℕ) (masks next : List ℕ) → i < n → next ≡ round masks → rounds (n - i) masks ≡ answer → rounds (n - (i + 1)) next ≡ answer
    unfolding rounds_in
    rounds_next i masks next h e now = ap (rounds (n - (i + 1))) e ∙ ap (λ (k : ℕ). rounds k masks) (sym (one_less h)) ∙ now
      where
        one_less : {a b : ℕ} → a < b → b - a ≡ suc (b - (a + 1))
        one_less h = omega arith

    pub rounds_end : (i : ℕ) (masks : List ℕ) → n ≤ i → rounds (n - i) masks ≡ answer → masks ≡ answer
    unfolding rounds_in
    rounds_end i masks h now = ap (λ (k : ℕ). rounds k masks) (sym (nothing h)) ∙ now
      where
        nothing : {a b : ℕ} → a ≤ b → a - b ≡ 0
        nothing p = omega arith

    pub rounds_stop : (i : ℕ) (masks : List ℕ) → round masks ≡ masks → rounds (n - i) masks ≡ answer → masks ≡ answer
    rounds_stop i masks e now = sym (rounds_fixed (n - i) masks e) ∙ now
