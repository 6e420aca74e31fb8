-- The members of a mask one by one, the lowest first: what the code computes by trailing zeros, and the mask without its lowest digit 1.
use Prim.Native.Nat.{ℕ, ◌-◌, ◌^◌, ◌<◌}
use native.Mathlib.Omega.{arith}
use mathlib.Core.Path.{◌≡◌, refl, sym, ap, ◌∙◌}
use mathlib.Core.List.{List, [], ◌∷◌}
use lib.Bits.{bit_and}
use lib.Count.{ones, count_trailing_zeros}
use lib.ListN.{length}
use Rattle.laws.proofs.Mapped.{keep_none}
use Rattle.laws.specs.Lists.{keep, up_to}
use Rattle.masks.specs.Sets.{is_member, members_of, mask_of, first_member, without_first}
use Rattle.masks.proofs.Ascending.{Ascending, ends, ascends, Below, below_first, below_rest}
use Rattle.masks.proofs.Lowest.{mask_none, mask_smaller, trailing_mask, without_lowest, ones_mask}
use Rattle.masks.proofs.Operations.{none_member}
use Rattle.masks.proofs.Members.{members_ascend, members_below, mask_members, members_mask, mask_small}

-- The first member of a mask and the mask without it.
pub record Walk (m : ℕ) : Type 0 where
  pub listed : members_of m ≡ first_member m ∷ members_of (without_first m)
  pub below : first_member m < 64
  pub fewer : without_first m < m
  pub small : without_first m < 2 ^ 64
  pub trailing : count_trailing_zeros 64 m ≡ first_member m
  pub without : bit_and m (m - 1) ≡ without_first m

-- for the mask of an ascending list
walk_list : {n m : ℕ} {os : List ℕ} → Ascending n os → Below 64 os → members_of m ≡ os → m ≡ mask_of os → 0 < m → Walk m
unfolding first_member without_first
walk_list ends u listed e some = absurd (omega (arith, mask_none))
walk_list {m = m} (ascends {o = o} {os = os} h a) u listed e some =
    record {
      listed = rw listed (ap (λ (l : List ℕ). o ∷ l) (sym (members_mask a (below_rest u))));
      below = rw listed (below_first u);
      fewer = rw (listed, e) (mask_smaller o os);
      small = rw listed (mask_small a (below_rest u));
      trailing = rw (listed, e) (trailing_mask 64 (ascends h a) (below_first u));
      without = rw (listed, e) (without_lowest (ascends h a));
    }

pub walk : {m : ℕ} → 0 < m → m < 2 ^ 64 → Walk m
walk {m} some h = walk_list (members_ascend m) (members_below m) refl (sym (mask_members m h)) some

-- the mask 0 has no member
pub no_members : members_of 0 ≡ []
unfolding members_of keep
no_members = keep_none (is_member 0) (up_to 64) (λ o m. none_member o)

pub size_members : {m : ℕ} → m < 2 ^ 64 → ones m ≡ length (members_of m)
size_members {m} h = ap ones (sym (mask_members m h)) ∙ ones_mask (members_ascend m)
