-- The members of a mask: a mask below 2 ^ 64 and the ascending list of its members determine each other.
use Prim.Native.Nat.{ℕ, zero, suc, ◌+◌, ◌-◌, ◌*◌, ◌/◌, ◌%◌, ◌^◌, ◌≤◌, ◌<◌}
use native.Mathlib.Nat.{pow-suc, lt_of_lt_of_le, le_of_lt, le_refl}
use native.Mathlib.Omega.{arith}
use mathlib.Core.Path.{◌≡◌, refl, sym, ap, ap₂, ◌∙◌, subst, fun_ext}
use mathlib.Core.Bool.{Bool, true, false, cond}
use mathlib.Core.List.{List, ◌∷◌}
use borrow.Author.Tests.{eqb-true, eqb-false}
use lib.Bits.{bit_and}
use lib.Count.{count_trailing_zeros}
use lib.Dec.{eqb}
use lib.ListN.{length}
use lib.Pow.{shr-shr, pow_mono, pow_pos}
use Rattle.laws.specs.Lists.{keep, up_to, member, sum}
use Rattle.laws.proofs.Numbers.{member_keep_up_to}
use Rattle.laws.proofs.Walks.{keep_few}
use Rattle.masks.specs.Sets.{is_member, members_of, mask_of}
use Rattle.masks.proofs.Ascending.{Ascending, ends, ascends, Below, below_first, below_rest, kept_ascends, kept_below}
use Rattle.masks.proofs.Kept.{flags, mask_kept}
use Rattle.masks.proofs.Lowest.{mask_some, trailing_mask, without_lowest}

-- ---- the list that a mask stands for

pub members_ascend : (m : ℕ) → Ascending 0 (members_of m)
unfolding members_of
members_ascend m = kept_ascends (is_member m) 64

pub members_below : (m : ℕ) → Below 64 (members_of m)
unfolding members_of
members_below m = kept_below (is_member m) 64

pub members_few : (m : ℕ) → length (members_of m) ≤ 64
unfolding members_of
members_few m = keep_few (is_member m) 64

-- a number is on the list if its digit is 1
pub member_listed : (m o : ℕ) → o < 64 → member o (members_of m) ≡ is_member m o
unfolding members_of
member_listed m o h = member_keep_up_to (is_member m) 64 o h

-- ---- the mask of its members

pub next_digit : (m i : ℕ) → is_member m (suc i) ≡ is_member (m / 2) i
unfolding is_member
next_digit m i = ap (λ (x : ℕ). eqb (x % 2) 1) (ap (λ (k : ℕ). m / 2 ^ k) (suc_is i) ∙ sym (shr-shr m 1 i))
  where
    suc_is : (n : ℕ) → suc n ≡ 1 + n
    suc_is n = omega arith

-- the digits of a number make it up
flags_members : (n m : ℕ) → m < 2 ^ n → flags (is_member m) n ≡ m
unfolding flags is_member
flags_members zero m h = omega arith
flags_members (suc n) m h =
    ap (λ (x : ℕ). x * 2 + cond (eqb (m / 1 % 2) 1) 1 0)
    (ap (λ (f : ℕ → Bool). flags f n) (fun_ext (next_digit m)) ∙ flags_members n (m / 2) (half (subst (λ (x : ℕ). m < x) (pow-suc 2 n) h)))
    ∙ go (eqb (m / 1 % 2) 1) refl
  where
    half : {a b : ℕ} → a < b * 2 → a / 2 < b
    half p = omega arith

    go : (b : Bool) → eqb (m / 1 % 2) 1 ≡ b → m / 2 * 2 + cond b 1 0 ≡ m
    go true e = omega (arith, eqb-true (m / 1 % 2) 1 e)
    go false e = omega (arith, eqb-false (m / 1 % 2) 1 e)

pub mask_members : (m : ℕ) → m < 2 ^ 64 → mask_of (members_of m) ≡ m
unfolding members_of
mask_members m h = mask_kept (is_member m) 64 ∙ flags_members 64 m h

-- ---- the members of the mask of a list

-- no two ascending lists have one mask
mask_unique : {m n : ℕ} {os ps : List ℕ} → Ascending m os → Ascending n ps → Below 64 os → Below 64 ps → mask_of os ≡ mask_of ps → os ≡ ps
unfolding mask_of sum
mask_unique ends ends u v e = refl
mask_unique ends (ascends {o = p} {os = ps} h b) u v e = absurd (omega (arith, mask_some p ps))
mask_unique (ascends {o = o} {os = os} h a) ends u v e = absurd (omega (arith, mask_some o os))
mask_unique (ascends h a) (ascends k b) u v e =
    ap₂ ◌∷◌
    (sym (trailing_mask 64 (ascends h a) (below_first u)) ∙ ap (count_trailing_zeros 64) e ∙ trailing_mask 64 (ascends k b) (below_first v))
    (mask_unique a b (below_rest u) (below_rest v)
    (sym (without_lowest (ascends h a)) ∙ ap (λ (x : ℕ). bit_and x (x - 1)) e ∙ without_lowest (ascends k b)))

-- the powers of 2 at ascending places from n on, below place w, add up to at most 2 ^ w less 2 ^ n
mask_room : {w n : ℕ} {os : List ℕ} → n ≤ w → Ascending n os → Below w os → mask_of os + 2 ^ n ≤ 2 ^ w
unfolding mask_of sum
mask_room {w} {n} h ends u = let most : 2 ^ n ≤ 2 ^ w = pow_mono h in omega arith
mask_room {w} {n} h (ascends {o = o} {os = os} k a) u =
    let first : 2 ^ n ≤ 2 ^ o = pow_mono k in
    omega (arith, mask_room (below_first u) a (below_rest u), pow-suc 2 o)

pub mask_small : {n : ℕ} {os : List ℕ} → Ascending n os → Below 64 os → mask_of os < 2 ^ 64
unfolding mask_of sum
mask_small ends u = omega arith
mask_small (ascends {o = o} {os = os} h a) u =
    let one = pow_pos o in
    omega (arith, mask_room {w = 64} (le_of_lt (below_first u)) (ascends (le_refl o) a) u)

-- an ascending list below 64 is the members of its mask
pub members_mask : {n : ℕ} {os : List ℕ} → Ascending n os → Below 64 os → members_of (mask_of os) ≡ os
members_mask {os = os} a u =
    mask_unique (members_ascend (mask_of os)) a (members_below (mask_of os)) u (mask_members (mask_of os) (mask_small a u))

-- numbers below n that are kept, n up to 64
pub kept_members : (test : ℕ → Bool) (n : ℕ) → n ≤ 64 → members_of (mask_of (keep test (up_to n))) ≡ keep test (up_to n)
kept_members test n few =
    members_mask (kept_ascends test n) (λ o k. lt_of_lt_of_le (kept_below test n o k) few)
