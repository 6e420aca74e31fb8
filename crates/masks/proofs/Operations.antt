-- Which numbers are members of a mask that an operation makes; every such mask is below 2 ^ 64.
use Prim.Native.Nat.{ℕ, zero, suc, ◌+◌, ◌*◌, ◌/◌, ◌%◌, ◌^◌, ◌≤◌, ◌<◌, min, max}
use native.Mathlib.Nat.{mod-lt, div-eq_of_lt, le_of_suc-le-suc, not-suc-le-zero, lt_of_lt_of_le, one-mul}
use native.Mathlib.Omega.{arith}
use mathlib.Core.Path.{◌≡◌, refl, sym, ap, ◌∙◌}
use mathlib.Core.Bool.{Bool, true, false, cond, not, ◌&&◌, ◌||◌}
use mathlib.Core.List.{List}
use borrow.Author.Tests.{ltb-true, ltb-false, eq-eqb, ne_eqb}
use lib.Bits.{bit_and, bit_or, and_shr, or_shr, and_step, or_step, and_lt, or_lt}
use lib.Dec.{eqb, ltb}
use lib.Pow.{pow-lt, pow_mono, ones_lt, shl_exact}
use Rattle.laws.specs.Lists.{keep, up_to, any, member}
use Rattle.laws.proofs.Tests.{by_test, never}
use Rattle.laws.proofs.Lists.{any_none, any_false, up_to_at, up_to_intro}
use Rattle.laws.proofs.Mapped.{keep_ext}
use Rattle.masks.specs.Sets.{is_member, members_of, mask_of, single_of, all_below, union_of, common_of}
use Rattle.masks.proofs.Ascending.{Ascending, Below}
use Rattle.masks.proofs.Kept.{flags, mask_kept, one_kept, all_kept}
use Rattle.masks.proofs.Members.{next_digit, member_listed, mask_members, members_mask}

-- ---- unions and what masks have in common

either_digit : (d e : ℕ) → d < 2 → e < 2 → eqb ((max d e) % 2) 1 ≡ (eqb d 1 || eqb e 1)
either_digit zero zero h k = refl
either_digit zero (suc zero) h k = refl
either_digit (suc zero) zero h k = refl
either_digit (suc zero) (suc zero) h k = refl
either_digit zero (suc (suc e)) h k = absurd (omega arith)
either_digit (suc zero) (suc (suc e)) h k = absurd (omega arith)
either_digit (suc (suc d)) e h k = absurd (omega arith)

both_digits : (d e : ℕ) → d < 2 → e < 2 → eqb ((min d e) % 2) 1 ≡ (eqb d 1 && eqb e 1)
both_digits zero zero h k = refl
both_digits zero (suc zero) h k = refl
both_digits (suc zero) zero h k = refl
both_digits (suc zero) (suc zero) h k = refl
both_digits zero (suc (suc e)) h k = absurd (omega arith)
both_digits (suc zero) (suc (suc e)) h k = absurd (omega arith)
both_digits (suc (suc d)) e h k = absurd (omega arith)

pub union_member : (a b o : ℕ) → is_member (union_of a b) o ≡ (is_member a o || is_member b o)
unfolding is_member union_of
union_member a b o =
    let x = a / 2 ^ o in
    let y = b / 2 ^ o in
    ap (λ (n : ℕ). eqb (n % 2) 1) (or_shr a b o ∙ or_step x y)
    ∙ ap (λ (n : ℕ). eqb n 1) (lowest (bit_or (x / 2) (y / 2)) (max (x % 2) (y % 2)))
    ∙ either_digit (x % 2) (y % 2) (mod-lt x (omega arith)) (mod-lt y (omega arith))
  where
    lowest : (k d : ℕ) → (k * 2 + d) % 2 ≡ d % 2
    lowest k d = omega arith

pub common_member : (a b o : ℕ) → is_member (common_of a b) o ≡ (is_member a o && is_member b o)
unfolding is_member common_of
common_member a b o =
    let x = a / 2 ^ o in
    let y = b / 2 ^ o in
    ap (λ (n : ℕ). eqb (n % 2) 1) (and_shr a b o ∙ and_step x y)
    ∙ ap (λ (n : ℕ). eqb n 1) (lowest (bit_and (x / 2) (y / 2)) (min (x % 2) (y % 2)))
    ∙ both_digits (x % 2) (y % 2) (mod-lt x (omega arith)) (mod-lt y (omega arith))
  where
    lowest : (k d : ℕ) → (k * 2 + d) % 2 ≡ d % 2
    lowest k d = omega arith

-- the members of either mask, and of both
pub members_union : (a b : ℕ) → members_of (union_of a b) ≡ keep (λ o. is_member a o || is_member b o) (up_to 64)
unfolding members_of
members_union a b = keep_ext (is_member (union_of a b)) (λ o. is_member a o || is_member b o) (up_to 64) (λ o m. union_member a b o)

pub members_common : (a b : ℕ) → members_of (common_of a b) ≡ keep (λ o. is_member a o && is_member b o) (up_to 64)
unfolding members_of
members_common a b = keep_ext (is_member (common_of a b)) (λ o. is_member a o && is_member b o) (up_to 64) (λ o m. common_member a b o)

-- ---- masks of the numbers that pass a test

flags_member : (test : ℕ → Bool) (n o : ℕ) → o < n → is_member (flags test n) o ≡ test o
unfolding flags is_member
flags_member test zero o h = absurd (not-suc-le-zero h)
flags_member test (suc n) zero h = go (test 0)
  where
    go : (b : Bool) → eqb ((flags (λ i. test (suc i)) n * 2 + cond b 1 0) / 1 % 2) 1 ≡ b
    go true = eq-eqb ((flags (λ i. test (suc i)) n * 2 + 1) / 1 % 2) 1 (omega arith)
    go false = ne_eqb ((flags (λ i. test (suc i)) n * 2 + 0) / 1 % 2) 1 (λ e. omega arith)
flags_member test (suc n) (suc o) h =
    next_digit (flags test (suc n)) o
    ∙ ap (λ (m : ℕ). is_member m o) (half (test 0))
    ∙ flags_member (λ i. test (suc i)) n o (le_of_suc-le-suc h)
  where
    half : (b : Bool) → (flags (λ i. test (suc i)) n * 2 + cond b 1 0) / 2 ≡ flags (λ i. test (suc i)) n
    half true = omega arith
    half false = omega arith

pub kept_member : (test : ℕ → Bool) (n o : ℕ) → o < n → is_member (mask_of (keep test (up_to n))) o ≡ test o
kept_member test n o h = ap (λ (m : ℕ). is_member m o) (mask_kept test n) ∙ flags_member test n o h

pub single_member : (o p : ℕ) → is_member (single_of o) p ≡ eqb o p
single_member o p =
    ap (λ (m : ℕ). is_member m p) (sym (one_kept o (suc (o + p)) (omega arith))) ∙ kept_member (eqb o) (suc (o + p)) p (omega arith)

-- a mask below 2 ^ n has no member from n on
pub member_beyond : {m n : ℕ} (o : ℕ) → m < 2 ^ n → n ≤ o → is_member m o ≡ false
unfolding is_member
member_beyond {m} o small h =
    ap (λ (x : ℕ). eqb (x % 2) 1) (div-eq_of_lt (lt_of_lt_of_le small (pow_mono h)))

pub none_member : (o : ℕ) → is_member 0 o ≡ false
none_member o = member_beyond {n = 0} o (omega arith) (omega arith)

pub all_member : (n o : ℕ) → is_member (all_below n) o ≡ ltb o n
unfolding all_below
all_member n o =
    by_test (ltb o n)
    (λ below. ap (λ (m : ℕ). is_member m o) (sym (all_kept n)) ∙ kept_member (λ i. true) n o (ltb-true o n below) ∙ sym below)
    (λ above. member_beyond o (ones_lt n) (ltb-false o n above) ∙ sym above)

-- of an ascending list, what is on it
pub mask_member : {n : ℕ} {os : List ℕ} → Ascending n os → Below 64 os → (o : ℕ) → o < 64 → is_member (mask_of os) o ≡ member o os
mask_member {os = os} a u o h = sym (member_listed (mask_of os) o h) ∙ ap (member o) (members_mask a u)

-- ---- masks with the same members, and the empty mask

pub same_mask : {a b : ℕ} → a < 2 ^ 64 → b < 2 ^ 64 → ((o : ℕ) → o < 64 → is_member a o ≡ is_member b o) → a ≡ b
unfolding members_of
same_mask {a} {b} h k same =
    sym (mask_members a h)
    ∙ ap mask_of (keep_ext (is_member a) (is_member b) (up_to 64) (λ o m. same o (up_to_at 64 o m)))
    ∙ mask_members b k

pub mask_empty : {m : ℕ} → m < 2 ^ 64 → eqb m 0 ≡ not (any (is_member m) (up_to 64))
mask_empty {m} h =
    by_test (any (is_member m) (up_to 64))
    (λ some. ne_eqb m 0 (λ e. never (sym some ∙ ap (λ (n : ℕ). any (is_member n) (up_to 64)) e ∙ nothing)) ∙ ap not (sym some))
    (λ none.
    eq-eqb m 0 (same_mask h (omega arith) (λ o k. any_none (is_member m) (up_to 64) none o (up_to_intro 64 o k) ∙ sym (none_member o)))
    ∙ ap not (sym none))
  where
    nothing : any (is_member 0) (up_to 64) ≡ false
    nothing = any_false (is_member 0) (up_to 64) (λ o m. none_member o)

-- the mask of one number is a 1 shifted to its place
pub one_shifted : {o : ℕ} → o < 64 → (1 * 2 ^ o) % 2 ^ 64 ≡ 2 ^ o
one_shifted {o} h = shl_exact {a = 1} 1 o 64 (omega arith) (omega arith) ∙ one-mul (2 ^ o)

-- ---- every mask is below 2 ^ 64

pub union_small : {a b : ℕ} → a < 2 ^ 64 → b < 2 ^ 64 → union_of a b < 2 ^ 64
unfolding union_of
union_small {a} {b} h k = or_lt 64 a b h k

pub common_small : {a b : ℕ} → a < 2 ^ 64 → b < 2 ^ 64 → common_of a b < 2 ^ 64
unfolding common_of
common_small {a} {b} h k = and_lt 64 a b h k

pub single_small : {o : ℕ} → o < 64 → single_of o < 2 ^ 64
unfolding single_of
single_small h = pow-lt h

pub all_small : {n : ℕ} → n ≤ 64 → all_below n < 2 ^ 64
unfolding all_below
all_small {n} h = lt_of_lt_of_le (ones_lt n) (pow_mono h)
