-- The mask of an ascending list: its lowest digit 1, the mask without it, and how many digits are 1.
use Prim.Native.Nat.{ℕ, zero, suc, ◌+◌, ◌-◌, ◌*◌, ◌/◌, ◌%◌, ◌^◌, ◌≤◌, ◌<◌}
use native.Mathlib.Nat.{le_of_suc-le-suc, not-suc-le-zero, zero-mul, one-mul, mul_assoc, add_comm, add-zero}
use native.Mathlib.Numerals.{add-one}
use native.Mathlib.Omega.{arith}
use mathlib.Core.Path.{◌≡◌, refl, sym, ap, ap₂, ◌∙◌}
use mathlib.Core.List.{List, [], ◌∷◌}
use lib.ListN.{length}
use lib.Bits.{bit_and, and_block, and_self, and_shifted, shifted_half, shifted_even}
use lib.Count.{ones, ones_cat, count_trailing_zeros, under}
use lib.Pow.{pow_pos, pow-lt, pow-add, ones_lt}
use Rattle.laws.specs.Lists.{sum}
use Rattle.masks.specs.Sets.{mask_of}
use Rattle.masks.proofs.Ascending.{Ascending, ends, ascends}
use Rattle.masks.proofs.Kept.{odd_shifted}

-- a mask of numbers from n on has no digit 1 below place n
high : {n : ℕ} {os : List ℕ} → Ascending n os → (k : ℕ) × (mask_of os ≡ k * 2 ^ n)
unfolding mask_of sum
high {n} ends = (0, sym (zero-mul (2 ^ n)))
high {n} (ascends {o = o} h later) =
    let r = high later in
    let k = r.0 * 2 + 1 in (
      k * 2 ^ (o - n),
      ap (λ (x : ℕ). 2 ^ o + x) r.1
          ∙ add_comm (2 ^ o) (r.0 * 2 ^ suc o)
          ∙ sym (odd_shifted r.0 o)
          ∙ ap (λ (x : ℕ). k * 2 ^ x) (split_at_most h)
          ∙ ap (λ (x : ℕ). k * x) (pow-add 2 (o - n) n)
          ∙ sym (mul_assoc k (2 ^ (o - n)) (2 ^ n)),
    )
  where
    split_at_most : {a b : ℕ} → a ≤ b → b ≡ b - a + a
    split_at_most h = omega arith

-- a mask by its first number o: a digit 1 at place o, and the rest from place o + 1 on
record First (o : ℕ) (os : List ℕ) : Type 0 where
  above : ℕ
  rest : mask_of os ≡ above * 2 ^ suc o
  whole : mask_of (o ∷ os) ≡ above * 2 ^ suc o + 2 ^ o

first : {n o : ℕ} {os : List ℕ} → Ascending n (o ∷ os) → First o os
unfolding mask_of sum
first {o = o} (ascends h later) =
    let r = high later in
    record { above = r.0; rest = r.1; whole = ap (λ (x : ℕ). 2 ^ o + x) r.1 ∙ add_comm (2 ^ o) (r.0 * 2 ^ suc o) }

-- only the mask of no number is 0
pub mask_none : mask_of [] ≡ 0
unfolding mask_of sum
mask_none = refl

pub mask_some : (o : ℕ) (os : List ℕ) → 0 < mask_of (o ∷ os)
unfolding mask_of sum
mask_some o os = let one = pow_pos o in omega arith

-- a mask without one of its numbers is smaller
pub mask_smaller : (o : ℕ) (os : List ℕ) → mask_of os < mask_of (o ∷ os)
unfolding mask_of sum
mask_smaller o os = let one = pow_pos o in omega arith

-- the lowest digit 1 of an odd number of times 2 ^ o is at place o
trailing_odd : (width o k : ℕ) → o < width → count_trailing_zeros width ((k * 2 + 1) * 2 ^ o) ≡ o
unfolding count_trailing_zeros
trailing_odd zero o k h = absurd (not-suc-le-zero h)
trailing_odd (suc width) zero k h = ap (λ (x : ℕ). under x (count_trailing_zeros width ((k * 2 + 1) * 1 / 2))) odd
  where
    odd : (k * 2 + 1) * 1 % 2 ≡ 1
    odd = omega arith
trailing_odd (suc width) (suc o) k h =
    ap₂ (λ (x y : ℕ). under x (count_trailing_zeros width y)) (shifted_even (k * 2 + 1) o) (shifted_half (k * 2 + 1) o)
    ∙ ap suc (trailing_odd width o k (le_of_suc-le-suc h))

-- the first number is the number of trailing zeros
pub trailing_mask : {n o : ℕ} {os : List ℕ} (width : ℕ) → Ascending n (o ∷ os) → o < width → count_trailing_zeros width (mask_of (o ∷ os)) ≡ o
trailing_mask {n} {o} {os} width h below =
    let f = first h in
    ap (count_trailing_zeros width) (f.whole ∙ sym (odd_shifted f.above o)) ∙ trailing_odd width o f.above below

-- a mask and the number before it have the mask without its first number in common
pub without_lowest : {n o : ℕ} {os : List ℕ} → Ascending n (o ∷ os) → bit_and (mask_of (o ∷ os)) (mask_of (o ∷ os) - 1) ≡ mask_of os
without_lowest {n} {o} {os} h =
    let f = first h in
    let k = f.above in
    ap₂ bit_and f.whole (ap (λ (x : ℕ). x - 1) f.whole ∙ before (k * 2 ^ suc o) (2 ^ o) (pow_pos o))
    ∙ and_block (suc o) k k (2 ^ o) (2 ^ o - 1) (pow-lt (omega arith)) (before_power (ones_lt o) (pow-lt {i = o} {j = suc o} (omega arith)))
    ∙ ap₂ (λ (x y : ℕ). x * 2 ^ suc o + y) (and_self k) apart
    ∙ add-zero (k * 2 ^ suc o)
    ∙ sym f.rest
  where
    before_power : {a b c : ℕ} → a < b → b < c → a < c
    before_power p q = omega arith

    before : (a b : ℕ) → 0 < b → a + b - 1 ≡ a + (b - 1)
    before a b h = omega arith

    apart : bit_and (2 ^ o) (2 ^ o - 1) ≡ 0
    apart = ap (λ (x : ℕ). bit_and x (2 ^ o - 1)) (sym (one-mul (2 ^ o))) ∙ and_shifted 1 o (2 ^ o - 1) (ones_lt o)

ones_zero : ones 0 ≡ 0
unfolding ones
ones_zero = refl

ones_one : ones 1 ≡ 1
unfolding ones
ones_one = refl

-- digits shifted are as many
ones_shifted : (n k : ℕ) → ones (k * 2 ^ n) ≡ ones k
ones_shifted n k =
    ap ones (sym (add-zero (k * 2 ^ n))) ∙ ones_cat n k 0 (pow_pos n) ∙ ap (λ (x : ℕ). ones k + x) ones_zero ∙ add-zero (ones k)

-- a mask has a digit 1 for each of its numbers
pub ones_mask : {n : ℕ} {os : List ℕ} → Ascending n os → ones (mask_of os) ≡ length os
unfolding mask_of sum
ones_mask ends = ones_zero
ones_mask (ascends {o = o} {os = os} h later) =
    let f = first (ascends h later) in
    let k = f.above in
    ap ones f.whole
    ∙ ones_cat (suc o) k (2 ^ o) (pow-lt (omega arith))
    ∙ ap₂ ◌+◌ (sym (ones_shifted (suc o) k) ∙ ap ones (sym f.rest) ∙ ones_mask later) one
    ∙ add-one (length os)
  where
    one : ones (2 ^ o) ≡ 1
    one = ap ones (sym (one-mul (2 ^ o))) ∙ ones_shifted o 1 ∙ ones_one
