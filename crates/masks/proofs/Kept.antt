-- Masks of the numbers below n that pass a test: the number with these digits, the test of 0 being the lowest.
use Prim.Native.Nat.{ℕ, zero, suc, ◌+◌, ◌-◌, ◌*◌, ◌/◌, ◌%◌, ◌^◌, ◌<◌, min, max}
use native.Mathlib.Nat.{le_of_suc-le-suc, not-suc-le-zero, zero-mul, one-mul, mul-one, mul_assoc, add-mul, pow-suc, pow-succ', add_comm, add-zero, zero-add}
use native.Mathlib.Omega.{arith}
use mathlib.Core.Path.{◌≡◌, refl, sym, ap, ap₂, ◌∙◌, subst, fun_ext}
use mathlib.Core.Bool.{Bool, true, false, cond, ◌&&◌, ◌||◌}
use mathlib.Core.List.{◌∷◌}
use lib.Dec.{eqb, eqb-zero-suc, eqb-suc-zero, eqb-suc-suc}
use lib.Bits.{and_step, or_step}
use lib.Pow.{pow_pos}
use Rattle.laws.specs.Lists.{keep, from, up_to, sum}
use Rattle.masks.specs.Sets.{mask_of, single_of, all_below, union_of, common_of}

-- the number of n binary digits: 1 where the test passes
unfoldable pub flags : (ℕ → Bool) → ℕ → ℕ
flags test zero = 0
flags test (suc n) = flags (λ i. test (suc i)) n * 2 + cond (test 0) 1 0

-- (k * 2 + 1) * 2 ^ n is k * 2 ^ (n + 1) and 2 ^ n
pub odd_shifted : (k n : ℕ) → (k * 2 + 1) * 2 ^ n ≡ k * 2 ^ suc n + 2 ^ n
odd_shifted k n =
    add-mul (k * 2) 1 (2 ^ n)
    ∙ ap₂ ◌+◌ (mul_assoc k 2 (2 ^ n) ∙ ap (λ (x : ℕ). k * x) (sym (pow-succ' 2 n))) (one-mul (2 ^ n))

kept_flags : (test flag : ℕ → Bool) (start size : ℕ) → ((i : ℕ) → flag i ≡ test (start + i))
    → mask_of (keep test (from start size)) ≡ flags flag size * 2 ^ start
unfolding mask_of sum keep from flags
kept_flags test flag start zero same = sym (zero-mul (2 ^ start))
kept_flags test flag start (suc size) same =
    go (test start)
    (kept_flags test (λ i. flag (suc i)) (suc start) size (λ i. same (suc i) ∙ ap test (shift start i)))
    ∙ ap (λ (b : Bool). (flags (λ i. flag (suc i)) size * 2 + cond b 1 0) * 2 ^ start) (sym (same 0 ∙ ap test (add-zero start)))
  where
    shift : (a b : ℕ) → a + suc b ≡ suc a + b
    shift a b = omega arith

    go : (b : Bool) → mask_of (keep test (from (suc start) size)) ≡ flags (λ i. flag (suc i)) size * 2 ^ suc start
        → mask_of (cond b (start ∷ keep test (from (suc start) size)) (keep test (from (suc start) size)))
        ≡ (flags (λ i. flag (suc i)) size * 2 + cond b 1 0) * 2 ^ start
    go true later =
        let k = flags (λ i. flag (suc i)) size in
        ap (λ (x : ℕ). 2 ^ start + x) later ∙ add_comm (2 ^ start) (k * 2 ^ suc start) ∙ sym (odd_shifted k start)
    go false later =
        let k = flags (λ i. flag (suc i)) size in
        later
        ∙ ap (λ (x : ℕ). k * x) (pow-succ' 2 start)
        ∙ sym (mul_assoc k 2 (2 ^ start))
        ∙ ap (λ (x : ℕ). x * 2 ^ start) (sym (add-zero (k * 2)))

pub mask_kept : (test : ℕ → Bool) (n : ℕ) → mask_of (keep test (up_to n)) ≡ flags test n
unfolding up_to
mask_kept test n = kept_flags test test 0 n (λ i. ap test (sym (zero-add i))) ∙ mul-one (flags test n)

flags_half : (test : ℕ → Bool) (n : ℕ) → flags test (suc n) / 2 ≡ flags (λ i. test (suc i)) n
unfolding flags
flags_half test n = go (test 0)
  where
    go : (b : Bool) → (flags (λ i. test (suc i)) n * 2 + cond b 1 0) / 2 ≡ flags (λ i. test (suc i)) n
    go true = omega arith
    go false = omega arith

flags_digit : (test : ℕ → Bool) (n : ℕ) → flags test (suc n) % 2 ≡ cond (test 0) 1 0
unfolding flags
flags_digit test n = go (test 0)
  where
    go : (b : Bool) → (flags (λ i. test (suc i)) n * 2 + cond b 1 0) % 2 ≡ cond b 1 0
    go true = omega arith
    go false = omega arith

flags_common : (f g : ℕ → Bool) (n : ℕ) → common_of (flags f n) (flags g n) ≡ flags (λ i. f i && g i) n
unfolding flags common_of
flags_common f g zero = refl
flags_common f g (suc n) =
    and_step (flags f (suc n)) (flags g (suc n))
    ∙ ap₂ (λ (x y : ℕ). x * 2 + y)
    (ap₂ common_of (flags_half f n) (flags_half g n) ∙ flags_common (λ i. f (suc i)) (λ i. g (suc i)) n)
    (ap₂ min (flags_digit f n) (flags_digit g n) ∙ both (f 0) (g 0))
  where
    both : (a b : Bool) → min (cond a 1 0) (cond b 1 0) ≡ cond (a && b) 1 0
    both true true = refl
    both true false = refl
    both false true = refl
    both false false = refl

flags_union : (f g : ℕ → Bool) (n : ℕ) → union_of (flags f n) (flags g n) ≡ flags (λ i. f i || g i) n
unfolding flags union_of
flags_union f g zero = refl
flags_union f g (suc n) =
    or_step (flags f (suc n)) (flags g (suc n))
    ∙ ap₂ (λ (x y : ℕ). x * 2 + y)
    (ap₂ union_of (flags_half f n) (flags_half g n) ∙ flags_union (λ i. f (suc i)) (λ i. g (suc i)) n)
    (ap₂ max (flags_digit f n) (flags_digit g n) ∙ one_of (f 0) (g 0))
  where
    one_of : (a b : Bool) → max (cond a 1 0) (cond b 1 0) ≡ cond (a || b) 1 0
    one_of true true = refl
    one_of true false = refl
    one_of false true = refl
    one_of false false = refl

flags_none : (n : ℕ) → flags (λ i. false) n ≡ 0
unfolding flags
flags_none zero = refl
flags_none (suc n) = ap (λ (x : ℕ). x * 2 + 0) (flags_none n)

flags_all : (n : ℕ) → flags (λ i. true) n ≡ all_below n
unfolding flags all_below
flags_all zero = refl
flags_all (suc n) =
    ap (λ (x : ℕ). x * 2 + 1) (flags_all n) ∙ twice (2 ^ n) (pow_pos n) ∙ ap (λ (x : ℕ). x - 1) (sym (pow-suc 2 n))
  where
    twice : (a : ℕ) → 0 < a → (a - 1) * 2 + 1 ≡ a * 2 - 1
    twice a h = omega arith

flags_one : (o n : ℕ) → o < n → flags (eqb o) n ≡ single_of o
unfolding flags single_of
flags_one o zero h = absurd (not-suc-le-zero h)
flags_one zero (suc n) h = ap (λ (x : ℕ). x * 2 + 1) (ap (λ (f : ℕ → Bool). flags f n) (fun_ext eqb-zero-suc) ∙ flags_none n)
flags_one (suc o) (suc n) h =
    ap₂ (λ (x y : ℕ). x * 2 + y)
    (ap (λ (f : ℕ → Bool). flags f n) (fun_ext (eqb-suc-suc o)) ∙ flags_one o n (le_of_suc-le-suc h))
    (ap (λ (b : Bool). cond b 1 0) (eqb-suc-zero o))
    ∙ add-zero (2 ^ o * 2)
    ∙ sym (pow-suc 2 o)

flags_below : (test : ℕ → Bool) (n : ℕ) → flags test n < 2 ^ n
unfolding flags
flags_below test zero = omega arith
flags_below test (suc n) =
    subst (λ (x : ℕ). flags test (suc n) < x) (sym (pow-suc 2 n)) (go (test 0) (flags_below (λ i. test (suc i)) n))
  where
    go : (b : Bool) → flags (λ i. test (suc i)) n < 2 ^ n → flags (λ i. test (suc i)) n * 2 + cond b 1 0 < 2 ^ n * 2
    go true h = omega arith
    go false h = omega arith

-- what two masks have in common, and what they have together
pub common_kept : (f g : ℕ → Bool) (n : ℕ)
    → common_of (mask_of (keep f (up_to n))) (mask_of (keep g (up_to n))) ≡ mask_of (keep (λ o. f o && g o) (up_to n))
common_kept f g n = ap₂ common_of (mask_kept f n) (mask_kept g n) ∙ flags_common f g n ∙ sym (mask_kept (λ o. f o && g o) n)

pub union_kept : (f g : ℕ → Bool) (n : ℕ)
    → union_of (mask_of (keep f (up_to n))) (mask_of (keep g (up_to n))) ≡ mask_of (keep (λ o. f o || g o) (up_to n))
union_kept f g n = ap₂ union_of (mask_kept f n) (mask_kept g n) ∙ flags_union f g n ∙ sym (mask_kept (λ o. f o || g o) n)

-- the masks of no number, of one, and of all below n
pub none_kept : (n : ℕ) → mask_of (keep (λ o. false) (up_to n)) ≡ 0
none_kept n = mask_kept (λ o. false) n ∙ flags_none n

pub one_kept : (o n : ℕ) → o < n → mask_of (keep (eqb o) (up_to n)) ≡ single_of o
one_kept o n h = mask_kept (eqb o) n ∙ flags_one o n h

pub all_kept : (n : ℕ) → mask_of (keep (λ o. true) (up_to n)) ≡ all_below n
all_kept n = mask_kept (λ o. true) n ∙ flags_all n

-- a mask of numbers below n is below 2 ^ n
pub kept_small : (test : ℕ → Bool) (n : ℕ) → mask_of (keep test (up_to n)) < 2 ^ n
kept_small test n = subst (λ (x : ℕ). x < 2 ^ n) (sym (mask_kept test n)) (flags_below test n)
