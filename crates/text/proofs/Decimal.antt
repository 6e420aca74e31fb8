-- Decimal digits: one digit for a number below 10, else those of the tenth part and one more.
use Prim.Native.Nat.{ℕ, zero, suc, ◌+◌, ◌*◌, ◌/◌, ◌%◌, ◌≤◌, ◌<◌}
use mathlib.Core.Path.{◌≡◌, ap}
use mathlib.Core.List.{List, [], ◌∷◌, ◌++◌}
use native.Mathlib.Omega.{arith}
use lib.Dec.{ltb}
use lib.ListN.{length, set, length-append}
use borrow.Author.Tests.{lt-ltb, le-ltb, ltb-true, ltb-false}
use Rattle.laws.proofs.Tests.{by_test}
use Rattle.text.specs.Written.{Writes}
use Rattle.text.specs.Room.{Room}
use Rattle.text.proofs.Writing.{Begins, one_byte, first_fits, last_inside, with_last}
use Rattle.model.specs.Text.{digits_within, decimal}

-- a number below 10 is one digit
pub decimal_digit : (n : ℕ) → n < 10 → decimal n ≡ (48 + n) ∷ []
unfolding decimal digits_within
decimal_digit n h = rw (lt-ltb n 10 h)

-- enough room for all digits is as good as any other
enough : (r s n : ℕ) → n < r → n < s → digits_within r n ≡ digits_within s n
unfolding digits_within
enough zero s n h k = absurd (omega arith)
enough (suc r) zero n h k = absurd (omega arith)
enough (suc r) (suc s) n h k =
    by_test (ltb n 10) (λ e. rw e) (λ e. let big : 10 ≤ n = ltb-false n 10 e in rw (e, enough r s (n / 10) (omega arith) (omega arith)))

-- the digits of the tenth part, then the last
pub decimal_more : (n : ℕ) → 10 ≤ n → decimal n ≡ decimal (n / 10) ++ ((48 + n % 10) ∷ [])
unfolding decimal digits_within
decimal_more zero h = elim h [ ]
decimal_more (suc n) h = rw (le-ltb (suc n) 10 h, enough (suc n) (suc (suc n / 10)) (suc n / 10) (omega arith) (omega arith))

-- one digit more for ten times the range
longer : {b k : ℕ} → 1 ≤ k → ((m : ℕ) → m < b → length (decimal m) ≤ k) → (n : ℕ) → n < 10 * b → length (decimal n) ≤ suc k
longer {b} {k} one short n h = by_test (ltb n 10)
    (λ e. rw (decimal_digit n (ltb-true n 10 e)) (omega arith))
    (λ e. rw (decimal_more n (ltb-false n 10 e)) (simp length-append (omega (arith, short (n / 10) (omega arith)))))

one_digit : (n : ℕ) → n < 10 → length (decimal n) ≤ 1
one_digit n h = rw (decimal_digit n h) (omega arith)

-- the length of a decimal number
pub two_digits : (n : ℕ) → n < 100 → length (decimal n) ≤ 2
two_digits = longer (omega arith) one_digit

pub four_digits : (n : ℕ) → n < 10000 → length (decimal n) ≤ 4
four_digits = longer (omega arith) (longer (omega arith) two_digits)

pub five_digits : (n : ℕ) → n < 100000 → length (decimal n) ≤ 5
five_digits = longer (omega arith) four_digits

-- there is a digit
pub some_digit : (n : ℕ) → 1 ≤ length (decimal n)
some_digit n =
    by_test (ltb n 10)
    (λ e. rw (decimal_digit n (ltb-true n 10 e)) (omega arith))
    (λ e. rw (decimal_more n (ltb-false n 10 e)) (simp length-append (omega arith)))

-- a number below 10 written as its digit
pub digit_written : (n : ℕ) (before : List ℕ) → n < 10 → 0 < length before → Writes (decimal n) before (set before 0 (48 + n)) 1
digit_written n before small room = rw (decimal_digit n small) (one_byte (48 + n) before room)

module _ (n : ℕ) {before : List ℕ} (large : 10 ≤ n) (room : Room (decimal n) before) where
  tenth_first : Begins (decimal n) (decimal (n / 10)) ((48 + n % 10) ∷ [])
  tenth_first = record { path = decimal_more n large }

  -- room for the digits of the tenth part, and for the last behind them
  pub tenth_fits : Room (decimal (n / 10)) before
  tenth_fits = first_fits tenth_first room

  pub last_fits : {mid : List ℕ} {at : ℕ} → Writes (decimal (n / 10)) before mid at → at < length mid
  last_fits w = last_inside tenth_first room w

  -- the digits of the tenth part are written, and then the last
  pub last_digit_written : {mid : List ℕ} {at : ℕ} → Writes (decimal (n / 10)) before mid at
      → Writes (decimal n) before (set mid at (48 + n % 10)) (at + 1)
  last_digit_written w = with_last tenth_first room w

-- a number of two digits or more has room for them
pub two_places : {n : ℕ} {before : List ℕ} → 10 ≤ n → Room (decimal n) before → 1 < length before
two_places {n} large room = omega (arith, some_digit (n / 10), ap length (decimal_more n large), length-append (decimal (n / 10)) ((48 + n % 10) ∷ []))

-- a number below 100 written as its two digits
pub two_written : (n : ℕ) (before : List ℕ) → 10 ≤ n → n < 100 → Room (decimal n) before
    → Writes (decimal n) before (set (set before 0 (48 + n / 10)) 1 (48 + n % 10)) 2
two_written n before large small room =
    last_digit_written n large room
    (digit_written (n / 10) before (omega arith) (omega (arith, some_digit (n / 10), tenth_fits n large room)))
