-- The number that stands for an answer: how the machine's 32 bits are read back as it.
use Prim.Native.Nat.{ℕ, zero, suc, ◌^◌, ◌≤◌, ◌<◌}
use native.Mathlib.Omega.{arith}
use mathlib.Core.Path.{◌≡◌, sym, ap, ◌∙◌, subst}
use lib.IntN.{ℤ, pos, neg_ℤ, ◌-ℤ◌, +ℤ_idl}
use lib.Signed.{mag}
use mir.Syntax.{w32}
use mir.Val.{SFits, to_z, of_z}
use mir.Facts.{to_z-of_z, to_z_pos}
use Rattle.model.specs.Answer.{Answer, refused, accepted}
use Rattle.capi.specs.Numbers.{signed, Small}

-- a value fits the result
pub value_fits : (answer : Answer ℕ) (n : ℕ) → Small answer → answer ≡ accepted n → SFits w32 (pos n)
value_fits answer n small e =
    let within : n ≤ 65536 = small.within n e in
    let below : n < 2147483648 = omega arith in
    record { sfits = below }

-- and is answered as it is
pub value_code : (answer : Answer ℕ) (n : ℕ) → Small answer → answer ≡ accepted n → to_z w32 n ≡ signed answer
unfolding signed
value_code answer n small e = to_z_pos w32 (value_fits answer n small e).sfits ∙ ap signed (sym e)

-- a refusal's number is taken from 0
pub number_fits : (n : ℕ) → n < 256 → SFits w32 (pos n)
number_fits n h = let below : n < 2147483648 = omega arith in record { sfits = below }

minus_is : (n : ℕ) → n < 256 → pos 0 -ℤ to_z w32 n ≡ neg_ℤ (pos n)
minus_is n h = +ℤ_idl (neg_ℤ (to_z w32 n)) ∙ ap neg_ℤ (to_z_pos w32 (number_fits n h).sfits)

pub minus_fits : (n : ℕ) → n < 256 → SFits w32 (pos 0 -ℤ to_z w32 n)
minus_fits n h = subst (SFits w32) (sym (minus_is n h)) (record { sfits = small n h })
  where
    small : (n : ℕ) → n < 256 → mag (neg_ℤ (pos n)) < 2147483648
    small zero h = omega arith
    small (suc n) h = omega arith

pub minus_code : (n k : ℕ) → n < 256 → n ≡ k → to_z w32 (of_z w32 (pos 0 -ℤ to_z w32 n)) ≡ signed (refused k)
unfolding signed
minus_code n k h e = to_z-of_z {w = w32} {z = pos 0 -ℤ to_z w32 n} (minus_fits n h) ∙ minus_is n h ∙ ap (λ (m : ℕ). neg_ℤ (pos m)) e

-- a refusal's number, written out
pub refusal_code : (answer : Answer ℕ) (k : ℕ) → answer ≡ refused k → signed (refused k) ≡ signed answer
refusal_code answer k e = ap signed (sym e)

-- the number that another function gave for the same answer
pub same_code : {asked answer : Answer ℕ} (z : ℤ) → mag z < 2 ^ 31 → z ≡ signed asked → answer ≡ asked → to_z w32 (of_z w32 z) ≡ signed answer
same_code z h e same = to_z-of_z {w = w32} {z = z} (record { sfits = h }) ∙ e ∙ ap signed (sym same)
