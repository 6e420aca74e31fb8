-- Lists of numbers that ascend, and lists of numbers below a bound.
use Prim.Native.Nat.{ℕ, zero, suc, ◌≤◌, ◌<◌}
use native.Mathlib.Nat.{le_refl, le_of_lt}
use mathlib.Core.Path.{refl}
use mathlib.Core.Bool.{Bool, true, false, cond}
use mathlib.Core.List.{List, [], ◌∷◌, Memᴰ}
use Rattle.laws.specs.Lists.{keep, from, up_to}
use Rattle.laws.proofs.Lists.{keep_at, up_to_at}

-- The numbers ascend, the first of them n or more.
pub data Ascending : ℕ → List ℕ → Type 0 where
  ends : {n : ℕ} → Ascending n []
  ascends : {n o : ℕ} {os : List ℕ} → n ≤ o → Ascending (suc o) os → Ascending n (o ∷ os)

-- All numbers are below n.
abbrev pub Below : ℕ → List ℕ → Type 0
Below n os = (o : ℕ) → Memᴰ o os → o < n

pub below_first : {n o : ℕ} {os : List ℕ} → Below n (o ∷ os) → o < n
below_first {n} {o} h = h o (Memᴰ.head refl)

pub below_rest : {n o : ℕ} {os : List ℕ} → Below n (o ∷ os) → Below n os
below_rest h x m = h x (Memᴰ.tail m)

weaken : {n : ℕ} {os : List ℕ} → Ascending (suc n) os → Ascending n os
weaken ends = ends
weaken (ascends h later) = ascends (le_of_lt h) later

-- numbers kept of a sequence ascend, and they are below its end
pub from_ascends : (test : ℕ → Bool) (start size : ℕ) → Ascending start (keep test (from start size))
unfolding keep from
from_ascends test start zero = ends
from_ascends test start (suc size) = go (test start) (from_ascends test (suc start) size)
  where
    go : (b : Bool) → Ascending (suc start) (keep test (from (suc start) size))
        → Ascending start (cond b (start ∷ keep test (from (suc start) size)) (keep test (from (suc start) size)))
    go true h = ascends (le_refl start) h
    go false h = weaken h

pub kept_ascends : (test : ℕ → Bool) (n : ℕ) → Ascending 0 (keep test (up_to n))
unfolding up_to
kept_ascends test n = from_ascends test 0 n

pub kept_below : (test : ℕ → Bool) (n : ℕ) → Below n (keep test (up_to n))
kept_below test n o m = up_to_at n o (keep_at test (up_to n) o m).0
