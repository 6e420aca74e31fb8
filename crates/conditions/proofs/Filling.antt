-- Arrays filled from the front, with 0 in the places past what was written.
use Prim.Native.Nat.{ℕ, ◌+◌, ◌≤◌, ◌<◌}
use native.Mathlib.Nat.{le_antisymm, sub-zero}
use native.Mathlib.Omega.{arith}
use mathlib.Core.Path.{◌≡◌, refl, sym, ap, ◌∙◌}
use mathlib.Core.Bool.{Bool, true, false}
use mathlib.Core.List.{List, [], ◌∷◌, ◌++◌, map, map-append}
use lib.ListN.{length, length-map, set, replicate}
use Rattle.laws.specs.Lists.{keep, up_to, from, padded}
use Rattle.laws.proofs.Lists.{length_up_to}
use Rattle.laws.proofs.Walks.{up_to_next, keep_few}
use Rattle.laws.proofs.Padded.{padded_set, pick_written, pick_skipped}

-- An array of n places that holds a function's values for the numbers below i.
pub record Filled (f : ℕ → ℕ) (n size : ℕ) (array : List ℕ) (i : ℕ) : Type 0 where
  pub within : i ≤ size
  pub are : array ≡ padded n 0 (map f (up_to i))

pub filled_start : {f : ℕ → ℕ} {size : ℕ} (n : ℕ) → Filled f n size (replicate n 0) 0
unfolding padded up_to from
filled_start n = record { within = omega arith; are = ap (λ (k : ℕ). replicate k 0) (sym (sub-zero n)) }

pub filled_all : {f : ℕ → ℕ} {n size : ℕ} {array : List ℕ} {i : ℕ} → Filled f n size array i → size ≤ i → array ≡ padded n 0 (map f (up_to size))
filled_all {f} {n} w h = w.are ∙ ap (λ (k : ℕ). padded n 0 (map f (up_to k))) (le_antisymm w.within h)

pub filled_next : {f : ℕ → ℕ} {n size : ℕ} {array : List ℕ} {i : ℕ} → size ≤ n → i < size → Filled f n size array i → {x : ℕ} → x ≡ f i
    → Filled f n size (set array i x) (i + 1)
filled_next {f} {n} {size} {array} {i} few h w {x} e =
    record {
      within = omega arith;
      are =
          ap (λ (l : List ℕ). set l i x) w.are
          ∙ padded_set n 0 (map f (up_to i)) x (length-map (up_to i) f ∙ length_up_to i) (omega arith)
          ∙ ap (λ (y : ℕ). padded n 0 (map f (up_to i) ++ (y ∷ []))) e
          ∙ ap (padded n 0) (sym (map-append f (up_to i) (i ∷ [])) ∙ ap (map f) (sym (up_to_next i)));
    }

-- An array of n places that holds the numbers below i that pass a test, and how many there are.
pub record Picked (test : ℕ → Bool) (n size : ℕ) (array : List ℕ) (count i : ℕ) : Type 0 where
  pub within : i ≤ size
  pub counted : count ≡ length (keep test (up_to i))
  pub are : array ≡ padded n 0 (keep test (up_to i))

pub picked_start : {test : ℕ → Bool} {size : ℕ} (n : ℕ) → Picked test n size (replicate n 0) 0 0
unfolding padded up_to from keep
picked_start n = record { within = omega arith; counted = refl; are = ap (λ (k : ℕ). replicate k 0) (sym (sub-zero n)) }

-- at the end all that pass
pub picked_all : {test : ℕ → Bool} {n size : ℕ} {array : List ℕ} {count i : ℕ} → Picked test n size array count i → size ≤ i
    → (count ≡ length (keep test (up_to size))) × (array ≡ padded n 0 (keep test (up_to size)))
picked_all {test} {n} p h =
    let all = le_antisymm p.within h in
    (p.counted ∙ ap (λ (k : ℕ). length (keep test (up_to k))) all, p.are ∙ ap (λ (k : ℕ). padded n 0 (keep test (up_to k))) all)

module _ {test : ℕ → Bool} {n size : ℕ} {array : List ℕ} {count i : ℕ} (few : size ≤ n) (h : i < size) (p : Picked test n size array count i) where
  -- there is a place for the next
  pub place_inside : count < n
  place_inside = omega (arith, keep_few test i, p.counted)

  -- which passes, or fails
  pub picked_next : test i ≡ true → Picked test n size (set array count i) (count + 1) (i + 1)
  picked_next e =
      let next = pick_written test n array count i (omega arith) p.counted p.are e in
      record { within = omega arith; counted = next.0; are = next.1 }

  pub picked_skipped : test i ≡ false → Picked test n size array count (i + 1)
  picked_skipped e =
      let next = pick_skipped test n array count i (omega arith) p.counted p.are e in
      record { within = omega arith; counted = next.0; are = next.1 }
