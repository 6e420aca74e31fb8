-- Shifting: numbers copied down by one over a gap, and up by one to make room.
use Prim.Native.Nat.{ℕ, suc, ◌+◌, ◌-◌, ◌≤◌, ◌<◌}
use native.Mathlib.Omega.{arith}
use native.Mathlib.Numerals.{add-one}
use mathlib.Core.Path.{◌≡◌, sym, ap, ap₂, ◌∙◌}
use mathlib.Core.List.{List, ◌∷◌, ◌++◌, append_assoc}
use lib.ListN.{length, get_or, take, drop, set, length-drop}
use lib.Seq.{drop-cons, drop_at, length-paste, length-take-le, length_paste_head, set_at, set_split, take-append-le, take-take}
use Rattle.std.proofs.lemmas.List.{drop-take}
use Rattle.std.specs.List.{copy_within}
use Rattle.sets.specs.Numbers.{gap_closed, room_made}

-- a part in the middle, from its front or from its end
middle : (at count : ℕ) (was : List ℕ) → at ≤ count → take (count - at) (drop at was) ≡ drop at (take count was)
middle at count was h =
    sym (drop-take at (count - at) was) ∙ ap (λ (k : ℕ). drop at (take k was)) (let e : at + (count - at) ≡ count = omega arith in e)

-- the numbers after a place moved down over it, and 0 at the end
pub gap_closes : (at count : ℕ) (was : List ℕ) → at < count → count ≤ length was
    → set (copy_within was (at + 1) count at) (count - 1) 0 ≡ gap_closed at count was
unfolding gap_closed
gap_closes at count was h k =
    let n = count - (at + 1) in
    let front = take at was ++ take n (drop (at + 1) was) in
    let behind = length-drop (at + 1) was in
    let size : length front ≡ count - 1 =
    (length_paste_head was at (drop (at + 1) was) n (omega arith) (omega arith) ∙ (let e : at + n ≡ count - 1 = omega arith in e)) in
    let last : suc (at + n) ≡ count = omega arith in
    ap (λ (l : List ℕ). set (front ++ l) (count - 1) 0) (drop-cons was (at + n) 0 (omega arith))
    ∙ set_at front (get_or was (at + n) 0) (drop (suc (at + n)) was) 0 (count - 1) size
    ∙ ap₂ (λ (l : List ℕ) (m : ℕ). take at was ++ l ++ 0 ∷ drop m was)
    (middle (at + 1) count was (omega arith) ∙ ap (λ (m : ℕ). drop m (take count was)) (add-one at))
    last

-- the numbers from a place on moved up, and a number there
pub room_opens : (at count n : ℕ) (was : List ℕ) → at ≤ count → count < length was
    → set (copy_within was at count (at + 1)) at n ≡ room_made at count n was
unfolding room_made
room_opens at count n was h k =
    let back = take (count - at) (drop at was) ++ drop (at + 1 + (count - at)) was in
    let size = length-take-le (at + 1) was (omega arith) in
    let moved = length-drop at was in
    let same = length-paste was (at + 1) (drop at was) (count - at) (omega arith) (omega arith) in
    let shape : copy_within was at count (at + 1) ≡ take (at + 1) was ++ back = append_assoc (take (at + 1) was) _ _ in
    let last : at + 1 + (count - at) ≡ suc count = omega arith in
    set_split (copy_within was at count (at + 1)) at n (omega arith)
    ∙ ap₂ (λ (l m : List ℕ). l ++ n ∷ m)
    (ap (take at) shape ∙ take-append-le at (take (at + 1) was) back (omega arith) ∙ take-take at (at + 1) was (omega arith))
    (ap (drop (suc at)) shape ∙ drop_at (take (at + 1) was) back (suc at) (size ∙ add-one at)
    ∙ ap₂ (λ (l : List ℕ) (m : ℕ). l ++ drop m was) (middle at count was h) last)
