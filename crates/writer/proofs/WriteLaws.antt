-- Writing at a place of a buffer: nothing, bytes, one piece after another, and the items of a table one by one.
use Prim.Native.Nat.{ℕ, ◌+◌, ◌*◌, ◌≤◌, ◌<◌, zero-le}
use native.Mathlib.Nat.{add-zero, mul-suc, mul-le-mul_left}
use native.Mathlib.Numerals.{add-one, unary_clauses, add-two, add-three}
use native.Mathlib.Omega.{arith}
use mathlib.Core.Path.{◌≡◌, refl, sym, ap, ◌∙◌}
use mathlib.Core.List.{List, [], ◌++◌, map, flat_map, append_assoc, append-nil, ◌∷◌}
use lib.ListN.{length, get_or, take, drop, length-append, length-map, get_or-map, take-append-drop, set}
use lib.Seq.{length-take-le, take_at, drop_at, drop-drop, take-suc, take_all, sets, sets-eq}
use borrow.Rule.Slice.PartMut.{put_mid}
use Rattle.std.proofs.lemmas.Slice.{put_mid-paste}
use Rattle.laws.proofs.Lists.{flat_map_append}
use Rattle.writer.specs.Bytes.{WritesAt}

-- nothing
pub writes_none : (room at : ℕ) (x : List ℕ) → WritesAt room at [] x x at
writes_none room at x =
    record {
      stands = sym (rw (append-nil, add-zero) (take-append-drop at x));
      place = sym (add-zero at);
      within = zero-le;
    }

-- bytes stored one by one
pub writes_sets : (room at : ℕ) (bytes x : List ℕ) → at + length bytes ≤ length x → length bytes ≤ room
    → WritesAt room at bytes x (sets x at bytes) (at + length bytes)
writes_sets room at bytes x fits h = record { stands = sets-eq bytes x at fits; place = refl; within = h }

-- up to four bytes stored in a row
module _ (room at : ℕ) (x : List ℕ) (fits : at + room ≤ length x) (a b c d : ℕ) where
  pub stores_1 : 1 ≤ room → WritesAt room at (a ∷ []) x (set x at a) (at + 1)
  stores_1 h = writes_sets room at (a ∷ []) x (omega arith) h

  pub stores_2 : 2 ≤ room → WritesAt room at (a ∷ b ∷ []) x (set (set x at a) (at + 1) b) (at + 2)
  stores_2 h = rw add-one (writes_sets room at (a ∷ b ∷ []) x (omega arith) h)

  pub stores_3 : 3 ≤ room → WritesAt room at (a ∷ b ∷ c ∷ []) x (set (set (set x at a) (at + 1) b) (at + 2) c) (at + 3)
  stores_3 h = rw (add-one, add-two) (writes_sets room at (a ∷ b ∷ c ∷ []) x (omega arith) h)

  pub stores_4 : 4 ≤ room
      → WritesAt room at (a ∷ b ∷ c ∷ d ∷ []) x (set (set (set (set x at a) (at + 1) b) (at + 2) c) (at + 3) d) (at + 4)
  stores_4 h = rw (add-one, add-two, add-three) (writes_sets room at (a ∷ b ∷ c ∷ d ∷ []) x (omega arith) h)

-- bytes copied into a part of the buffer
pub writes_part : (room at k : ℕ) (bytes part x : List ℕ) (next : ℕ) → part ≡ bytes → length bytes ≡ k → next ≡ at + k → k ≤ room
    → WritesAt room at bytes x (put_mid at k x part) next
writes_part room at k bytes part x next e l n h =
    record {
      stands = put_mid-paste at k x part bytes (length bytes) e l refl
          ∙ ap (λ (copied : List ℕ). take at x ++ copied ++ drop (at + length bytes) x) (take_all (length bytes) bytes (omega arith));
      place = omega arith;
      within = omega arith;
    }

-- one piece after another
pub writes_then : (r q at : ℕ) (b d x y z : List ℕ) (m n : ℕ) → WritesAt r at b x y m → WritesAt q m d y z n → at + r ≤ length x
    → WritesAt (r + q) at (b ++ d) x z n
writes_then r q at b d x y z m n v w fits =
    record {
      stands = w.stands ∙ ap (λ (l : List ℕ). l ++ d ++ drop (m + length d) y) front
          ∙ ap (λ (l : List ℕ). take at x ++ b ++ d ++ l) back
          ∙ ap (λ (l : List ℕ). l ++ drop (at + length (b ++ d)) x) (append_assoc (take at x) b d);
      place = rw length-append (omega arith);
      within = rw length-append (omega arith);
    }
  where
    seam : length (take at x ++ b) ≡ m
    seam = simp (length-append, length-take-le at x (omega arith)) (omega arith)

    front : take m y ≡ take at x ++ b
    front = rw v.stands (take_at (take at x ++ b) (drop (at + length b) x) m seam)

    rest : drop m y ≡ drop (at + length b) x
    rest = rw v.stands (drop_at (take at x ++ b) (drop (at + length b) x) m seam)

    end : at + length b + length d ≡ at + length (b ++ d)
    end = rw length-append (omega arith)

    back : drop (m + length d) y ≡ drop (at + length (b ++ d)) x
    back =
        sym (drop-drop (length d) m y) ∙ ap (drop (length d)) rest ∙ drop-drop (length d) (at + length b) x ∙ ap (λ (k : ℕ). drop k x) end

-- what was written within less room was written within more
pub writes_within : (r q at : ℕ) (b x y : List ℕ) (n : ℕ) → WritesAt r at b x y n → r ≤ q → WritesAt q at b x y n
writes_within r q at b x y n w h = record { stands = w.stands; place = w.place; within = omega arith }

-- the items of a list one by one, each within the same room: at place i those before it are written
module _ {A B : Type 0} (bytes_of : B → List ℕ) (f : A → B) (xs : List A) (room at : ℕ) (x : List ℕ) where
  abbrev pub WrittenTo : ℕ → List ℕ → ℕ → Type 0
  WrittenTo i y m = WritesAt (room * i) at (flat_map bytes_of (take i (map f xs))) x y m

  one_more : (d : A) (i : ℕ) → i < length xs
      → flat_map bytes_of (take (i + 1) (map f xs)) ≡ flat_map bytes_of (take i (map f xs)) ++ bytes_of (f (get_or xs i d))
  unfolding flat_map
  one_more d i h = rw (add-one, take-suc (map f xs) i (f d) (rw length-map h), flat_map_append, get_or-map f xs i d, append-nil)

  pub none_written : WrittenTo 0 x at
  unfolding flat_map
  none_written = simp unary_clauses (writes_none 0 at x)

  pub item_written : (d : A) (i : ℕ) {y z : List ℕ} {m n : ℕ} → i < length xs → at + room * length xs ≤ length x
      → WrittenTo i y m → WritesAt room m (bytes_of (f (get_or xs i d))) y z n → WrittenTo (i + 1) z n
  item_written d i {y} {z} {m} {n} h fits v w =
      rw (one_more d i h, rooms) (writes_then (room * i) room at _ _ x y z m n v w room_so_far)
    where
      rooms : room * (i + 1) ≡ room * i + room
      rooms = rw add-one (mul-suc room i)

      room_so_far : at + room * i ≤ length x
      room_so_far = omega (arith, mul-le-mul_left {m = i} {n = length xs} room (omega arith))

  pub items_written : (i : ℕ) {y : List ℕ} {m : ℕ} → length xs ≤ i → i ≤ length xs → WrittenTo i y m
      → WritesAt (room * length xs) at (flat_map bytes_of (map f xs)) x y m
  items_written i h k w = rw (there, take_all (length xs) (map f xs) all_taken) at w
    where
      there : i ≡ length xs
      there = omega arith

      all_taken : length (map f xs) ≤ length xs
      all_taken = rw length-map (omega arith)
