-- The text of a line, part by part.
use Prim.Native.Nat.{ℕ, ◌+◌, ◌-◌, ◌<◌}
use lib.ListN.{length, take, drop, set}
use mathlib.Core.Path.{refl}
use mathlib.Core.List.{List, [], ◌∷◌, ◌++◌, map, flat_map, append-nil, append_assoc}
use Rattle.laws.proofs.Lists.{flat_map_append}
use Rattle.model.specs.Lines.{space, state, membership, types}
use Rattle.model.specs.Text.{decimal, kind_letter, colon, items, spaced, line_text}
use Rattle.model.specs.Spaces.{Kind}
use Rattle.text.specs.Kinds.{space_front}
use Rattle.text.specs.Letters.{newline, blank, colon_byte, letter_d, letter_r, letter_s, letter_t}
use Rattle.text.specs.Numbers.{numbers, last_numbers}
use Rattle.text.specs.Room.{Room}
use Rattle.text.specs.Written.{Writes}
use Rattle.text.proofs.Writing.{Begins, Remains, begun, next_fits, next, last_inside, with_last}

-- the first number after the letter
pub one_number_lem : (letter a : ℕ) → Begins (spaced ((letter ∷ []) ∷ decimal a ∷ [])) (letter ∷ []) (blank ∷ decimal a)
unfolding spaced flat_map
one_number_lem letter a = record { path = simp append-nil }

-- and the second
pub two_numbers : (letter a b : ℕ)
    → Begins (spaced ((letter ∷ []) ∷ decimal a ∷ decimal b ∷ [])) (spaced ((letter ∷ []) ∷ decimal a ∷ [])) (blank ∷ decimal b)
unfolding spaced flat_map
two_numbers letter a b = record { path = simp (append-nil, append_assoc) }

-- the end of a line
pub line_end : (text : List ℕ) → Begins (text ++ (newline ∷ [])) text (newline ∷ [])
line_end text = record { path = refl }

pub membership_end : (index : ℕ) → Begins (line_text (membership index)) (spaced ((letter_d ∷ []) ∷ decimal index ∷ [])) (newline ∷ [])
unfolding line_text items
membership_end index = line_end _

-- a blank and a byte
pub mark_byte : (b : ℕ) → Begins (blank ∷ b ∷ []) (blank ∷ []) (b ∷ [])
mark_byte b = record { path = refl }

-- the last numbers of a line: first the colon
pub colon_first : (ns : List ℕ) → Begins (last_numbers ns) (blank ∷ colon_byte ∷ []) (numbers ns ++ (newline ∷ []))
unfolding last_numbers
colon_first ns = record { path = refl }

-- The last numbers of a line: behind the blank and the colon there is room for them, and behind them for the line's end.
module _ (ns : List ℕ) {before mid : List ℕ} {at : ℕ} (room : Room (last_numbers ns) before)
    (mark : Writes (blank ∷ colon_byte ∷ []) before mid at) where
  marked : Remains (last_numbers ns) (numbers ns ++ (newline ∷ [])) before mid at
  marked = begun (colon_first ns) room mark

  pub numbers_fit : Room (numbers ns) (take (length mid - at) (drop at mid))
  numbers_fit = next_fits marked (line_end (numbers ns))

  module _ {part : List ℕ} {n : ℕ} (w : Writes (numbers ns) (take (length mid - at) (drop at mid)) part n) where
    abbrev now : List ℕ
    now = take at mid ++ (part ++ drop (length mid - at) (drop at mid))

    up_to_end : Remains (last_numbers ns) (newline ∷ []) before now (at + n)
    up_to_end = next marked (line_end (numbers ns)) w

    pub end_inside : at + n < length now
    end_inside = let r = up_to_end in last_inside record { path = r.whole } r.room r.so_far

    pub last_written : Writes (last_numbers ns) before (set now (at + n) newline) (at + n + 1)
    last_written = let r = up_to_end in with_last record { path = r.whole } r.room r.so_far

-- a line's first items, and then the others up to its end
items_parts : (first : List ℕ) (front back : List (List ℕ))
    → Begins (spaced (first ∷ (front ++ back)) ++ (newline ∷ [])) (spaced (first ∷ front)) (flat_map (λ item. blank ∷ item) back ++ (newline ∷ []))
unfolding spaced
items_parts first front back = record { path = rw (flat_map_append (λ item. blank ∷ item) front back) (simp append_assoc) }

-- T: the letter, then the counts
pub state_parts : (counts : List ℕ) → Begins (line_text (state counts)) (letter_t ∷ []) (last_numbers counts)
unfolding line_text items spaced flat_map last_numbers numbers
state_parts counts = items_parts (letter_t ∷ []) [] (colon ∷ map decimal counts)

-- R: the letter and two numbers, then the objects
pub types_parts : (schema parameter : ℕ) (objects : List ℕ)
    → Begins (line_text (types schema parameter objects)) (spaced ((letter_r ∷ []) ∷ decimal schema ∷ decimal parameter ∷ [])) (last_numbers objects)
unfolding line_text items flat_map last_numbers numbers
types_parts schema parameter objects = items_parts (letter_r ∷ []) (decimal schema ∷ decimal parameter ∷ []) (colon ∷ map decimal objects)

-- S: the kind and a colon
pub kind_parts : (letter : ℕ) → Begins (blank ∷ letter ∷ blank ∷ colon_byte ∷ []) (blank ∷ letter ∷ []) (blank ∷ colon_byte ∷ [])
kind_parts letter = record { path = refl }

-- the letter and the number, then the kind
pub head_parts : (n : ℕ) (kind : Kind)
    → Begins (space_front n kind []) (spaced ((letter_s ∷ []) ∷ decimal n ∷ [])) (blank ∷ kind_letter kind ∷ blank ∷ colon_byte ∷ [])
unfolding space_front spaced flat_map
head_parts n kind = record { path = simp (append-nil, append_assoc) }

-- then the properties
pub front_parts : (n : ℕ) (kind : Kind) (properties : List ℕ)
    → Begins (space_front n kind properties) (space_front n kind []) (numbers properties)
unfolding space_front spaced flat_map numbers
front_parts n kind properties = record { path = simp append_assoc }

-- and then the members
pub space_parts : (n : ℕ) (kind : Kind) (properties members : List ℕ)
    → Begins (line_text (space n kind properties members)) (space_front n kind properties) (last_numbers members)
unfolding line_text items space_front flat_map last_numbers numbers
space_parts n kind properties members =
    items_parts (letter_s ∷ []) (decimal n ∷ (kind_letter kind ∷ []) ∷ colon ∷ map decimal properties) (colon ∷ map decimal members)
