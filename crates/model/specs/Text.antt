-- Document 01, "Listing": the text of a line as bytes.
use Rattle.std.specs.Prelude.{ℕ, zero, suc, ◌+◌, ◌/◌, ◌%◌, cond, ltb}
use mathlib.Core.List.{List, [], ◌∷◌, ◌++◌, map, flat_map}
use Rattle.model.specs.Spaces.{Kind, static, attribute, property, mixed, wide, rescued}
use Rattle.model.specs.Lines.{Line, space, state, limit, membership, exclusion, nesting, total, ceiling, types}

-- at most so many decimal digits of a number
unfoldable pub digits_within : ℕ → ℕ → List ℕ
digits_within zero n = []
digits_within (suc room) n =
    let front = digits_within room (n / 10) in cond (ltb n 10) ((48 + n) ∷ []) (front ++ ((48 + n % 10) ∷ []))

-- digits decimal with no leading zero; a number has no more digits than suc of it
unfoldable pub decimal : ℕ → List ℕ
decimal n = digits_within (suc n) n

-- the kind letter
unfoldable pub kind_letter : Kind → ℕ
kind_letter static = 83
kind_letter attribute = 65
kind_letter property = 80
kind_letter mixed = 77
kind_letter wide = 87
kind_letter rescued = 72

abbrev pub colon : List ℕ
colon = 58 ∷ []

-- the items of a line
unfoldable pub items : Line → List (List ℕ)
items (space n kind properties members) =
    (83 ∷ []) ∷ decimal n ∷ (kind_letter kind ∷ []) ∷ colon ∷ (map decimal properties ++ (colon ∷ map decimal members))
items (state counts) = (84 ∷ []) ∷ colon ∷ map decimal counts
items (limit c most) = (77 ∷ []) ∷ decimal c ∷ decimal most ∷ []
items (membership index) = (68 ∷ []) ∷ decimal index ∷ []
items (exclusion i j) = (88 ∷ []) ∷ decimal i ∷ decimal j ∷ []
items (nesting i j) = (69 ∷ []) ∷ decimal i ∷ decimal j ∷ []
items (total predicate n) = (70 ∷ []) ∷ decimal predicate ∷ decimal n ∷ []
items (ceiling predicate n) = (67 ∷ []) ∷ decimal predicate ∷ decimal n ∷ []
items (types schema parameter objects) =
    (82 ∷ []) ∷ decimal schema ∷ decimal parameter ∷ colon ∷ map decimal objects

-- each item after a line's first follows one blank
unfoldable pub spaced : List (List ℕ) → List ℕ
spaced [] = []
spaced (first ∷ rest) = first ++ flat_map (λ item. 32 ∷ item) rest

-- a line ends in byte 10
unfoldable pub line_text : Line → List ℕ
line_text line = spaced (items line) ++ (10 ∷ [])

-- each line straight after the one before
unfoldable pub text : List Line → List ℕ
text lines = flat_map line_text lines

-- opens every definition of this module, for what is proved by computation
unfoldable pub text_opens : Unit {0}
unfolding digits_within decimal kind_letter items spaced line_text text
text_opens = tt
