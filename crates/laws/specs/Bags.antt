-- Bags. A bag over a list of properties is the list of their counts, in the same order; operations go property by property.
use Rattle.std.specs.Prelude.{ℕ, ◌+◌, ◌-◌, min, Bool, true, false, cond, ◌&&◌, ◌||◌, List, [], ◌∷◌, map, leb, eqb, ltb, length, get_or}
use Rattle.laws.specs.Lists.{all, same, keep, up_to, any}

abbrev pub Bag : Type 0
Bag = List ℕ

-- the counts added
unfoldable pub plus : Bag → Bag → Bag
plus [] ys = []
plus (x ∷ xs) [] = []
plus (x ∷ xs) (y ∷ ys) = (x + y) ∷ plus xs ys

-- the counts of the first less those of the second
unfoldable pub less : Bag → Bag → Bag
less [] ys = []
less (x ∷ xs) [] = []
less (x ∷ xs) (y ∷ ys) = (x - y) ∷ less xs ys

-- bag intersection: the smaller count of each
unfoldable pub meet : Bag → Bag → Bag
meet [] ys = []
meet (x ∷ xs) [] = []
meet (x ∷ xs) (y ∷ ys) = min x y ∷ meet xs ys

-- the first bag contains the second: none of its counts is smaller
unfoldable pub contains : Bag → Bag → Bool
contains [] [] = true
contains [] (y ∷ ys) = false
contains (x ∷ xs) [] = false
contains (x ∷ xs) (y ∷ ys) = leb y x && contains xs ys

-- How one bag stands to another.
pub data Comparison : Type 0 where
  equal : Comparison  -- each contains the other
  within : Comparison  -- the second contains the first, and not the first the second
  around : Comparison  -- the first contains the second, and not the second the first
  apart : Comparison  -- neither contains the other

-- by whether the first bag contains the second, and whether the second contains the first
unfoldable pub comparison : Bool → Bool → Comparison
comparison true true = equal
comparison true false = around
comparison false true = within
comparison false false = apart

-- the comparison of two bags, by which the mixed test, D, X and E go
unfoldable pub compare : Bag → Bag → Comparison
compare xs ys = comparison (contains xs ys) (contains ys xs)

unfoldable pub is_equal : Comparison → Bool
is_equal equal = true
is_equal within = false
is_equal around = false
is_equal apart = false

unfoldable pub is_within : Comparison → Bool
is_within equal = false
is_within within = true
is_within around = false
is_within apart = false

unfoldable pub is_around : Comparison → Bool
is_around equal = false
is_around within = false
is_around around = true
is_around apart = false

-- the first bag strictly contains the second
unfoldable pub strictly_contains : Bag → Bag → Bool
strictly_contains xs ys = is_around (compare xs ys)

-- the first bag is strictly within the second
unfoldable pub strictly_within : Bag → Bag → Bool
strictly_within xs ys = is_within (compare xs ys)

-- the first bag is around the second or equal to it
unfoldable pub covers : Bag → Bag → Bool
covers xs ys = is_equal (compare xs ys) || is_around (compare xs ys)

-- every count is 0
unfoldable pub is_empty : Bag → Bool
is_empty xs = all (eqb 0) xs

-- the bag over n properties that holds property c once and nothing else
unfoldable pub single : ℕ → ℕ → Bag
single n c = map (λ d. cond (eqb c d) 1 0) (up_to n)

-- the distinct properties of a bag, ascending
unfoldable pub support : Bag → List ℕ
support xs = keep (λ c. ltb 0 (get_or xs c 0)) (up_to (length xs))

-- the counts of some properties, in the order given
unfoldable pub restrict : List ℕ → Bag → Bag
restrict properties xs = map (λ c. get_or xs c 0) properties

-- a bag is on a list
unfoldable pub listed : List Bag → Bag → Bool
listed bags xs = any (same xs) bags

-- opens every definition of this module, for what is proved by computation
unfoldable pub bags_open : Unit {0}
unfolding
    plus less meet contains comparison compare is_equal is_within is_around strictly_contains strictly_within covers is_empty single support restrict listed
bags_open = tt
