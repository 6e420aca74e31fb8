-- Document 01, "Listing": the lines of each section; and document 02, No. 2: the E lines, and No. 5: the lines of a rescued space.
use Rattle.std.specs.Prelude.{ℕ, suc, ◌+◌, ◌*◌, max, Bool, cond, not, ◌&&◌, leb, eqb, length, get_or, take}
use mathlib.Core.List.{List, [], ◌∷◌, ◌++◌, map, flat_map}
use Rattle.laws.specs.Lists.{any, all, keep, count, up_to, sum, member}
use Rattle.laws.specs.Bags.{Bag, strictly_contains, strictly_within, covers, support}
use Rattle.model.specs.Card.{Atom, Schema, Task}
use Rattle.model.specs.Transitions
use Rattle.model.specs.Transitions.{bag_of}
use Rattle.model.specs.Spaces.{Space, Kind, has_member}
use Rattle.model.specs.Analysis.{Analysis, analysis}
use Rattle.model.specs.Rescue.{rescues}

-- A line of the listing; its letter in document 01 stands behind it.
pub data Line : Type 0 where
  space : ℕ → Kind → List ℕ → List ℕ → Line  -- S: number, kind, properties, members
  state : Bag → Line  -- T: counts of one condition by property
  limit : ℕ → ℕ → Line  -- M: property, most
  membership : ℕ → Line  -- D: index of a condition
  exclusion : ℕ → ℕ → Line  -- X: two D indices
  nesting : ℕ → ℕ → Line  -- E: index of a condition, index of one that it is strictly within
  total : ℕ → ℕ → Line  -- F: predicate, total
  ceiling : ℕ → ℕ → Line  -- C: predicate, most facts
  types : ℕ → ℕ → List ℕ → Line  -- R: schema, parameter, objects

-- the count of property c in a condition over these properties
unfoldable pub count_of : List ℕ → ℕ → Bag → ℕ
count_of [] c b = 0
count_of (d ∷ ds) c [] = 0
count_of (d ∷ ds) c (n ∷ b) = cond (eqb c d) n (count_of ds c b)

-- the largest number of a list, 0 for none
unfoldable pub largest : List ℕ → ℕ
largest [] = 0
largest (n ∷ ns) = max n (largest ns)

-- the arity of the predicate of property c
unfoldable pub arity_of : Task → ℕ → ℕ
arity_of t c = get_or t.arities (get_or (Transitions.properties t) c (record { predicate = 0; position = 0 })).predicate 0

-- M: for each property of arity 2 or 3, the largest count over the conditions. A space without a condition has no such line
unfoldable pub limits : Task → List ℕ → List Bag → List Line
limits t properties [] = []
limits t properties (b ∷ bags) =
    map
    (λ c. limit c (largest (map (count_of properties c) (b ∷ bags))))
    (keep (λ c. leb 2 (arity_of t c)) properties)

-- the indices of the conditions that strictly contain no other
unfoldable pub minimal : List Bag → List ℕ
minimal bags = keep (λ i. not (any (strictly_contains (get_or bags i [])) bags)) (up_to (length bags))

-- no condition contains both
unfoldable pub excluded : List Bag → ℕ → ℕ → Bool
excluded bags i j = not (any (λ b. covers b (get_or bags i []) && covers b (get_or bags j [])) bags)

-- X: two D indices, ascending
unfoldable pub exclusions : List Bag → List ℕ → List Line
exclusions bags [] = []
exclusions bags (i ∷ later) = map (exclusion i) (keep (excluded bags i) later) ++ exclusions bags later

-- the indices of the conditions that condition i is strictly within
unfoldable pub surrounding : List Bag → ℕ → List ℕ
surrounding bags i = keep (λ j. strictly_within (get_or bags i []) (get_or bags j [])) (up_to (length bags))

-- E: each condition i with each condition j that it is strictly within, ascending by i then j
unfoldable pub nestings : List Bag → List Line
nestings bags = flat_map (λ i. map (nesting i) (surrounding bags i)) (up_to (length bags))

-- the lines of a space: S and, for P and H, all T, all M, all D, all X, all E
unfoldable pub space_lines : Task → ℕ → Analysis → List Line
space_lines t n a =
    space n a.kind a.space.properties a.space.members
    ∷ (map state a.conditions ++ limits t a.space.properties a.conditions
    ++ map membership (minimal a.conditions) ++ exclusions a.conditions (minimal a.conditions)
    ++ nestings a.conditions)

-- the section of a space: its lines and, directly after the S line of a mixed space, those of its rescue, under the same number
unfoldable pub section_lines : Task → ℕ → Analysis → List Line
section_lines t n a = flat_map (space_lines t n) (a ∷ rescues t a)

unfoldable pub space_sections : Task → ℕ → List Analysis → List (List Line)
space_sections t n [] = []
space_sections t n (a ∷ analyses) = section_lines t n a ∷ space_sections t (suc n) analyses

-- the number of the property of predicate p at position i
unfoldable pub property_number : Task → ℕ → ℕ → ℕ
property_number t p i = sum (take p t.arities) + i

-- the one number that a list consists of, if it has one
unfoldable pub one_number : List ℕ → List ℕ
one_number [] = []
one_number (n ∷ ns) = cond (all (eqb n) ns) (n ∷ []) []

-- the totals that property c gives: where all conditions of its space have one count n, n times the number of members
unfoldable pub totals_by : List Analysis → ℕ → List ℕ
totals_by analyses c =
    flat_map
    (λ a. map (λ n. n * length a.space.members) (one_number (map (count_of a.space.properties c) a.conditions)))
    (keep (λ a. member c a.space.properties) analyses)

-- F: predicate, total, from the lowest position that gives one
unfoldable pub totals : Task → List Analysis → ℕ → List Line
totals t analyses p =
    map (total p) (take 1 (flat_map (λ i. totals_by analyses (property_number t p i)) (up_to (get_or t.arities p 0))))

-- the number of atoms of a predicate
unfoldable pub of_predicate : ℕ → List Atom → ℕ
of_predicate p atoms = count (λ a. eqb p a.predicate) atoms

-- C: predicate, initial number of facts, if in every schema adds of it are at most deletes
unfoldable pub ceilings : Task → ℕ → List Line
ceilings t p =
    cond
    (all (λ s. leb (of_predicate p s.adds) (of_predicate p s.deletes)) t.schemas)
    (ceiling p (of_predicate p t.facts) ∷ [])
    []

-- R: the objects in every space of the parameter's precondition properties
unfoldable pub types_of : Task → List Space → ℕ → Schema → ℕ → Line
types_of t spaces n s k =
    types n k
    (keep (λ o. all (has_member spaces o) (support (bag_of (Transitions.properties t) s.preconditions k))) (up_to t.objects))

unfoldable pub type_lines : Task → List Space → ℕ → List Schema → List Line
type_lines t spaces n [] = []
type_lines t spaces n (s ∷ schemas) =
    map (types_of t spaces n s) (up_to s.parameters) ++ type_lines t spaces (suc n) schemas

-- the closing section: all F, all C, all R
unfoldable pub closing_lines : Task → List Analysis → List Line
closing_lines t analyses =
    flat_map (totals t analyses) (up_to (length t.arities)) ++ flat_map (ceilings t) (up_to (length t.arities))
    ++ type_lines t (map (λ a. a.space) analyses) 0 t.schemas

-- one section per space, in order, then the closing section
unfoldable pub sections : Task → List (List Line)
sections t = let analyses = analysis t in space_sections t 0 analyses ++ (closing_lines t analyses ∷ [])

-- opens every definition of this module, for what is proved by computation
unfoldable pub lines_open : Unit {0}
unfolding
    count_of largest arity_of limits minimal excluded exclusions surrounding nestings space_lines section_lines space_sections property_number
    one_number totals_by totals of_predicate ceilings types_of type_lines closing_lines sections
lines_open = tt
