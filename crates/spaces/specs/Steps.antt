-- What each step of the code computes: which properties a parameter's rows unite and increase, and members as masks, one for each label of a group.
use Rattle.std.specs.Prelude.{ℕ, zero, suc, Bool, cond, not, eqb, ltb, length, get_or, set, replicate, Option, None, Some}
use mathlib.Core.List.{List, [], ◌∷◌, foldl}
use Rattle.laws.specs.Lists.{any, keep, up_to, padded}
use Rattle.laws.specs.Bags.{Bag, support}
use Rattle.model.specs.Spaces.{unite_all}
use Rattle.masks.specs.Sets.{single_of, all_below, union_of, common_of}
use Rattle.properties.specs.Tables.{stride, bag_at}

-- A parameter deletes with the bag D and adds with the bag A; X is what they have in common.
-- D less X, the start of its rule beside the exchanges, is not empty: some property is deleted more often than it is added
unfoldable pub has_start : Bag → Bag → Bool
has_start d a = any (λ c. ltb (get_or a c 0) (get_or d c 0)) (up_to (length d))

-- the properties of D less X and A less X, ascending: those that are not deleted as often as they are added
unfoldable pub changed_by : Bag → Bag → List ℕ
changed_by d a = keep (λ c. not (eqb (get_or d c 0) (get_or a c 0))) (up_to (length d))

-- the properties that one rule of the parameter moves together, and those that come in by increasing rules
unfoldable pub united_by : Bag → Bag → List ℕ
united_by d a = cond (has_start d a) (changed_by d a) []

unfoldable pub gained_by : Bag → Bag → List ℕ
gained_by d a = cond (has_start d a) [] (changed_by d a)

-- the first number of a list, if there is one
unfoldable pub first_of : List ℕ → Option ℕ
first_of [] = None
first_of (n ∷ ns) = Some n

-- the groups of the first `size` properties by the parameters in the first rows, 0 past the properties
unfoldable pub groups_in : ℕ → ℕ → List ℕ → List ℕ → List ℕ
groups_in size count deletes adds =
    foldl (λ groups row. unite_all groups (united_by (bag_at size deletes row) (bag_at size adds row))) (padded stride 0 (up_to size)) (up_to count)

-- the properties, of the first `size`, that are their own label: the lowest property of each group
unfoldable pub labelled : ℕ → List ℕ → List ℕ
labelled size groups = keep (λ c. eqb (get_or groups c 0) c) (up_to size)

-- objects join the space of a property
unfoldable pub join_at : List ℕ → ℕ → List ℕ → ℕ → List ℕ
join_at groups objects masks c = let l = get_or groups c 0 in set masks l (union_of (get_or masks l 0) objects)

-- an object joins the space of each property of its bag; and so do all objects, in spaces that had no member
unfoldable pub open_at : List ℕ → ℕ → List ℕ → ℕ → List ℕ → List ℕ
open_at groups size counts o masks = foldl (join_at groups (single_of o)) masks (support (bag_at size counts o))

unfoldable pub open_masks : List ℕ → ℕ → List ℕ → ℕ → List ℕ
open_masks groups size counts objects = foldl (λ masks o. open_at groups size counts o masks) (replicate stride 0) (up_to objects)

-- the objects that are members of the space of each property of a bag; an empty bag means every object
unfoldable pub enabled_by : List ℕ → ℕ → List ℕ → Bag → ℕ
enabled_by groups objects masks enablers =
    foldl (λ those c. common_of those (get_or masks (get_or groups c 0) 0)) (all_below objects) (support enablers)

-- what a parameter with the bags P, D and A brings into the spaces of the properties that come in, by the members `old` before the round
unfoldable pub gain_row : List ℕ → ℕ → List ℕ → List ℕ → Bag → Bag → Bag → List ℕ
gain_row groups objects old masks p d a = foldl (join_at groups (enabled_by groups objects old p)) masks (gained_by d a)

-- one round over the first rows, and so many
unfoldable pub round_in : List ℕ → ℕ → ℕ → ℕ → List ℕ → List ℕ → List ℕ → List ℕ → List ℕ
round_in groups objects size count p d a masks =
    foldl (λ gained row. gain_row groups objects masks gained (bag_at size p row) (bag_at size d row) (bag_at size a row)) masks (up_to count)

unfoldable pub rounds_in : List ℕ → ℕ → ℕ → ℕ → List ℕ → List ℕ → List ℕ → ℕ → List ℕ → List ℕ
rounds_in groups objects size count p d a zero masks = masks
rounds_in groups objects size count p d a (suc n) masks =
    rounds_in groups objects size count p d a n (round_in groups objects size count p d a masks)
