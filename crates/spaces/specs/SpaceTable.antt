-- What the code's spaces say: the grouping of the properties, and masks for the members.
use Rattle.std.specs.Prelude.{ℕ, ◌≡◌, List, [], map, eqb, length, get_or}
use Rattle.laws.specs.Lists.{keep, up_to, padded}
use Rattle.model.specs.Card.{Task}
use Rattle.model.specs.Transitions.{properties, transitions}
use Rattle.model.specs.Spaces as model
use Rattle.masks.specs.Sets.{mask_of}
use Rattle.spaces.specs.declared.Spaces.{Spaces}
use Rattle.spaces.specs.Steps.{groups_in, labelled, open_masks, rounds_in}

-- the spaces by the parameters in the first rows of three tables, over `size` properties, and the initial bags of the objects. What an object
-- gains depends on no other object, so that as many rounds as there are spaces are enough
unfoldable pub spaces_in : ℕ → ℕ → ℕ → List ℕ → List ℕ → List ℕ → List ℕ → Spaces
spaces_in size parameters objects p d a counts =
    let groups = groups_in size parameters d a in
    let lowest = labelled size groups in
    let masks = rounds_in groups objects size parameters p d a (length lowest) (open_masks groups size counts objects) in
    record {
      count = length lowest;
      groups = groups;
      lowest = padded 60 0 lowest;
      members = padded 60 0 (map (λ l. get_or masks l 0) lowest);
    }

-- the groups of a task's properties, and the lowest property of each group
unfoldable pub groups_of : Task → List ℕ
groups_of t = model.grouping (length (properties t)) (transitions t)

unfoldable pub lowest_of : List ℕ → List ℕ
lowest_of groups = keep (λ c. eqb (get_or groups c 0) c) (up_to (length groups))

-- the space at a place, and none past the last
unfoldable pub space_at : Task → ℕ → model.Space
space_at t k = get_or (model.spaces t) k (record { properties = []; rules = []; members = [] })

-- the code's spaces of a task
pub record SpacesOf (t : Task) (r : Spaces) : Type 0 where
  pub count : r.count ≡ length (model.spaces t)
  pub groups : r.groups ≡ padded 60 0 (groups_of t)
  pub lowest : r.lowest ≡ padded 60 0 (lowest_of (groups_of t))
  pub members : r.members ≡ padded 60 0 (map (λ s. mask_of s.members) (model.spaces t))
