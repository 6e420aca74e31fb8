-- The spaces of a task by place: what the code's spaces hold at a place is the own properties and the members of the space there.
use Prim.Native.Nat.{ℕ, ◌≤◌, ◌<◌}
use mathlib.Core.Path.{◌≡◌, sym, ap, ◌∙◌, subst}
use mathlib.Core.Bool.{true}
use mathlib.Core.List.{List, [], map, Memᴰ}
use lib.Dec.{eqb}
use lib.ListN.{length, get_or, length-map}
use Rattle.laws.proofs.Padded.{padded_at}
use Rattle.laws.specs.Lists.{keep, up_to, distinct}
use Rattle.laws.proofs.Lists.{keep_at, up_to_at}
use Rattle.laws.proofs.Numbers.{distinct_keep, distinct_up_to}
use Rattle.laws.proofs.Mapped.{get_d_map, keep_ext}
use Rattle.model.specs.Card.{Task}
use Rattle.model.specs.Transitions.{properties, transitions}
use Rattle.model.specs.Spaces.{Space, spaces}
use Rattle.model.proofs.Grouping.{length_grouping}
use Rattle.model.proofs.Closing.{groups, labels, properties_at, space_with, spaces_with, belongs, spaces_alone}
use Rattle.masks.specs.Sets.{mask_of, members_of}
use Rattle.masks.proofs.Members.{kept_members}
use Rattle.spaces.specs.declared.Spaces.{Spaces}
use Rattle.spaces.specs.Own.{own_of}
use Rattle.spaces.specs.SpaceTable.{SpacesOf, groups_of, lowest_of, space_at}

module _ (t : Task) (k : ℕ) (there : k < length (spaces t)) where
  -- the label at the place
  pub label : ℕ
  label = get_or (labels t) k 0

  many : length (spaces t) ≡ length (labels t)
  unfolding spaces_with
  many = ap length (spaces_alone t) ∙ length-map (labels t) (space_with t (belongs t))

  inside : k < length (labels t)
  inside = subst (λ (n : ℕ). k < n) many there

  pub space_is : space_at t k ≡ space_with t (belongs t) label
  unfolding space_at spaces_with label
  space_is =
      let none : Space = record { properties = []; rules = []; members = [] } in
      ap (λ (l : List Space). get_or l k none) (spaces_alone t) ∙ get_d_map (space_with t (belongs t)) (labels t) k 0 none inside

  -- its properties: those of its label
  pub properties_are : (space_at t k).properties ≡ own_of (groups t) (length (properties t)) label
  unfolding space_with properties_at own_of groups
  properties_are =
      ap (λ (u : Space). u.properties) space_is
      ∙ ap (λ (n : ℕ). keep (λ d. eqb (get_or (groups t) d 0) label) (up_to n)) (length_grouping (length (properties t)) (transitions t))

  -- they are properties of the task, and no two the same
  pub own_below : (c : ℕ) → Memᴰ c (space_at t k).properties → c < length (properties t)
  unfolding own_of
  own_below c m =
      up_to_at (length (properties t)) c
      (keep_at (λ d. eqb (get_or (groups t) d 0) label) (up_to (length (properties t))) c (subst (Memᴰ c) properties_are m)).0

  pub own_distinct : distinct (space_at t k).properties ≡ true
  unfolding own_of
  own_distinct =
      subst (λ (l : List ℕ). distinct l ≡ true) (sym properties_are)
      (distinct_keep (λ d. eqb (get_or (groups t) d 0) label) (up_to (length (properties t))) (distinct_up_to (length (properties t))))

  pub members_are : (space_at t k).members ≡ keep (λ o. belongs t o label) (up_to t.objects)
  unfolding space_with
  members_are = ap (λ (u : Space). u.members) space_is

  module _ {r : Spaces} (found : SpacesOf t r) where
    -- the code's labels of the task's properties, and the lowest property at the place
    label_at : (d : ℕ) → d < length (properties t) → get_or r.groups d 0 ≡ get_or (groups t) d 0
    unfolding groups groups_of
    label_at d h =
        ap (λ (l : List ℕ). get_or l d 0) found.groups
        ∙ padded_at 60 0 (groups_of t) d 0
        (subst (λ (n : ℕ). d < n) (sym (length_grouping (length (properties t)) (transitions t))) h)

    lowest_at : get_or r.lowest k 0 ≡ label
    unfolding label labels groups groups_of lowest_of
    lowest_at = ap (λ (l : List ℕ). get_or l k 0) found.lowest ∙ padded_at 60 0 (lowest_of (groups_of t)) k 0 inside

    -- the list of own properties by the code's labels
    pub own_of_lem : own_of r.groups (length (properties t)) (get_or r.lowest k 0) ≡ (space_at t k).properties
    unfolding own_of
    own_of_lem =
        ap (own_of r.groups (length (properties t))) lowest_at
        ∙ keep_ext _ _ (up_to (length (properties t)))
        (λ d m. ap (λ (l : ℕ). eqb l label) (label_at d (up_to_at (length (properties t)) d m)))
        ∙ sym properties_are

    -- the members in the mask
    pub mask_of_lem : get_or r.members k 0 ≡ mask_of (space_at t k).members
    unfolding space_at
    mask_of_lem =
        ap (λ (l : List ℕ). get_or l k 0) found.members
        ∙ padded_at 60 0 (map (λ u. mask_of u.members) (spaces t)) k 0
        (subst (λ (n : ℕ). k < n) (sym (length-map (spaces t) (λ u. mask_of u.members))) there)
        ∙ get_d_map (λ u. mask_of u.members) (spaces t) k (record { properties = []; rules = []; members = [] }) 0 there

    pub members_of_lem : t.objects ≤ 64 → members_of (get_or r.members k 0) ≡ (space_at t k).members
    members_of_lem few =
        ap members_of (mask_of_lem ∙ ap mask_of members_are) ∙ kept_members (λ o. belongs t o label) t.objects few ∙ sym members_are
