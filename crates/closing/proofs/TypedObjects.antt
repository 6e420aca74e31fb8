-- The objects that the code finds for a parameter are those of its R line.
use Prim.Native.Nat.{ℕ, ◌+◌, ◌≤◌, ◌<◌}
use native.Mathlib.Omega.{arith}
use mathlib.Core.Path.{◌≡◌, refl, sym, ap, ◌∙◌, subst}
use mathlib.Core.Bool.{Bool, true, ◌&&◌}
use mathlib.Core.List.{List, [], map, foldl, map-map, Memᴰ}
use lib.Dec.{eqb, ltb}
use lib.ListN.{length, get_or, take, length-map}
use borrow.Author.Tests.{ltb-true, ltb-false}
use Rattle.laws.proofs.Padded.{length_padded, padded_at, padded_past}
use Rattle.laws.specs.Lists.{any, all, keep, up_to, sum, member, distinct}
use Rattle.laws.specs.Bags.{Bag, support}
use Rattle.laws.proofs.Tests.{by_test}
use Rattle.laws.proofs.Bags.{support_at_lem}
use Rattle.laws.proofs.Folds.{fold_ext}
use Rattle.laws.proofs.Lists.{keep_at, up_to_at, place_of, mem_get_d}
use Rattle.laws.proofs.Mapped.{get_d_map, any_map, any_ext, all_ext, map_ext}
use Rattle.masks.specs.Sets.{mask_of, members_of, common_of, all_below}
use Rattle.masks.proofs.Kept.{all_kept}
use Rattle.masks.proofs.Members.{kept_members}
use Rattle.laws.proofs.Numbers.{member_keep_up_to, distinct_keep, distinct_up_to, distinct_places}
use Rattle.laws.proofs.Walks.{keep_few}
use Rattle.model.specs.Card.{Task, Atom, Schema}
use Rattle.model.specs.Transitions.{properties, bag_of, transitions}
use Rattle.model.specs.Spaces.{Space, has_member, spaces}
use Rattle.model.specs.Lines.{types, types_of}
use Rattle.model.proofs.Closing.{groups, labels, properties_at, space_with, spaces_with, belongs, spaces_alone}
use Rattle.model.proofs.Grouping.{length_grouping}
use Rattle.model.proofs.Grouping.{length_bag_of}
use Rattle.properties.specs.Parameters.{parameters_in}
use Rattle.properties.specs.Tables.{bag_at}
use Rattle.properties.proofs.RowTables.{get_d_bags_in}
use Rattle.properties.proofs.ParameterRows.{sizes_of, length_sizes, sizes_long, size_at, bag_of_parameter, Counted, count_within}
use Rattle.spaces.specs.declared.Spaces as code
use Rattle.spaces.specs.SpaceTable.{SpacesOf, groups_of, lowest_of}
use Rattle.spaces.specs.Steps.{enabled_by}
use Rattle.spaces.proofs.Joins.{masks_of, masks_at, mask_ext, enabled_joins}
use Rattle.spaces.proofs.TaskSpaces.{group_array, own_label, labels_known, member_alone}
use Rattle.closing.specs.Typing.{label_masks, typed_lines, MembersGiven, PreconditionRows}
use Rattle.closing.proofs.LabelMasks.{length_label_masks, mask_at_label}

module _ (t : Task) (sp : code.Spaces) (of : SpacesOf t sp) (narrow : length (properties t) ≤ 60) where
  groups_are : sp.groups ≡ group_array t
  unfolding group_array groups groups_of
  groups_are = of.groups

  labels_few : length (labels t) ≤ 60
  unfolding labels groups
  labels_few =
      let size = length_grouping (length (properties t)) (transitions t) in
      omega (arith, keep_few (λ c. eqb (get_or (groups t) c 0) c) (length (groups t)))

  count_is : sp.count ≡ length (labels t)
  unfolding spaces_with
  count_is = of.count ∙ ap length (spaces_alone t) ∙ length-map (labels t) (space_with t (belongs t))

  lowest_are : (k : ℕ) → k < length (labels t) → get_or sp.lowest k 0 ≡ get_or (labels t) k 0
  unfolding labels groups groups_of lowest_of
  lowest_are k h = ap (λ (l : List ℕ). get_or l k 0) of.lowest ∙ padded_at 60 0 (labels t) k 0 h

  label_below : (k : ℕ) → k < length (labels t) → get_or (labels t) k 0 < 60
  unfolding labels groups
  label_below k h =
      let size = length_grouping (length (properties t)) (transitions t) in
      let kept = keep_at (λ c. eqb (get_or (groups t) c 0) c) (up_to (length (groups t))) (get_or (labels t) k 0) (mem_get_d (labels t) k 0 h) in
      omega (arith, up_to_at (length (groups t)) (get_or (labels t) k 0) kept.0)

  -- what the function that puts the masks at their labels asks
  pub spaces_few : sp.count ≤ 60
  spaces_few = let few = labels_few in omega (arith, count_is)

  pub lowest_known : (k : ℕ) → get_or sp.lowest k 0 < 60
  unfolding labels groups groups_of lowest_of
  lowest_known k =
      by_test (ltb k (length (labels t)))
      (λ e. let h = ltb-true k (length (labels t)) e in omega (arith, lowest_are k h, label_below k h))
      (λ e. omega (arith, ap (λ (l : List ℕ). get_or l k 0) of.lowest, padded_past 60 0 (labels t) k (ltb-false k (length (labels t)) e)))

  groups_long : length sp.groups ≡ 60
  unfolding group_array groups
  groups_long =
      let size = length_grouping (length (properties t)) (transitions t) in
      ap length groups_are ∙ length_padded 60 0 (groups t) (omega arith)

  abbrev masks : List ℕ
  masks = label_masks sp.lowest sp.members sp.count

  pub members_given : t.objects ≤ 64 → MembersGiven (length (properties t)) sp.groups masks t.objects
  members_given few = record {
    few_objects = few;
    grouped = record {
      narrow = narrow;
      filled = let long = groups_long in omega arith;
      known = λ c. subst (λ (l : List ℕ). get_or l c 0 < 60) (sym groups_are) (labels_known t narrow c);
    };
    masks_long = omega (arith, length_label_masks sp.lowest sp.members sp.count);
  }

  labels_distinct : distinct (labels t) ≡ true
  unfolding labels
  labels_distinct = distinct_keep (λ c. eqb (get_or (groups t) c 0) c) (up_to (length (groups t))) (distinct_up_to (length (groups t)))

  -- at a label stands the mask of the members of its space
  mask_of_label : (l : ℕ) → Memᴰ l (labels t) → get_or masks l 0 ≡ mask_of (keep (λ o. belongs t o l) (up_to t.objects))
  unfolding spaces_with space_with
  mask_of_label l m =
      let place = place_of (labels t) l 0 m in
      let k : ℕ = place.0 in
      let at : get_or sp.lowest k 0 ≡ l = lowest_are k place.1 ∙ place.2 in
      ap (λ (x : ℕ). get_or masks x 0) (sym at)
      ∙ mask_at_label sp.lowest sp.members lowest_known sp.count different k (omega (arith, count_is, place.1))
      ∙ ap (λ (ms : List ℕ). get_or ms k 0) of.members
      ∙ padded_at 60 0 (map (λ s. mask_of s.members) (spaces t)) k 0
      (omega (arith, length-map (spaces t) (λ s. mask_of s.members), of.count, count_is, place.1))
      ∙ ap (λ (ss : List Space). get_or (map (λ s. mask_of s.members) ss) k 0) (spaces_alone t)
      ∙ ap (λ (ms : List ℕ). get_or ms k 0) (map-map (λ s. mask_of s.members) (space_with t (belongs t)) (labels t))
      ∙ get_d_map (λ x. mask_of (keep (λ o. belongs t o x) (up_to t.objects))) (labels t) k 0 0 place.1
      ∙ ap (λ (x : ℕ). mask_of (keep (λ o. belongs t o x) (up_to t.objects))) place.2
    where
      different : (i j : ℕ) → i < sp.count → j < sp.count → get_or sp.lowest i 0 ≡ get_or sp.lowest j 0 → i ≡ j
      different i j h g e =
          let p : i < length (labels t) = omega (arith, count_is, h) in
          let q : j < length (labels t) = omega (arith, count_is, g) in
          distinct_places (labels t) labels_distinct i j p q (sym (lowest_are i p) ∙ e ∙ lowest_are j q)

  -- an object is a member of the space of a property if it belongs to its label
  has_member_alone_lem : (o c : ℕ) → o < t.objects → c < length (properties t)
      → belongs t o (get_or (group_array t) c 0) ≡ has_member (spaces t) o c
  unfolding has_member spaces_with space_with
  has_member_alone_lem o c h k =
      member_alone t narrow 0 (belongs t o) c k
      ∙ sym
      (ap (any (λ s. member c s.properties && member o s.members)) (spaces_alone t)
      ∙ any_map (λ s. member c s.properties && member o s.members) (space_with t (belongs t)) (labels t)
      ∙ any_ext _ _ (labels t)
      (λ l m. ap (λ (b : Bool). member c (properties_at t l) && b) (member_keep_up_to (λ x. belongs t x l) t.objects o h)))

  below : (atoms : List Atom) (k c : ℕ) → Memᴰ c (support (bag_of (properties t) atoms k)) → c < length (properties t)
  below atoms k c m = omega (arith, (support_at_lem (bag_of (properties t) atoms k) c m).0, length_bag_of (properties t) atoms k)

  mask_of_property : (c : ℕ) → c < length (properties t)
      → get_or masks (get_or sp.groups c 0) 0 ≡ get_or (masks_of t.objects (belongs t)) (get_or (group_array t) c 0) 0
  mask_of_property c h =
      ap (λ (g : List ℕ). get_or masks (get_or g c 0) 0) groups_are
      ∙ mask_of_label (get_or (group_array t) c 0) (own_label t c h)
      ∙ sym (masks_at t.objects (belongs t) (get_or (group_array t) c 0) (labels_known t narrow c))

  -- the mask of a parameter's objects
  typed_mask : (atoms : List Atom) (k : ℕ) → enabled_by sp.groups t.objects masks (bag_of (properties t) atoms k)
      ≡ mask_of (keep (λ o. all (has_member (spaces t) o) (support (bag_of (properties t) atoms k))) (up_to t.objects))
  unfolding enabled_by
  typed_mask atoms k =
      let n = t.objects in
      let cs = support (bag_of (properties t) atoms k) in
      fold_ext
      (λ those c. common_of those (get_or masks (get_or sp.groups c 0) 0))
      (λ those c. common_of those (get_or (masks_of n (belongs t)) (get_or (group_array t) c 0) 0)) cs
      (λ those c m. ap (common_of those) (mask_of_property c (below atoms k c m)))
      (all_below n)
      ∙ ap (λ (m : ℕ). foldl (λ those c. common_of those (get_or (masks_of n (belongs t)) (get_or (group_array t) c 0) 0)) m cs) (sym (all_kept n))
      ∙ enabled_joins n (group_array t) (labels_known t narrow) (belongs t) cs (λ o. true)
      ∙ mask_ext n _ _ (λ o h. all_ext _ _ cs (λ c m. has_member_alone_lem o c h (below atoms k c m)))

  -- the R lines of a schema, whose rows begin behind those of the schemas before it
  module _ (few : t.objects ≤ 64) {preconditions : List ℕ} (held : PreconditionRows t preconditions) (n : ℕ) (d : Schema) (h : n < length t.schemas)
    where
      row_is : (k : ℕ) → k < (get_or t.schemas n d).parameters
          → bag_at (length (properties t)) preconditions (sum (take n (sizes_of t.schemas)) + k)
          ≡ bag_of (properties t) (get_or t.schemas n d).preconditions k
      unfolding parameters_in sizes_of
      row_is k l =
          let first = sum (take n (sizes_of t.schemas)) in
          let counted : Counted (sizes_of t.schemas) n first = record { inside = omega (arith, length_sizes t.schemas); is = refl } in
          let inside : first + k < parameters_in t.schemas =
          omega (arith, l, count_within (sizes_of t.schemas) counted (sizes_long t.schemas h) (size_at t.schemas d h)) in
          sym (get_d_bags_in (length (properties t)) (parameters_in t.schemas) preconditions (first + k) inside)
          ∙ ap (λ (l : List Bag). get_or l (first + k) []) held.rows_are
          ∙ bag_of_parameter (properties t) (λ s. s.preconditions) t.schemas n k d h l

      pub typed_lines_lem : {first : ℕ} → first ≡ sum (take n (sizes_of t.schemas))
          → typed_lines (length (properties t)) sp.groups masks t.objects preconditions n first (get_or t.schemas n d).parameters
          ≡ map (types_of t (spaces t) n (get_or t.schemas n d)) (up_to (get_or t.schemas n d).parameters)
      unfolding typed_lines types_of
      typed_lines_lem {first} e =
          map_ext _ _ (up_to (get_or t.schemas n d).parameters)
          (λ k m.
          ap (types n k)
          (ap (λ (b : Bag). members_of (enabled_by sp.groups t.objects masks b))
          (ap (λ (i : ℕ). bag_at (length (properties t)) preconditions (i + k)) e ∙ row_is k (up_to_at (get_or t.schemas n d).parameters k m))
          ∙ ap members_of (typed_mask (get_or t.schemas n d).preconditions k)
          ∙ kept_members _ t.objects few))
