-- The invariant of a history: what is so of the initial state and stays so under every allowed action.
use Prim.Native.Nat.{ℕ, ◌+◌, ◌-◌, ◌≤◌, ◌<◌, min}
use native.Mathlib.Nat.{le_refl}
use native.Mathlib.Omega.{arith}
use mathlib.Core.Path.{◌≡◌, refl, sym, ap, ◌∙◌, subst}
use mathlib.Core.Bool.{Bool, true, false, ◌&&◌}
use mathlib.Core.Logic.{◌⊎◌, inl, inr}
use mathlib.Core.List.Memᴰ
use mathlib.Core.List.{List, [], map, Memᴰ}
use lib.Dec.{leb, ltb, eqb}
use lib.ListN.{length, get_or, length-map}
use borrow.Author.Tests.{leb-true, ltb-true, ltb-false}
use Rattle.laws.specs.Lists.{all, any, count, up_to, member, stands_at}
use Rattle.laws.specs.Bags.{Bag, plus, less, meet, contains, is_empty, support, restrict}
use Rattle.laws.proofs.Tests.{never, by_test}
use Rattle.laws.proofs.Lists.{all_at, any_at, any_none, count_none, member_at, member_intro, mem_get_d, place_of, length_up_to}
use Rattle.laws.proofs.Sums.{count_members, stands_at_member}
use Rattle.laws.proofs.Counting.{count_most}
use Rattle.laws.proofs.Mapped.{get_d_map}
use Rattle.laws.proofs.Numbers.{distinct_places}
use Rattle.laws.proofs.Bags.{length_less, get_d_plus, get_d_less, get_d_meet, length_plus, contains_at, is_empty_at, is_empty_intro}
use Rattle.laws.proofs.Bags.{length_single, single_here, support_at_lem, length_restrict, get_d_restrict, restrict_plus, restrict_less, restrict_meet}
use Rattle.laws.proofs.Bags.{restrict_contains, restrict_is_empty, restrict_single}
use Rattle.laws.proofs.Restricted.{restrict_one}
use Rattle.model.specs.Answer.{accepted}
use Rattle.model.specs.Card.{Atom, Task, Schema}
use Rattle.model.specs.Writer.{known, check_task}
use Rattle.model.specs.Strips.{State, Action, schema_at, successor}
use Rattle.model.specs.Transitions.{Property, properties, occurs, bag_of}
use Rattle.model.specs.Spaces.{Space, condition, moved, spaces}
use Rattle.model.specs.Extension.{most_conditions}
use Rattle.model.specs.Analysis.{moves_of, initial_conditions}
use Rattle.model.specs.Lines.{of_predicate}
use Rattle.model.specs.Truth.{Allowed}
use Rattle.model.proofs.Valid.{Valid}
use Rattle.model.proofs.Order.{known_arguments}
use Rattle.model.proofs.Checked.{checked, CheckedAction, checked_action}
use Rattle.model.proofs.Parts.{Part, TwoSided, Enclosed, own_rule, own_move, space_enclosed}
use Rattle.model.proofs.Parts.{known_properties, distinct_properties, known_members, distinct_members}
use Rattle.model.proofs.ListedSpace.{extension_of}
use Rattle.model.proofs.ListedParts.{Extended}
use Rattle.model.proofs.ClosingLines.{Capped}
use Rattle.model.proofs.JoinedLists.{adjoin_all_has, adjoin_all_length}
use Rattle.model.proofs.ListsPerStart.{own_list_at}
use Rattle.model.proofs.Chain.{chain, exchange, rest}
use Rattle.model.proofs.Effect.{Effect, effect_on_parameter, effect_elsewhere, effect_on_predicate}
use Rattle.model.proofs.ParameterRules.{length_bag_of, length_common, length_start, length_finish, moved_start, moved_finish, needed, deleted}
use Rattle.model.proofs.ParameterRules.{added, common, exchange_rule, rest_rule, increasing_rule, exchange_there, rest_there, increasing_there}

-- an object's condition is on the own list of its own initial condition
pub record OnOwnList (t : Task) (u : Space) (s : State) (o : ℕ) : Type 0 where
  pub place : ℕ
  pub place_known : place < length (initial_conditions t u)
  pub initial_is : get_or (initial_conditions t u) place [] ≡ condition t u.properties t.facts o
  pub on_list : Memᴰ (condition t u.properties s o) (get_or (extension_of t u).lists place [])

pub record Invariant (t : Task) (s : State) : Type 0 where
  -- a member of a space listed as P or H, or of any other part with complete own lists, is on the own list of its initial condition
  pub on_own_list : (u : Space) → Extended t u → (o : ℕ) → member o u.members ≡ true → OnOwnList t u s o
  -- an object outside a space of whatever kind, or outside any other part that nobody enters, has none of its properties
  pub outside :
      (u : Space) → Enclosed t u → (o : ℕ) → member o u.members ≡ false → is_empty (condition t u.properties s o) ≡ true
  -- a predicate with a ceiling has no more facts than at first
  pub under_ceiling : (p : ℕ) → Capped t p → of_predicate p s ≤ of_predicate p t.facts

-- ---- the initial state

-- a member's initial condition is among the initial conditions of its space, of which there are at most 64
initial_place : (t : Task) (u : Space) (o : ℕ) → member o u.members ≡ true
    → Memᴰ (condition t u.properties t.facts o) (initial_conditions t u)
unfolding initial_conditions
initial_place t u o m =
    adjoin_all_has [] (map (condition t u.properties t.facts) u.members) (condition t u.properties t.facts o)
    (Memᴰ.map (condition t u.properties t.facts) (member_at o u.members m))

pub initial_few : {t : Task} {u : Space} → Part t u → t.objects ≤ 64 → length (initial_conditions t u) ≤ most_conditions
unfolding initial_conditions
initial_few {t} {u} part few =
    let conditions = adjoin_all_length [] (map (condition t u.properties t.facts) u.members) in
    let one_each = length-map u.members (condition t u.properties t.facts) in
    let members = count_members t.objects u.members (distinct_members part) (λ o k. known_members part o (member_intro o u.members k)) in
    let bounded = count_most (λ o. member o u.members) (up_to t.objects) in
    let objects = length_up_to t.objects in
    omega arith

-- an object that the task does not know stands in no known fact
unknown_absent : (t : Task) (o : ℕ) (c : Property) (a : Atom) → known t.arities t.objects a ≡ true → t.objects ≤ o
    → occurs o a c ≡ false
unfolding occurs
unknown_absent t o c a k h = go (eqb c.predicate a.predicate)
  where
    stands : stands_at o c.position a.arguments ≡ true → ⊥
    stands e =
        let below = ltb-true o t.objects
        (all_at (λ x. ltb x t.objects) a.arguments (known_arguments t.arities t.objects a k) o
        (stands_at_member o c.position a.arguments e)) in
        omega arith

    go : (b : Bool) → (b && stands_at o c.position a.arguments) ≡ false
    go true = by_test (stands_at o c.position a.arguments) (λ e. absurd (stands e)) (λ e. e)
    go false = refl

unknown_empty : (t : Task) (cs : List ℕ) (s : State) (o : ℕ) → all (known t.arities t.objects) s ≡ true → t.objects ≤ o
    → is_empty (condition t cs s o) ≡ true
unfolding condition bag_of
unknown_empty t cs s o k h =
    restrict_is_empty cs (map (λ c. count (λ a. occurs o a c) s) (properties t))
    (is_empty_intro (map (λ c. count (λ a. occurs o a c) s) (properties t))
    (λ i l.
    get_d_map (λ c. count (λ a. occurs o a c) s) (properties t) i (record { predicate = 0; position = 0 }) 0
    (subst (λ (n : ℕ). i < n) (length-map (properties t) (λ c. count (λ a. occurs o a c) s)) l)
    ∙ count_none (λ a. occurs o a (get_or (properties t) i (record { predicate = 0; position = 0 }))) s
    (λ a m.
    unknown_absent t o (get_or (properties t) i (record { predicate = 0; position = 0 })) a
    (all_at (known t.arities t.objects) s k a m)
    h)))

pub invariant_initially : (t : Task) → check_task t ≡ accepted tt → Invariant t t.facts
invariant_initially t ok =
    record {
      on_own_list =
          λ u x o k.
          let r = place_of (initial_conditions t u) (condition t u.properties t.facts o) [] (initial_place t u o k) in
          let own =
          own_list_at (moves_of u) (initial_conditions t u) (initial_few x.part (checked t ok).few_objects) x.ended r.0 r.1 in
          record {
            place = r.0;
            place_known = r.1;
            initial_is = r.2;
            on_list = subst (λ (b : Bag). Memᴰ b (get_or (extension_of t u).lists r.0 [])) r.2 own.has_initial;
          };
      outside =
          λ u x o k.
          by_test (is_empty (condition t u.properties t.facts o)) (λ e. e)
          (λ e.
          by_test (ltb o t.objects)
          (λ b. never (sym (x.part.opens o (ltb-true o t.objects b) e) ∙ k))
          (λ b.
          unknown_empty t u.properties t.facts o (checked t ok).facts_right.facts_known (ltb-false o t.objects b)));
      under_ceiling = λ p capped. le_refl (of_predicate p t.facts);
    }

-- ---- one action

-- what an object has of a property in a state
abbrev pub amount : Task → State → ℕ → ℕ → ℕ
amount t s o c = get_or (bag_of (properties t) s o) c 0

-- an object outside a space has none of each of its properties
pub none_outside : (t : Task) (s : State) → Invariant t s → (u : Space) → Enclosed t u → (o : ℕ)
    → member o u.members ≡ false → (c : ℕ) → member c u.properties ≡ true → amount t s o c ≡ 0
unfolding condition
none_outside t s inv u x o out c k =
    let r = place_of u.properties c 0 (member_at c u.properties k) in
    let empty = is_empty_at (condition t u.properties s o) (inv.outside u x o out) r.0 in
    ap (λ (d : ℕ). amount t s o d) (sym r.2) ∙ sym (get_d_restrict u.properties (bag_of (properties t) s o) r.0 r.1) ∙ empty

-- an object that has a property is a member of the property's space
pub member_by_property : (t : Task) (s : State) → Invariant t s → (u : Space) → Memᴰ u (spaces t) → (o c : ℕ)
    → member c u.properties ≡ true → 0 < amount t s o c → member o u.members ≡ true
member_by_property t s inv u m o c k h =
    by_test (member o u.members) (λ e. e)
    (λ e. let z = none_outside t s inv u (space_enclosed t u m) o e c k in absurd (omega arith))

-- the object of a parameter of an allowed action
module _ (t : Task) (s : State) (ok : check_task t ≡ accepted tt) (inv : Invariant t s) (schema : Schema) (k : ℕ)
    (named : Memᴰ schema t.schemas) (below : k < schema.parameters) (o : ℕ) (known_object : o < t.objects) (now : Bag)
    (effect : Effect (length (properties t)) (needed t schema k) (deleted t schema k) (added t schema k) (bag_of (properties t) s o) now)
    (u : Space) (part : Part t u) where
  -- the bags of the parameter and of the object, by property
  record At (c : ℕ) : Type 0 where
    precondition_there : get_or (needed t schema k) c 0 ≤ amount t s o c
    delete_there : get_or (deleted t schema k) c 0 ≤ amount t s o c
    both : get_or (common t schema k) c 0 ≡ min (get_or (deleted t schema k) c 0) (get_or (added t schema k) c 0)
    starts : get_or (less (deleted t schema k) (common t schema k)) c 0 ≡ get_or (deleted t schema k) c 0 - get_or (common t schema k) c 0
    finishes : get_or (less (added t schema k) (common t schema k)) c 0 ≡ get_or (added t schema k) c 0 - get_or (common t schema k) c 0
    becomes : get_or now c 0 ≡ amount t s o c - get_or (deleted t schema k) c 0 + get_or (added t schema k) c 0 - get_or effect.absorbed c 0

  at : (c : ℕ) → At c
  at c =
      let was = bag_of (properties t) s o in
      let lw = length_bag_of t s o in
      let ld = length_bag_of t schema.deletes k in
      let la = length_bag_of t schema.adds k in
      let left = length_less (length (properties t)) was (deleted t schema k) lw ld in
      let joined = length_plus (length (properties t)) (less was (deleted t schema k)) (added t schema k) left la in
      record {
        precondition_there = contains_at was (needed t schema k) effect.preconditions_there c;
        delete_there = contains_at was (deleted t schema k) effect.deletes_there c;
        both = get_d_meet (deleted t schema k) (added t schema k) (ld ∙ sym la) c;
        starts = get_d_less (deleted t schema k) (common t schema k) (ld ∙ sym (length_common t schema k)) c;
        finishes = get_d_less (added t schema k) (common t schema k) (la ∙ sym (length_common t schema k)) c;
        becomes =
            ap (λ (b : Bag). get_or b c 0) effect.becomes
            ∙ get_d_less (plus (less was (deleted t schema k)) (added t schema k)) effect.absorbed (joined ∙ sym effect.absorbed_length) c
            ∙ ap (λ (n : ℕ). n - get_or effect.absorbed c 0)
            (get_d_plus (less was (deleted t schema k)) (added t schema k) (left ∙ sym la) c
            ∙ ap (λ (n : ℕ). n + get_or (added t schema k) c 0) (get_d_less was (deleted t schema k) (lw ∙ sym ld) c));
      }

  -- ---- the rules of the parameter that move a property of the space are rules of the space

  -- its exchange rule of a property that it both deletes and adds
  own_exchange : (c : ℕ) → member c u.properties ≡ true → 0 < get_or (common t schema k) c 0 → Memᴰ (exchange_rule t schema k c) u.rules
  own_exchange c h x =
      let inside = known_properties part c h in
      let size = length_bag_of t schema.preconditions k in
      let once = single_here (length (needed t schema k)) c (omega arith) in
      let sized = length_single (length (needed t schema k)) c ∙ size in
      own_rule part (exchange_rule t schema k c) (exchange_there t schema k named below c inside x) c
      (moved_start (length (properties t)) (exchange_rule t schema k c) sized sized c inside (omega arith))
      h

  -- its rest rule, which moves what it deletes and does not add, and what it adds and does not delete
  moved_by_start : (c : ℕ) → member c u.properties ≡ true → 0 < get_or (less (deleted t schema k) (common t schema k)) c 0
      → Memᴰ c (moved (rest_rule t schema k))
  moved_by_start c h x =
      moved_start (length (properties t)) (rest_rule t schema k) (length_start t schema k) (length_finish t schema k) c (known_properties part c h) x

  moved_by_finish : (c : ℕ) → member c u.properties ≡ true → 0 < get_or (less (added t schema k) (common t schema k)) c 0
      → Memᴰ c (moved (rest_rule t schema k))
  moved_by_finish c h x =
      moved_finish (length (properties t)) (rest_rule t schema k) (length_start t schema k) (length_finish t schema k) c (known_properties part c h) x

  own_rest : is_empty (less (deleted t schema k) (common t schema k)) ≡ false → (c : ℕ) → Memᴰ c (moved (rest_rule t schema k))
      → member c u.properties ≡ true → Memᴰ (rest_rule t schema k) u.rules
  own_rest e c j h = own_rule part (rest_rule t schema k) (rest_there t schema k named below e) c j h

  -- its increasing rule of a property, where it deletes no more than it adds
  own_increasing : is_empty (less (deleted t schema k) (common t schema k)) ≡ true → (c : ℕ) → member c u.properties ≡ true
      → 0 < get_or (less (added t schema k) (common t schema k)) c 0 → Memᴰ (increasing_rule t schema k c) u.rules
  own_increasing e c h gained =
      let inside = known_properties part c h in
      let size = length_bag_of t schema.preconditions k in
      let once = single_here (length (needed t schema k)) c (omega arith) in
      own_rule part (increasing_rule t schema k c) (increasing_there t schema k named below e c inside gained) c
      (moved_finish (length (properties t)) (increasing_rule t schema k c) (length_start t schema k)
      (length_single (length (needed t schema k)) c ∙ size)
      c inside (omega arith))
      h

  -- ---- who is outside

  -- an object outside a space gains none of its properties
  gains_nothing : Enclosed t u → member o u.members ≡ false → (c : ℕ) → member c u.properties ≡ true
      → 0 < get_or (less (added t schema k) (common t schema k)) c 0 → ⊥
  gains_nothing enclosed out c h gained =
      by_test (is_empty (less (deleted t schema k) (common t schema k)))
      (λ e.
      never
      (sym
      (enclosed.admits_members (increasing_rule t schema k c) (own_increasing e c h gained) e o known_object
      (λ d enabler v mv hd. member_by_property t s inv v mv o d hd (enabled e d enabler)))
      ∙ out))
      (λ e.
      let r =
      restrict_one u.properties (less (deleted t schema k) (common t schema k))
      (enclosed.starts_inside (rest_rule t schema k) (own_rest e c (moved_by_finish c h gained) h) e) in
      let nothing = none_outside t s inv u enclosed o out r.0 (member_intro r.0 u.properties r.1) in
      let there_before = at r.0 in
      omega arith)
    where
      enabled : is_empty (less (deleted t schema k) (common t schema k)) ≡ true → (d : ℕ)
          → Memᴰ d (support (less (needed t schema k) (less (deleted t schema k) (common t schema k))))
          → 0 < amount t s o d
      enabled e d enabler =
          let there = (support_at_lem (less (needed t schema k) (less (deleted t schema k) (common t schema k))) d enabler).1 in
          let is =
          get_d_less (needed t schema k) (less (deleted t schema k) (common t schema k))
          (length_bag_of t schema.preconditions k ∙ sym (length_start t schema k))
          d in
          let nothing = is_empty_at (less (deleted t schema k) (common t schema k)) e d in
          let here = at d in
          omega arith

  stays_outside : Enclosed t u → member o u.members ≡ false → (c : ℕ) → member c u.properties ≡ true → get_or now c 0 ≡ 0
  stays_outside enclosed out c h =
      by_test (ltb 0 (get_or (less (added t schema k) (common t schema k)) c 0))
      (λ e. absurd (gains_nothing enclosed out c h (ltb-true 0 _ e)))
      (λ e.
      let nothing = none_outside t s inv u enclosed o out c h in
      let here = at c in
      let low = ltb-false 0 (get_or (less (added t schema k) (common t schema k)) c 0) e in
      omega arith)

  -- ---- a member of a space with complete own lists

  -- the operations over the space's own properties
  over_common :
      restrict u.properties (common t schema k)
      ≡ meet (restrict u.properties (deleted t schema k)) (restrict u.properties (added t schema k))
  over_common =
      restrict_meet u.properties (deleted t schema k) (added t schema k)
      (length_bag_of t schema.deletes k ∙ sym (length_bag_of t schema.adds k))

  over_start :
      restrict u.properties (less (deleted t schema k) (common t schema k))
      ≡ less (restrict u.properties (deleted t schema k))
      (meet (restrict u.properties (deleted t schema k)) (restrict u.properties (added t schema k)))
  over_start =
      restrict_less u.properties (deleted t schema k) (common t schema k)
      (length_bag_of t schema.deletes k ∙ sym (length_common t schema k))
      ∙ ap (less (restrict u.properties (deleted t schema k))) over_common

  over_finish :
      restrict u.properties (less (added t schema k) (common t schema k))
      ≡ less (restrict u.properties (added t schema k))
      (meet (restrict u.properties (deleted t schema k)) (restrict u.properties (added t schema k)))
  over_finish =
      restrict_less u.properties (added t schema k) (common t schema k)
      (length_bag_of t schema.adds k ∙ sym (length_common t schema k))
      ∙ ap (less (restrict u.properties (added t schema k))) over_common

  -- the property at a place of the space
  place_member : (i : ℕ) → i < length u.properties → member (get_or u.properties i 0) u.properties ≡ true
  place_member i h = member_intro (get_or u.properties i 0) u.properties (mem_get_d u.properties i 0 h)

  -- what the parameter both deletes and adds gives an exchange of the space
  exchange_move : (i : ℕ) → i < length u.properties
      → 0 < get_or (meet (restrict u.properties (deleted t schema k)) (restrict u.properties (added t schema k))) i 0
      → Memᴰ (exchange (length u.properties) i) (moves_of u)
  exchange_move i h x =
      let c = get_or u.properties i 0 in
      let size = length_bag_of t schema.preconditions k in
      let positive : 0 < get_or (common t schema k) c 0 =
      subst (λ (n : ℕ). 0 < n) (get_d_restrict u.properties (common t schema k) i h)
      (subst (λ (b : Bag). 0 < get_or b i 0) (sym over_common) x) in
      subst (λ (b : Bag). Memᴰ (record { start = b; finish = b }) (moves_of u))
      (restrict_single u.properties (length (needed t schema k)) i h
      (λ d j. subst (λ (n : ℕ). d < n) (sym size) (known_properties part d (member_intro d u.properties j)))
      (distinct_places u.properties (distinct_properties part)))
      (own_move u (exchange_rule t schema k c) (own_exchange c (place_member i h) positive))

  -- a bag has nothing over the space's properties if it has none of them
  nothing_over : (b : Bag) → ((c : ℕ) → member c u.properties ≡ true → 0 < get_or b c 0 → ⊥)
      → is_empty (restrict u.properties b) ≡ true
  nothing_over b none =
      is_empty_intro (restrict u.properties b)
      (λ i h.
      let inside = subst (λ (n : ℕ). i < n) (length_restrict u.properties b) h in
      let here = get_d_restrict u.properties b i inside in
      by_test (ltb 0 (get_or b (get_or u.properties i 0) 0))
      (λ e. absurd (none (get_or u.properties i 0) (place_member i inside) (ltb-true 0 (get_or b (get_or u.properties i 0) 0) e)))
      (λ e. let low = ltb-false 0 (get_or b (get_or u.properties i 0) 0) e in omega arith))

  -- with nothing more deleted than added it gains nothing: an increasing rule would be its own, and have no start in it
  no_increase : TwoSided u → is_empty (less (deleted t schema k) (common t schema k)) ≡ true → (c : ℕ)
      → member c u.properties ≡ true → 0 < get_or (less (added t schema k) (common t schema k)) c 0 → ⊥
  no_increase two e c h gained =
      never
      (sym (restrict_is_empty u.properties (less (deleted t schema k) (common t schema k)) e)
      ∙ (two.sides _ (own_move u (increasing_rule t schema k c) (own_increasing e c h gained))).0)

  -- the rest of the parameter's deletes and adds, over the space's properties
  abbrev own_deleted : Bag
  own_deleted = restrict u.properties (deleted t schema k)

  abbrev own_added : Bag
  own_added = restrict u.properties (added t schema k)

  -- it is a move of the space, or has none of its properties
  rest_move : TwoSided u
      → Memᴰ (rest own_deleted own_added) (moves_of u)
      ⊎ ((is_empty (less own_deleted (meet own_deleted own_added)) ≡ true)
      × (is_empty (less own_added (meet own_deleted own_added)) ≡ true))
  rest_move two =
      by_test (is_empty (less (deleted t schema k) (common t schema k)))
      (λ e.
      inr (
        subst (λ (b : Bag). is_empty b ≡ true) over_start (restrict_is_empty u.properties (less (deleted t schema k) (common t schema k)) e),
        subst (λ (b : Bag). is_empty b ≡ true) over_finish
            (nothing_over (less (added t schema k) (common t schema k)) (no_increase two e)),
      ))
      (λ e.
      by_test (any (λ c. member c u.properties) (moved (rest_rule t schema k)))
      (λ some.
      let r = any_at (λ c. member c u.properties) (moved (rest_rule t schema k)) some in
      inl
      (subst (λ (b : Bag). Memᴰ (record { start = less own_deleted (meet own_deleted own_added); finish = b }) (moves_of u)) over_finish
      (subst
      (λ (b : Bag).
      Memᴰ (record { start = b; finish = restrict u.properties (less (added t schema k) (common t schema k)) }) (moves_of u))
      over_start
      (own_move u (rest_rule t schema k) (own_rest e r.0 r.1 r.2)))))
      (λ none.
      let never_moved : (c : ℕ) → Memᴰ c (moved (rest_rule t schema k)) → member c u.properties ≡ false =
      any_none (λ c. member c u.properties) (moved (rest_rule t schema k)) none in
      inr (
        subst (λ (b : Bag). is_empty b ≡ true) over_start
            (nothing_over (less (deleted t schema k) (common t schema k))
            (λ c h x. never (sym h ∙ never_moved c (moved_by_start c h x)))),
        subst (λ (b : Bag). is_empty b ≡ true) over_finish
            (nothing_over (less (added t schema k) (common t schema k))
            (λ c h x. never (sym h ∙ never_moved c (moved_by_finish c h x)))),
      )))

  -- the object's next condition is on the same own list
  stays_on_list : Extended t u → (own : OnOwnList t u s o)
      → Memᴰ (restrict u.properties now) (get_or (extension_of t u).lists own.place [])
  unfolding condition
  stays_on_list extended own =
      let ps = u.properties in
      let was = bag_of (properties t) s o in
      let lw = length_bag_of t s o in
      let ld = length_bag_of t schema.deletes k in
      let la = length_bag_of t schema.adds k in
      let left = length_less (length (properties t)) was (deleted t schema k) lw ld in
      let joined = length_plus (length (properties t)) (less was (deleted t schema k)) (added t schema k) left la in
      let list =
      own_list_at (moves_of u) (initial_conditions t u) (initial_few part (checked t ok).few_objects) extended.ended own.place
      own.place_known in
      let over_left : restrict ps (less was (deleted t schema k)) ≡ less (restrict ps was) own_deleted =
      restrict_less ps was (deleted t schema k) (lw ∙ sym ld) in
      let becomes : restrict ps now ≡ less (plus (less (restrict ps was) own_deleted) own_added) (restrict ps effect.absorbed) =
      ap (restrict ps) effect.becomes
      ∙ restrict_less ps (plus (less was (deleted t schema k)) (added t schema k)) effect.absorbed
      (joined ∙ sym effect.absorbed_length)
      ∙ ap (λ (b : Bag). less b (restrict ps effect.absorbed))
      (restrict_plus ps (less was (deleted t schema k)) (added t schema k) (left ∙ sym la)
      ∙ ap (λ (b : Bag). plus b own_added) over_left) in
      let within : contains (meet own_added (less (restrict ps was) own_deleted)) (restrict ps effect.absorbed) ≡ true =
      subst (λ (b : Bag). contains b (restrict ps effect.absorbed) ≡ true)
      (restrict_meet ps (added t schema k) (less was (deleted t schema k)) (la ∙ sym left) ∙ ap (meet own_added) over_left)
      (restrict_contains ps (meet (added t schema k) (less was (deleted t schema k))) effect.absorbed effect.absorbed_within) in
      subst (λ (b : Bag). Memᴰ b (get_or (extension_of t u).lists own.place [])) (sym becomes)
      (chain (moves_of u) (get_or (extension_of t u).lists own.place []) list.closed (length ps)
      (restrict ps was) own_deleted own_added (restrict ps effect.absorbed)
      (length_restrict ps was) (length_restrict ps (deleted t schema k)) (length_restrict ps (added t schema k))
      (length_restrict ps effect.absorbed)
      own.on_list
      (restrict_contains ps was (deleted t schema k) effect.deletes_there)
      within
      exchange_move
      (rest_move extended.two_sided))

-- ---- every allowed action keeps the invariant

-- the parameter whose object this is
record Parameter (t : Task) (a : Action) (o : ℕ) : Type 0 where
  number : ℕ
  number_known : number < length a.objects
  object_is : get_or a.objects number 0 ≡ o

parameter_of_lem : (t : Task) (a : Action) (o : ℕ) → member o a.objects ≡ true → Parameter t a o
parameter_of_lem t a o h =
    let r = place_of a.objects o 0 (member_at o a.objects h) in
    record { number = r.0; number_known = r.1; object_is = r.2 }

schema_named : (t : Task) (n : ℕ) → n < length t.schemas → Memᴰ (schema_at t n) t.schemas
unfolding schema_at
schema_named t n h = mem_get_d t.schemas n (record { parameters = 0; preconditions = []; deletes = []; adds = [] }) h

module _ (t : Task) (ok : check_task t ≡ accepted tt) (s : State) (a : Action) (valid : Valid t s) (inv : Invariant t s)
    (allowed : Allowed t s a) where
  next : State
  next = successor (schema_at t a.schema) a.objects s

  action : CheckedAction t a
  action = checked_action t a allowed.named

  module _ (u : Space) where
    -- an object that the action does not name keeps its condition
    same_condition : (o : ℕ) → member o a.objects ≡ false → condition t u.properties next o ≡ condition t u.properties s o
    unfolding condition next
    same_condition o h = ap (restrict u.properties) (effect_elsewhere t s a ok valid allowed o h)

    module _ (k : ℕ) (h : k < length a.objects) where
      object : ℕ
      object = get_or a.objects k 0

      effect : Effect (length (properties t)) (needed t (schema_at t a.schema) k) (deleted t (schema_at t a.schema) k)
          (added t (schema_at t a.schema) k) (bag_of (properties t) s object) (bag_of (properties t) next object)
      unfolding next object
      effect = effect_on_parameter t s a ok valid allowed k h

      below : k < (schema_at t a.schema).parameters
      below = subst (λ (n : ℕ). k < n) action.one_for_each h

      known_object : object < t.objects
      unfolding object
      known_object =
          ltb-true (get_or a.objects k 0) t.objects
          (all_at (λ o. ltb o t.objects) a.objects action.objects_known (get_or a.objects k 0) (mem_get_d a.objects k 0 h))

      own_list_kept : Extended t u → member object u.members ≡ true → OnOwnList t u next object
      unfolding condition
      own_list_kept extended inside =
          let own = inv.on_own_list u extended object inside in
          record {
            place = own.place;
            place_known = own.place_known;
            initial_is = own.initial_is;
            on_list =
                stays_on_list t s ok inv (schema_at t a.schema) k (schema_named t a.schema action.schema_known) below object known_object
                (bag_of (properties t) next object) effect u extended.part extended own;
          }

      outside_kept : Enclosed t u → member object u.members ≡ false → is_empty (condition t u.properties next object) ≡ true
      unfolding condition
      outside_kept enclosed out =
          nothing_over t s ok inv (schema_at t a.schema) k (schema_named t a.schema action.schema_known) below object known_object
          (bag_of (properties t) next object) effect u enclosed.part (bag_of (properties t) next object)
          (λ c h x.
          let none =
          stays_outside t s ok inv (schema_at t a.schema) k (schema_named t a.schema action.schema_known) below object known_object
          (bag_of (properties t) next object) effect u enclosed.part enclosed out c h in
          omega arith)

  kept_on_list : (u : Space) → Extended t u → (o : ℕ) → member o u.members ≡ true → OnOwnList t u next o
  unfolding object
  kept_on_list u extended o inside =
      by_test (member o a.objects)
      (λ named.
      let p = parameter_of_lem t a o named in
      subst (OnOwnList t u next) p.object_is
      (own_list_kept u p.number p.number_known extended
      (subst (λ (x : ℕ). member x u.members ≡ true) (sym p.object_is) inside)))
      (λ elsewhere.
      let own = inv.on_own_list u extended o inside in
      record {
        place = own.place;
        place_known = own.place_known;
        initial_is = own.initial_is;
        on_list =
            subst (λ (b : Bag). Memᴰ b (get_or (extension_of t u).lists own.place [])) (sym (same_condition u o elsewhere))
            own.on_list;
      })

  kept_outside : (u : Space) → Enclosed t u → (o : ℕ) → member o u.members ≡ false
      → is_empty (condition t u.properties next o) ≡ true
  unfolding object
  kept_outside u enclosed o out =
      by_test (member o a.objects)
      (λ named.
      let p = parameter_of_lem t a o named in
      subst (λ (x : ℕ). is_empty (condition t u.properties next x) ≡ true) p.object_is
      (outside_kept u p.number p.number_known enclosed
      (subst (λ (x : ℕ). member x u.members ≡ false) (sym p.object_is) out)))
      (λ elsewhere. ap is_empty (same_condition u o elsewhere) ∙ inv.outside u enclosed o out)

  kept_under_ceiling : (p : ℕ) → Capped t p → of_predicate p next ≤ of_predicate p t.facts
  unfolding next
  kept_under_ceiling p capped =
      let change = effect_on_predicate t s a ok valid allowed p in
      let fewer =
      leb-true (of_predicate p (schema_at t a.schema).adds) (of_predicate p (schema_at t a.schema).deletes)
      (all_at (λ x. leb (of_predicate p x.adds) (of_predicate p x.deletes)) t.schemas capped (schema_at t a.schema)
      (schema_named t a.schema action.schema_known)) in
      let before = inv.under_ceiling p capped in
      omega arith

  pub invariant_kept : Invariant t (successor (schema_at t a.schema) a.objects s)
  unfolding next
  invariant_kept = record { on_own_list = kept_on_list; outside = kept_outside; under_ceiling = kept_under_ceiling }
