-- Demand 3: after every history of presses on an accepted card, everything that its listing says is true.
--
-- listing_holds: for every run of bytes C that decode accepts, every buffer that the opening call accepts, and every list of press
-- calls on C (any schema number, any list of object numbers, each accepted or refused by any number), `Holds` of specs/Truth.antt is so
-- of the state in the buffer up to the count last answered.
use Prim.Native.Nat.{ℕ, ◌≤◌, ◌<◌}
use native.Mathlib.Nat.{le_trans}
use native.Mathlib.Omega.{arith}
use mathlib.Core.Path.{◌≡◌, refl, sym, ap, ap₂, ◌∙◌, subst}
use mathlib.Core.Bool.{Bool, true, false, cond, not, ◌&&◌}
use mathlib.Core.Logic.{⊎_elim}
use mathlib.Core.List.Memᴰ
use mathlib.Core.List.{List, [], ◌∷◌, map, foldl, Memᴰ}
use lib.Dec.{ltb, eqb}
use lib.ListN.{length, get_or}
use borrow.Author.Tests.{eqb-true, ltb-true}
use Rattle.laws.specs.Lists.{any, all, up_to, member}
use Rattle.laws.specs.Bags.{Bag, contains, strictly_contains, covers, support}
use Rattle.laws.proofs.Tests.{by_test, and_intro, not-true, to_not_true}
use Rattle.laws.proofs.Lists.{all_at, all_intro, any_intro, any_none, keep_intro, member_intro, mem_get_d, place_of, up_to_intro}
use Rattle.laws.proofs.Bags.{contains_at, support_at_lem}
use Rattle.laws.proofs.Comparisons.{covers_contains, least_below}
use Rattle.model.specs.Answer.{accepted}
use Rattle.model.specs.Card.{Task, decode}
use Rattle.model.specs.Writer.{check_task}
use Rattle.model.specs.Strips.{State, Action, schema_at}
use Rattle.model.specs.Transitions.{properties, bag_of}
use Rattle.model.specs.Spaces.{Kind, condition, spaces, has_member}
use Rattle.model.specs.Analysis.{Analysis}
use Rattle.model.specs.Lines.{Line, space, state, limit, membership, exclusion, total, ceiling, count_of, largest}
use Rattle.model.specs.Lines.{minimal, excluded, property_number, one_number, of_predicate}
use Rattle.model.specs.Calls.{Standing, initial, history, state_of}
use Rattle.model.specs.Truth.{◌is_on◌, ◌is_section_of◌, gives_conditions, states_of, count_in, Allowed, Holds}
use Rattle.model.proofs.Valid.{Valid}
use Rattle.model.proofs.Checked.{checked, checked_action}
use Rattle.model.proofs.History.{Events, presses, event_induction}
use Rattle.model.proofs.RoundTrip.{decode_checks}
use Rattle.model.proofs.Parts.{known_members, distinct_members}
use Rattle.model.proofs.ListedSpace.{extension_of}
use Rattle.model.proofs.ListedParts.{InListing, of_task, listing_enclosed, lists_own, with_condition}
use Rattle.model.proofs.JoinedLists.{joined_has}
use Rattle.model.proofs.ListsPerStart.{own_lists_length}
use Rattle.model.proofs.SpaceFacts.{space_of}
use Rattle.model.proofs.Sections.{OnSpace, on_space, on_limit, on_exclusion, on_nesting, total_from_property, on_ceiling, on_types, types_on, typed}
use Rattle.model.proofs.Sections.{state_on, membership_on}
use Rattle.model.proofs.Totals.{total_by_members, count_of_condition}
use Rattle.model.proofs.Effect.{effect_on_parameter}
use Rattle.model.proofs.ParameterRules.{length_bag_of}
use Rattle.model.proofs.Invariant.{Invariant, OnOwnList, invariant_initially, invariant_kept, initial_few, member_by_property, none_outside}

-- the largest number is at least each of them
largest_most : (ns : List ℕ) (n : ℕ) → Memᴰ n ns → n ≤ largest ns
unfolding largest
largest_most [] n m = absurd (Memᴰ.not-nil m)
largest_most (x ∷ ns) n m =
    ⊎_elim (λ e. omega arith) (λ k. let later = largest_most ns n k in omega arith) (Memᴰ.cases_cons m)

-- the one number of a list is each of its numbers
one_number_all : (ns : List ℕ) (n : ℕ) → Memᴰ n (one_number ns) → (x : ℕ) → Memᴰ x ns → x ≡ n
unfolding one_number
one_number_all [] n m x k = absurd (Memᴰ.not-nil k)
one_number_all (y ∷ ns) n m x k = go (all (eqb y) ns) refl m
  where
    go : (b : Bool) → all (eqb y) ns ≡ b → Memᴰ n (cond b (y ∷ []) []) → x ≡ n
    go true e j =
        let first : n ≡ y = Memᴰ.eq_of_singleton j in
        ⊎_elim (λ p. p ∙ sym first) (λ q. sym (eqb-true y x (all_at (eqb y) ns e x q)) ∙ sym first) (Memᴰ.cases_cons k)
    go false e j = absurd (Memᴰ.not-nil j)

module _ (t : Task) (ok : check_task t ≡ accepted tt) (s : State) (valid : Valid t s) (inv : Invariant t s) where
  -- a member of a space whose kind gives conditions, P or H, has one of them
  member_condition : (a : Analysis) → InListing t a → gives_conditions a.kind ≡ true → (o : ℕ) → member o a.space.members ≡ true
      → Memᴰ (condition t a.space.properties s o) a.conditions
  member_condition a l gives o k =
      let u = a.space in
      let own = lists_own l gives in
      let on = inv.on_own_list u own.extended o k in
      let few = initial_few own.extended.part (checked t ok).few_objects in
      let as_many = own_lists_length _ _ few own.extended.ended in
      let here = on.place_known in
      subst (λ (bags : List Bag). Memᴰ (condition t u.properties s o) bags) (sym own.conditions_are)
      (joined_has (extension_of t u).lists (get_or (extension_of t u).lists on.place []) (condition t u.properties s o)
      (mem_get_d (extension_of t u).lists on.place [] (omega arith))
      on.on_list)

  -- and an object outside a space, of whatever kind, has none of its properties
  none_of : (a : Analysis) → InListing t a → (o c : ℕ) → member o a.space.members ≡ false → member c a.space.properties ≡ true
      → count_in t s o c ≡ 0
  unfolding count_in
  none_of a l o c out k = none_outside t s inv a.space (listing_enclosed l) o out c k

  -- ---- each kind of line

  -- the space of an S line of a kind that gives conditions, and a member's condition among those of the section
  module _ (lines : List Line) (n : ℕ) (kind : Kind) (ps ms : List ℕ) (o : ℕ) (section : lines is_section_of t)
      (on : space n kind ps ms is_on lines) (gives : gives_conditions kind ≡ true) (k : member o ms ≡ true) where
    abbrev found : OnSpace t lines n kind ps ms
    found = on_space t lines n kind ps ms section on

    of_kind : gives_conditions found.of.kind ≡ true
    of_kind = sym (ap gives_conditions found.kind_is) ∙ gives

    conditions_are : states_of lines ≡ found.of.conditions
    conditions_are = found.of_listed.states_are of_kind

    condition_there : Memᴰ (condition t ps s o) found.of.conditions
    condition_there =
        subst (λ (x : List ℕ). Memᴰ (condition t x s o) found.of.conditions) (sym found.properties_are)
        (member_condition found.of found.of_listed.in_listing of_kind o (subst (λ (x : List ℕ). member o x ≡ true) found.members_are k))

    -- T: the condition of a member is listed
    state_is_listed : state (condition t ps s o) is_on lines
    state_is_listed =
        found.of_listed.has_line (state (condition t ps s o)) (state_on t n found.of (condition t ps s o) condition_there)

    -- D: below a member's condition there is a least one
    membership_holds : (i : ℕ) × (membership i is_on lines) × (contains (condition t ps s o) (get_or (states_of lines) i []) ≡ true)
    unfolding minimal
    membership_holds =
        let bags = found.of.conditions in
        let least = least_below bags (condition t ps s o) condition_there in
        let at = place_of bags least.0 [] least.1 in (
          at.0,
          found.of_listed.has_line (membership at.0)
              (membership_on t n found.of at.0
              (keep_intro (λ i. not (any (strictly_contains (get_or bags i [])) bags)) (up_to (length bags)) at.0 (up_to_intro (length bags) at.0 at.1)
              (to_not_true (any (strictly_contains (get_or bags at.0 [])) bags)
              (ap (λ (b : Bag). any (strictly_contains b) bags) at.2 ∙ least.3)))),
          subst (λ (x : List Bag). contains (condition t ps s o) (get_or x at.0 []) ≡ true) (sym conditions_are)
              (subst (λ (b : Bag). contains (condition t ps s o) b ≡ true) (sym at.2) least.2),
        )

    -- X: a listed condition does not contain both
    exclusion_holds : (i j : ℕ) → exclusion i j is_on lines
        → (contains (condition t ps s o) (get_or (states_of lines) i []) && contains (condition t ps s o) (get_or (states_of lines) j [])) ≡ false
    unfolding excluded
    exclusion_holds i j x =
        let bags = states_of lines in
        let b = condition t ps s o in
        let both : Bag → Bool = λ b. covers b (get_or bags i []) && covers b (get_or bags j []) in
        ap₂ (λ (p q : Bool). p && q) (sym (covers_contains b (get_or bags i []))) (sym (covers_contains b (get_or bags j [])))
        ∙ any_none both bags (not-true (any both bags) (on_exclusion t lines i j section x)) b
        (subst (Memᴰ b) (sym conditions_are) condition_there)

  none_outside_listed : (lines : List Line) (n : ℕ) (kind : Kind) (ps ms : List ℕ) (o c : ℕ) → lines is_section_of t
      → space n kind ps ms is_on lines → member o ms ≡ false → member c ps ≡ true → count_in t s o c ≡ 0
  none_outside_listed lines n kind ps ms o c section on out k =
      let r = on_space t lines n kind ps ms section on in
      none_of r.of r.of_listed.in_listing o c (subst (λ (x : List ℕ). member o x ≡ false) r.members_are out)
      (subst (λ (x : List ℕ). member c x ≡ true) r.properties_are k)

  -- M: no count is above the largest
  limit_holds : (lines : List Line) (c most o : ℕ) → lines is_section_of t → limit c most is_on lines → count_in t s o c ≤ most
  limit_holds lines c most o section on =
      let r = on_limit t lines c most section on in
      let a = r.of in
      let there = member_intro c a.space.properties r.in_space in
      by_test (member o a.space.members)
      (λ k.
      let gives = with_condition r.of_listed r.some_condition.0 r.some_condition.1 in
      let here = member_condition a r.of_listed gives o k in
      let counted = count_of_condition t a.space.properties s o c there in
      let bound =
      largest_most (map (count_of a.space.properties c) a.conditions) (count_of a.space.properties c (condition t a.space.properties s o))
      (Memᴰ.map (count_of a.space.properties c) here) in
      let most_is = r.largest_is in
      omega arith)
      (λ k. let none = none_of a r.of_listed o c k there in omega arith)

  -- F: members have one count each, the others none. It comes from a space of the task that is listed as P
  total_holds : (lines : List Line) (p n : ℕ) → lines is_section_of t → total p n is_on lines → of_predicate p s ≡ n
  unfolding gives_conditions
  total_holds lines p n section on =
      let from_property = total_from_property t lines p n section on in
      let r = from_property.0 in
      let a = r.of in
      let listed : InListing t a = of_task r.of_listed in
      let part = (listing_enclosed listed).part in
      let c = property_number t p r.position in
      total_by_members t p r.position r.each s a.space.members r.predicate_known r.position_known valid.facts_known
      (distinct_members part) (known_members part)
      (λ o k.
      sym (count_of_condition t a.space.properties s o c r.in_space)
      ∙ one_number_all (map (count_of a.space.properties c) a.conditions) r.each r.one_number_lem
      (count_of a.space.properties c (condition t a.space.properties s o))
      (Memᴰ.map (count_of a.space.properties c) (member_condition a listed (ap gives_conditions from_property.1) o k)))
      (λ o k. none_of a listed o c k r.in_space)
      ∙ sym r.amount

  -- C
  ceiling_holds : (lines : List Line) (p n : ℕ) → lines is_section_of t → ceiling p n is_on lines → of_predicate p s ≤ n
  ceiling_holds lines p n section on =
      let r = on_ceiling t lines p n section on in
      subst (λ (x : ℕ). of_predicate p s ≤ x) (sym r.1) (inv.under_ceiling p r.0)

  -- R: the object of a parameter has each precondition property
  types_hold : (n k : ℕ) (a : Action) → Allowed t s a → a.schema ≡ n → k < (schema_at t n).parameters
      → member (get_or a.objects k 0) (typed t n k) ≡ true
  unfolding typed has_member
  types_hold n k a allowed e below =
      let action = checked_action t a allowed.named in
      let o = get_or a.objects k 0 in
      let inside : k < length a.objects =
      subst (λ (x : ℕ). k < x) (sym (action.one_for_each ∙ ap (λ (x : ℕ). (schema_at t x).parameters) e)) below in
      let effect = effect_on_parameter t s a ok valid allowed k inside in
      let known : o < t.objects =
      ltb-true o t.objects (all_at (λ x. ltb x t.objects) a.objects action.objects_known o (mem_get_d a.objects k 0 inside)) in
      let needs = bag_of (properties t) (schema_at t a.schema).preconditions k in
      subst (λ (x : ℕ). member o (typed t x k) ≡ true) e
      (member_intro o (typed t a.schema k)
      (keep_intro
      (λ x. all (has_member (spaces t) x) (support needs))
      (up_to t.objects) o (up_to_intro t.objects o known)
      (all_intro (has_member (spaces t) o) (support needs)
      (λ c m.
      let support = support_at_lem needs c m in
      let there = contains_at (bag_of (properties t) s o) needs effect.preconditions_there c in
      let u = space_of t c (subst (λ (x : ℕ). c < x) (length_bag_of t (schema_at t a.schema).preconditions k) support.0) in
      any_intro (λ v. member c v.properties && member o v.members) (spaces t) u.0 u.1
      (and_intro (member c u.0.properties) (member o u.0.members) u.2
      (member_by_property t s inv u.0 u.1 o c u.2 (le_trans support.1 there)))))))

  holds : Holds t s
  holds =
      record {
        state_listed = state_is_listed;
        outside = none_outside_listed;
        limit_true = limit_holds;
        membership_true = membership_holds;
        exclusion_true = λ lines n kind ps ms o i j section on gives k x. exclusion_holds lines n kind ps ms o section on gives k i j x;
        nesting_true = on_nesting t;
        total_true = total_holds;
        ceiling_true = ceiling_holds;
        types_true =
            λ lines n k objects a section on allowed e.
            let r = on_types t lines n k objects section on in
            subst (λ (x : List ℕ). member (get_or a.objects k 0) x ≡ true) (sym r.0) (types_hold n k a allowed e r.1);
        types_listed =
            λ a k allowed h.
            let action = checked_action t a allowed.named in
            types_on t a.schema k action.schema_known (subst (λ (x : ℕ). k < x) action.one_for_each h);
      }

-- What holds after the opening call of an accepted card and any list of events, of whatever kind.
module _ (card buffer : List ℕ) (t : Task) (n : ℕ) (decoded : decode card ≡ accepted t) (opened : (initial card buffer).answer ≡ accepted n)
    {S E : Type 0} (kind : Events t S E) (start : S) (at_opening_lem : kind.standing start ≡ record { buffer = (initial card buffer).buffer; count = n })
    (events : List E) where
  ok : check_task t ≡ accepted tt
  ok = decode_checks card t decoded

  standing : Standing
  standing = kind.standing (foldl kind.happens start events)

  invariant_after : Invariant t (state_of t standing) × Valid t (state_of t standing)
  unfolding standing
  invariant_after =
      event_induction card buffer t n decoded ok opened
      (record { initially = invariant_initially t ok; kept = λ s a valid inv allowed. invariant_kept t ok s a valid inv allowed })
      kind start at_opening_lem events

  pub holds_after : Holds t (state_of t (kind.standing (foldl kind.happens start events)))
  unfolding standing
  holds_after = holds t ok (state_of t standing) invariant_after.1 invariant_after.0

  -- and the stronger fact that the condition of a member of a space listed as P or H is on the own list of its own initial condition
  pub on_own_list_after : (a : Analysis) → InListing t a → gives_conditions a.kind ≡ true → (o : ℕ) → member o a.space.members ≡ true
      → OnOwnList t a.space (state_of t (kind.standing (foldl kind.happens start events))) o
  unfolding standing
  on_own_list_after a l gives = invariant_after.0.on_own_list a.space (lists_own l gives).extended

-- Demand 3
pub listing_holds : (card buffer : List ℕ) (t : Task) (n : ℕ) → decode card ≡ accepted t → (initial card buffer).answer ≡ accepted n
    → (actions : List Action)
    → Holds t (state_of t (history card actions (record { buffer = (initial card buffer).buffer; count = n })))
unfolding history
listing_holds card buffer t n decoded opened actions = holds_after card buffer t n decoded opened (presses card t decoded) _ refl actions

-- and the stronger fact that the condition of a member of a space listed as P or H is on the own list of its own initial condition
pub own_list_holds : (card buffer : List ℕ) (t : Task) (n : ℕ) → decode card ≡ accepted t → (initial card buffer).answer ≡ accepted n
    → (actions : List Action) (a : Analysis) → InListing t a → gives_conditions a.kind ≡ true → (o : ℕ) → member o a.space.members ≡ true
    → OnOwnList t a.space (state_of t (history card actions (record { buffer = (initial card buffer).buffer; count = n }))) o
unfolding history
own_list_holds card buffer t n decoded opened actions = on_own_list_after card buffer t n decoded opened (presses card t decoded) _ refl actions
