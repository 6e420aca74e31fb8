-- The bindings of one schema, by levels: what a search at a level says of all bindings, or of those after a given one.
use Prim.Native.Nat.{ℕ, suc, ◌+◌, ◌-◌, ◌*◌, ◌≤◌, ◌<◌, zero-le}
use native.Mathlib.Nat.{mul-le-mul}
use native.Mathlib.Omega.{arith}
use mathlib.Core.Path.{◌≡◌, refl, sym, ap, ◌∙◌, subst}
use mathlib.Core.Bool.{Bool, true, false}
use mathlib.Core.List.{List, ◌++◌}
use lib.Dec.{ltb}
use lib.ListN.{length, get_or, take, drop, replicate, length-replicate, get_or-replicate}
use lib.Seq.{take_at, drop_at, get_or-take, length-take-le}
use borrow.Author.Tests.{ltb-true, lt-ltb}
use Rattle.std.specs.Prelude.{Result, Ok, Err, is_ok, Some, None}
use Rattle.std.proofs.lemmas.Option.{none-some, same_Some}
use Rattle.laws.specs.Lists.{before, padded}
use Rattle.laws.proofs.Tests.{never}
use Rattle.laws.proofs.Padded.{length_padded}
use Rattle.model.proofs.Bindings.{FullBinding, full_intro, AfterAt, NoneAt, NoneFrom, none_from_next, none_from_all, found_at}
use Rattle.model.proofs.Checked.{checked_schema}
use Rattle.card.specs.Represents.{schema_of}
use Rattle.card.specs.declared.Schema.{Schema}
use Rattle.state.proofs.Writing.{drop_zeros}
use Rattle.masks.specs.Sets.{is_member, all_below}
use Rattle.masks.proofs.Operations.{none_member, all_member}
use Rattle.open_actions.specs.Masked.{Begins, StartsFrom}
use Rattle.open_actions.specs.Bindings.{Query, query_of, query_in, open_binding, Full, Searchable, SearchOutcome}
use Rattle.open_actions.specs.Schemas.{NoneOpen, FirstOpen, FitTested, MayFit, Picks, BindingPicked}
use Rattle.open_actions.specs.declared.query.Query.{Query as Asked}
use Rattle.open_actions.proofs.Searching.{full_binding, binding_full, same_length}

-- parameters times objects are few enough to be told
pub product_fits : {n m : ℕ} → n ≤ 6 → m ≤ 64 → n * m ≤ 384
product_fits h k = mul-le-mul h k

-- ---- what a search asks

module _ {asked : Asked} {level : ℕ} {x : List ℕ} (full : Full (query_in asked) x) (within : level ≤ length x) where
  -- with no parameter bound
  pub alone_ready : Searchable asked false 0 level x
  alone_ready = record {
    full = full;
    bound_below = record { each = λ p m. never (sym m ∙ none_member p) };
    all_bound = λ e. never (sym e);
    within = within;
  }

  -- with every parameter below the level bound
  pub exact_ready : {bound : ℕ} → bound ≡ all_below level → Searchable asked true bound level x
  exact_ready {bound} e = record {
    full = full;
    bound_below = record { each = λ p m. ltb-true p level (sym (is_below p) ∙ m) };
    all_bound = λ sure. record { each = λ p h. is_below p ∙ lt-ltb p level h };
    within = within;
  }
    where
      is_below : (p : ℕ) → is_member bound p ≡ ltb p level
      is_below p = ap (λ (m : ℕ). is_member m p) e ∙ all_member level p

-- ---- all bindings

-- every binding has, at a level, an object from 0 on
reaches_any : {level : ℕ} {y : List ℕ} → StartsFrom level 0 y
reaches_any = record { from_on = λ h. zero-le }

-- what a search says by whether it found something
stuck_or_found : {P : Type 0} (r : Result (Unit {0}) ℕ) → is_ok r ≡ false → ((culprits : ℕ) → r ≡ Err culprits → P) → P
stuck_or_found (Ok u) stopped use_it = never stopped
stuck_or_found (Err c) stopped use_it = use_it c refl

found_ok : (r : Result (Unit {0}) ℕ) → is_ok r ≡ true → r ≡ Ok tt
found_ok (Ok u) finds = refl
found_ok (Err c) finds = never (sym finds)

module _ {q : Query} {exact : Bool} {level : ℕ} {x after : List ℕ} {r : Result (Unit {0}) ℕ} (outcome : SearchOutcome q exact 0 level 0 x after r) where
  -- a search with no parameter bound that is stuck rules out every binding
  pub stuck_alone : is_ok r ≡ false → NoneOpen q (λ y. true)
  stuck_alone stopped y f e =
      stuck_or_found r stopped (λ c is_c.
      let stuck = outcome.stuck c is_c in
      stuck.none y f (record { same = λ p m. never (sym (stuck.inside.each p m) ∙ none_member p) }) reaches_any)

  pub fits_not : {b : Bool} → is_ok r ≡ false → FitTested q after b
  fits_not stopped = record { full = outcome.full; none = λ e. stuck_alone stopped }

pub none_after : {q : Query} {given : List ℕ} {b : Bool} → Full q given → MayFit q b → b ≡ false → Picks q (before given) given false
none_after full fits stopped =
    record { full = full; found = λ yes_found. never (sym yes_found); none = λ e y f after. fits.none stopped y f refl }

-- a search from the first parameter on finds the first open binding of all
pub picks_first : {q : Query} {x after : List ℕ} {r : Result (Unit {0}) ℕ} {b : Bool} → SearchOutcome q true 0 0 0 x after r → b ≡ is_ok r
    → Picks q (λ y. true) after b
picks_first {r = r} outcome e = record {
  full = outcome.full;
  found = λ finds.
      let first = outcome.found (found_ok r (sym e ∙ finds)) refl in
      record {
        full = full_binding outcome.full;
        looked_at = refl;
        passes = first.open_now;
        earlier_fail = λ y f e earlier. first.none_before y (binding_full f) (record { same = λ p h. absurd (omega arith) }) reaches_any earlier;
      };
  none = λ stopped. stuck_alone outcome (sym e ∙ stopped);
}

-- ---- the bindings after a given one

-- The given objects are kept below a level, and no binding is open that stands after the given one by the level or a later parameter.
pub record Resuming (q : Query) (given now : List ℕ) (level : ℕ) : Type 0 where
  pub full_given_lem : Full q given
  pub full : Full q now
  pub begins : Begins level given now
  pub within : level ≤ length given
  pub none_from : NoneFrom q.known q.schema.parameters (open_binding q) given level

pub resume_end : {q : Query} {given now : List ℕ} {level : ℕ} → level ≡ 0 → Resuming q given now level → Picks q (before given) now false
resume_end {q} {given} {now} {level} e resuming = record {
  full = resuming.full;
  found = λ stopped. never (sym stopped);
  none = λ stopped y f after.
      none_from_all (full_binding resuming.full_given_lem) (open_binding q)
      (subst (NoneFrom q.known q.schema.parameters (open_binding q) given) e resuming.none_from) y (full_binding f) after;
}

-- one level down: the objects below it are bound, and a larger one than the given one is looked for at it
module _ {q : Query} {given now : List ℕ} {above : ℕ} (positive : 0 < above) (resuming : Resuming q given now above)
    {bound : ℕ} (bound_is : bound ≡ all_below (above - 1))
    {after : List ℕ} {r : Result (Unit {0}) ℕ} (outcome : SearchOutcome q true bound (above - 1) (get_or now (above - 1) 0 + 1) now after r) where
  abbrev level : ℕ
  level = above - 1

  abbrev from : ℕ
  from = get_or now level 0 + 1

  inside : level < length given
  inside = let h = resuming.within in omega arith

  kept : (p : ℕ) → p < above → get_or now p 0 ≡ get_or given p 0
  kept p h = resuming.begins.same p h

  later : NoneFrom q.known q.schema.parameters (open_binding q) given (suc level)
  later =
      subst (NoneFrom q.known q.schema.parameters (open_binding q) given) (let e : above ≡ suc (above - 1) = omega arith in e)
      resuming.none_from

  below_level : (p : ℕ) → is_member bound p ≡ true → p < level
  below_level p m = ltb-true p level (sym (ap (λ (b : ℕ). is_member b p) bound_is ∙ all_member level p) ∙ m)

  -- a binding after the given one by this level is among those that the search looks at
  starts_like : {y : List ℕ} → AfterAt given level y → Begins level now y
  starts_like after_given_lem = record { same = λ p h. after_given_lem.agrees p h ∙ sym (kept p (omega arith)) }

  looked_at : {y : List ℕ} → AfterAt given level y → StartsFrom level from y
  looked_at after_given_lem =
      record { from_on = λ h. let larger = after_given_lem.larger in let here = kept level (omega arith) in omega arith }

  pub resume_next : is_ok r ≡ false → Resuming q given after level
  resume_next stopped = record {
    full_given_lem = resuming.full_given_lem;
    full = outcome.full;
    begins = record { same = λ p h. outcome.begins.same p h ∙ kept p (omega arith) };
    within = let h = inside in omega arith;
    none_from = none_from_next (full_binding resuming.full_given_lem) (open_binding q) level later here;
  }
    where
      here : NoneAt q.known q.schema.parameters (open_binding q) given level
      here y f after_given_lem =
          stuck_or_found r stopped (λ c is_c.
          let stuck = outcome.stuck c is_c in
          stuck.none y (binding_full f)
          (record { same = λ p m. (starts_like after_given_lem).same p (below_level p (stuck.inside.each p m)) }) (looked_at after_given_lem))

  pub resume_found : is_ok r ≡ true → Picks q (before given) after true
  resume_found yes_found = record {
    full = outcome.full;
    found = λ e.
        found_at (full_binding resuming.full_given_lem) (open_binding q) level
        (subst (λ (n : ℕ). level < n) resuming.full_given_lem.one_for_each inside) later after (full_binding outcome.full)
        (record {
          agrees = λ p h. outcome.begins.same p h ∙ kept p (omega arith);
          larger =
              let long = subst (λ (n : ℕ). level < n) (same_length resuming.full_given_lem outcome.full) inside in
              let reached = (outcome.found (found_ok r yes_found) refl).reaches.from_on long in
              let here = kept level (omega arith) in
              omega arith;
        })
        (outcome.found (found_ok r yes_found) refl).open_now
        (λ y f after_given_lem earlier.
        (outcome.found (found_ok r yes_found) refl).none_before y (binding_full f) (starts_like after_given_lem) (looked_at after_given_lem) earlier);
    none = λ e. never e;
  }

-- ---- a binding at the front of an array

-- zeros are a full binding
zeros_full : (m n : ℕ) → 1 ≤ m → n ≤ 6 → FullBinding m n (take n (replicate 6 0))
zeros_full m n some few =
    record { one_for_each = size; objects_known = (full_intro m (take n (replicate 6 0)) below).objects_known }
  where
    size : length (take {A = ℕ} n (replicate 6 0)) ≡ n
    size = length-take-le n (replicate 6 0) (let six = length-replicate {A = ℕ} 6 0 in omega arith)

    below : (i : ℕ) → i < length (take {A = ℕ} n (replicate 6 0)) → get_or (take n (replicate 6 0)) i 0 < m
    below i h =
        let long = size in
        let is_zero : ◌≡◌ {A = ℕ} (get_or (take n (replicate 6 0)) i 0) 0 =
        get_or-take n (replicate 6 0) i 0 (omega arith) ∙ get_or-replicate 6 i 0 0 (omega arith) in
        omega arith

-- a binding put in front of zeros, in place of another
chooses_front : {q : Query} {among : List ℕ → Bool} {after : List ℕ} {r : Bool} (array : List ℕ)
    → drop q.schema.parameters array ≡ replicate (6 - q.schema.parameters) 0 → Picks q among after r → r ≡ true
    → BindingPicked q among (Some (after ++ drop q.schema.parameters array))
unfolding padded
chooses_front {q} {among} {after} array zeros picks finds =
    let front = take_at after (drop q.schema.parameters array) q.schema.parameters picks.full.one_for_each in
    let whole : List ℕ = after ++ drop q.schema.parameters array in
    record {
      rest_zero = λ objects is.
          subst (λ (l : List ℕ). l ≡ padded 6 0 (take q.schema.parameters l)) (same_Some whole objects is)
          (ap (λ (l : List ℕ). after ++ l) zeros
          ∙ ap (λ (n : ℕ). after ++ replicate (6 - n) 0) (sym picks.full.one_for_each)
          ∙ ap (padded 6 0) (sym front));
      found = λ objects is.
          subst (λ (l : List ℕ). FirstOpen q among (take q.schema.parameters l)) (same_Some whole objects is)
          (subst (FirstOpen q among) (sym front) (picks.found finds));
      none = λ is. absurd (none-some whole (sym is));
    }

pub chooses_none : {q : Query} {among : List ℕ → Bool} {after : List ℕ} {r : Bool} → Picks q among after r → r ≡ false → BindingPicked q among None
chooses_none picks stops = record {
  rest_zero = λ objects is. absurd (none-some objects is);
  found = λ objects is. absurd (none-some objects is);
  none = λ is. picks.none stops;
}

module _ (asked : Asked) where
  abbrev query : Query
  query = query_in asked

  abbrev schema : Schema
  schema = asked.schema

  pub few_parameters : schema.parameters ≤ 6
  unfolding schema_of
  few_parameters = (checked_schema asked.arities.now (schema_of asked.arities.now schema) asked.ready.schema_kept.checks).few_parameters

  pub zeros_size : length (take {A = ℕ} schema.parameters (replicate 6 0)) ≡ schema.parameters
  zeros_size = (zeros_full asked.known schema.parameters asked.ready.some_object few_parameters).one_for_each

  pub zeros_ready : Full query (take schema.parameters (replicate 6 0))
  unfolding query_in query_of schema_of
  zeros_ready = binding_full (zeros_full asked.known schema.parameters asked.ready.some_object few_parameters)

  pub first_chosen : {after : List ℕ} {r : Bool} → Picks query (λ y. true) after r → r ≡ true
      → BindingPicked query (λ y. true) (Some (after ++ drop schema.parameters (replicate 6 0)))
  unfolding query_in query_of schema_of
  first_chosen picks finds = chooses_front (replicate 6 0) (drop_zeros schema.parameters 6) picks finds

-- the same after a given binding, which is at the front of the array to begin with
module _ (asked : Asked) {given : List ℕ} (bound : Full (query_in asked) given) where
  pub few_given : length given ≤ 6
  unfolding query_in query_of schema_of
  few_given = let few = few_parameters asked in let same : length given ≡ asked.schema.parameters = bound.one_for_each in omega arith

  module _ {array : List ℕ} (filled : array ≡ padded 6 0 given) where
    front_given : take asked.schema.parameters array ≡ given
    unfolding query_in query_of schema_of padded
    front_given = ap (take asked.schema.parameters) filled ∙ take_at given (replicate (6 - length given) 0) asked.schema.parameters bound.one_for_each

    pub front_inside : asked.schema.parameters ≤ length array
    front_inside =
        let few = few_parameters asked in
        let size = ap length filled ∙ length_padded 6 0 given few_given in
        omega arith

    pub front_size : length (take asked.schema.parameters array) ≡ asked.schema.parameters
    unfolding query_in query_of schema_of
    front_size = ap length front_given ∙ bound.one_for_each

    pub given_ready : Full (query_in asked) (take asked.schema.parameters array)
    given_ready = subst (Full (query_in asked)) (sym front_given) bound

    pub next_chosen : {after : List ℕ} {r : Bool} → Picks (query_in asked) (before (take asked.schema.parameters array)) after r
        → r ≡ true → BindingPicked (query_in asked) (before given) (Some (after ++ drop asked.schema.parameters array))
    unfolding query_in query_of schema_of padded
    next_chosen {after} {r} picks finds =
        let q = query_in asked in
        chooses_front array
        (ap (drop asked.schema.parameters) filled
        ∙ drop_at given (replicate (6 - length given) 0) asked.schema.parameters bound.one_for_each
        ∙ ap (λ (n : ℕ). replicate (6 - n) 0) bound.one_for_each)
        (subst (λ (l : List ℕ). Picks q (before l) after r) front_given picks) finds

    pub next_none : {after : List ℕ} {r : Bool} → Picks (query_in asked) (before (take asked.schema.parameters array)) after r
        → r ≡ false → BindingPicked (query_in asked) (before given) None
    next_none {after} {r} picks =
        chooses_none (subst (λ (l : List ℕ). Picks (query_in asked) (before l) after r) front_given picks)
