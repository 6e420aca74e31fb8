-- The effect of an action: on the bag of the object of each parameter, on any other object's bag, and on the number of a predicate's facts.
use Prim.Native.Nat.{ℕ, ◌+◌, ◌-◌, min, ◌≤◌, ◌<◌}
use native.Mathlib.Omega.{arith}
use mathlib.Core.Path.{◌≡◌, sym, ap, ◌∙◌, subst}
use mathlib.Core.Bool.{Bool, true, false, not}
use mathlib.Core.List.Memᴰ
use mathlib.Core.List.{List, map, Memᴰ}
use mathlib.Core.Option.{none}
use lib.Dec.{eqb, ltb}
use lib.ListN.{length, get_or, length-map}
use Rattle.laws.specs.Lists.{all, keep, count, member, distinct}
use Rattle.laws.specs.Bags.{Bag, plus, less, meet, contains}
use Rattle.laws.proofs.Lists.{all_at, keep_at}
use Rattle.laws.proofs.Counting.{NoRepeat, count_within, count_split, count_removed, count_joined, count_map, no_repeat_keep, less_map, plus_map}
use Rattle.laws.proofs.Counting.{meet_map, contains_map}
use Rattle.laws.proofs.Mapped.{map_ext}
use Rattle.model.specs.Answer.{accepted}
use Rattle.model.specs.Card.{Atom, Schema, Task, has}
use Rattle.model.specs.Writer.{check_task}
use Rattle.model.specs.Strips.{State, Action, ascending, ground, applicable, taken_out, put_in, successor, schema_at}
use Rattle.model.specs.Transitions.{Property, properties, occurs, bag_of}
use Rattle.model.specs.Lines.{of_predicate}
use Rattle.model.specs.Truth.{Allowed}
use Rattle.model.proofs.Valid.{Valid}
use Rattle.model.proofs.Putting.{put_all, has_picks, put_all_ascending, put_all_stays, put_all_there, put_all_at}
use Rattle.model.proofs.Order.{ascending_no_repeat, known_arguments}
use Rattle.model.proofs.Binding.{bounded, ground_no_repeat, count_bound, count_elsewhere}
use Rattle.model.proofs.Checked.{CheckedSchema, checked, CheckedList, schema_at_right, checked_action}
use Rattle.model.proofs.States.{keep_ascending}

-- Some atoms of a schema with an action's objects: every parameter has an object, and the facts they become differ.
pub record Grounded (objects : List ℕ) (atoms : List Atom) : Type 0 where
  pub bound : (a : Atom) → Memᴰ a atoms → bounded objects a.arguments ≡ true
  pub once : NoRepeat (map (ground objects) atoms)

-- An action that a state allows, as its effect needs it: the facts of each list differ, and the preconditions and deletes are in the state.
pub record Ready (schema : Schema) (objects : List ℕ) (s : State) : Type 0 where
  pub different : distinct objects ≡ true
  pub in_order : ascending none s ≡ true
  pub preconditions : Grounded objects schema.preconditions
  pub deletes : Grounded objects schema.deletes
  pub adds : Grounded objects schema.adds
  pub preconditions_hold : (f : Atom) → Memᴰ f (map (ground objects) schema.preconditions) → Memᴰ f s
  pub deletes_hold : (f : Atom) → Memᴰ f (map (ground objects) schema.deletes) → Memᴰ f s

-- a list of a schema that passed the checks, with one object for each parameter, all different
list_grounded : {arities : List ℕ} {parameters : ℕ} {test : Atom → Bool} {atoms : List Atom} → CheckedList arities parameters test atoms
    → (objects : List ℕ) → length objects ≡ parameters → distinct objects ≡ true → Grounded objects atoms
list_grounded {arities} {parameters} {test} {atoms} checked objects complete different =
    record { bound = within; once = ground_no_repeat objects different atoms within (ascending_no_repeat none atoms checked.in_order) }
  where
    within : (a : Atom) → Memᴰ a atoms → bounded objects a.arguments ≡ true
    within a m =
        subst (λ (n : ℕ). all (λ x. ltb x n) a.arguments ≡ true) (sym complete)
        (known_arguments arities parameters a (all_at _ atoms checked.atoms_known a m))

-- a schema that passed the checks, with one object for each parameter, all different, whose preconditions are in the state
pub checked_ready : {arities : List ℕ} {schema : Schema} → CheckedSchema arities schema → (objects : List ℕ) (s : State)
    → ascending none s ≡ true → length objects ≡ schema.parameters → distinct objects ≡ true → applicable schema objects s ≡ true
    → Ready schema objects s
unfolding applicable
checked_ready {arities} {schema} lists objects s in_order complete different holds = record {
  different = different;
  in_order = in_order;
  preconditions = list_grounded lists.preconditions_right objects complete different;
  deletes = list_grounded lists.deletes_right objects complete different;
  adds = list_grounded lists.adds_right objects complete different;
  preconditions_hold = hold;
  deletes_hold = λ f m.
      let r = Memᴰ.of_map (ground objects) schema.deletes m in
      let among = all_at _ schema.deletes lists.deletes_right.atoms_pass r.0 r.1 in
      subst (λ (g : Atom). Memᴰ g s) r.2 (hold _ (Memᴰ.map (ground objects) ((has_picks schema.preconditions).picked r.0 among)));
}
  where
    hold : (f : Atom) → Memᴰ f (map (ground objects) schema.preconditions) → Memᴰ f s
    hold f m = (has_picks s).picked f (all_at (has s) _ holds f m)

-- an action that a valid state of an accepted task allows
pub allowed_ready : (t : Task) (s : State) (a : Action) → check_task t ≡ accepted tt → Valid t s → Allowed t s a
    → Ready (schema_at t a.schema) a.objects s
allowed_ready t s a ok valid allowed =
    let named = checked_action t a allowed.named in
    checked_ready (schema_at_right t (checked t ok) a.schema named.schema_known) a.objects s valid.in_order
    named.one_for_each named.all_different allowed.holds

-- the facts that a state keeps, and the adds that are among them: absorbed, since they are put in and change nothing
unfoldable pub kept_facts : Schema → List ℕ → State → State
kept_facts schema objects s = keep (λ f. not (has (taken_out schema objects) f)) s

unfoldable pub absorbed_facts : Schema → List ℕ → State → List Atom
absorbed_facts schema objects s = keep (has (kept_facts schema objects s)) (put_in schema objects)

-- What an action does to the number of facts that pass a test.
pub record Change (f : Atom → Bool) (schema : Schema) (objects : List ℕ) (s : State) : Type 0 where
  pub needed : count f (map (ground objects) schema.preconditions) ≤ count f s
  pub removed : count f (kept_facts schema objects s) + count f (map (ground objects) schema.deletes) ≡ count f s
  pub joined :
      count f (successor schema objects s) + count f (absorbed_facts schema objects s)
      ≡ count f (kept_facts schema objects s) + count f (map (ground objects) schema.adds)
  pub absorbed_added : count f (absorbed_facts schema objects s) ≤ count f (map (ground objects) schema.adds)
  pub absorbed_kept : count f (absorbed_facts schema objects s) ≤ count f (kept_facts schema objects s)

-- an action that is ready changes the numbers so
pub ready_change : (f : Atom → Bool) (schema : Schema) (objects : List ℕ) (s : State) → Ready schema objects s → Change f schema objects s
unfolding kept_facts absorbed_facts successor taken_out put_in
ready_change f schema objects s r =
    let gone : Atom → Bool = has (map (ground objects) schema.deletes) in
    let kept : State = keep (λ g. not (gone g)) s in
    let new : List Atom = map (ground objects) schema.adds in
    let kept_order = keep_ascending (λ g. not (gone g)) none s r.in_order in
    record {
      needed = count_within f (map (ground objects) schema.preconditions) s r.preconditions.once r.preconditions_hold;
      removed =
          count_removed f gone s (map (ground objects) schema.deletes) (has_picks (map (ground objects) schema.deletes))
          (ascending_no_repeat none s r.in_order) r.deletes.once r.deletes_hold;
      joined =
          count_joined f (has kept) kept new (put_all kept new) (has_picks kept)
          (ascending_no_repeat none kept kept_order) r.adds.once
          (ascending_no_repeat none (put_all kept new) (put_all_ascending kept new kept_order))
          (put_all_at kept new) (put_all_stays kept new) (put_all_there kept new);
      absorbed_added = omega (arith, count_split f (has kept) new);
      absorbed_kept =
          count_within f (keep (has kept) new) kept (no_repeat_keep (has kept) new r.adds.once)
          (λ g m. (has_picks kept).picked g (keep_at (has kept) new g m).1);
    }

-- The effect of an action on an object's bag, over some number of properties: from the bag before it and the bags P, D and A of a parameter
-- to the bag after it. The properties absorbed are those of adds that were there.
pub record Effect (size : ℕ) (p d a was now : Bag) : Type 0 where
  pub absorbed : Bag
  pub absorbed_length : length absorbed ≡ size
  pub preconditions_there : contains was p ≡ true
  pub deletes_there : contains was d ≡ true
  pub absorbed_within : contains (meet a (less was d)) absorbed ≡ true
  pub becomes : now ≡ less (plus (less was d) a) absorbed

-- the effect on bags from the effect on each count
effect_by_counts : {A : Type 0} (p d a was now absorbed : A → ℕ) (xs : List A)
    → ((x : A) → (p x ≤ was x) × (d x ≤ was x) × (absorbed x ≤ a x) × (absorbed x ≤ was x - d x)
    × (now x + absorbed x ≡ (was x - d x) + a x))
    → Effect (length xs) (map p xs) (map d xs) (map a xs) (map was xs) (map now xs)
effect_by_counts p d a was now absorbed xs h = record {
  absorbed = map absorbed xs;
  absorbed_length = length-map xs absorbed;
  preconditions_there = contains_map was p xs (λ x m. (h x).0);
  deletes_there = contains_map was d xs (λ x m. (h x).1);
  absorbed_within =
      ap (λ (b : Bag). contains (meet (map a xs) b) (map absorbed xs)) (less_map was d xs)
      ∙ ap (λ (b : Bag). contains b (map absorbed xs)) (meet_map a (λ x. was x - d x) xs)
      ∙ contains_map (λ x. min (a x) (was x - d x)) absorbed xs (λ x m. let e = h x in omega arith);
  becomes =
      map_ext now (λ x. was x - d x + a x - absorbed x) xs (λ x m. let e = h x in omega arith)
      ∙ sym (
      ap (λ (b : Bag). less (plus b (map a xs)) (map absorbed xs)) (less_map was d xs)
      ∙ ap (λ (b : Bag). less b (map absorbed xs)) (plus_map (λ x. was x - d x) a xs)
      ∙ less_map (λ x. was x - d x + a x) absorbed xs);
}

module _ (t : Task) (s : State) (a : Action) (ok : check_task t ≡ accepted tt) (valid : Valid t s) (allowed : Allowed t s a) where
  -- the object of a parameter: its preconditions' properties are there, deletes go, and adds come less those that were there
  pub effect_on_parameter : (k : ℕ) → k < length a.objects
      → Effect (length (properties t))
      (bag_of (properties t) (schema_at t a.schema).preconditions k)
      (bag_of (properties t) (schema_at t a.schema).deletes k)
      (bag_of (properties t) (schema_at t a.schema).adds k)
      (bag_of (properties t) s (get_or a.objects k 0))
      (bag_of (properties t) (successor (schema_at t a.schema) a.objects s) (get_or a.objects k 0))
  unfolding bag_of
  effect_on_parameter k h = effect_by_counts _ _ _ _ _ absorbed (properties t) counts
    where
      schema : Schema
      schema = schema_at t a.schema

      ready : Ready schema a.objects s
      ready = allowed_ready t s a ok valid allowed

      here : Property → Atom → Bool
      here c f = occurs (get_or a.objects k 0) f c

      absorbed : Property → ℕ
      absorbed c = count (here c) (absorbed_facts schema a.objects s)

      over : (c : Property) (atoms : List Atom) → Grounded a.objects atoms
          → count (here c) (map (ground a.objects) atoms) ≡ count (λ b. occurs k b c) atoms
      over c atoms g = count_bound a.objects ready.different k c atoms h g.bound

      counts : (c : Property)
          → (count (λ b. occurs k b c) schema.preconditions ≤ count (here c) s)
          × (count (λ b. occurs k b c) schema.deletes ≤ count (here c) s)
          × (absorbed c ≤ count (λ b. occurs k b c) schema.adds)
          × (absorbed c ≤ count (here c) s - count (λ b. occurs k b c) schema.deletes)
          × (count (here c) (successor schema a.objects s) + absorbed c
          ≡ (count (here c) s - count (λ b. occurs k b c) schema.deletes) + count (λ b. occurs k b c) schema.adds)
      counts c =
          let change = ready_change (here c) schema a.objects s ready in
          let p = over c schema.preconditions ready.preconditions in
          let d = over c schema.deletes ready.deletes in
          let n = over c schema.adds ready.adds in
          (omega arith, omega arith, omega arith, omega arith, omega arith)

  -- an object that the action does not name: nothing changes
  pub effect_elsewhere : (o : ℕ) → member o a.objects ≡ false
      → bag_of (properties t) (successor (schema_at t a.schema) a.objects s) o ≡ bag_of (properties t) s o
  unfolding bag_of
  effect_elsewhere o outside = map_ext _ _ (properties t) (λ c m.
      let ready = allowed_ready t s a ok valid allowed in
      let change = ready_change (λ f. occurs o f c) (schema_at t a.schema) a.objects s ready in
      let d = count_elsewhere a.objects o c (schema_at t a.schema).deletes outside ready.deletes.bound in
      let n = count_elsewhere a.objects o c (schema_at t a.schema).adds outside ready.adds.bound in
      omega arith)

  -- the number of a predicate's facts falls by its deletes and rises by at most its adds
  pub effect_on_predicate : (p : ℕ)
      → of_predicate p (successor (schema_at t a.schema) a.objects s) + of_predicate p (schema_at t a.schema).deletes
      ≤ of_predicate p s + of_predicate p (schema_at t a.schema).adds
  unfolding of_predicate ground
  effect_on_predicate p =
      let change = ready_change (λ f. eqb p f.predicate) (schema_at t a.schema) a.objects s (allowed_ready t s a ok valid allowed) in
      let d = count_map (λ f. eqb p f.predicate) (ground a.objects) (schema_at t a.schema).deletes in
      let n = count_map (λ f. eqb p f.predicate) (ground a.objects) (schema_at t a.schema).adds in
      omega arith
