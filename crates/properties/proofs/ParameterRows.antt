-- The bags of all parameters, written schema by schema into a table: how many there are, and the table after each schema.
use Prim.Native.Nat.{ℕ, suc, ◌+◌, ◌-◌, ◌*◌, ◌≤◌, ◌<◌}
use native.Mathlib.Numerals.{add-one}
use native.Mathlib.Omega.{arith}
use mathlib.Core.Path.{◌≡◌, refl, sym, ap, ◌∙◌, subst}
use mathlib.Core.List.Memᴰ
use mathlib.Core.List.{List, [], ◌∷◌, ◌++◌, map, flat_map, append_assoc, append-nil, Memᴰ}
use lib.ListN.{length, get_or, take, drop, length-map, length-append, length-drop, take-append-drop, get_or-append, length-take}
use lib.Seq.{take_all, take_at, drop_at, drop-drop, drop-length, drop-cons, take-suc, get_or-append-add}
use Rattle.laws.specs.Lists.{sum, up_to}
use Rattle.laws.specs.Bags.{Bag}
use Rattle.laws.proofs.Lists.{flat_map_at, flat_map_append, length_up_to, get_d_up_to}
use Rattle.laws.proofs.Columns.{length_flat_map, sum_at_most}
use Rattle.laws.proofs.Fronts.{sum_take_next, sum_take_all}
use Rattle.laws.proofs.Mapped.{get_d_map, take_map}
use Rattle.model.specs.Answer.{accepted}
use Rattle.model.specs.Card.{Atom, Schema, Task}
use Rattle.model.specs.Writer.{check_task}
use Rattle.model.specs.Transitions.{Property, bag_of}
use Rattle.model.proofs.Checked.{checked}
use Rattle.model.proofs.Grouping.{length_bag_of}
use Rattle.properties.specs.Tables.{stride, rows, rows_before}
use Rattle.properties.specs.Parameters.{most_parameters, parameters_in, bags_over, parameter_bags}
use Rattle.properties.specs.Entered.{rows_from, SchemaEntered}
use Rattle.properties.proofs.Rows.{Narrow, length_rows, rows_join}
use Rattle.properties.proofs.RowTables.{Sized, sized_narrow, rows_before_none, length_rows_before}

-- ---- rows from a place on

-- rows written into the part of a table from a place on, and the part put back
pub rows_put : (at : ℕ) (table : List ℕ) (bags : List Bag) {part : List ℕ} → part ≡ rows_before bags (take (length table - at) (drop at table))
    → take at table ++ (part ++ drop (length table - at) (drop at table)) ≡ rows_from at bags table
unfolding rows_from
rows_put at table bags {part} e =
    ap (λ (l : List ℕ). take at table ++ (part ++ l)) nothing
    ∙ ap (λ (l : List ℕ). take at table ++ l) (append-nil part ∙ e ∙ ap (rows_before bags) whole)
  where
    whole : take (length table - at) (drop at table) ≡ drop at table
    whole = take_all (length table - at) (drop at table) (omega (arith, length-drop at table))

    nothing : drop (length table - at) (drop at table) ≡ []
    nothing = ap (λ (n : ℕ). drop n (drop at table)) (sym (length-drop at table)) ∙ drop-length (drop at table)

-- the part has the places behind
pub part_room : (at size : ℕ) (table : List ℕ) → at + size ≤ length table → size ≤ length (take (length table - at) (drop at table))
part_room at size table h = omega (arith, length-take (length table - at) (drop at table), length-drop at table)

-- rows written behind rows
pub rows_after : (xs ys : List Bag) (before : List ℕ) → Narrow xs → rows_from (stride * length xs) ys (rows_before xs before) ≡ rows_before (xs ++ ys) before
unfolding rows_from rows_before
rows_after xs ys before narrow =
    let at = stride * length xs in
    let sized = length_rows xs narrow in
    ap (λ (l : List ℕ). l ++ (rows ys ++ drop (stride * length ys) (drop at (rows xs ++ drop at before)))) (take_at (rows xs) (drop at before) at sized)
    ∙ ap (λ (l : List ℕ). rows xs ++ (rows ys ++ drop (stride * length ys) l)) (drop_at (rows xs) (drop at before) at sized)
    ∙ ap (λ (l : List ℕ). rows xs ++ (rows ys ++ l)) (drop-drop (stride * length ys) at before)
    ∙ sym (append_assoc (rows xs) (rows ys) (drop (at + stride * length ys) before))
    ∙ (λ i. sym (rows_join xs ys) i ++ drop (both (length-append xs ys) i) before)
  where
    both : {n : ℕ} → n ≡ length xs + length ys → stride * length xs + stride * length ys ≡ stride * n
    both e = omega arith

-- ---- the parameters of the schemas passed

-- how many parameters each of some schemas has
unfoldable pub sizes_of : List Schema → List ℕ
sizes_of schemas = map (λ s. s.parameters) schemas

pub length_sizes : (schemas : List Schema) → length (sizes_of schemas) ≡ length schemas
unfolding sizes_of
length_sizes schemas = length-map schemas (λ s. s.parameters)

pub sizes_long : (schemas : List Schema) {i : ℕ} → i < length schemas → i < length (sizes_of schemas)
sizes_long schemas h = omega (arith, length_sizes schemas)

pub size_at : (schemas : List Schema) {i : ℕ} (s : Schema) → i < length schemas → (get_or schemas i s).parameters ≡ get_or (sizes_of schemas) i 0
unfolding sizes_of
size_at schemas {i} s h = sym (get_d_map (λ q. q.parameters) schemas i s 0 h)

-- one bag for each parameter, each over all properties
pub length_bags_over : (cs : List Property) (atoms : List Atom) (parameters : ℕ) → length (bags_over cs atoms parameters) ≡ parameters
unfolding bags_over
length_bags_over cs atoms parameters = length-map (up_to parameters) (bag_of cs atoms) ∙ length_up_to parameters

pub length_bags : (cs : List Property) (list : Schema → List Atom) (schemas : List Schema) → length (parameter_bags cs list schemas) ≡ parameters_in schemas
unfolding parameter_bags parameters_in sizes_of
length_bags cs list schemas =
    length_flat_map (λ s. bags_over cs (list s) s.parameters) schemas
    ∙ (λ i. sum (map (λ s. length_bags_over cs (list s) s.parameters i) schemas))

pub bags_sized : (cs : List Property) (list : Schema → List Atom) (schemas : List Schema) → Sized (length cs) (parameter_bags cs list schemas)
unfolding parameter_bags bags_over
bags_sized cs list schemas b m =
    let s = flat_map_at (λ s. bags_over cs (list s) s.parameters) schemas b m in
    let k = Memᴰ.of_map (bag_of cs (list s.0)) (up_to s.0.parameters) s.2 in
    sym (ap length k.2) ∙ length_bag_of cs (list s.0) k.0

-- the bag of parameter k of schema i stands behind those of the schemas before it
pub bag_of_parameter : (cs : List Property) (list : Schema → List Atom) (schemas : List Schema) (i k : ℕ) (s : Schema) → i < length schemas
    → k < (get_or schemas i s).parameters
    → get_or (parameter_bags cs list schemas) (sum (take i (sizes_of schemas)) + k) [] ≡ bag_of cs (list (get_or schemas i s)) k
unfolding parameter_bags flat_map
bag_of_parameter cs list schemas i k s h l =
    let here = get_or schemas i s in
    let next = bags_over cs (list here) here.parameters in
    let front = parameter_bags cs list (take i schemas) in
    let back = parameter_bags cs list (drop (suc i) schemas) in
    ap (λ (n : ℕ). get_or (parameter_bags cs list schemas) (n + k) []) (sym (passed i))
    ∙ ap (λ (l : List Schema). get_or (parameter_bags cs list l) (length front + k) []) (sym (take-append-drop i schemas))
    ∙ ap (λ (l : List Schema). get_or (parameter_bags cs list (take i schemas ++ l)) (length front + k) []) (drop-cons schemas i s h)
    ∙ ap (λ (l : List Bag). get_or l (length front + k) [])
    (flat_map_append (λ q. bags_over cs (list q) q.parameters) (take i schemas) (here ∷ drop (suc i) schemas))
    ∙ get_or-append-add front (next ++ back) k []
    ∙ get_or-append next back [] k (omega (arith, length_bags_over cs (list here) here.parameters))
    ∙ place
  where
    passed : (i : ℕ) → length (parameter_bags cs list (take i schemas)) ≡ sum (take i (sizes_of schemas))
    passed i = unfold parameters_in sizes_of in length_bags cs list (take i schemas) ∙ ap sum (sym (take_map i (λ q. q.parameters) schemas))

    place : get_or (bags_over cs (list (get_or schemas i s)) (get_or schemas i s).parameters) k [] ≡ bag_of cs (list (get_or schemas i s)) k
    place =
        unfold bags_over in
        get_d_map (bag_of cs (list (get_or schemas i s))) (up_to (get_or schemas i s).parameters) k 0 []
        (omega (arith, l, length_up_to (get_or schemas i s).parameters))
        ∙ ap (bag_of cs (list (get_or schemas i s))) (get_d_up_to (get_or schemas i s).parameters k 0 l)

-- the same schema under another name
pub as_schema : {arities : List ℕ} {s q : Schema} {at : ℕ} {preconditions deletes adds p d a : List ℕ} → s ≡ q
    → SchemaEntered arities s at preconditions deletes adds p d a → SchemaEntered arities q at preconditions deletes adds p d a
as_schema {arities} {at = at} {preconditions} {deletes} {adds} {p} {d} {a} e r =
    subst (λ (x : Schema). SchemaEntered arities x at preconditions deletes adds p d a) e r

-- at most 192
pub parameters_few : (schemas : List Schema) → length schemas ≤ 32 → ((s : Schema) → Memᴰ s schemas → s.parameters ≤ 6)
    → parameters_in schemas ≤ most_parameters
unfolding parameters_in
parameters_few schemas few few_parameters = omega (arith, sum_at_most (λ s. s.parameters) 6 schemas few_parameters)

pub rows_few : (t : Task) → check_task t ≡ accepted tt → parameters_in t.schemas ≤ most_parameters
rows_few t ok = let c = checked t ok in parameters_few t.schemas c.few_schemas (λ s m. (c.schemas_right s m).few_parameters)

-- What a loop over sizes has before place i: the sum of those passed.
pub record Counted (sizes : List ℕ) (i count : ℕ) : Type 0 where
  pub inside : i ≤ length sizes
  pub is : count ≡ sum (take i sizes)

module _ (sizes : List ℕ) where
  pub count_start : Counted sizes 0 0
  unfolding sum
  count_start = record { inside = omega arith; is = refl }

  -- the next size
  module _ {i count : ℕ} (so_far : Counted sizes i count) (h : i < length sizes) {n : ℕ} (e : n ≡ get_or sizes i 0) where
    one_more : sum (take (i + 1) sizes) ≡ count + n
    one_more =
        ap (λ (k : ℕ). sum (take k sizes)) (add-one i) ∙ sum_take_next sizes i h ∙ (λ j. sym so_far.is j + sym e j)

    pub count_next : Counted sizes (i + 1) (count + n)
    count_next = record { inside = omega arith; is = sym one_more }

    -- no more than all
    pub count_within : count + n ≤ sum sizes
    count_within = omega (arith, one_more, sum_take_all (i + 1) sizes)

  pub count_end : {i count : ℕ} → Counted sizes i count → length sizes ≤ i → count ≡ sum sizes
  count_end {i} so_far h = so_far.is ∙ ap sum (take_all i sizes h)

-- ---- the table of one list's bags

-- What the loop is given: at most 60 properties, and room for the bags of all schemas.
pub record BagsGiven (schemas : List Schema) (cs : List Property) (list : Schema → List Atom) (before : List ℕ) : Type 0 where
  pub few : length cs ≤ stride
  pub room : stride * parameters_in schemas ≤ length before

-- What it has before schema i: the bags of the schemas passed.
pub record BagsPassed (schemas : List Schema) (cs : List Property) (list : Schema → List Atom) (i : ℕ) (before table : List ℕ) : Type 0 where
  pub is : table ≡ rows_before (parameter_bags cs list (take i schemas)) before

module _ {schemas : List Schema} {cs : List Property} {list : Schema → List Atom} {before : List ℕ} (given : BagsGiven schemas cs list before) where
  pub bags_start : BagsPassed schemas cs list 0 before before
  unfolding parameter_bags flat_map
  bags_start = record { is = rows_before_none before }

  narrow : (i : ℕ) → Narrow (parameter_bags cs list (take i schemas))
  narrow i = sized_narrow (length cs) (parameter_bags cs list (take i schemas)) given.few (bags_sized cs list (take i schemas))

  passed : (i : ℕ) → length (parameter_bags cs list (take i schemas)) ≡ sum (take i (sizes_of schemas))
  unfolding parameters_in sizes_of
  passed i = length_bags cs list (take i schemas) ∙ ap sum (sym (take_map i (λ s. s.parameters) schemas))

  module _ {i : ℕ} {table : List ℕ} (so_far : BagsPassed schemas cs list i before table) where
    -- the table keeps its length
    pub bags_kept : length table ≡ length before
    unfolding parameters_in sizes_of
    bags_kept =
        ap length so_far.is
        ∙ length_rows_before (parameter_bags cs list (take i schemas)) before (narrow i)
        (omega (arith, given.room, passed i, sum_take_all i (sizes_of schemas)))

    module _ {count : ℕ} (counted : Counted (sizes_of schemas) i count) (s : Schema) (h : i < length schemas) where
      -- there is room for the next schema's bags
      pub bags_room : stride * count + stride * (get_or schemas i s).parameters ≤ length table
      unfolding parameters_in sizes_of
      bags_room = omega (arith, bags_kept, given.room, count_within (sizes_of schemas) counted (sizes_long schemas h) (size_at schemas s h))

      -- and they are written
      pub bags_next : {later : List ℕ}
          → later ≡ rows_from (stride * count) (bags_over cs (list (get_or schemas i s)) (get_or schemas i s).parameters) table
          → BagsPassed schemas cs list (i + 1) before later
      unfolding parameter_bags flat_map
      bags_next {later} e =
          let next = bags_over cs (list (get_or schemas i s)) (get_or schemas i s).parameters in
          let front = parameter_bags cs list (take i schemas) in
          record {
            is =
                e
                ∙ ap (rows_from (stride * count) next) so_far.is
                ∙ ap (λ (n : ℕ). rows_from (stride * n) next (rows_before front before)) (counted.is ∙ sym (passed i))
                ∙ rows_after front next before (narrow i)
                ∙ ap (λ (l : List Bag). rows_before l before)
                (ap (λ (l : List Bag). front ++ l) (sym (append-nil next))
                ∙ sym (flat_map_append (λ q. bags_over cs (list q) q.parameters) (take i schemas) (get_or schemas i s ∷ []))
                ∙ ap (parameter_bags cs list) (sym (ap (λ (n : ℕ). take n schemas) (add-one i) ∙ take-suc schemas i s h)));
          }

    -- after the last schema
    pub bags_end : length schemas ≤ i → table ≡ rows_before (parameter_bags cs list schemas) before
    bags_end h = so_far.is ∙ ap (λ (l : List Schema). rows_before (parameter_bags cs list l) before) (take_all i schemas h)
