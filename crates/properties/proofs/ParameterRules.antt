-- The rules of the parameters in three tables are the task's transition rules, and no count there is above 8.
use Prim.Native.Nat.{ℕ, ◌≤◌, ◌<◌}
use native.Mathlib.Nat.{le_trans}
use native.Mathlib.Omega.{arith}
use mathlib.Core.Path.{◌≡◌, refl, sym, ap, ◌∙◌, subst}
use mathlib.Core.List.Memᴰ
use mathlib.Core.List.{List, [], ◌∷◌, ◌++◌, map, flat_map, map-map, Memᴰ}
use lib.ListN.{length, get_or, length-map}
use Rattle.laws.specs.Lists.{up_to}
use Rattle.laws.specs.Bags.{Bag}
use Rattle.laws.proofs.Fronts.{map_parts}
use Rattle.laws.proofs.Lists.{flat_map_at, flat_map_append, mem_get_d}
use Rattle.laws.proofs.Mapped.{get_d_map, flat_map_map}
use Rattle.laws.proofs.Places.{by_place}
use Rattle.model.specs.Answer.{accepted}
use Rattle.model.specs.Card.{Atom, Schema, Task}
use Rattle.model.specs.Writer.{check_task}
use Rattle.model.specs.Transitions.{properties, bag_of, rules_of, parameter_rules, transitions}
use Rattle.model.proofs.Checked.{checked}
use Rattle.model.proofs.RuleCount.{AtMost, bag_at_most}
use Rattle.properties.specs.Tables.{stride, rows_before, bag_at}
use Rattle.properties.specs.Parameters.{parameters_in, bags_over, parameter_bags, ParameterTables, rules_in}
use Rattle.properties.proofs.RowTables.{bag_held}
use Rattle.properties.proofs.ParameterRows.{length_bags, bags_sized}

-- A parameter of a task: its schema, and its place there.
pub record Parameter : Type 0 where
  pub schema : Schema
  pub index : ℕ

abbrev pub parameter_of : Schema → ℕ → Parameter
parameter_of s k = record { schema = s; index = k }

-- the parameters of some schemas in card order
unfoldable pub parameters_of : List Schema → List Parameter
parameters_of schemas = flat_map (λ s. map (parameter_of s) (up_to s.parameters)) schemas

-- a function of schema and place as one of parameters
abbrev each : {B : Type 0} → (Schema → ℕ → B) → Parameter → B
each f x = f x.schema x.index

-- what is made for each parameter, schema by schema
module _ {B : Type 0} where
  pub one_by_one_lem : (f : Schema → ℕ → B) (schemas : List Schema)
      → flat_map (λ s. map (f s) (up_to s.parameters)) schemas ≡ map (each f) (parameters_of schemas)
  unfolding parameters_of flat_map
  one_by_one_lem f [] = refl
  one_by_one_lem f (s ∷ schemas) =
      (λ i. sym (map-map (each f) (parameter_of s) (up_to s.parameters)) i ++ one_by_one_lem f schemas i)
      ∙ sym (map_parts (each f) (map (parameter_of s) (up_to s.parameters)) (parameters_of schemas))

  pub list_by_list : (f : Schema → ℕ → List B) (schemas : List Schema)
      → flat_map (λ s. flat_map (f s) (up_to s.parameters)) schemas ≡ flat_map (each f) (parameters_of schemas)
  unfolding parameters_of flat_map
  list_by_list f [] = refl
  list_by_list f (s ∷ schemas) =
      (λ i. sym (flat_map_map (each f) (parameter_of s) (up_to s.parameters)) i ++ list_by_list f schemas i)
      ∙ sym (flat_map_append (each f) (map (parameter_of s) (up_to s.parameters)) (parameters_of schemas))

  -- a list made at each place, of the element there
  lists_by_place : {A : Type 0} (f : A → List B) (g : ℕ → List B) (xs : List A) (d : A) → ((i : ℕ) → i < length xs → g i ≡ f (get_or xs i d))
      → flat_map g (up_to (length xs)) ≡ flat_map f xs
  unfolding up_to
  lists_by_place f g xs d h =
      sym (flat_map_map (λ l. l) g (up_to (length xs))) ∙ ap (flat_map (λ l. l)) (by_place f g xs d h) ∙ flat_map_map (λ l. l) f xs

-- No count of a parameter's three bags is above 8.
pub record SmallRows (p d a : Bag) : Type 0 where
  pub preconditions_small : AtMost 8 p
  pub deletes_small : AtMost 8 d
  pub adds_small : AtMost 8 a

-- past the parameters
pub no_parameter : Parameter
no_parameter = record { schema = record { parameters = 0; preconditions = []; deletes = []; adds = [] }; index = 0 }

module _ (t : Task) (narrow : length (properties t) ≤ stride) where
  -- the parameter of row i
  pub parameter_at : ℕ → Parameter
  parameter_at i = get_or (parameters_of t.schemas) i no_parameter

  bags_are : (list : Schema → List Atom)
      → parameter_bags (properties t) list t.schemas ≡ map (λ x. bag_of (properties t) (list x.schema) x.index) (parameters_of t.schemas)
  unfolding parameter_bags bags_over
  bags_are list = one_by_one_lem (λ s k. bag_of (properties t) (list s) k) t.schemas

  many : length (parameters_of t.schemas) ≡ parameters_in t.schemas
  many =
      sym (ap length (bags_are (λ s. s.adds)) ∙ length-map (parameters_of t.schemas) (λ x. bag_of (properties t) x.schema.adds x.index))
      ∙ length_bags (properties t) (λ s. s.adds) t.schemas

  -- the bag in a row of a list's table
  row_of : (list : Schema → List Atom) (before : List ℕ) {table : List ℕ} → table ≡ rows_before (parameter_bags (properties t) list t.schemas) before
      → {i : ℕ} → i < parameters_in t.schemas
      → bag_at (length (properties t)) table i ≡ bag_of (properties t) (list (parameter_at i).schema) (parameter_at i).index
  unfolding parameter_at
  row_of list before {table} e {i} h =
      let inside : i < length (parameters_of t.schemas) = omega (arith, many) in
      ap (λ (l : List ℕ). bag_at (length (properties t)) l i) e
      ∙ bag_held (length (properties t)) narrow (parameter_bags (properties t) list t.schemas) (bags_sized (properties t) list t.schemas) before i
      (subst (λ (l : List Bag). i < length l) (sym (bags_are list))
      (omega (arith, length-map (parameters_of t.schemas) (λ x. bag_of (properties t) (list x.schema) x.index))))
      ∙ ap (λ (l : List Bag). get_or l i []) (bags_are list)
      ∙ get_d_map (λ x. bag_of (properties t) (list x.schema) x.index) (parameters_of t.schemas) i no_parameter [] inside

  module _ {count : ℕ} {preconditions deletes adds p d a : List ℕ}
      (written : ParameterTables (properties t) t.schemas count preconditions deletes adds p d a) where
    -- the three rows of a parameter
    module _ {i : ℕ} (h : i < count) where
      inside : i < parameters_in t.schemas
      inside = subst (λ (n : ℕ). i < n) written.counted h

      pub preconditions_row : bag_at (length (properties t)) p i ≡ bag_of (properties t) (parameter_at i).schema.preconditions (parameter_at i).index
      preconditions_row = row_of (λ s. s.preconditions) preconditions written.preconditions_are inside

      pub deletes_row : bag_at (length (properties t)) d i ≡ bag_of (properties t) (parameter_at i).schema.deletes (parameter_at i).index
      deletes_row = row_of (λ s. s.deletes) deletes written.deletes_are inside

      pub adds_row : bag_at (length (properties t)) a i ≡ bag_of (properties t) (parameter_at i).schema.adds (parameter_at i).index
      adds_row = row_of (λ s. s.adds) adds written.adds_are inside

    -- the rules that the rows give
    pub rules_read : {size : ℕ} → size ≡ length (properties t) → rules_in size count p d a ≡ transitions t
    unfolding rules_in transitions parameter_rules parameter_at
    rules_read {size} e =
        (λ i. rules_in (e i) ((written.counted ∙ sym many) i) p d a)
        ∙ lists_by_place (λ x. parameter_rules t x.schema x.index)
        (λ i. rules_of (bag_at (length (properties t)) p i) (bag_at (length (properties t)) d i) (bag_at (length (properties t)) a i))
        (parameters_of t.schemas) no_parameter
        (λ i h.
        let k : i < count = omega (arith, h, many, written.counted) in
        (λ j. rules_of (preconditions_row k j) (deletes_row k j) (adds_row k j)))
        ∙ sym (list_by_list (parameter_rules t) t.schemas)

    -- no count of the rows is above 8
    module _ (ok : check_task t ≡ accepted tt) {i : ℕ} (h : i < count) where
      small : (list : Schema → List Atom) → ((s : Schema) → Memᴰ s t.schemas → length (list s) ≤ 8)
          → AtMost 8 (bag_of (properties t) (list (parameter_at i).schema) (parameter_at i).index)
      unfolding parameter_at parameters_of
      small list few j =
          let x = parameter_at i in
          let m = mem_get_d (parameters_of t.schemas) i no_parameter (omega (arith, inside h, many)) in
          let s = flat_map_at (λ s. map (parameter_of s) (up_to s.parameters)) t.schemas x m in
          let k = Memᴰ.of_map (parameter_of s.0) (up_to s.0.parameters) s.2 in
          le_trans (bag_at_most (properties t) (list x.schema) x.index j)
          (subst (λ (q : Parameter). length (list q.schema) ≤ 8) k.2 (few s.0 s.1))

      pub rows_small : SmallRows (bag_at (length (properties t)) p i) (bag_at (length (properties t)) d i) (bag_at (length (properties t)) a i)
      rows_small =
          let right = (checked t ok).schemas_right in
          record {
            preconditions_small = subst (AtMost 8) (sym (preconditions_row h)) (small (λ s. s.preconditions) (λ s m. (right s m).preconditions_right.few));
            deletes_small = subst (AtMost 8) (sym (deletes_row h)) (small (λ s. s.deletes) (λ s m. (right s m).deletes_right.few));
            adds_small = subst (AtMost 8) (sym (adds_row h)) (small (λ s. s.adds) (λ s m. (right s m).adds_right.few));
          }
