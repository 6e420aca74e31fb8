-- The bags of all objects over atoms, or of all parameters over a list of atoms, counted atom by atom.
use Prim.Native.Nat.{ℕ, ◌+◌, ◌*◌, ◌≤◌, ◌<◌}
use native.Mathlib.Omega.{arith}
use mathlib.Core.Path.{◌≡◌, refl, sym, ap, ◌∙◌, subst}
use mathlib.Core.Bool.{true, ◌&&◌}
use mathlib.Core.List.{List, [], ◌∷◌, ◌++◌, map, Memᴰ}
use lib.Dec.{ltb, eqb}
use lib.ListN.{length, get_or, take, drop, replicate, length-append, length-map, length-replicate, length-drop, length-take, get_or-append}
use lib.ListN.{get_or-replicate}
use lib.Seq.{drop_at, take_all}
use borrow.Author.Tests.{ltb-true}
use Rattle.laws.specs.Lists.{all, sum, up_to}
use Rattle.laws.proofs.Tests.{and_right}
use Rattle.laws.proofs.Lists.{all_at, length_up_to}
use Rattle.model.specs.Card as model
use Rattle.model.specs.Writer.{known}
use Rattle.model.specs.Transitions.{Property, properties_from, bag_of}
use Rattle.model.proofs.RuleCount.{length_properties, bag_at_most}
use Rattle.card.specs.declared.Atom.{Atom}
use Rattle.card.specs.declared.ArityList.{ArityList}
use Rattle.card.specs.Represents.{arities_of, atom_of}
use Rattle.properties.specs.Represented.{AritiesRight}
use Rattle.properties.specs.Tables.{row, rows_before}
use Rattle.properties.specs.Tallies.{tallied, tallied_rows, Talliable}
use Rattle.properties.proofs.Rows.{row_ext}
use Rattle.model.proofs.Grouping.{length_bag_of}
use Rattle.properties.proofs.Predicates.{Placed}
use Rattle.properties.proofs.AtomCounts.{counted_next, row_small}
use Rattle.properties.proofs.Entering.{row_of, get_d_row_of, length_row_of, BagTable, table_is, rows_behind, row_entered, length_entered, beyond_entered}

-- A table that was emptied for n rows.
module _ (n : ℕ) (before : List ℕ) {cleared : List ℕ} (is : cleared ≡ replicate (60 * n) 0 ++ drop (60 * n) before) where
  beyond_cleared : drop (60 * n) cleared ≡ drop (60 * n) before
  beyond_cleared =
      ap (drop (60 * n)) is ∙ drop_at (replicate (60 * n) 0) (drop (60 * n) before) (60 * n) (length-replicate {A = ℕ} (60 * n) 0)

  -- no atom is counted in it
  pub none_entered : (arities : List ℕ) → sum arities ≤ 60 → 60 * n ≤ length before
      → BagTable (bag_of (properties_from 0 arities) []) n cleared cleared
  none_entered arities few h = record {
    kept = refl;
    rows_are =
        λ o k. row_ext (row_of o cleared) (bag_of (properties_from 0 arities) [] o) (length_row_of o cleared (omega (arith, sized)))
        (omega (arith, length_bag_of (properties_from 0 arities) [] o, length_properties 0 arities))
        (λ i j. get_d_row_of o cleared i j ∙ zero_there (60 * o + i) (omega arith) ∙ sym (nothing o i));
    beyond = refl;
  }
    where
      sized : length cleared ≡ length before
      sized =
          ap length is
          ∙ length-append (replicate (60 * n) 0) (drop (60 * n) before)
          ∙ omega (arith, length-replicate {A = ℕ} (60 * n) 0, length-drop (60 * n) before)

      zero_there : (i : ℕ) → i < 60 * n → get_or cleared i 0 ≡ 0
      zero_there i k =
          ap (λ (l : List ℕ). get_or l i 0) is
          ∙ get_or-append (replicate (60 * n) 0) (drop (60 * n) before) 0 i (omega (arith, k, length-replicate {A = ℕ} (60 * n) 0))
          ∙ get_or-replicate (60 * n) i 0 0 k

      nothing : (o i : ℕ) → get_or (bag_of (properties_from 0 arities) [] o) i 0 ≡ 0
      nothing o i = let few = bag_at_most (properties_from 0 arities) [] o i in omega arith

  -- after the last atom the rows of all bags stand before what stood behind them
  pub all_entered : (cs : List Property) (atoms : List model.Atom) (i : ℕ) {table : List ℕ} → length atoms ≤ i
      → BagTable (bag_of cs (take i atoms)) n cleared table → table ≡ rows_before (map (bag_of cs atoms) (up_to n)) before
  all_entered cs atoms i {table} h holds =
      table_is (bag_of cs atoms) n cleared table
      (subst (λ (l : List model.Atom). BagTable (bag_of cs l) n cleared table) (take_all i atoms h) holds)
      ∙ rows_behind (map (bag_of cs atoms) (up_to n)) n cleared before (length-map (up_to n) (bag_of cs atoms) ∙ length_up_to n) beyond_cleared

-- the arguments of a known atom
pub arguments_known : (arities : List ℕ) (n : ℕ) (a : model.Atom) → known arities n a ≡ true → (o : ℕ) → Memᴰ o a.arguments → o < n
unfolding known
arguments_known arities n a e o m =
    ltb-true o n
    (all_at (λ x. ltb x n) a.arguments
    (and_right (ltb a.predicate (length arities) && eqb (length a.arguments) (get_or arities a.predicate 0))
    (all (λ x. ltb x n) a.arguments) e) o m)

-- a turn of the loop: one atom more is counted
module _ {predicates : ArityList} {firsts : List ℕ} (right : AritiesRight predicates) (most : ℕ) {n : ℕ} {before table : List ℕ}
    (atoms : List model.Atom) (a : Atom) {q arity : ℕ}
    (holds : BagTable (bag_of (properties_from 0 (arities_of predicates)) atoms) n before table) (room : 60 * n ≤ length before)
    (few : length atoms < most) (there : known (arities_of predicates) n (atom_of (arities_of predicates) a) ≡ true)
    (placed : (a.predicate < length (arities_of predicates)) × Placed predicates firsts a.predicate)
    (q_is : q ≡ a.predicate) (arity_is : arity ≡ get_or predicates.arities q 0) where
  arguments : List ℕ
  arguments = take arity (a.first ∷ a.second ∷ a.third ∷ [])

  -- the arguments are the atom's
  same_arguments : arguments ≡ (atom_of (arities_of predicates) a).arguments
  unfolding arguments atom_of
  same_arguments =
      ap (λ (k : ℕ). take k (a.first ∷ a.second ∷ a.third ∷ []))
      (arity_is ∙ ap (λ (p : ℕ). get_or predicates.arities p 0) q_is ∙ placed.1.arity_is)

  below : (o : ℕ) → Memᴰ o arguments → o < n
  below o m =
      arguments_known (arities_of predicates) n (atom_of (arities_of predicates) a) there o
      (subst (λ (l : List ℕ). Memᴰ o l) same_arguments m)

  first_is : get_or firsts q 0 ≡ get_or firsts a.predicate 0
  first_is = ap (λ (p : ℕ). get_or firsts p 0) q_is

  within : get_or firsts q 0 + length arguments ≤ 60
  unfolding arguments
  within =
      let r = placed.1.room in
      let e : arity ≡ get_or predicates.arities a.predicate 0 = arity_is ∙ ap (λ (p : ℕ). get_or predicates.arities p 0) q_is in
      omega (arith, first_is, length-take arity (a.first ∷ a.second ∷ a.third ∷ []))

  -- there is room for the atom
  pub atom_fits : Talliable most (get_or firsts q 0) (take arity (a.first ∷ a.second ∷ a.third ∷ [])) table
  unfolding arguments
  atom_fits = record {
    one_row = within;
    rows_there = λ o m. let h = below o m in let k = holds.kept in omega arith;
    small =
        λ o c m h k. let count = row_small (arities_of predicates) atoms o c in
        omega (arith, get_d_row_of o table c k, ap (λ (l : List ℕ). get_or l c 0) (holds.rows_are o (below o m)));
  }

  -- and then it is counted
  pub atom_counted : (later : List ℕ) → later ≡ tallied_rows (get_or firsts q 0) (take arity (a.first ∷ a.second ∷ a.third ∷ [])) table
      → BagTable (bag_of (properties_from 0 (arities_of predicates)) (atoms ++ (atom_of (arities_of predicates) a ∷ []))) n before later
  unfolding arguments
  atom_counted later e = record {
    kept = ap length e ∙ length_entered (get_or firsts q 0) arguments table ∙ holds.kept;
    rows_are = λ o h. ap (row_of o) e ∙ row_entered most o (get_or firsts q 0) arguments table atom_fits (inside o h) ∙ counted o h;
    beyond = ap (drop (60 * n)) e ∙ beyond_entered n (get_or firsts q 0) arguments table within below ∙ holds.beyond;
  }
    where
      inside : (o : ℕ) → o < n → 60 * o + 60 ≤ length table
      inside o h = let k = holds.kept in omega arith

      counted : (o : ℕ) → o < n
          → tallied o (get_or firsts q 0) arguments (row_of o table)
          ≡ row (bag_of (properties_from 0 (arities_of predicates)) (atoms ++ (atom_of (arities_of predicates) a ∷ [])) o)
      counted o h =
          ap (tallied o (get_or firsts q 0) arguments) (holds.rows_are o h)
          ∙ ap (λ (k : ℕ). tallied o k arguments (row (bag_of (properties_from 0 (arities_of predicates)) atoms o))) first_is
          ∙ ap (λ (k : ℕ). tallied o (get_or firsts a.predicate 0) (take k (a.first ∷ a.second ∷ a.third ∷ []))
          (row (bag_of (properties_from 0 (arities_of predicates)) atoms o)))
          (arity_is ∙ ap (λ (p : ℕ). get_or predicates.arities p 0) q_is)
          ∙ counted_next predicates firsts right atoms a o placed.0 placed.1
