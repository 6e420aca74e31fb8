-- What the rows of a state leave to a parameter: the objects of the rows that agree with what is bound.
use Prim.Native.Nat.{ℕ, zero, suc, ◌+◌, ◌*◌, ◌≤◌, ◌<◌}
use native.Mathlib.Nat.{not-suc-le-zero}
use native.Mathlib.Omega.{arith}
use mathlib.Core.Path.{◌≡◌, refl, sym, ap, ap₂, ◌∙◌, subst}
use mathlib.Core.Bool.{Bool, true, false, ◌||◌}
use mathlib.Core.Logic.{⊎_elim}
use mathlib.Core.List.{List, [], ◌∷◌, map}
use lib.Dec.{ltb}
use lib.ListN.{length, get_or, take, drop}
use lib.Seq.{get_or-take, get_or-drop, drop-drop}
use borrow.Author.Tests.{lt-ltb, le-ltb, eq-eqb}
use Rattle.laws.specs.Lists.{any}
use Rattle.laws.proofs.Tests.{or_left, or_right, and_left, cond_true, cond_false, never, by_test}
use Rattle.laws.proofs.Orders.{compared}
use Rattle.model.specs.Card.{Atom, has, same_atom}
use Rattle.model.specs.Strips.{fact_at, facts_in, ground}
use Rattle.model.proofs.Order.{same_atom_eq}
use Rattle.model.proofs.Checked.{arity_within}
use Rattle.actions.proofs.GroundRows.{atom_predicate, atom_arguments}
use Rattle.card.specs.Represents.{atom_of}
use Rattle.card.specs.declared.Atom.{Atom as Kept}
use Rattle.sets.specs.Numbers.{place}
use Rattle.state.specs.Rows.{row_number, row_at, numbers_in, RowsAscend}
use Rattle.state.proofs.RowBytes.{four_at}
use Rattle.state.proofs.Finding.{below_within, below_up_to, below_past}
use Rattle.masks.specs.Sets.{is_member, union_of, single_of, common_of, all_below}
use Rattle.masks.proofs.Operations.{union_member, single_member, all_member, common_member}
use Rattle.open_actions.specs.Masked.{Agree}
use Rattle.open_actions.specs.Supports.{RowShows, ParametersWithin, parameters_of, PlaceOf, Ranges, Supported, AtomReady, AtomSupported}
use Rattle.open_actions.specs.declared.query.Query.{Query as Asked}
use Rattle.open_actions.specs.declared.support.Support.{Support}

-- ---- the parameters of an atom

module _ {arity : ℕ} (a : Kept) {one : ℕ} (first : one ≡ single_of a.first) where
  pub one_parameter : arity < 2 → one ≡ parameters_of arity a
  unfolding parameters_of
  one_parameter h = first ∙ sym (cond_true (ltb arity 2) _ _ (lt-ltb arity 2 h))

  module _ {other two : ℕ} (second : other ≡ single_of a.second) (both : two ≡ union_of one other) where
    pub two_parameters : 2 ≤ arity → arity < 3 → two ≡ parameters_of arity a
    unfolding parameters_of
    two_parameters h k =
        both ∙ ap₂ union_of first second ∙ sym (cond_true (ltb arity 3) _ _ (lt-ltb arity 3 k)) ∙ sym (cond_false (ltb arity 2) _ _ (le-ltb arity 2 h))

    pub three_parameters : {last three : ℕ} → last ≡ single_of a.third → three ≡ union_of two last → 3 ≤ arity → three ≡ parameters_of arity a
    unfolding parameters_of
    three_parameters third all h =
        all ∙ ap₂ union_of (both ∙ ap₂ union_of first second) third ∙ sym (cond_false (ltb arity 3) _ _ (le-ltb arity 3 h))
        ∙ sym (cond_false (ltb arity 2) _ _ (le-ltb arity 2 (omega arith)))

-- ---- the objects of the rows, one row after the other

-- the number of a row that shows an atom
module _ {arity : ℕ} {a : Kept} {bound : ℕ} {x : List ℕ} (within : ParametersWithin arity a x) where
  pub of_predicate_lem : Ranges arity a bound x (a.predicate * 16777216) (a.predicate * 16777216 + 16777216)
  unfolding row_number row_at
  of_predicate_lem = record {
    holds = λ {buffer} {y} {i} room small shows agrees.
        let number = ap row_number (four_at (4 * i) buffer room) in
        let named = shows.predicate in
        let second = small (4 * i + 1) in
        let third = small (4 * i + 2) in
        let fourth = small (4 * i + 3) in
        (omega arith, omega arith);
  }

  pub of_object : is_member bound a.first ≡ true
      → Ranges arity a bound x (a.predicate * 16777216 + get_or x a.first 0 * 65536) (a.predicate * 16777216 + get_or x a.first 0 * 65536 + 65536)
  unfolding row_number row_at
  of_object is_bound = record {
    holds = λ {buffer} {y} {i} room small shows agrees.
        let number = ap row_number (four_at (4 * i) buffer room) in
        let named = shows.predicate in
        let object = shows.first within.some ∙ agrees.same a.first is_bound in
        let third = small (4 * i + 2) in
        let fourth = small (4 * i + 3) in
        (omega arith, omega arith);
  }

-- the rows before and after the range show nothing, and those of it are in the buffer
module _ {buffer : List ℕ} {count arity bound : ℕ} {a : Kept} {x : List ℕ} {least past : ℕ} (rows : RowsAscend count buffer)
    (small : (k : ℕ) → get_or buffer k 0 < 256) (range : Ranges arity a bound x least past) where
  room_at : (i : ℕ) → i < count → 4 * i + 4 ≤ length buffer
  room_at i h = let room = rows.room in omega arith

  pub rows_before_lem : {parameter first : ℕ} → first ≡ place least (numbers_in count buffer) → Supported buffer first a arity parameter bound x 0
  rows_before_lem e = record {
    has_object = λ y i h shows agrees few.
        absurd (let within = below_within rows least in
        let inside : i < count = omega arith in
        let later = below_up_to rows least inside refl (range.holds (room_at i inside) small shows agrees).0 in
        omega arith);
  }

  pub row_inside : {i end : ℕ} → end ≡ place past (numbers_in count buffer) → i < end → 4 * i + 4 ≤ length buffer
  row_inside {i} e h = room_at i (let within = below_within rows past in omega arith)

  pub rows_after : {parameter i end mask : ℕ} → end ≡ place past (numbers_in count buffer) → end ≤ i → Supported buffer i a arity parameter bound x mask
      → Supported buffer count a arity parameter bound x mask
  rows_after e h so_far = record {
    has_object = λ y j inside shows agrees few.
        so_far.has_object y j
        (let earlier = below_past rows past inside refl (range.holds (room_at j inside) small shows agrees).1 in omega arith) shows agrees few;
  }

pub everything : {buffer : List ℕ} {count : ℕ} {a : Kept} {arity parameter bound : ℕ} {x : List ℕ} {m : ℕ} → m ≡ all_below 64
    → Supported buffer count a arity parameter bound x m
everything {parameter = parameter} e = record {
  has_object = λ y i h shows agrees few.
      ap (λ (k : ℕ). is_member k (get_or y parameter 0)) e ∙ all_member 64 (get_or y parameter 0) ∙ lt-ltb (get_or y parameter 0) 64 few;
}

module _ {buffer : List ℕ} {i arity parameter bound : ℕ} {a : Kept} {x : List ℕ} {mask : ℕ} (so_far : Supported buffer i a arity parameter bound x mask) where
  -- a row that does not agree adds nothing
  pub row_passed :
      {r : Bool} → ((y : List ℕ) → RowShows buffer i arity a y → Agree bound x y → r ≡ true) → r ≡ false
      → Supported buffer (i + 1) a arity parameter bound x mask
  row_passed agrees_if e = record {
    has_object = λ y j h shows agrees few.
        ⊎_elim (λ (less : j < i). so_far.has_object y j less shows agrees few)
        (⊎_elim (λ (same : j ≡ i). never (sym (agrees_if y (subst (λ (k : ℕ). RowShows buffer k arity a y) same shows) agrees) ∙ e))
        (λ (more : i < j). absurd (omega arith)))
        (compared j i);
  }

  module _ {place : ℕ} (right : PlaceOf arity a parameter place) where
    object_of : (y : List ℕ) (j : ℕ) → j ≡ i → RowShows buffer j arity a y → get_or buffer (4 * i + place) 0 ≡ get_or y parameter 0
    object_of y j same shows = right.has_object (subst (λ (k : ℕ). RowShows buffer k arity a y) same shows)

    -- a byte that is no object adds nothing
    pub no_object : 64 ≤ get_or buffer (4 * i + place) 0 → Supported buffer (i + 1) a arity parameter bound x mask
    no_object large = record {
      has_object = λ y j h shows agrees few.
          ⊎_elim (λ (less : j < i). so_far.has_object y j less shows agrees few)
          (⊎_elim (λ (same : j ≡ i). absurd (let e = object_of y j same shows in omega arith)) (λ (more : i < j). absurd (omega arith)))
          (compared j i);
    }

    -- the object of a row joins the others
    pub row_joins : {m : ℕ} → m ≡ union_of mask (single_of (get_or buffer (4 * i + place) 0)) → Supported buffer (i + 1) a arity parameter bound x m
    row_joins {m} e = record {
      has_object = λ y j h shows agrees few.
          let o : ℕ = get_or buffer (4 * i + place) 0 in
          let v : ℕ = get_or y parameter 0 in
          ap (λ (k : ℕ). is_member k v) e ∙ union_member mask (single_of o) v
          ∙ ⊎_elim (λ (less : j < i). or_left (is_member mask v) (is_member (single_of o) v) (so_far.has_object y j less shows agrees few))
          (⊎_elim (λ (same : j ≡ i). or_right (is_member mask v) (is_member (single_of o) v)
          (single_member o v ∙ eq-eqb o v (object_of y j same shows))) (λ (more : i < j). absurd (omega arith)))
          (compared j i);
    }

-- ---- a fact of the state is in some row

-- the row of a fact
row_of : (arities : List ℕ) {P : Type 0} (n : ℕ) (buffer : List ℕ) (f : Atom) → has (facts_in arities n buffer) f ≡ true
    → ((i : ℕ) → i < n → fact_at arities (take 4 (drop (4 * i) buffer)) ≡ f → P) → P
unfolding has any facts_in
row_of arities zero buffer f e use_it = never (sym e)
row_of arities {P} (suc n) buffer f e use_it =
    by_test (same_atom f (fact_at arities (take 4 buffer)))
    (λ same. use_it 0 (omega arith) (sym (same_atom_eq f (fact_at arities (take 4 buffer)) same)))
    (λ other.
    row_of arities n (drop 4 buffer) f (sym (ap (λ (b : Bool). b || any (same_atom f) (facts_in arities n (drop 4 buffer))) other) ∙ e)
    (λ i h same. use_it (suc i) (omega arith)
    (ap (λ (l : List ℕ). fact_at arities (take 4 l)) (sym (drop-drop (4 * i) 4 buffer ∙ ap (λ (k : ℕ). drop k buffer) (four_more i))) ∙ same)))
  where
    four_more : (i : ℕ) → 4 + 4 * i ≡ 4 * suc i
    four_more i = omega arith

-- the arguments of a row that has those of an atom
module _ (f : ℕ → ℕ) (p q r : ℕ) where
  first_argument : (m : ℕ) (s : List ℕ) → 1 ≤ m → take m s ≡ map f (take m (p ∷ q ∷ r ∷ [])) → get_or s 0 0 ≡ f p
  first_argument zero s h e = absurd (not-suc-le-zero h)
  first_argument (suc m) [] h e = ap (λ (l : List ℕ). get_or l 0 0) e
  first_argument (suc m) (x ∷ s) h e = ap (λ (l : List ℕ). get_or l 0 0) e

  second_argument : (m : ℕ) (s : List ℕ) → 2 ≤ m → take m s ≡ map f (take m (p ∷ q ∷ r ∷ [])) → get_or s 1 0 ≡ f q
  second_argument zero s h e = absurd (omega arith)
  second_argument (suc zero) s h e = absurd (omega arith)
  second_argument (suc (suc m)) [] h e = ap (λ (l : List ℕ). get_or l 1 0) e
  second_argument (suc (suc m)) (x ∷ []) h e = ap (λ (l : List ℕ). get_or l 1 0) e
  second_argument (suc (suc m)) (x ∷ y ∷ s) h e = ap (λ (l : List ℕ). get_or l 1 0) e

  third_argument : (m : ℕ) (s : List ℕ) → 3 ≤ m → take m s ≡ map f (take m (p ∷ q ∷ r ∷ [])) → get_or s 2 0 ≡ f r
  third_argument zero s h e = absurd (omega arith)
  third_argument (suc zero) s h e = absurd (omega arith)
  third_argument (suc (suc zero)) s h e = absurd (omega arith)
  third_argument (suc (suc (suc m))) [] h e = ap (λ (l : List ℕ). get_or l 2 0) e
  third_argument (suc (suc (suc m))) (x ∷ []) h e = ap (λ (l : List ℕ). get_or l 2 0) e
  third_argument (suc (suc (suc m))) (x ∷ y ∷ []) h e = ap (λ (l : List ℕ). get_or l 2 0) e
  third_argument (suc (suc (suc m))) (x ∷ y ∷ z ∷ s) h e = ap (λ (l : List ℕ). get_or l 2 0) e

-- a byte of a row
row_byte : (buffer : List ℕ) (i k : ℕ) → k < 3 → get_or (drop 1 (take 4 (drop (4 * i) buffer))) k 0 ≡ get_or buffer (4 * i + (1 + k)) 0
row_byte buffer i k h =
    get_or-drop 1 (take 4 (drop (4 * i) buffer)) k 0 ∙ get_or-take 4 (drop (4 * i) buffer) (1 + k) 0 (omega arith) ∙ get_or-drop (4 * i) buffer (1 + k) 0

-- a row that is the fact shows the atom
row_shows : (arities buffer : List ℕ) (i : ℕ) (a : Kept) (y : List ℕ)
    → fact_at arities (take 4 (drop (4 * i) buffer)) ≡ ground y (atom_of arities a) → RowShows buffer i (get_or arities a.predicate 0) a y
unfolding fact_at ground atom_of
row_shows arities buffer i a y e =
    let row : List ℕ = take 4 (drop (4 * i) buffer) in
    let f : ℕ → ℕ = λ (k : ℕ). get_or y k 0 in
    let named : get_or row 0 0 ≡ a.predicate = ap (λ (g : Atom). g.predicate) e in
    let arity : ℕ = get_or arities a.predicate 0 in
    let told : take arity (drop 1 row) ≡ map f (take arity (a.first ∷ a.second ∷ a.third ∷ [])) =
    (ap (λ (p : ℕ). take (get_or arities p 0) (drop 1 row)) (sym named) ∙ ap (λ (g : Atom). g.arguments) e) in
    record {
      predicate =
          ap (λ (k : ℕ). get_or buffer k 0) (let z : 4 * i ≡ 4 * i + 0 = omega arith in z)
          ∙ sym (get_or-take 4 (drop (4 * i) buffer) 0 0 (omega arith) ∙ get_or-drop (4 * i) buffer 0 0) ∙ named;
      first = λ h. sym (row_byte buffer i 0 (omega arith)) ∙ first_argument f a.first a.second a.third arity (drop 1 row) h told;
      second = λ h. sym (row_byte buffer i 1 (omega arith)) ∙ second_argument f a.first a.second a.third arity (drop 1 row) h told;
      third = λ h. sym (row_byte buffer i 2 (omega arith)) ∙ third_argument f a.first a.second a.third arity (drop 1 row) h told;
    }

-- what the rows leave, for a fact of the state
pub atom_supported :
    {asked : Asked} {a : Kept} {parameter bound : ℕ} {x : List ℕ} {r : Support} (named : ℕ)
    → r.linked ≡ common_of bound named → Supported asked.state.now asked.count a (get_or asked.arities.now a.predicate 0) parameter r.linked x r.mask
    → AtomSupported asked a parameter bound x r
atom_supported {asked} {a} {parameter} {bound} {x} {r} named e supported = record {
  inside = record {
    each = λ p m.
        and_left (is_member bound p) (is_member named p) (sym (common_member bound named p) ∙ ap (λ (k : ℕ). is_member k p) (sym e) ∙ m);
  };
  holds = λ y agrees there few.
      row_of asked.arities.now asked.count asked.state.now (ground y (atom_of asked.arities.now a)) there
      (λ i h same. supported.has_object y i h (row_shows asked.arities.now asked.state.now i a y same) agrees few);
}

-- an atom of a schema with a binding of its parameters
pub atom_within : {asked : Asked} {a : Kept} {x : List ℕ} → AtomReady asked a x
    → ParametersWithin (get_or asked.arities.now a.predicate 0) a x
atom_within {asked} {a} {x = x} ready =
    let named = atom_predicate asked.arities.now (length x) a ready.atom_known in
    let within = arity_within asked.arities.now a.predicate asked.ready.state_kept.shape.right named in
    let inside = atom_arguments asked.arities.now (length x) a asked.ready.state_kept.shape.right ready.atom_known in
    record {
      predicate = (let few = asked.ready.state_kept.shape.few_predicates in omega arith);
      some = within.0;
      first = inside.0 within.0;
      second = inside.1;
      third = inside.2;
      few = ready.few;
    }
