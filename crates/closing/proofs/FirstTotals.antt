-- The first total that a predicate's positions give, from the table of totals.
use Prim.Native.Nat.{ℕ, zero, suc, ◌+◌, ◌≤◌, ◌<◌}
use native.Mathlib.Omega.{arith}
use mathlib.Core.Path.{◌≡◌, refl, sym, ap, ◌∙◌}
use mathlib.Core.List.{List, [], ◌∷◌, ◌++◌, map, flat_map}
use lib.ListN.{length, get_or, take, drop, length-map, length-drop}
use lib.Seq.{get_or-take, get_or-drop, length-take-le, ext_get_or}
use Rattle.laws.proofs.Padded.{length_padded, padded_at}
use Rattle.laws.specs.Lists.{sum, up_to}
use Rattle.laws.proofs.Lists.{length_up_to, get_d_up_to, up_to_at}
use Rattle.laws.proofs.Mapped.{get_d_map, flat_map_ext}
use Rattle.laws.proofs.Fronts.{sum_take_next, sum_take_all}
use Rattle.model.specs.Card.{Task}
use Rattle.model.specs.Transitions.{properties}
use Rattle.model.specs.Analysis.{analysis}
use Rattle.model.specs.Lines.{total, property_number, totals_by, totals}
use Rattle.model.proofs.RuleCount.{length_properties}
use Rattle.closing.proofs.Tallying.{entry_next, entry_none}
use Rattle.closing.specs.Fixed.{first_and_one, fixed_of, fixed_table, first_some, total_line, total_found}

-- a number that is not 0 is the first; 0 leaves it to those behind it
pub first_some_lem : (n : ℕ) (ns : List ℕ) → (n ≡ 0 → ⊥) → n ≡ first_some (n ∷ ns)
unfolding first_some
first_some_lem zero ns some = absurd (some refl)
first_some_lem (suc n) ns some = refl

pub first_later : (n : ℕ) (ns : List ℕ) → n ≡ 0 → first_some (n ∷ ns) ≡ first_some ns
unfolding first_some
first_later zero ns none = refl
first_later (suc n) ns none = absurd (omega arith)

-- The entries of some positions of a table, from the i-th on.
module _ (fixed : List ℕ) (first arity : ℕ) (within : first + arity ≤ length fixed) (i : ℕ) where
  long : arity ≤ length (drop first fixed)
  long = omega (arith, length-drop first fixed)

  position_next : i < arity → drop i (take arity (drop first fixed)) ≡ get_or fixed (first + i) 0 ∷ drop (i + 1) (take arity (drop first fixed))
  position_next h =
      entry_next arity (drop first fixed) long i 0 h
      ∙ ap (λ (n : ℕ). n ∷ drop (i + 1) (take arity (drop first fixed))) (get_or-drop first fixed i 0)

  module _ {answer : ℕ} (so_far : first_some (drop i (take arity (drop first fixed))) ≡ answer) where
    -- an entry that is not 0 is the answer, 0 leaves it to those behind it
    pub position_found : i < arity → (get_or fixed (first + i) 0 ≡ 0 → ⊥) → get_or fixed (first + i) 0 ≡ answer
    position_found h some = first_some_lem _ _ some ∙ sym (ap first_some (position_next h)) ∙ so_far

    pub position_passed : i < arity → get_or fixed (first + i) 0 ≡ 0 → first_some (drop (i + 1) (take arity (drop first fixed))) ≡ answer
    position_passed h none = sym (first_later _ _ none) ∙ sym (ap first_some (position_next h)) ∙ so_far

    pub positions_end : arity ≤ i → 0 ≡ answer
    unfolding first_some
    positions_end h = sym (ap first_some (entry_none arity (drop first fixed) long i h)) ∙ so_far

-- the line of an entry that is not 0, and of 0
pub line_of : (p n : ℕ) → (n ≡ 0 → ⊥) → {m : ℕ} → m + 1 ≡ n → total_line p n ≡ total p m ∷ []
unfolding total_line
line_of p zero some e = absurd (some refl)
line_of p (suc n) some e = ap (λ (k : ℕ). total p k ∷ []) (omega (arith, e))

pub line_of_none : (p n : ℕ) → n ≡ 0 → total_line p n ≡ []
unfolding total_line
line_of_none p zero e = refl
line_of_none p (suc n) e = absurd (omega arith)

-- the first of the totals of some positions
first_found : (p : ℕ) (f : ℕ → List ℕ) (is : List ℕ)
    → map (total p) (take 1 (flat_map f is)) ≡ total_line p (first_some (map (λ i. first_and_one (f i)) is))
unfolding flat_map total_line first_some first_and_one
first_found p f [] = refl
first_found p f (i ∷ is) = go (f i) (first_found p f is)
  where
    go : (l : List ℕ) → map (total p) (take 1 (flat_map f is)) ≡ total_line p (first_some (map (λ i. first_and_one (f i)) is))
        → map (total p) (take 1 (l ++ flat_map f is)) ≡ total_line p (first_some (first_and_one l ∷ map (λ i. first_and_one (f i)) is))
    go [] rest = rest
    go (n ∷ ns) rest = refl

-- the entries of a task's table
module _ (t : Task) (fixed : List ℕ) (table : fixed ≡ fixed_table t) (few : length (properties t) ≤ 60) where
  many : length (map (fixed_of (analysis t)) (up_to (length (properties t)))) ≡ length (properties t)
  many = length-map (up_to (length (properties t))) (fixed_of (analysis t)) ∙ length_up_to (length (properties t))

  pub length_fixed : length fixed ≡ 60
  unfolding fixed_table
  length_fixed = ap length table ∙ length_padded 60 0 (map (fixed_of (analysis t)) (up_to (length (properties t)))) (omega (arith, many))

  entry_at : (c : ℕ) → c < length (properties t) → get_or fixed c 0 ≡ fixed_of (analysis t) c
  unfolding fixed_table
  entry_at c h =
      ap (λ (l : List ℕ). get_or l c 0) table
      ∙ padded_at 60 0 (map (fixed_of (analysis t)) (up_to (length (properties t)))) c 0 (omega (arith, many))
      ∙ get_d_map (fixed_of (analysis t)) (up_to (length (properties t))) c 0 0 (omega (arith, length_up_to (length (properties t))))
      ∙ ap (fixed_of (analysis t)) (get_d_up_to (length (properties t)) c 0 h)

  -- the entries of a predicate's positions
  entries_of : (p : ℕ) → p < length t.arities
      → take (get_or t.arities p 0) (drop (sum (take p t.arities)) fixed)
      ≡ map (λ i. fixed_of (analysis t) (sum (take p t.arities) + i)) (up_to (get_or t.arities p 0))
  entries_of p h =
      let a = get_or t.arities p 0 in
      let s = sum (take p t.arities) in
      let inside : s + a ≤ length (properties t) =
      unfold properties in omega (arith, length_properties 0 t.arities, sum_take_next t.arities p h, sum_take_all (suc p) t.arities) in
      let long : a ≤ length (drop s fixed) = omega (arith, length_fixed, length-drop s fixed) in
      let sized = length-map (up_to a) (λ i. fixed_of (analysis t) (s + i)) ∙ length_up_to a in
      ext_get_or 0 (take a (drop s fixed)) (map (λ i. fixed_of (analysis t) (s + i)) (up_to a))
      (length-take-le a (drop s fixed) long ∙ sym sized)
      (λ i k.
      let below : i < a = omega (arith, k, length-take-le a (drop s fixed) long) in
      get_or-take a (drop s fixed) i 0 below
      ∙ get_or-drop s fixed i 0
      ∙ entry_at (s + i) (omega arith)
      ∙ sym
      (get_d_map (λ j. fixed_of (analysis t) (s + j)) (up_to a) i 0 0 (omega (arith, length_up_to a))
      ∙ ap (λ (j : ℕ). fixed_of (analysis t) (s + j)) (get_d_up_to a i 0 below)))

  -- the F line of a predicate is the one found in the table
  pub total_found_lem : (p : ℕ) → p < length t.arities → totals t (analysis t) p ≡ total_found t.arities fixed p
  unfolding totals total_found property_number fixed_of
  total_found_lem p h =
      first_found p (λ i. totals_by (analysis t) (sum (take p t.arities) + i)) (up_to (get_or t.arities p 0))
      ∙ ap (λ (l : List ℕ). total_line p (first_some l)) (sym (entries_of p h))

  pub totals_found : flat_map (totals t (analysis t)) (up_to (length t.arities)) ≡ flat_map (total_found t.arities fixed) (up_to (length t.arities))
  totals_found = flat_map_ext _ _ (up_to (length t.arities)) (λ p m. total_found_lem p (up_to_at (length t.arities) p m))
