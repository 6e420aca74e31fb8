-- How long the closing section is at most: it fits into 65,536 bytes.
use Prim.Native.Nat.{ℕ, zero, suc, ◌+◌, ◌*◌, ◌/◌, ◌%◌, ◌≤◌, ◌<◌}
use native.Mathlib.Nat.{mul-suc}
use native.Mathlib.Omega.{arith}
use mathlib.Core.Path.{◌≡◌, refl, sym, ap, ◌∙◌, subst}
use mathlib.Core.Bool.{Bool, true, false, cond}
use mathlib.Core.List.{List, [], ◌∷◌, ◌++◌, map, flat_map, Memᴰ}
use lib.Dec.{ltb, leb, eqb}
use lib.ListN.{length, get_or, take, drop, length-append, length-take}
use lib.Seq.{get_or-take, get_or-drop}
use borrow.Author.Tests.{ltb-true, ltb-false}
use Rattle.laws.specs.Lists.{all, keep, sum, up_to}
use Rattle.laws.specs.Bags.{support}
use Rattle.laws.proofs.Tests.{by_test}
use Rattle.laws.proofs.Lists.{keep_at, up_to_at, length_up_to, place_of}
use Rattle.laws.proofs.Counting.{count_most}
use Rattle.laws.proofs.Walks.{keep_few}
use Rattle.model.specs.Card.{Task, Schema}
use Rattle.model.specs.Transitions.{properties, bag_of}
use Rattle.model.specs.Spaces.{Space, has_member, spaces}
use Rattle.model.specs.Analysis.{analysis}
use Rattle.model.specs.Lines.{Line, total, ceiling, totals, ceilings, of_predicate, types_of, type_lines, closing_lines}
use Rattle.model.specs.Text.{decimal, items, spaced, line_text, text}
use Rattle.model.proofs.Checked.{Checked}
use Rattle.model.proofs.ListedSpace.{spaces_of_analysis}
use Rattle.text.specs.Room.{Room}
use Rattle.text.proofs.Decimal.{two_digits, five_digits, decimal_more, some_digit}
use Rattle.text.proofs.Lengths.{ceiling_length, types_length, text_length}
use Rattle.text.proofs.Writing.{Begins}
use Rattle.closing.specs.Fixed.{fixed_table, first_some, total_line, total_found}
use Rattle.closing.specs.Front.{front_lines}
use Rattle.closing.proofs.FirstTotals.{total_found_lem}
use Rattle.closing.proofs.LineLoops.{text_parts}

-- a text is as long as its parts
parts_length : (front back : List Line) → length (text (front ++ back)) ≡ length (text front) + length (text back)
parts_length front back = ap length (text_parts front back).path ∙ length-append (text front) (text back)

-- lines made number by number, of at most so many bytes for each
each_within : (f : ℕ → List Line) (most : ℕ) (ns : List ℕ) → ((n : ℕ) → Memᴰ n ns → length (text (f n)) ≤ most)
    → length (text (flat_map f ns)) ≤ most * length ns
unfolding flat_map text
each_within f most [] h = omega arith
each_within f most (n ∷ ns) h =
    omega (
      arith,
      parts_length (f n) (flat_map f ns),
      h n (Memᴰ.head refl),
      each_within f most ns (λ m k. h m (Memᴰ.tail k)),
      mul-suc most (length ns),
    )

-- a number has at most one digit more than its tenth part
one_digit_more : (n : ℕ) → length (decimal n) ≤ suc (length (decimal (n / 10)))
one_digit_more n =
    by_test (ltb n 10)
    (λ e. let small = ltb-true n 10 e in omega (arith, two_digits n (omega arith), some_digit (n / 10)))
    (λ e. omega (arith, ap length (decimal_more n (ltb-false n 10 e)), length-append (decimal (n / 10)) ((48 + n % 10) ∷ [])))

-- F: a number of 32 bits has at most ten digits
total_short : (p n : ℕ) → p < 100 → n < 4294967296 → length (line_text (total p n)) ≤ 20
unfolding line_text items spaced flat_map
total_short p n h k = simp length-append (omega (arith, two_digits p h, ten n k))
  where
    ten : (m : ℕ) → m < 4294967296 → length (decimal m) ≤ 10
    ten m l =
        omega (
          arith,
          one_digit_more m,
          one_digit_more (m / 10),
          one_digit_more (m / 10 / 10),
          one_digit_more (m / 10 / 10 / 10),
          one_digit_more (m / 10 / 10 / 10 / 10),
          five_digits (m / 10 / 10 / 10 / 10 / 10) (omega arith),
        )

total_line_short : (p n : ℕ) → p < 100 → n < 4294967296 → length (text (total_line p n)) ≤ 20
unfolding total_line text flat_map
total_line_short p zero h k = omega arith
total_line_short p (suc n) h k = simp length-append (omega (arith, total_short p n h (omega arith)))

-- the first entry is no larger than all are
first_small : (bound : ℕ) → 0 < bound → (l : List ℕ) → ((n : ℕ) → Memᴰ n l → n < bound) → first_some l < bound
unfolding first_some
first_small bound h [] small = h
first_small bound h (zero ∷ l) small = first_small bound h l (λ n m. small n (Memᴰ.tail m))
first_small bound h (suc n ∷ l) small = small (suc n) (Memᴰ.head refl)

module _ (t : Task) (right : Checked t) where
  -- C: at most 512 facts
  ceiling_short : (p : ℕ) → p < 20 → length (text (ceilings t p)) ≤ 20
  unfolding ceilings
  ceiling_short p h = go (all (λ s. leb (of_predicate p s.adds) (of_predicate p s.deletes)) t.schemas)
    where
      facts : of_predicate p t.facts ≤ 512
      facts = unfold of_predicate in let few = right.few_facts in omega (arith, count_most (λ a. eqb p a.predicate) t.facts)

      go : (b : Bool) → length (text (cond b (ceiling p (of_predicate p t.facts) ∷ []) [])) ≤ 20
      go true = unfold text flat_map in simp length-append (omega (arith, ceiling_length p (of_predicate p t.facts) (omega arith) (omega (arith, facts))))
      go false = unfold text flat_map in omega arith

  -- R: at most 64 objects
  types_short : (among : List Space) (n k : ℕ) (s : Schema) → n < 100 → k < 100 → length (line_text (types_of t among n s k)) ≤ 202
  unfolding types_of
  types_short among n k s h l =
      let few = right.few_objects in
      let test : ℕ → Bool = λ o. all (has_member among o) (support (bag_of (properties t) s.preconditions k)) in
      omega (
        arith,
        types_length n k (keep test (up_to t.objects)) h l (λ o m. below o (up_to_at t.objects o (keep_at test (up_to t.objects) o m).0) few),
        keep_few test t.objects,
      )
    where
      below : (o : ℕ) {n : ℕ} → o < n → n ≤ 64 → o < 100
      below o p q = omega arith

  -- at most six parameters
  schema_short : (among : List Space) (n : ℕ) (s : Schema) → n < 100 → s.parameters ≤ 6
      → length (text (map (types_of t among n s) (up_to s.parameters))) ≤ 1212
  schema_short among n s h few =
      omega (
        arith,
        text_length 202 (types_of t among n s) (up_to s.parameters) line,
        length_up_to s.parameters,
      )
    where
      line : (k : ℕ) → Memᴰ k (up_to s.parameters) → length (line_text (types_of t among n s k)) ≤ 202
      line k m = let l = up_to_at s.parameters k m in types_short among n k s h (omega arith)

  -- at most 32 schemas
  schemas_short : (among : List Space) (n : ℕ) (schemas : List Schema) → n + length schemas ≤ 100
      → ((s : Schema) → Memᴰ s schemas → s.parameters ≤ 6) → length (text (type_lines t among n schemas)) ≤ 1212 * length schemas
  unfolding type_lines text flat_map
  schemas_short among n [] h few = omega arith
  schemas_short among n (s ∷ schemas) h few =
      omega (
        arith,
        parts_length (map (types_of t among n s) (up_to s.parameters)) (type_lines t among (suc n) schemas),
        schema_short among n s (omega arith) (few s (Memᴰ.head refl)),
        schemas_short among (suc n) schemas (omega arith) (λ x m. few x (Memᴰ.tail m)),
      )

  module _ (fixed : List ℕ) (table : fixed ≡ fixed_table t) (narrow : length (properties t) ≤ 60) (small : (i : ℕ) → get_or fixed i 0 < 4294967296) where
    entries_small : (start size n : ℕ) → Memᴰ n (take size (drop start fixed)) → n < 4294967296
    entries_small start size n m =
        let place = place_of (take size (drop start fixed)) n 0 m in
        let i : ℕ = place.0 in
        let inside : i < size = omega (arith, place.1, length-take size (drop start fixed)) in
        subst (λ (x : ℕ). x < 4294967296) (sym (get_or-take size (drop start fixed) i 0 inside ∙ get_or-drop start fixed i 0) ∙ place.2) (small (start + i))

    total_of_short : (p : ℕ) → p < length t.arities → length (text (totals t (analysis t) p)) ≤ 20
    unfolding total_found
    total_of_short p h =
        let few = right.few_predicates in
        subst (λ (l : List Line). length (text l) ≤ 20) (sym (total_found_lem t fixed table narrow p h))
        (total_line_short p (first_some (take (get_or t.arities p 0) (drop (sum (take p t.arities)) fixed))) (omega arith)
        (first_small 4294967296 (omega arith) (take (get_or t.arities p 0) (drop (sum (take p t.arities)) fixed))
        (λ n m. entries_small (sum (take p t.arities)) (get_or t.arities p 0) n m)))

    -- the whole section
    pub closing_fits : (out : List ℕ) → 65536 ≤ length out → Room (text (closing_lines t (analysis t))) out
    unfolding closing_lines
    closing_fits out h =
        let few = right.few_predicates in
        let few_schemas = right.few_schemas in
        let among = map (λ a. a.space) (analysis t) in
        let f = flat_map (totals t (analysis t)) (up_to (length t.arities)) in
        let c = flat_map (ceilings t) (up_to (length t.arities)) in
        record {
          fits =
              omega (
                arith,
                parts_length (f ++ c) (type_lines t among 0 t.schemas),
                parts_length f c,
                each_within (totals t (analysis t)) 20 (up_to (length t.arities)) (λ p m. total_of_short p (up_to_at (length t.arities) p m)),
                each_within (ceilings t) 20 (up_to (length t.arities)) (λ p m. ceiling_short p (below p (up_to_at (length t.arities) p m) few)),
                length_up_to (length t.arities),
                schemas_short among 0 t.schemas (omega arith) (λ s m. (right.schemas_right s m).few_parameters),
              );
        }
      where
        below : (p : ℕ) {n : ℕ} → p < n → n ≤ 20 → p < 20
        below p q r = omega arith

-- the lines of the closing section are the F and C lines, then the R lines
pub closing_parts : (t : Task) → Begins (text (closing_lines t (analysis t))) (text (front_lines t)) (text (type_lines t (spaces t) 0 t.schemas))
unfolding closing_lines front_lines
closing_parts t = record {
  path =
      ap (λ (among : List Space). text (front_lines t ++ type_lines t among 0 t.schemas)) (spaces_of_analysis t)
      ∙ (text_parts (front_lines t) (type_lines t (spaces t) 0 t.schemas)).path;
}

pub front_parts : (t : Task)
    → Begins (text (front_lines t)) (text (flat_map (totals t (analysis t)) (up_to (length t.arities))))
    (text (flat_map (ceilings t) (up_to (length t.arities))))
unfolding front_lines
front_parts t = text_parts _ _
