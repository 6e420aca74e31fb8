-- The arities of properties in a table, predicate by predicate.
use Prim.Native.Nat.{ℕ, suc, ◌+◌, ◌-◌, ◌≤◌, ◌<◌}
use native.Mathlib.Nat.{add-zero}
use native.Mathlib.Numerals.{add-one}
use native.Mathlib.Omega.{arith}
use mathlib.Core.Path.{◌≡◌, refl, sym, ap, ◌∙◌, subst}
use mathlib.Core.List.{List, [], ◌∷◌, ◌++◌, map, flat_map, map-map, append_assoc, append-nil}
use lib.ListN.{length, get_or, take, drop, replicate, length-append, length-map, length-replicate, set, length-take, length-drop, take-append-drop}
use lib.ListN.{replicate-append-replicate}
use lib.Seq.{take_at, drop_at, take-suc, take_all, get_or-append-add}
use Rattle.laws.proofs.Padded.{padded_at}
use Rattle.laws.specs.Lists.{up_to, sum, padded}
use Rattle.laws.proofs.Columns.{length_flat_map}
use Rattle.laws.proofs.Fronts.{map_parts, sum_take_next, sum_take_all}
use Rattle.laws.proofs.Lists.{flat_map_append, length_up_to}
use Rattle.laws.proofs.Mapped.{get_d_map}
use Rattle.model.specs.Card.{Task}
use Rattle.model.specs.Lines.{arity_of}
use Rattle.model.specs.Transitions.{Property, properties_from, properties}
use Rattle.properties.specs.Represented.{property_arities}
use borrow.Author.Fill.{fill_more}

-- ---- one predicate

-- one number put into n places of a list, from a place on
abbrev pub stamped : ℕ → ℕ → ℕ → List ℕ → List ℕ
stamped first n v before = take first before ++ (replicate n v ++ drop n (drop first before))

module _ (first v : ℕ) (before : List ℕ) where
  -- at first nothing is put
  pub stamp_none : before ≡ stamped first 0 v before
  stamp_none = sym (take-append-drop first before)

  -- one place more
  pub stamp_next : (n : ℕ) → first + n < length before → set (stamped first n v before) (first + n) v ≡ stamped first (n + 1) v before
  stamp_next n h =
      set_behind (take first before) (replicate n v ++ drop n (drop first before)) (omega (arith, length-take first before))
      ∙ ap (λ (l : List ℕ). take first before ++ l) (fill_more n v (drop first before) (omega (arith, length-drop first before)))
    where
      set_behind : (xs ys : List ℕ) → length xs ≡ first → set (xs ++ ys) (first + n) v ≡ xs ++ set ys n v
      set_behind xs ys e = ap (λ (k : ℕ). set (xs ++ ys) (k + n) v) (sym e) ∙ go xs
        where
          go : (zs : List ℕ) → set (zs ++ ys) (length zs + n) v ≡ zs ++ set ys n v
          go [] = ap (λ (k : ℕ). set ys k v) (zero_and n)
            where
              zero_and : (n : ℕ) → 0 + n ≡ n
              zero_and n = omega arith
          go (z ∷ zs) = ap (λ (k : ℕ). set (z ∷ (zs ++ ys)) k v) (suc_and (length zs) n) ∙ ap (λ (l : List ℕ). z ∷ l) (go zs)
            where
              suc_and : (m n : ℕ) → suc m + n ≡ suc (m + n)
              suc_and m n = omega arith

  pub length_stamped : (n : ℕ) → first + n ≤ length before → length (stamped first n v before) ≡ length before
  length_stamped n h =
      length-append (take first before) (replicate n v ++ drop n (drop first before))
      ∙ omega (
        arith,
        length-take first before,
        length-append (replicate n v) (drop n (drop first before)),
        length-replicate {A = ℕ} n v,
        length-drop n (drop first before),
        length-drop first before,
      )

-- ---- all predicates

length_arities : (arities : List ℕ) → length (property_arities arities) ≡ sum arities
unfolding property_arities
length_arities arities = length_flat_map (λ n. replicate n n) arities ∙ ap sum (same arities)
  where
    same : (xs : List ℕ) → map (λ n. length (replicate n n)) xs ≡ xs
    same [] = refl
    same (x ∷ xs) = λ i. length-replicate {A = ℕ} x x i ∷ same xs i

-- What the loop has before predicate p: the arities of the properties passed, and where the next begin.
pub record ArityPassed (arities : List ℕ) (p first : ℕ) (table : List ℕ) : Type 0 where
  pub begins : first ≡ sum (take p arities)
  pub is : table ≡ padded 60 0 (property_arities (take p arities))

module _ (arities : List ℕ) (few : sum arities ≤ 60) where
  pub arities_start : ArityPassed arities 0 0 (replicate 60 0)
  unfolding padded property_arities flat_map sum
  arities_start = record { begins = refl; is = refl }

  module _ {p first : ℕ} {table : List ℕ} (so_far : ArityPassed arities p first table) where
    front : List ℕ
    front = property_arities (take p arities)

    sized : length front ≡ first
    unfolding front
    sized = length_arities (take p arities) ∙ sym so_far.begins

    pub arities_room : p < length arities → first + get_or arities p 0 ≤ 60
    arities_room h = omega (arith, so_far.begins, sum_take_next arities p h, sum_take_all (suc p) arities)

    pub arities_next : p < length arities → {n : ℕ} → n ≡ get_or arities p 0 → {step : ℕ} → step ≡ n → {later : List ℕ}
        → later ≡ stamped first n n table → ArityPassed arities (p + 1) (first + step) later
    unfolding front padded property_arities flat_map
    arities_next h {n} e {step} f {later} l = record {
      begins =
          (λ i. so_far.begins i + (f ∙ e) i) ∙ sym (sum_take_next arities p h) ∙ ap (λ (k : ℕ). sum (take k arities)) (sym (add-one p));
      is =
          l
          ∙ ap (stamped first n n) so_far.is
          ∙ ap (λ (xs : List ℕ). xs ++ (replicate n n ++ drop n (drop first (front ++ zeros)))) (take_at front zeros first sized)
          ∙ ap (λ (xs : List ℕ). front ++ (replicate n n ++ drop n xs)) (drop_at front zeros first sized)
          ∙ ap (λ (k : ℕ). front ++ (replicate n n ++ drop n (replicate k 0))) (apart (arities_room h) sized e)
          ∙ ap (λ (xs : List ℕ). front ++ (replicate n n ++ xs)) (fewer n (60 - length front - n))
          ∙ sym (append_assoc front (replicate n n) (replicate (60 - length front - n) 0))
          ∙ (λ i. one_more i ++ replicate (left i) 0);
    }
      where
        zeros : List ℕ
        zeros = replicate (60 - length front) 0

        apart : first + get_or arities p 0 ≤ 60 → length front ≡ first → n ≡ get_or arities p 0 → 60 - length front ≡ n + (60 - length front - n)
        apart a b c = omega arith

        fewer : (a b : ℕ) → drop {A = ℕ} a (replicate (a + b) 0) ≡ replicate b 0
        fewer a b = ap (drop a) (sym (replicate-append-replicate a b 0)) ∙ drop_at (replicate a 0) (replicate b 0) a (length-replicate {A = ℕ} a 0)

        one_more : front ++ replicate n n ≡ property_arities (take (p + 1) arities)
        one_more =
            ap (λ (k : ℕ). front ++ replicate k k) e
            ∙ ap (λ (l : List ℕ). front ++ l) (sym (append-nil (replicate (get_or arities p 0) (get_or arities p 0))))
            ∙ sym (flat_map_append (λ n. replicate n n) (take p arities) (get_or arities p 0 ∷ []))
            ∙ ap property_arities (sym (ap (λ (k : ℕ). take k arities) (add-one p) ∙ take-suc arities p 0 h))

        left : 60 - length front - n ≡ 60 - length (property_arities (take (p + 1) arities))
        left = minus (sym (ap length one_more) ∙ length-append front (replicate n n) ∙ ap (λ (k : ℕ). length front + k) (length-replicate {A = ℕ} n n))
          where
            minus : {m : ℕ} → m ≡ length front + n → 60 - length front - n ≡ 60 - m
            minus q = omega arith

  pub arities_end : {p first : ℕ} {table : List ℕ} → ArityPassed arities p first table → length arities ≤ p
      → table ≡ padded 60 0 (property_arities arities)
  arities_end {p} so_far h = so_far.is ∙ ap (λ (l : List ℕ). padded 60 0 (property_arities l)) (take_all p arities h)

-- ---- by property

-- the arities are those of the properties' predicates
by_property : (front arities : List ℕ)
    → map (λ q. get_or (front ++ arities) q.predicate 0) (properties_from (length front) arities) ≡ property_arities arities
unfolding properties_from property_arities flat_map
by_property front [] = refl
by_property front (a ∷ arities) =
    map_parts f (map (λ i. record { predicate = length front; position = i }) (up_to a)) (properties_from (suc (length front)) arities)
    ∙ (λ i. own i ++ (others ∙ by_property (front ++ (a ∷ [])) arities) i)
  where
    f : Property → ℕ
    f q = get_or (front ++ (a ∷ arities)) q.predicate 0

    all_same : (v : ℕ) (xs : List ℕ) → map (λ x. v) xs ≡ replicate (length xs) v
    all_same v [] = refl
    all_same v (x ∷ xs) = ap (λ (l : List ℕ). v ∷ l) (all_same v xs)

    here : get_or (front ++ (a ∷ arities)) (length front) 0 ≡ a
    here = ap (λ (k : ℕ). get_or (front ++ (a ∷ arities)) k 0) (sym (add-zero (length front))) ∙ get_or-append-add front (a ∷ arities) 0 0

    own : map f (map (λ i. record { predicate = length front; position = i }) (up_to a)) ≡ replicate a a
    own =
        map-map f (λ i. record { predicate = length front; position = i }) (up_to a)
        ∙ all_same (get_or (front ++ (a ∷ arities)) (length front) 0) (up_to a)
        ∙ (λ i. replicate (length_up_to a i) (here i))

    longer : suc (length front) ≡ length (front ++ (a ∷ []))
    longer = let e = length-append front (a ∷ []) in omega arith

    others : map f (properties_from (suc (length front)) arities)
        ≡ map (λ q. get_or ((front ++ (a ∷ [])) ++ arities) q.predicate 0) (properties_from (length (front ++ (a ∷ []))) arities)
    others = λ i. map (λ q. get_or (sym (append_assoc front (a ∷ []) arities) i) q.predicate 0) (properties_from (longer i) arities)

-- the table holds the arity of each property of a task
pub arities_read : (t : Task) (c : ℕ) → c < length (properties t) → get_or (padded 60 0 (property_arities t.arities)) c 0 ≡ arity_of t c
unfolding arity_of properties
arities_read t c h =
    let whole = by_property [] t.arities in
    let f : Property → ℕ = λ q. get_or t.arities q.predicate 0 in
    padded_at 60 0 (property_arities t.arities) c 0 (subst (λ (n : ℕ). c < n) (sym (length-map (properties t) f) ∙ ap length whole) h)
    ∙ ap (λ (l : List ℕ). get_or l c 0) (sym whole)
    ∙ get_d_map f (properties t) c (record { predicate = 0; position = 0 }) 0 h
