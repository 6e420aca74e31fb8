-- The totals of all spaces: a property is in one space, so that what its space enters is what the property gives.
use Prim.Native.Nat.{ℕ, zero, suc, ◌*◌, ◌≤◌, ◌<◌}
use native.Mathlib.Nat.{le_of_suc-le, le_refl}
use native.Mathlib.Omega.{arith}
use mathlib.Core.Path.{◌≡◌, refl, sym, ap, ◌∙◌, subst}
use mathlib.Core.Bool.{Bool, true, false, cond}
use mathlib.Core.List.{List, [], ◌∷◌, ◌++◌, map, flat_map, foldl, foldl-append, append-nil, Memᴰ}
use lib.Dec.{ltb}
use lib.ListN.{length, get_or, take, replicate, length-map, length-replicate, get_or-eq_default}
use lib.Seq.{take_all, take-suc, ext_get_or}
use borrow.Author.Tests.{ltb-true, ltb-false}
use Rattle.laws.specs.Lists.{keep, up_to, member, padded}
use Rattle.laws.proofs.Tests.{by_test}
use Rattle.laws.proofs.Lists.{flat_map_append, length_up_to, get_d_up_to, mem_get_d, mem_take}
use Rattle.laws.proofs.Mapped.{get_d_map}
use Rattle.laws.proofs.Fronts.{keep_parts}
use Rattle.model.specs.Answer.{accepted}
use Rattle.model.specs.Card.{Task}
use Rattle.model.specs.Writer.{check_task}
use Rattle.model.specs.Transitions.{properties}
use Rattle.model.specs.Spaces.{Space, static}
use Rattle.model.specs.Analysis.{Analysis, analyse, analysis}
use Rattle.model.specs.Lines.{count_of, one_number, totals_by}
use Rattle.model.proofs.RuleCount.{properties_few}
use Rattle.model.proofs.SpaceFacts.{space_unique, properties_known}
use Rattle.model.proofs.ListedSpace.{space_of_analysis, analysed}
use Rattle.properties.specs.Tables.{row}
use Rattle.properties.proofs.Rows.{get_d_zeros, get_d_row, length_row}
use Rattle.closing.specs.Fixed.{first_and_one, fixed_of, fixed_table}
use Rattle.totals.specs.Totals.{given_by, entered, totals_of}
use Rattle.totals.proofs.EnteringTotals.{length_set_all, set_all_at}

-- an analysis is of the property's space
abbrev has : ℕ → Analysis → Bool
has c a = member c a.space.properties

-- the totals that it gives
abbrev gives : ℕ → Analysis → List ℕ
gives c a = map (λ n. n * length a.space.members) (one_number (map (count_of a.space.properties c) a.conditions))

-- ---- one analysis more

totals_parts : (c : ℕ) (some more : List Analysis) → totals_by (some ++ more) c ≡ totals_by some c ++ totals_by more c
unfolding totals_by
totals_parts c some more =
    ap (flat_map (gives c)) (keep_parts (has c) some more) ∙ flat_map_append (gives c) (keep (has c) some) (keep (has c) more)

-- what an analysis gives, if it is of the property's space
totals_one : (c : ℕ) (a : Analysis) (b : Bool) → has c a ≡ b → totals_by (a ∷ []) c ≡ cond b (gives c a) []
unfolding totals_by keep flat_map
totals_one c a true e = ap (λ (b : Bool). flat_map (gives c) (cond b (a ∷ []) [])) e ∙ append-nil (gives c a)
totals_one c a false e = ap (λ (b : Bool). flat_map (gives c) (cond b (a ∷ []) [])) e

-- where every analysis of the property's space is this one, the first total is what this one gives
first_total : (c : ℕ) (a : Analysis) (analyses : List Analysis) → ((x : Analysis) → Memᴰ x analyses → has c x ≡ true → x ≡ a)
    → first_and_one (totals_by analyses c ++ gives c a) ≡ first_and_one (gives c a)
first_total c a [] h = unfold totals_by keep flat_map in refl
first_total c a (x ∷ analyses) h = go (first_total c a analyses (λ y m. h y (mathlib.Core.List.Memᴰ.tail m))) (has c x) refl
  where
    again : (g rest : List ℕ) → first_and_one (rest ++ g) ≡ first_and_one g → first_and_one ((g ++ rest) ++ g) ≡ first_and_one g
    again [] rest e = e
    again (n ∷ g) rest e = unfold first_and_one in refl

    split : totals_by (x ∷ analyses) c ≡ totals_by (x ∷ []) c ++ totals_by analyses c
    split = totals_parts c (x ∷ []) analyses

    go : first_and_one (totals_by analyses c ++ gives c a) ≡ first_and_one (gives c a) → (b : Bool) → has c x ≡ b
        → first_and_one (totals_by (x ∷ analyses) c ++ gives c a) ≡ first_and_one (gives c a)
    go later true e =
        ap (λ (l : List ℕ). first_and_one (l ++ gives c a))
        (split
        ∙ ap (λ (l : List ℕ). l ++ totals_by analyses c)
        (totals_one c x true e ∙ ap (gives c) (h x (mathlib.Core.List.Memᴰ.head refl) e)))
        ∙ again (gives c a) (totals_by analyses c) later
    go later false e =
        ap (λ (l : List ℕ). first_and_one (l ++ gives c a)) (split ∙ ap (λ (l : List ℕ). l ++ totals_by analyses c) (totals_one c x false e)) ∙ later

-- what the property gives with one analysis more, if no earlier one is of its space but this one
next_total : (c : ℕ) (analyses : List Analysis) (a : Analysis)
    → (has c a ≡ true → (x : Analysis) → Memᴰ x analyses → has c x ≡ true → x ≡ a)
    → fixed_of (analyses ++ (a ∷ [])) c
    ≡ cond (has c a) (given_by (length a.space.members) (map (count_of a.space.properties c) a.conditions)) (fixed_of analyses c)
unfolding fixed_of given_by
next_total c analyses a alone = ap first_and_one (totals_parts c analyses (a ∷ [])) ∙ go (has c a) refl
  where
    go : (b : Bool) → has c a ≡ b
        → first_and_one (totals_by analyses c ++ totals_by (a ∷ []) c) ≡ cond b (first_and_one (gives c a)) (first_and_one (totals_by analyses c))
    go true e =
        ap (λ (l : List ℕ). first_and_one (totals_by analyses c ++ l)) (totals_one c a true e) ∙ first_total c a analyses (alone e)
    go false e =
        ap (λ (l : List ℕ). first_and_one (totals_by analyses c ++ l)) (totals_one c a false e)
        ∙ ap first_and_one (append-nil (totals_by analyses c))

-- ---- space by space

-- the table with one analysis more
pub totals_next : (analyses : List Analysis) (a : Analysis)
    → totals_of (analyses ++ (a ∷ []))
    ≡ entered a.space.properties a.conditions (length a.space.members) (totals_of analyses)
unfolding totals_of
totals_next analyses a = foldl-append _ (replicate 60 0) analyses (a ∷ [])

pub length_totals : (analyses : List Analysis) → length (totals_of analyses) ≡ 60
unfolding totals_of entered
length_totals analyses = go (replicate 60 0) analyses (length-replicate {A = ℕ} 60 0)
  where
    go : (fixed : List ℕ) (left : List Analysis) → length fixed ≡ 60
        → length (foldl (λ f a. entered a.space.properties a.conditions (length a.space.members) f) fixed left) ≡ 60
    go fixed [] e = e
    go fixed (a ∷ left) e =
        go (entered a.space.properties a.conditions (length a.space.members) fixed) left (length_set_all _ fixed a.space.properties ∙ e)

-- a property's entry in it
entered_at : (a : Analysis) (fixed : List ℕ) (c : ℕ) → c < length fixed
    → get_or (entered a.space.properties a.conditions (length a.space.members) fixed) c 0
    ≡ cond (has c a) (given_by (length a.space.members) (map (count_of a.space.properties c) a.conditions)) (get_or fixed c 0)
unfolding entered
entered_at a fixed c h =
    set_all_at (λ d. given_by (length a.space.members) (map (count_of a.space.properties d) a.conditions)) fixed a.space.properties c h

module _ (t : Task) where
  -- two analyses with one property are one
  alone : (a x : Analysis) → Memᴰ a (analysis t) → Memᴰ x (analysis t) → (c : ℕ) → has c a ≡ true → has c x ≡ true → x ≡ a
  alone a x m n c h k =
      let p = analysed t a m in
      let q = analysed t x n in
      let own : (y : Analysis) (u : Space) → y ≡ analyse t u → y.space ≡ u =
      λ y u e. ap (λ (z : Analysis). z.space) e ∙ space_of_analysis t u in
      let one : q.0 ≡ p.0 =
      space_unique t q.0 p.0 q.1 p.1 c
      (subst (λ (u : Space). member c u.properties ≡ true) (own x q.0 q.2) k)
      (subst (λ (u : Space). member c u.properties ≡ true) (own a p.0 p.2) h) in
      q.2 ∙ ap (analyse t) one ∙ sym p.2

  -- after so many spaces each property has what those spaces give
  totals_to : (n c : ℕ) → n ≤ length (analysis t) → c < 60 → get_or (totals_of (take n (analysis t))) c 0 ≡ fixed_of (take n (analysis t)) c
  totals_to zero c h k = unfold totals_of fixed_of totals_by keep flat_map first_and_one in get_d_zeros 60 c
  totals_to (suc n) c h k =
      let none : Analysis = record { space = record { properties = []; rules = []; members = [] }; kind = static; conditions = []; hidden = [] } in
      let a = get_or (analysis t) n none in
      let some = take n (analysis t) in
      let here : Memᴰ a (analysis t) = mem_get_d (analysis t) n none h in
      let more : take (suc n) (analysis t) ≡ some ++ (a ∷ []) = take-suc (analysis t) n none h in
      ap (λ (l : List Analysis). get_or (totals_of l) c 0) more
      ∙ ap (λ (l : List ℕ). get_or l c 0) (totals_next some a)
      ∙ entered_at a (totals_of some) c (subst (λ (m : ℕ). c < m) (sym (length_totals some)) k)
      ∙ ap (λ (m : ℕ). cond (has c a) (given_by (length a.space.members) (map (count_of a.space.properties c) a.conditions)) m)
      (totals_to n c (le_of_suc-le h) k)
      ∙ sym (next_total c some a (λ e x m. alone a x here (mem_take n (analysis t) x m) c e))
      ∙ ap (λ (l : List Analysis). fixed_of l c) (sym more)

  -- a number past the properties is in no space
  none_past : (c : ℕ) → length (properties t) ≤ c → fixed_of (analysis t) c ≡ 0
  none_past c h = unfold fixed_of first_and_one in ap first_and_one (none (analysis t) (λ a m. m))
    where
      none : (analyses : List Analysis) → ((a : Analysis) → Memᴰ a analyses → Memᴰ a (analysis t)) → totals_by analyses c ≡ []
      none [] inside = unfold totals_by keep flat_map in refl
      none (a ∷ analyses) inside =
          totals_parts c (a ∷ []) analyses
          ∙ ap (λ (l : List ℕ). l ++ totals_by analyses c)
          (totals_one c a false
          (by_test (has c a)
          (λ e.
          let p = analysed t a (inside a (mathlib.Core.List.Memᴰ.head refl)) in
          let s : a.space ≡ p.0 = ap (λ (z : Analysis). z.space) p.2 ∙ space_of_analysis t p.0 in
          absurd (omega (arith, properties_known t p.0 p.1 c (subst (λ (u : Space). member c u.properties ≡ true) s e))))
          (λ e. e)))
          ∙ none analyses (λ x m. inside x (mathlib.Core.List.Memᴰ.tail m))

  -- so the spaces of a task enter its totals
  pub totals_are : check_task t ≡ accepted tt → totals_of (analysis t) ≡ fixed_table t
  unfolding fixed_table padded row
  totals_are ok =
      let few = properties_few t ok in
      let entries = map (fixed_of (analysis t)) (up_to (length (properties t))) in
      let all = up_to (length (properties t)) in
      let counted : length entries ≡ length (properties t) = length-map all (fixed_of (analysis t)) ∙ length_up_to (length (properties t)) in
      ext_get_or 0 (totals_of (analysis t)) (row entries) (length_totals (analysis t) ∙ sym (length_row entries (omega arith)))
      (λ c k.
      let inside : c < 60 = subst (λ (n : ℕ). c < n) (length_totals (analysis t)) k in
      ap (λ (l : List Analysis). get_or (totals_of l) c 0) (sym (take_all (length (analysis t)) (analysis t) (le_refl _)))
      ∙ totals_to (length (analysis t)) c (le_refl _) inside
      ∙ ap (λ (l : List Analysis). fixed_of l c) (take_all (length (analysis t)) (analysis t) (le_refl _))
      ∙ by_test (ltb c (length (properties t)))
      (λ e.
      let h = ltb-true c (length (properties t)) e in
      sym
      (get_d_row entries c
      ∙ get_d_map (fixed_of (analysis t)) (up_to (length (properties t))) c 0 0 (subst (λ (n : ℕ). c < n) (sym (length_up_to _)) h)
      ∙ ap (fixed_of (analysis t)) (get_d_up_to (length (properties t)) c 0 h)))
      (λ e.
      let h = ltb-false c (length (properties t)) e in
      none_past c h ∙ sym (get_d_row entries c ∙ get_or-eq_default entries 0 (subst (λ (n : ℕ). n ≤ c) (sym counted) h))))
