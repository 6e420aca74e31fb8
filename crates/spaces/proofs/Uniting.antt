-- Uniting groups: one label gives way to another, in as many places as hold it; places past the properties stay as they are.
use Prim.Native.Nat.{ℕ, zero, suc, ◌+◌, ◌≤◌, ◌<◌, ◌-◌, min}
use Rattle.std.specs.Option.{unwrap_or}
use native.Mathlib.Omega.{arith}
use mathlib.Core.Path.{◌≡◌, refl, sym, ap, ◌∙◌, subst}
use mathlib.Core.Bool.{Bool, true, false, cond, ◌||◌}
use mathlib.Core.Logic.{◌⊎◌, inl, inr, ⊎_elim}
use mathlib.Core.List.{List, [], ◌∷◌, ◌++◌, map, map-id, map-append, foldl, Memᴰ}
use lib.Dec.{eqb}
use lib.ListN.{length, get_or, set, replicate, get_or-append}
use borrow.Author.Tests.{eqb-true, eqb-false, eq-eqb, ne_eqb}
use Rattle.laws.specs.Lists.{padded}
use Rattle.laws.specs.Bags.{Bag}
use Rattle.laws.proofs.Tests.{cond_true, cond_false, or_cases, or_left, or_right, by_test}
use Rattle.laws.proofs.Mapped.{map_ext}
use Rattle.laws.proofs.Walks.{changed, changed_at, changed_next, changed_left}
use Rattle.model.specs.Spaces.{unite, unite_all}
use Rattle.model.proofs.Grouping.{length_unite, unite_all_keeps}
use Rattle.properties.specs.Tables.{bag_at}
use Rattle.spaces.specs.Steps.{has_start, changed_by, united_by, first_of}

-- a parameter with a start unites the properties that it changes, any other none
pub united_started : (d a : Bag) → has_start d a ≡ true → united_by d a ≡ changed_by d a
unfolding united_by
united_started d a = cond_true (has_start d a) (changed_by d a) []

pub united_none : (d a : Bag) → has_start d a ≡ false → united_by d a ≡ []
unfolding united_by
united_none d a = cond_false (has_start d a) (changed_by d a) []

-- what the parameter in a row unites
abbrev pub unite_at : ℕ → List ℕ → List ℕ → List ℕ → ℕ → List ℕ
unite_at size deletes adds groups row = unite_all groups (united_by (bag_at size deletes row) (bag_at size adds row))

-- one label in the place of another
abbrev pub replaced : ℕ → ℕ → ℕ → ℕ
replaced from to l = cond (eqb l from) to l

-- the next place of an array whose labels are replaced one after the other: it holds the label that gives way, or another
module _ (from to : ℕ) (groups labels : List ℕ) (i : ℕ) (h : i < length groups) (e : labels ≡ changed (replaced from to) i groups) where
  here : get_or labels i 0 ≡ get_or groups i 0
  here = ap (λ (l : List ℕ). get_or l i 0) e ∙ changed_at (replaced from to) i groups 0

  pub replaced_here : get_or labels i 0 ≡ from → set labels i to ≡ changed (replaced from to) (i + 1) groups
  replaced_here p =
      ap (λ (l : List ℕ). set l i to) e
      ∙ ap (set (changed (replaced from to) i groups) i)
      (sym (cond_true (eqb (get_or groups i 0) from) to (get_or groups i 0) (eq-eqb (get_or groups i 0) from (sym here ∙ p))))
      ∙ changed_next (replaced from to) i groups 0 h

  pub replaced_elsewhere : (get_or labels i 0 ≡ from → ⊥) → labels ≡ changed (replaced from to) (i + 1) groups
  replaced_elsewhere p =
      e
      ∙ changed_left (replaced from to) i groups 0 h
      (cond_false (eqb (get_or groups i 0) from) to (get_or groups i 0) (ne_eqb (get_or groups i 0) from (λ q. p (here ∙ q))))

-- a test for the lower or the higher of two labels that picks the lower one puts the lower in the place of the higher
merged_by : (low high l : ℕ) (b : Bool) (m : ℕ) → m ≡ low → (b ≡ true → (l ≡ low) ⊎ (l ≡ high)) → (l ≡ high → b ≡ true)
    → replaced high low l ≡ cond b m l
merged_by low high l b m e some back =
    by_test (eqb l high)
    (λ p. cond_true (eqb l high) low l p ∙ sym e ∙ sym (cond_true b m l (back (eqb-true l high p))))
    (λ p. cond_false (eqb l high) low l p ∙ by_test b (other p) (λ q. sym (cond_false b m l q)))
  where
    other : eqb l high ≡ false → b ≡ true → l ≡ cond b m l
    other p q =
        ⊎_elim (λ u. u ∙ sym e ∙ sym (cond_true b m l q)) (λ u. absurd (eqb-false l high p u)) (some q)

-- the higher label gives way to the lower
pub unite_lower : (groups : List ℕ) (c d : ℕ) → get_or groups c 0 < get_or groups d 0
    → map (replaced (get_or groups d 0) (get_or groups c 0)) groups ≡ unite c groups d
unfolding unite
unite_lower groups c d h =
    let g = get_or groups c 0 in
    let k = get_or groups d 0 in
    map_ext _ _ groups
    (λ l m.
    merged_by g k l (eqb l g || eqb l k) (min g k) (omega arith)
    (λ e. ⊎_elim (λ p. inl (eqb-true l g p)) (λ p. inr (eqb-true l k p)) (or_cases (eqb l g) (eqb l k) e))
    (λ e. or_right (eqb l g) (eqb l k) (eq-eqb l k e)))

pub unite_upper : (groups : List ℕ) (c d : ℕ) → get_or groups d 0 ≤ get_or groups c 0
    → map (replaced (get_or groups c 0) (get_or groups d 0)) groups ≡ unite c groups d
unfolding unite
unite_upper groups c d h =
    let g = get_or groups c 0 in
    let k = get_or groups d 0 in
    map_ext _ _ groups
    (λ l m.
    merged_by k g l (eqb l g || eqb l k) (min g k) (omega arith)
    (λ e. ⊎_elim (λ p. inr (eqb-true l g p)) (λ p. inl (eqb-true l k p)) (or_cases (eqb l g) (eqb l k) e))
    (λ e. or_left (eqb l g) (eqb l k) (eq-eqb l g e)))

-- where the labels of two properties are one, uniting them changes nothing
pub unite_same : (groups : List ℕ) (c d : ℕ) → get_or groups c 0 ≡ get_or groups d 0 → groups ≡ unite c groups d
unite_same groups c d e =
    sym (map-id groups)
    ∙ map_ext _ _ groups (λ l m. itself (get_or groups c 0) (get_or groups d 0) l e)
    ∙ unite_upper groups c d (omega arith)
  where
    itself : (g k l : ℕ) → g ≡ k → l ≡ replaced g k l
    itself g k l e =
        by_test (eqb l g) (λ p. eqb-true l g p ∙ e ∙ sym (cond_true (eqb l g) k l p)) (λ p. sym (cond_false (eqb l g) k l p))

-- bringing all together with the first, the first itself included
pub unite_all_first : (other : ℕ) (groups cs : List ℕ) → unite_all groups cs ≡ foldl (unite (unwrap_or (first_of cs) other)) groups cs
unfolding unite_all first_of
unite_all_first other groups [] = refl
unite_all_first other groups (c ∷ cs) = ap (λ (l : List ℕ). foldl (unite c) l cs) (unite_same groups c c refl)

-- Places past the properties: their label 0 stays, as no label is lower.
zero_merged : (g h : ℕ) → cond (eqb 0 g || eqb 0 h) (min g h) 0 ≡ 0
zero_merged g h =
    by_test (eqb 0 g || eqb 0 h)
    (λ e.
    cond_true (eqb 0 g || eqb 0 h) (min g h) 0 e
    ∙ ⊎_elim (λ p. lowest_left (eqb-true 0 g p)) (λ p. lowest_right (eqb-true 0 h p)) (or_cases (eqb 0 g) (eqb 0 h) e))
    (λ e. cond_false (eqb 0 g || eqb 0 h) (min g h) 0 e)
  where
    lowest_left : 0 ≡ g → min g h ≡ 0
    lowest_left e = omega arith

    lowest_right : 0 ≡ h → min g h ≡ 0
    lowest_right e = omega arith

map_replicate : (f : ℕ → ℕ) → f 0 ≡ 0 → (n : ℕ) → map f (replicate n 0) ≡ replicate n 0
map_replicate f e zero = refl
map_replicate f e (suc n) = λ i. e i ∷ map_replicate f e n i

unite_padded : (n : ℕ) (groups : List ℕ) (c d : ℕ) → c < length groups → d < length groups
    → unite c (padded n 0 groups) d ≡ padded n 0 (unite c groups d)
unfolding unite padded
unite_padded n groups c d hc hd =
    let k = n - length groups in
    let merged : ℕ → ℕ → ℕ → ℕ = λ g h l. cond (eqb l g || eqb l h) (min g h) l in
    ap (λ (g : ℕ). map (merged g (get_or (groups ++ replicate k 0) d 0)) (groups ++ replicate k 0)) (get_or-append groups (replicate k 0) 0 c hc)
    ∙ ap (λ (h : ℕ). map (merged (get_or groups c 0) h) (groups ++ replicate k 0)) (get_or-append groups (replicate k 0) 0 d hd)
    ∙ map-append (merged (get_or groups c 0) (get_or groups d 0)) groups (replicate k 0)
    ∙ ap (λ (l : List ℕ). unite c groups d ++ l) (map_replicate _ (zero_merged (get_or groups c 0) (get_or groups d 0)) k)
    ∙ ap (λ (m : ℕ). unite c groups d ++ replicate (n - m) 0) (sym (length_unite c groups d))

-- uniting properties of an array's groups, and of the groups alone
module _ (n size : ℕ) where
  fold_padded : (c : ℕ) (cs groups : List ℕ) → length groups ≡ size → c < size → ((d : ℕ) → Memᴰ d cs → d < size)
      → foldl (unite c) (padded n 0 groups) cs ≡ padded n 0 (foldl (unite c) groups cs)
  fold_padded c [] groups e hc known = refl
  fold_padded c (d ∷ cs) groups e hc known =
      ap (λ (l : List ℕ). foldl (unite c) l cs)
      (unite_padded n groups c d (subst (λ (m : ℕ). c < m) (sym e) hc) (subst (λ (m : ℕ). d < m) (sym e) (known d (Memᴰ.head refl))))
      ∙ fold_padded c cs (unite c groups d) (length_unite c groups d ∙ e) hc (λ x m. known x (Memᴰ.tail m))

  pub unite_all_padded : (cs groups : List ℕ) → length groups ≡ size → ((c : ℕ) → Memᴰ c cs → c < size)
      → unite_all (padded n 0 groups) cs ≡ padded n 0 (unite_all groups cs)
  unfolding unite_all
  unite_all_padded [] groups e known = refl
  unite_all_padded (c ∷ cs) groups e known =
      fold_padded c cs groups e (known c (Memᴰ.head refl)) (λ d m. known d (Memᴰ.tail m))

  -- so many unitings, each of properties among the first `size`
  pub unitings_padded : (lists : ℕ → List ℕ) (rows groups : List ℕ) → length groups ≡ size
      → ((row : ℕ) → Memᴰ row rows → (c : ℕ) → Memᴰ c (lists row) → c < size)
      → foldl (λ l row. unite_all l (lists row)) (padded n 0 groups) rows ≡ padded n 0 (foldl (λ l row. unite_all l (lists row)) groups rows)
  unitings_padded lists [] groups e known = refl
  unitings_padded lists (row ∷ rows) groups e known =
      ap (λ (l : List ℕ). foldl (λ k r. unite_all k (lists r)) l rows) (unite_all_padded (lists row) groups e (known row (Memᴰ.head refl)))
      ∙ unitings_padded lists rows (unite_all groups (lists row))
      (unite_all_keeps (λ l. length l ≡ size) (lists row) (λ l a b i j p. length_unite a l b ∙ p) groups e) (λ r m. known r (Memᴰ.tail m))
