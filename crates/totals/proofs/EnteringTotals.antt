-- The totals of one space: the counts of a column are compared, and what they give is entered for each own property.
use Prim.Native.Nat.{ℕ, ◌+◌, ◌*◌, ◌≤◌, ◌<◌}
use native.Mathlib.Nat.{zero-add, mul-le-mul}
use native.Mathlib.Numerals.{add-one}
use mathlib.Core.Path.{◌≡◌, refl, sym, ap, ◌∙◌, subst}
use mathlib.Core.Bool.{Bool, true, false, cond, ◌&&◌, ◌||◌}
use mathlib.Core.List.{List, [], ◌∷◌, map, foldl, foldl-append}
use lib.Dec.{eqb}
use lib.ListN.{length, get_or, take, set, length-set}
use lib.Seq.{take-suc, get_or-set_same, get_or-set_other}
use borrow.Author.Tests.{eq-eqb, ne_eqb, eqb-true, eqb-false}
use Rattle.laws.specs.Lists.{any, all, up_to, from, member, distinct}
use Rattle.laws.proofs.Tests.{by_test}
use Rattle.laws.proofs.Walks.{left, left_all, left_one, left_none}
use Rattle.model.specs.Lines.{count_of, one_number}
use Rattle.properties.specs.Tables.{stride, bags_in, HasRows}
use Rattle.sections.specs.Limits.{column_of}
use Rattle.sections.proofs.Columns.{column_is}
use Rattle.closing.specs.Fixed.{first_and_one}
use Rattle.totals.specs.Totals.{given_by}

-- ---- a column

module _ (table : List ℕ) (count column : ℕ) where
  abbrev counts : List ℕ → List ℕ
  counts rows = map (λ i. get_or table (stride * i + column) 0) rows

  -- the rows from i on decide whether the column is of one number
  unfoldable pub Decides : ℕ → ℕ → Type 0
  Decides n i = one_number (column_of table count column) ≡ cond (all (eqb n) (counts (left i count))) (n ∷ []) []

  -- no row, no number
  pub none_given : (members : ℕ) → count ≡ 0 → 0 ≡ given_by members (column_of table count column)
  unfolding given_by first_and_one column_of one_number up_to from
  none_given members e = rw e refl

  -- the first row has the number
  pub first_number : 0 < count → Decides (get_or table column 0) 1
  unfolding Decides column_of one_number
  first_number h =
      ap (λ (rows : List ℕ). one_number (counts rows)) (sym (left_all count) ∙ left_one 0 count h)
      ∙ ap (λ (n : ℕ). one_number (n ∷ counts (left (0 + 1) count))) (ap (λ (k : ℕ). get_or table k 0) (zero-add column))

  -- a row with another number
  pub another : (members n i : ℕ) → i < count → (get_or table (stride * i + column) 0 ≡ n → ⊥) → Decides n i
      → 0 ≡ given_by members (column_of table count column)
  unfolding Decides given_by first_and_one all
  another members n i h differs d =
      sym
      (ap (λ (ns : List ℕ). first_and_one (map (λ m. m * members) ns))
      (d
      ∙ ap (λ (rows : List ℕ). cond (all (eqb n) (counts rows)) (n ∷ []) []) (left_one i count h)
      ∙ ap (λ (b : Bool). cond (b && all (eqb n) (counts (left (i + 1) count))) (n ∷ []) [])
      (ne_eqb n (get_or table (stride * i + column) 0) (λ e. differs (sym e)))))

  -- a row with the same
  pub same_number : (n i : ℕ) → i < count → get_or table (stride * i + column) 0 ≡ n → Decides n i → Decides n (i + 1)
  unfolding Decides all
  same_number n i h e d =
      d
      ∙ ap (λ (rows : List ℕ). cond (all (eqb n) (counts rows)) (n ∷ []) []) (left_one i count h)
      ∙ ap (λ (b : Bool). cond (b && all (eqb n) (counts (left (i + 1) count))) (n ∷ []) [])
      (eq-eqb n (get_or table (stride * i + column) 0) (sym e))

  -- no row is left
  pub one_number_lem : (members n i : ℕ) → count ≤ i → Decides n i → n * members + 1 ≡ given_by members (column_of table count column)
  unfolding Decides given_by first_and_one all
  one_number_lem members n i h d =
      add-one (n * members)
      ∙ sym
      (ap (λ (ns : List ℕ). first_and_one (map (λ m. m * members) ns))
      (d ∙ ap (λ (rows : List ℕ). cond (all (eqb n) (counts rows)) (n ∷ []) []) (left_none i count h)))

-- so the column of a property gives its total
pub column_gives : (own : List ℕ) (count members : ℕ) (table : List ℕ) (column : ℕ) {r : ℕ} → HasRows (length own) count table
    → distinct own ≡ true → column < length own → r ≡ given_by members (column_of table count column)
    → r ≡ given_by members (map (count_of own (get_or own column 0)) (bags_in (length own) count table))
column_gives own count members table column rows apart h is =
    is ∙ ap (given_by members) (sym (column_is own count table column rows apart h))

-- a total is small
pub total_small : (n members : ℕ) → n ≤ 65535 → members ≤ 64 → n * members ≤ 4194240
total_small n members h k = mul-le-mul h k

-- ---- the properties of a space

module _ (entry : ℕ → ℕ) where
  -- entries set one after the other
  abbrev pub set_all : List ℕ → List ℕ → List ℕ
  set_all before own = foldl (λ f c. set f c (entry c)) before own

  pub length_set_all : (before own : List ℕ) → length (set_all before own) ≡ length before
  length_set_all before [] = refl
  length_set_all before (c ∷ own) = length_set_all (set before c (entry c)) own ∙ length-set before c (entry c)

  -- each of the properties has its entry then, and the others have what they had
  pub set_all_at : (before own : List ℕ) (c : ℕ) → c < length before → get_or (set_all before own) c 0 ≡ cond (member c own) (entry c) (get_or before c 0)
  unfolding member any
  set_all_at before [] c h = refl
  set_all_at before (d ∷ own) c h =
      set_all_at (set before d (entry d)) own c (subst (λ (n : ℕ). c < n) (sym (length-set before d (entry d))) h)
      ∙ by_test (eqb c d)
      (λ e.
      let same = eqb-true c d e in
      ap (λ (x : ℕ). cond (member c own) (entry c) x)
      (subst (λ (x : ℕ). get_or (set before x (entry x)) c 0 ≡ entry c) same (get_or-set_same before c (entry c) 0 h))
      ∙ either_way (member c own)
      ∙ sym (ap (λ (b : Bool). cond (b || member c own) (entry c) (get_or before c 0)) e))
      (λ e.
      ap (λ (x : ℕ). cond (member c own) (entry c) x) (get_or-set_other before d c (entry d) 0 (eqb-false c d e))
      ∙ sym (ap (λ (b : Bool). cond (b || member c own) (entry c) (get_or before c 0)) e))
    where
      either_way : {n : ℕ} (b : Bool) → cond b n n ≡ n
      either_way true = refl
      either_way false = refl

  -- one more
  pub set_all_next : (before own : List ℕ) (j : ℕ) → j < length own
      → set (set_all before (take j own)) (get_or own j 0) (entry (get_or own j 0)) ≡ set_all before (take (j + 1) own)
  set_all_next before own j h =
      sym
      (ap (set_all before) (ap (λ (n : ℕ). take n own) (add-one j) ∙ take-suc own j 0 h)
      ∙ foldl-append (λ f c. set f c (entry c)) before (take j own) (get_or own j 0 ∷ []))
