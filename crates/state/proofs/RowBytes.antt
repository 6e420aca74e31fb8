-- A row's four bytes: read one by one, written one by one, and as one number.
use Prim.Native.Nat.{ℕ, suc, ◌+◌, ◌*◌, ◌/◌, ◌%◌, ◌^◌, ◌≤◌, ◌<◌}
use native.Mathlib.Omega.{arith}
use native.Mathlib.Numerals.{add-one, add-two, add-three}
use mathlib.Core.Path.{◌≡◌, sym, ap, ◌∙◌, subst}
use mathlib.Core.Bool.{true}
use mathlib.Core.Logic.{◌⊎◌, inl, inr}
use mathlib.Core.List.{List, [], ◌∷◌, ◌++◌}
use lib.Dec.{ltb}
use lib.ListN.{length, get_or, take, drop, set}
use lib.Seq.{drop-cons, sets-eq}
use borrow.Author.Tests.{lt-ltb, ltb-true}
use mir.Syntax.{w32}
use Rattle.std.specs.Int.{to_be_bytes}
use Rattle.laws.specs.Lists.{before}
use Rattle.laws.proofs.Tests.{never, same_test}
use Rattle.laws.proofs.Orders.{compared, before_cases, before_first, before_rest, before_irreflexive}
use Rattle.state.specs.Rows.{row_number, row_bytes}

-- four bytes from a place on
pub four_at :
    (k : ℕ) (b : List ℕ) → k + 4 ≤ length b
    → take 4 (drop k b) ≡ get_or b k 0 ∷ get_or b (k + 1) 0 ∷ get_or b (k + 2) 0 ∷ get_or b (k + 3) 0 ∷ []
four_at k b h =
    let h₀ : k < length b = omega arith in
    let h₁ : suc k < length b = omega arith in
    let h₂ : suc (suc k) < length b = omega arith in
    let h₃ : suc (suc (suc k)) < length b = omega arith in
    ap (take 4)
    (drop-cons b k 0 h₀ ∙ ap (λ (l : List ℕ). get_or b k 0 ∷ l)
    (drop-cons b (suc k) 0 h₁ ∙ ap (λ (l : List ℕ). get_or b (suc k) 0 ∷ l)
    (drop-cons b (suc (suc k)) 0 h₂ ∙ ap (λ (l : List ℕ). get_or b (suc (suc k)) 0 ∷ l) (drop-cons b (suc (suc (suc k))) 0 h₃))))
    ∙ sym (ap (λ (i : ℕ). get_or b k 0 ∷ get_or b i 0 ∷ get_or b (k + 2) 0 ∷ get_or b (k + 3) 0 ∷ []) (add-one k)
    ∙ ap (λ (i : ℕ). get_or b k 0 ∷ get_or b (suc k) 0 ∷ get_or b i 0 ∷ get_or b (k + 3) 0 ∷ []) (add-two k)
    ∙ ap (λ (i : ℕ). get_or b k 0 ∷ get_or b (suc k) 0 ∷ get_or b (suc (suc k)) 0 ∷ get_or b i 0 ∷ []) (add-three k))

-- four bytes stored one after the other
pub four_stored :
    (k : ℕ) (b : List ℕ) (x y z w : ℕ) → k + 4 ≤ length b
    → set (set (set (set b k x) (k + 1) y) (k + 2) z) (k + 3) w ≡ take k b ++ (x ∷ y ∷ z ∷ w ∷ []) ++ drop (k + 4) b
four_stored k b x y z w h =
    ap (λ (i : ℕ). set (set (set (set b k x) i y) (k + 2) z) (k + 3) w) (add-one k)
    ∙ ap (λ (i : ℕ). set (set (set (set b k x) (suc k) y) i z) (k + 3) w) (add-two k)
    ∙ ap (λ (i : ℕ). set (set (set (set b k x) (suc k) y) (suc (suc k)) z) i w) (add-three k)
    ∙ sets-eq (x ∷ y ∷ z ∷ w ∷ []) b k h

-- the four bytes of a number as the library has them
pub be_bytes : (n : ℕ) → n < 2 ^ 32 → to_be_bytes w32 n ≡ row_bytes n
unfolding row_bytes
be_bytes n h = ap (λ (m : ℕ). m ∷ n / 65536 % 256 ∷ n / 256 % 256 ∷ n % 256 ∷ []) (let e : n / 16777216 % 256 ≡ n / 16777216 = omega arith in e)

-- Rows of four bytes, each below 256.
pub record Four (row : List ℕ) : Type 0 where
  pub first : ℕ
  pub second : ℕ
  pub third : ℕ
  pub fourth : ℕ
  pub are : row ≡ first ∷ second ∷ third ∷ fourth ∷ []
  pub small : (first < 256) × (second < 256) × (third < 256) × (fourth < 256)

-- the bytes of a row's number are the row
pub number_bytes : (row : List ℕ) → Four row → row_bytes (row_number row) ≡ row
unfolding row_bytes row_number
number_bytes row f = subst (λ (r : List ℕ). row_bytes (row_number r) ≡ r) (sym f.are) (go f.first f.second f.third f.fourth f.small)
  where
    go : (a b c d : ℕ) → (a < 256) × (b < 256) × (c < 256) × (d < 256) → row_bytes (row_number (a ∷ b ∷ c ∷ d ∷ [])) ≡ a ∷ b ∷ c ∷ d ∷ []
    go a b c d h =
        let n : ℕ = a * 16777216 + b * 65536 + c * 256 + d in
        let p : n / 16777216 ≡ a = omega arith in
        let q : n / 65536 % 256 ≡ b = omega arith in
        let r : n / 256 % 256 ≡ c = omega arith in
        let s : n % 256 ≡ d = omega arith in
        (cc)

-- four digits to the base 256
abbrev digits : ℕ → ℕ → ℕ → ℕ → ℕ
digits a b c d = a * 16777216 + b * 65536 + c * 256 + d

module _ (a b c d x y z w : ℕ) (p : (a < 256) × (b < 256) × (c < 256) × (d < 256)) (q : (x < 256) × (y < 256) × (z < 256) × (w < 256)) where
  -- a smaller number has the earlier digits
  digits_before : digits a b c d < digits x y z w → before (a ∷ b ∷ c ∷ d ∷ []) (x ∷ y ∷ z ∷ w ∷ []) ≡ true
  digits_before h = first (compared a x)
    where
      fourth : a ≡ x → b ≡ y → c ≡ z → before (d ∷ []) (w ∷ []) ≡ true
      fourth i j k = before_first d w [] [] (omega arith)

      third : a ≡ x → b ≡ y → (c < z) ⊎ ((c ≡ z) ⊎ (z < c)) → before (c ∷ d ∷ []) (z ∷ w ∷ []) ≡ true
      third i j (inl k) = before_first c z _ _ k
      third i j (inr (inl k)) = before_rest c z _ _ k (fourth i j k)
      third i j (inr (inr k)) = absurd (omega arith)

      second : a ≡ x → (b < y) ⊎ ((b ≡ y) ⊎ (y < b)) → before (b ∷ c ∷ d ∷ []) (y ∷ z ∷ w ∷ []) ≡ true
      second i (inl k) = before_first b y _ _ k
      second i (inr (inl k)) = before_rest b y _ _ k (third i k (compared c z))
      second i (inr (inr k)) = absurd (omega arith)

      first : (a < x) ⊎ ((a ≡ x) ⊎ (x < a)) → before (a ∷ b ∷ c ∷ d ∷ []) (x ∷ y ∷ z ∷ w ∷ []) ≡ true
      first (inl k) = before_first a x _ _ k
      first (inr (inl k)) = before_rest a x _ _ k (second k (compared b y))
      first (inr (inr k)) = absurd (omega arith)

  -- earlier digits make the smaller number
  before_digits : before (a ∷ b ∷ c ∷ d ∷ []) (x ∷ y ∷ z ∷ w ∷ []) ≡ true → digits a b c d < digits x y z w
  before_digits e = first (before_cases a x (b ∷ c ∷ d ∷ []) (y ∷ z ∷ w ∷ []) e)
    where
      fourth : a ≡ x → b ≡ y → c ≡ z → (d < w) ⊎ ((d ≡ w) × (before [] [] ≡ true)) → digits a b c d < digits x y z w
      fourth i j k (inl l) = omega arith
      fourth i j k (inr l) = never (sym l.1 ∙ before_irreflexive [])

      third : a ≡ x → b ≡ y → (c < z) ⊎ ((c ≡ z) × (before (d ∷ []) (w ∷ []) ≡ true)) → digits a b c d < digits x y z w
      third i j (inl k) = omega arith
      third i j (inr k) = fourth i j k.0 (before_cases d w [] [] k.1)

      second : a ≡ x → (b < y) ⊎ ((b ≡ y) × (before (c ∷ d ∷ []) (z ∷ w ∷ []) ≡ true)) → digits a b c d < digits x y z w
      second i (inl k) = omega arith
      second i (inr k) = third i k.0 (before_cases c z (d ∷ []) (w ∷ []) k.1)

      first : (a < x) ⊎ ((a ≡ x) × (before (b ∷ c ∷ d ∷ []) (y ∷ z ∷ w ∷ []) ≡ true)) → digits a b c d < digits x y z w
      first (inl k) = omega arith
      first (inr k) = second k.0 (before_cases b y (c ∷ d ∷ []) (z ∷ w ∷ []) k.1)

-- the order of rows is that of their numbers
pub number_order : (row other : List ℕ) → Four row → Four other → ltb (row_number row) (row_number other) ≡ before row other
unfolding row_number
number_order row other f g =
    subst (λ (r : List ℕ). ltb (row_number r) (row_number other) ≡ before r other) (sym f.are)
    (subst (λ (s : List ℕ). ltb (row_number (f.first ∷ f.second ∷ f.third ∷ f.fourth ∷ [])) (row_number s)
    ≡ before (f.first ∷ f.second ∷ f.third ∷ f.fourth ∷ []) s) (sym g.are)
    (go f.first f.second f.third f.fourth g.first g.second g.third g.fourth f.small g.small))
  where
    go : (a b c d x y z w : ℕ) → (a < 256) × (b < 256) × (c < 256) × (d < 256) → (x < 256) × (y < 256) × (z < 256) × (w < 256)
        → ltb (digits a b c d) (digits x y z w) ≡ before (a ∷ b ∷ c ∷ d ∷ []) (x ∷ y ∷ z ∷ w ∷ [])
    go a b c d x y z w p q =
        same_test (ltb (digits a b c d) (digits x y z w)) (before (a ∷ b ∷ c ∷ d ∷ []) (x ∷ y ∷ z ∷ w ∷ []))
        (λ e. digits_before a b c d x y z w p q (ltb-true (digits a b c d) (digits x y z w) e))
        (λ e. lt-ltb (digits a b c d) (digits x y z w) (before_digits a b c d x y z w p q e))

-- rows with one number are one
pub number_same : (row other : List ℕ) → Four row → Four other → row_number row ≡ row_number other → row ≡ other
number_same row other f g e = sym (number_bytes row f) ∙ ap row_bytes e ∙ number_bytes other g
