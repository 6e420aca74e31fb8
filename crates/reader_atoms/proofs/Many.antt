-- Items read in sequence, one at a time.
use Prim.Native.Nat.{ℕ, zero, suc}
use mathlib.Core.Bool.{Bool, true, ◌&&◌}
use mathlib.Core.List.{List, [], ◌∷◌}
use lib.ListN.{length}
use mathlib.Core.Option.{Option, some}
use mathlib.Core.Path.{◌≡◌, refl, ap, ap₂, ◌∙◌, sym}
use Rattle.model.specs.Answer.{Answer, refused, accepted}
use Rattle.model.specs.Card.{Reader, many}
use Rattle.laws.specs.Lists.{all}
use Rattle.model.proofs.Answers.{one_value}
use Rattle.reader_bytes.proofs.Answers.{goes, halts, differ}

module _ {A : Type 0} (read : Option A → Reader A) (previous : Option A) (n : ℕ) (s : List ℕ) where
  -- an item that is refused ends the reading
  pub many_stops : {k : ℕ} → read previous s ≡ refused k → many read previous (suc n) s ≡ refused k
  unfolding many
  many_stops e = halts _ e

  module _ {x : A} {s₁ : List ℕ} (e : read previous s ≡ accepted (x, s₁)) where
    -- an item, and a later one that is refused
    pub many_stops_later : {k : ℕ} → many read (some x) n s₁ ≡ refused k → many read previous (suc n) s ≡ refused k
    unfolding many
    many_stops_later f = goes _ e ∙ halts _ f

    -- an item, and the others after it
    pub many_more : {xs : List A} {s₂ : List ℕ} → many read (some x) n s₁ ≡ accepted (xs, s₂) → many read previous (suc n) s ≡ accepted (x ∷ xs, s₂)
    unfolding many
    many_more f = goes _ e ∙ goes _ f

-- nothing to read
pub many_none : {A : Type 0} (read : Option A → Reader A) (previous : Option A) (s : List ℕ) → many read previous 0 s ≡ accepted ([], s)
unfolding many
many_none read previous s = refl

-- what was read when items were accepted: the first, and the others after it
pub many_first : {A : Type 0} {Q : Type 0} (read : Option A → Reader A) (previous : Option A) (n : ℕ) (s : List ℕ) {xs : List A} {rest : List ℕ}
    → many read previous (suc n) s ≡ accepted (xs, rest)
    → ((x : A) (s₁ : List ℕ) (ys : List A) → read previous s ≡ accepted (x, s₁) → many read (some x) n s₁ ≡ accepted (ys, rest) → xs ≡ x ∷ ys → Q) → Q
many_first {A} {Q} read previous n s {xs} {rest} e next = at_first (read previous s) refl
  where
    others : (x : A) (s₁ : List ℕ) → read previous s ≡ accepted (x, s₁) → (r : Answer (List A × List ℕ)) → many read (some x) n s₁ ≡ r → Q
    others x s₁ f (refused k) g = absurd (differ (sym (many_stops_later read previous n s f g) ∙ e))
    others x s₁ f (accepted (ys, s₂)) g =
        let same : ◌≡◌ {A = List A × List ℕ} (x ∷ ys, s₂) (xs, rest) = one_value (sym (many_more read previous n s f g) ∙ e) in
        next x s₁ ys f (g ∙ ap (λ s. accepted (ys, s)) (ap (λ v. v.1) same)) (sym (ap (λ v. v.0) same))

    at_first : (r : Answer (A × List ℕ)) → read previous s ≡ r → Q
    at_first (refused k) f = absurd (differ (sym (many_stops read previous n s f) ∙ e))
    at_first (accepted (x, s₁)) f = others x s₁ f (many read (some x) n s₁) refl

-- as many items are accepted as were asked for
pub many_count : {A : Type 0} (read : Option A → Reader A) (previous : Option A) (n : ℕ) (s : List ℕ) {xs : List A} {rest : List ℕ}
    → many read previous n s ≡ accepted (xs, rest) → length xs ≡ n
many_count read previous zero s e = ap length (sym (ap (λ v. v.0) (one_value (sym (many_none read previous s) ∙ e))))
many_count read previous (suc n) s e =
    many_first read previous n s e λ x s₁ ys f g same. ap length same ∙ ap suc (many_count read (some x) n s₁ g)

-- what every item that is read passes, all items pass
pub many_all : {A : Type 0} (test : A → Bool) (read : Option A → Reader A)
    → ((previous : Option A) (s : List ℕ) (x : A) (rest : List ℕ) → read previous s ≡ accepted (x, rest) → test x ≡ true)
    → (previous : Option A) (n : ℕ) (s : List ℕ) {xs : List A} {rest : List ℕ} → many read previous n s ≡ accepted (xs, rest) → all test xs ≡ true
unfolding all
many_all test read each previous zero s e = ap (all test) (sym (ap (λ v. v.0) (one_value (sym (many_none read previous s) ∙ e))))
many_all test read each previous (suc n) s e =
    many_first read previous n s e λ x s₁ ys f g same.
    ap (all test) same ∙ ap₂ ◌&&◌ (each previous s x s₁ f) (many_all test read each (some x) n s₁ g)
