-- The fact count: two bytes, high first, at most 512.
use Prim.Native.Nat.{ℕ, ◌+◌, ◌*◌, ◌≤◌, ◌<◌}
use native.Mathlib.Omega.{arith}
use mathlib.Core.Bool.{Bool, true, false}
use mathlib.Core.List.{List, [], ◌∷◌}
use mathlib.Core.Path.{◌≡◌, refl, ap, ◌∙◌, sym, subst}
use borrow.Author.Tests.{le-leb, lt-leb, leb-true}
use lib.Dec.{leb}
use Rattle.model.specs.Answer.{Answer, refused, accepted, ◌>>=◌, ◌>>◌, need}
use Rattle.model.specs.Card.{byte, fact_count}
use Rattle.model.proofs.Answers.{need_both, one_value}
use Rattle.reader_bytes.proofs.Answers.{goes, halts, fails, differ}

module _ (s : List ℕ) where
  -- the card ends at the high byte
  pub high_ends : {k : ℕ} → byte s ≡ refused k → fact_count s ≡ refused k
  unfolding fact_count
  high_ends e = halts _ e

  module _ {high : ℕ} (s₁ : List ℕ) (e : byte s ≡ accepted (high, s₁)) where
    -- .. at the low byte
    pub low_ends : {k : ℕ} → byte s₁ ≡ refused k → fact_count s ≡ refused k
    unfolding fact_count
    low_ends f = goes _ e ∙ halts _ f

    module _ {low : ℕ} {s₂ : List ℕ} (f : byte s₁ ≡ accepted (low, s₂)) where
      pub count_read : {n : ℕ} → n ≡ high * 256 + low → n ≤ 512 → fact_count s ≡ accepted (n, s₂)
      unfolding fact_count
      count_read counted h =
          let few : high * 256 + low ≤ 512 = omega arith in
          goes _ e ∙ goes _ f ∙ need_both _ _ (le-leb _ _ few) ∙ ap (λ m. accepted (m, s₂)) (sym counted)

      -- 11: there are too many
      pub count_over : {n : ℕ} → n ≡ high * 256 + low → 512 < n → fact_count s ≡ refused 11
      unfolding fact_count
      count_over counted h =
          let many : 512 < high * 256 + low = omega arith in
          goes _ e ∙ goes _ f ∙ fails _ _ (lt-leb _ _ many)

-- a fact count that was accepted is at most 512
pub count_held : (s : List ℕ) {n : ℕ} {rest : List ℕ} → fact_count s ≡ accepted (n, rest) → n ≤ 512
unfolding fact_count byte ◌>>=◌ ◌>>◌ need
count_held [] e = absurd (differ e)
count_held (high ∷ []) e = absurd (differ e)
count_held (high ∷ low ∷ s) {n} {rest} e = tested (leb (high * 256 + low) 512) refl e
  where
    checked : Bool → Answer (ℕ × List ℕ)
    checked t = need t 11 >> accepted (high * 256 + low, s)

    tested : (t : Bool) → leb (high * 256 + low) 512 ≡ t → checked t ≡ accepted (n, rest) → n ≤ 512
    tested true h e = subst (λ m. m ≤ 512) (ap (λ v. v.0) (one_value e)) (leb-true _ _ h)
    tested false h e = absurd (differ e)
