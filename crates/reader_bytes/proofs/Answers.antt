-- How an answer of the definitions goes on: a value goes to what follows, a refusal is handed on, a check passes or refuses.
use Prim.Native.Nat.{ℕ, ◌≤◌}
use native.Mathlib.Omega.{arith}
use mathlib.Core.Bool.{Bool, true, false, ◌&&◌, false≢true}
use mathlib.Core.List.{List, [], ◌∷◌}
use mathlib.Core.Path.{◌≡◌, refl, ap, ◌∙◌, subst}
use lib.Dec.{leb}
use borrow.Author.Tests.{leb-true}
use Rattle.model.specs.Answer.{Answer, refused, accepted, ◌>>=◌, ◌>>◌, need}
use Rattle.model.specs.Card.{byte, byte_that, between}
use Rattle.model.proofs.Answers.{need_both, one_value}

-- a value goes to what follows
pub goes : {A B : Type 0} {x : Answer A} {a : A} (f : A → Answer B) → x ≡ accepted a → (x >>= f) ≡ f a
unfolding ◌>>=◌
goes f e = ap (λ x. x >>= f) e

-- a refusal is handed on
pub halts : {A B : Type 0} {x : Answer A} {n : ℕ} (f : A → Answer B) → x ≡ refused n → (x >>= f) ≡ refused n
unfolding ◌>>=◌
halts f e = ap (λ x. x >>= f) e

-- a check whose test fails
pub fails : {A : Type 0} {t : Bool} (n : ℕ) (y : Answer A) → t ≡ false → (need t n >> y) ≡ refused n
unfolding ◌>>◌ need
fails n y e = ap (λ t. need t n >> y) e

-- a byte that has to pass a test: the card ends, the byte passes, or it fails
module _ (test : ℕ → Bool) (number : ℕ) (s : List ℕ) where
  pub byte_that_ends : {n : ℕ} → byte s ≡ refused n → byte_that test number s ≡ refused n
  unfolding byte_that
  byte_that_ends e = halts _ e

  pub byte_that_passes : {b : ℕ} {rest : List ℕ} → byte s ≡ accepted (b, rest) → test b ≡ true → byte_that test number s ≡ accepted (b, rest)
  unfolding byte_that
  byte_that_passes e t = goes _ e ∙ need_both _ _ t

  pub byte_that_fails : {b : ℕ} {rest : List ℕ} → byte s ≡ accepted (b, rest) → test b ≡ false → byte_that test number s ≡ refused number
  unfolding byte_that
  byte_that_fails e t = goes _ e ∙ fails _ _ t

-- no answer is both a refusal and a value
pub differ : {A : Type 0} {n : ℕ} {a : A} → refused n ≡ accepted a → ⊥
differ e = let o : ◌≡◌ {A = ℕ} 0 1 = cc in omega arith

-- a byte that was accepted passes the test
pub byte_that_held : (test : ℕ → Bool) (number : ℕ) (s : List ℕ) {b : ℕ} {rest : List ℕ} → byte_that test number s ≡ accepted (b, rest)
    → test b ≡ true
unfolding byte_that byte ◌>>=◌ ◌>>◌ need
byte_that_held test number [] e = absurd (differ e)
byte_that_held test number (x ∷ xs) {b} {rest} e = tested (test x) refl e
  where
    checked : Bool → Answer (ℕ × List ℕ)
    checked t = need t number >> accepted (x, xs)

    tested : (t : Bool) → test x ≡ t → checked t ≡ accepted (b, rest) → test b ≡ true
    tested true h e = subst (λ y. test y ≡ true) (ap (λ v. v.0) (one_value e)) h
    tested false h e = absurd (differ e)

-- a byte that was accepted between two bounds is between them
pub between_held : (low high number : ℕ) (s : List ℕ) {b : ℕ} {rest : List ℕ} → byte_that (between low high) number s ≡ accepted (b, rest)
    → (low ≤ b) × (b ≤ high)
unfolding between
between_held low high number s {b} e = both (leb low b) (leb b high) refl refl (byte_that_held (between low high) number s e)
  where
    both : (t u : Bool) → leb low b ≡ t → leb b high ≡ u → (t && u) ≡ true → (low ≤ b) × (b ≤ high)
    both true true l h e = (leb-true low b l, leb-true b high h)
    both true false l h e = absurd (false≢true e)
    both false u l h e = absurd (false≢true e)
