-- Answers: what an accepted or a refused sequence of parts says of each part, and the other way round.
use Prim.Native.Nat.{ℕ, ◌≤◌}
use native.Mathlib.Omega.{arith}
use mathlib.Core.Path.{◌≡◌, refl, sym, ap}
use mathlib.Core.Bool.{Bool, true, false, ◌&&◌}
use lib.Dec.{leb}
use borrow.Author.Tests.{leb-true}
use Rattle.laws.proofs.Tests.{never, and_left, and_right}
use Rattle.model.specs.Answer.{Answer, refused, accepted, ◌>>=◌, ◌>>◌, need}
use Rattle.model.specs.Open.{is_accepted}

-- an accepted answer is not refused
pub accepted_not_refused : {A C : Type 0} {a : A} {n : ℕ} → accepted a ≡ refused n → C
accepted_not_refused e = let z : ◌≡◌ {A = ℕ} 0 1 = cc in absurd (omega arith)

-- an answer has one value, and a refusal one number
pub one_value : {A : Type 0} {a b : A} → accepted a ≡ accepted b → a ≡ b
one_value e = cc

pub one_number_lem : {A : Type 0} {m n : ℕ} → ◌≡◌ {A = Answer A} (refused m) (refused n) → m ≡ n
one_number_lem e = cc

-- a case for each answer
pub by_answer : {A C : Type 0} (x : Answer A) → ((a : A) → x ≡ accepted a → C) → ((n : ℕ) → x ≡ refused n → C) → C
by_answer (refused n) f g = g n refl
by_answer (accepted a) f g = f a refl

-- `>>=`, accepted: the first part has a value, and what follows accepts it
pub then_inv : {A B C : Type 0} (x : Answer A) (next : A → Answer B) {b : B} → (x >>= next) ≡ accepted b
    → ((a : A) → x ≡ accepted a → next a ≡ accepted b → C) → C
unfolding ◌>>=◌
then_inv (refused n) next e f = accepted_not_refused (sym e)
then_inv (accepted a) next e f = f a refl e

pub then_accepted : {A B : Type 0} {x : Answer A} (next : A → Answer B) {a : A} → x ≡ accepted a → (x >>= next) ≡ next a
unfolding ◌>>=◌
then_accepted next e = ap (λ (y : Answer _). y >>= next) e

-- a refusal is handed on
pub then_refused : {A B : Type 0} {x : Answer A} (next : A → Answer B) {n : ℕ} → x ≡ refused n → (x >>= next) ≡ refused n
unfolding ◌>>=◌
then_refused next e = ap (λ (y : Answer _). y >>= next) e

-- `>>`, accepted: both parts are
pub both_inv : {A C : Type 0} (x : Answer (Unit {0})) (y : Answer A) {a : A} → (x >> y) ≡ accepted a
    → (x ≡ accepted tt → y ≡ accepted a → C) → C
unfolding ◌>>◌
both_inv (refused n) y e f = accepted_not_refused (sym e)
both_inv (accepted u) y e f = f refl e

pub both_accepted : {A : Type 0} {x : Answer (Unit {0})} (y : Answer A) → x ≡ accepted tt → (x >> y) ≡ y
unfolding ◌>>◌
both_accepted y e = ap (λ (x : Answer (Unit {0})). x >> y) e

-- `>>`, refused: the first part is, or else the second
pub both_refused_inv : {A C : Type 0} (x : Answer (Unit {0})) (y : Answer A) {n : ℕ} → (x >> y) ≡ refused n
    → (x ≡ refused n → C) → (x ≡ accepted tt → y ≡ refused n → C) → C
unfolding ◌>>◌
both_refused_inv (refused m) y e f g = f (ap refused (one_number_lem e))
both_refused_inv (accepted u) y e f g = g refl e

pub both_refused : {A : Type 0} {x : Answer (Unit {0})} (y : Answer A) {n : ℕ} → x ≡ refused n → (x >> y) ≡ refused n
unfolding ◌>>◌
both_refused y e = ap (λ (x : Answer (Unit {0})). x >> y) e

-- a check passes where its test does, and refuses by its own number
pub need_inv : (test : Bool) (number : ℕ) → need test number ≡ accepted tt → test ≡ true
unfolding need
need_inv true number e = refl
need_inv false number e = accepted_not_refused (sym e)

pub need_accepted : {test : Bool} (number : ℕ) → test ≡ true → need test number ≡ accepted tt
unfolding need
need_accepted number e = ap (λ (b : Bool). need b number) e

pub need_refused : {test : Bool} (number : ℕ) → test ≡ false → need test number ≡ refused number
unfolding need
need_refused number e = ap (λ (b : Bool). need b number) e

pub need_refused_inv : (test : Bool) (number : ℕ) {n : ℕ} → need test number ≡ refused n → (test ≡ false) × (number ≡ n)
unfolding need
need_refused_inv true number e = accepted_not_refused e
need_refused_inv false number e = (refl, one_number_lem e)

-- a check in front of what follows
pub need_both_inv : {A C : Type 0} (test : Bool) (number : ℕ) (y : Answer A) {a : A} → (need test number >> y) ≡ accepted a
    → (test ≡ true → y ≡ accepted a → C) → C
need_both_inv test number y e f = both_inv (need test number) y e λ p q. f (need_inv test number p) q

pub need_both : {A : Type 0} {test : Bool} (number : ℕ) (y : Answer A) → test ≡ true → (need test number >> y) ≡ y
need_both number y e = both_accepted y (need_accepted number e)

-- the test for an accepted answer: it has a value, and a check in front of it is one test more
pub accepted_value : {A : Type 0} (x : Answer A) → is_accepted x ≡ true → (a : A) × (x ≡ accepted a)
unfolding is_accepted
accepted_value (refused n) e = never (sym e)
accepted_value (accepted a) e = (a, refl)

pub accepted_both : {A : Type 0} (test : Bool) (number : ℕ) (x : Answer A) → is_accepted (need test number >> x) ≡ (test && is_accepted x)
unfolding is_accepted need ◌>>◌
accepted_both true number x = refl
accepted_both false number x = refl

-- every number by which an answer may be refused lies from `low` to `high`
abbrev pub RefusedWithin : {A : Type 0} → ℕ → ℕ → Answer A → Type 0
RefusedWithin low high x = (n : ℕ) → x ≡ refused n → (low ≤ n) × (n ≤ high)

module _ (low high : ℕ) where
  pub need_within : (test : Bool) (number : ℕ) → (leb low number && leb number high) ≡ true → RefusedWithin low high (need test number)
  need_within test number h n e =
      let l = leb-true low number (and_left (leb low number) (leb number high) h) in
      let r = leb-true number high (and_right (leb low number) (leb number high) h) in
      let same = (need_refused_inv test number e).1 in
      (omega arith, omega arith)

  pub both_within : {A : Type 0} (x : Answer (Unit {0})) (y : Answer A) → RefusedWithin low high x → RefusedWithin low high y
      → RefusedWithin low high (x >> y)
  both_within x y p q n e = both_refused_inv x y e (p n) (λ u. q n)

  -- a check in front of what follows
  pub need_both_within : {A : Type 0} (test : Bool) (number : ℕ) (y : Answer A) → (leb low number && leb number high) ≡ true
      → RefusedWithin low high y → RefusedWithin low high (need test number >> y)
  need_both_within test number y h q = both_within (need test number) y (need_within test number h) q

  -- an accepted answer is refused by no number, and a sequence by those of its parts
  pub accepted_within : {A : Type 0} {a : A} → RefusedWithin low high (accepted a)
  accepted_within n e = accepted_not_refused e

  pub then_within : {A B : Type 0} (x : Answer A) (next : A → Answer B) → RefusedWithin low high x
      → ((a : A) → RefusedWithin low high (next a)) → RefusedWithin low high (x >>= next)
  unfolding ◌>>=◌
  then_within (refused m) next p q n e = p n (ap refused (one_number_lem e))
  then_within (accepted a) next p q n e = q a n e

-- the parts of an accepted sequence, one by one
pub not_accepted : {A C : Type 0} (n : ℕ) (a : A) → refused n ≡ accepted a → C
not_accepted n a e = accepted_not_refused (sym e)

pub first_passed : {A : Type 0} (x : Answer (Unit {0})) (y : Answer A) (a : A) → (x >> y) ≡ accepted a → x ≡ accepted tt
first_passed x y a e = both_inv x y e λ p q. p

pub then_passed : {A : Type 0} (x : Answer (Unit {0})) (y : Answer A) (a : A) → (x >> y) ≡ accepted a → y ≡ accepted a
then_passed x y a e = both_inv x y e λ p q. q

pub need_passed : {A : Type 0} (test : Bool) (number : ℕ) (y : Answer A) (a : A) → (need test number >> y) ≡ accepted a → test ≡ true
need_passed test number y a e = need_both_inv test number y e λ p q. p

pub need_then : {A : Type 0} (test : Bool) (number : ℕ) (y : Answer A) (a : A) → (need test number >> y) ≡ accepted a → y ≡ accepted a
need_then test number y a e = then_passed (need test number) y a e
