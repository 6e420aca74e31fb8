-- What a call or a part of one answers: a value, or the number of a refusal. Document 01, "Refusals in checking order".
use Rattle.std.specs.Prelude.{ℕ, Bool, cond}

pub data Answer (A : Type 0) : Type 0 where
  refused : ℕ → Answer A
  accepted : A → Answer A

infixl 10 ◌>>=◌
-- what follows is asked only if there is a value; a refusal is handed on
unfoldable pub ◌>>=◌ : {A B : Type 0} → Answer A → (A → Answer B) → Answer B
refused n >>= next = refused n
accepted a >>= next = next a

infixl 10 ◌>>◌
unfoldable pub ◌>>◌ : {A : Type 0} → Answer (Unit {0}) → Answer A → Answer A
refused n >> next = refused n
accepted done >> next = next

-- the check with this number: it passes where the test does
unfoldable pub need : Bool → ℕ → Answer (Unit {0})
need test number = cond test (accepted tt) (refused number)

-- opens every definition of this module, for what is proved by computation
unfoldable pub answer_opens : Unit {0}
unfolding ◌>>=◌ ◌>>◌ need
answer_opens = tt
