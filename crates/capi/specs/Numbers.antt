-- What the C interface answers: document 01's value as it is, and a refusal as minus its number.
use Rattle.std.specs.Prelude.{ℕ, ◌+◌, ◌*◌, ◌≤◌, ◌≡◌, List, ℤ, pos, neg_ℤ}
use Rattle.model.specs.Answer.{Answer, refused, accepted, ◌>>=◌}
use Rattle.model.specs.Card.{Task, decode}
use Rattle.model.specs.Calls.{Call, output_bytes, encode}

unfoldable pub signed : Answer ℕ → ℤ
signed (accepted n) = pos n
signed (refused n) = neg_ℤ (pos n)

-- reading alone: 0 for a card that is accepted
unfoldable pub checks : List ℕ → Answer ℕ
checks card = decode card >>= (λ t. accepted 0)

-- reading, then writing what was read: a refusal of the card leaves the output as it is
unfoldable pub rewritten : List ℕ → Answer Task → Call
rewritten out (refused n) = record { answer = refused n; buffer = out }
rewritten out (accepted t) = encode t out

unfoldable pub rewrites : List ℕ → List ℕ → Call
rewrites card out = rewritten out (decode card)

-- the version of the C interface, 0.3.0, with two decimal digits each for minor and patch
unfoldable pub version_number : ℕ
version_number = 0 * 10000 + 3 * 100 + 0

-- a value that is answered is no larger than an output buffer that is asked for
pub record Small (answer : Answer ℕ) : Type 0 where
  pub within : (n : ℕ) → answer ≡ accepted n → n ≤ output_bytes
