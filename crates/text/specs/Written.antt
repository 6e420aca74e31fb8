-- What a line writer leaves: its bytes in front of what stood there, and their number.
use Rattle.std.specs.Prelude.{ℕ, ◌≡◌, List, ◌++◌, length, drop}

pub record Writes (bytes before after : List ℕ) (n : ℕ) : Type 0 where
  pub count : n ≡ length bytes
  pub buffer : after ≡ bytes ++ drop (length bytes) before
