-- What a line writer asks: room in the buffer for its bytes.
use Rattle.std.specs.Prelude.{ℕ, ◌≤◌, List, length}

pub record Room (bytes buffer : List ℕ) : Type 0 where
  pub fits : length bytes ≤ length buffer
