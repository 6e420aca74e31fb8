-- What reading an input says: the bytes read are at the front of the window. Where the input's bytes are known, so are they.
use Rattle.std.specs.Prelude.{ℕ, ◌≤◌, ◌≡◌, List, length, take, Option, IfSome, Result, Ok, Err}

module _ {E : Type 0} where
  abbrev pub FrontRead : Result ℕ E → List ℕ → Type 0
  FrontRead (Ok n) window = n ≤ length window
  FrontRead (Err e) window = Unit {0}

  -- as many of the input's bytes as the window holds, or all of them, are at its front, in their order
  abbrev pub FrontOf : Result ℕ E → Option (List ℕ) → List ℕ → Type 0
  FrontOf (Ok n) known window = IfSome known (λ bytes. take n window ≡ take (length window) bytes)
  FrontOf (Err e) known window = Unit {0}
