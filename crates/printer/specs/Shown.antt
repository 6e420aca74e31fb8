-- What the program prints for a refused card, as the code keeps it.
use Rattle.std.specs.Prelude.{ℕ, ◌≤◌, ◌≡◌, length, take}
use Rattle.model.specs.Answer.{refused}
use Rattle.model.specs.Calls.{printed}
use Rattle.printer.specs.declared.refusals.Line.{Line}

pub record Shows (number : ℕ) (line : Line) : Type 0 where
  pub text : take line.length line.bytes ≡ printed (refused number)
  pub within : line.length ≤ length line.bytes
