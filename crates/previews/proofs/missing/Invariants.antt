-- Of the facts that are passed, those that are not in the state are at the front.
use Rattle.std.proofs.Common.{ℕ, Bool, not, List}
use Rattle.laws.specs.Lists.{member}
use Rattle.state.specs.Rows.{numbers_in}
use Rattle.previews.proofs.InOrder.{Picked}
use Rattle.previews.proofs.missing.Given as goal

-- a number that no row of the state has
abbrev pub absent : ℕ → List ℕ → ℕ → Bool
absent count state n = not (member n (numbers_in count state))

abbrev pub invariant-loop-n : goal.invariant-loop-n
invariant-loop-n l = Picked (absent l.count l.state) l.n-items l.n-index l.new l.numbers
