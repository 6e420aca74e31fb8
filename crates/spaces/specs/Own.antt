-- A space's own properties: those of its group.
use Rattle.std.specs.Prelude.{ℕ, ◌≡◌, List, eqb, length, get_or}
use Rattle.laws.specs.Lists.{keep, up_to, padded}
use Rattle.spaces.specs.declared.own.Own.{Own}

-- the properties, of the first `size`, whose group has the lowest property c, ascending
unfoldable pub own_of : List ℕ → ℕ → ℕ → List ℕ
own_of groups size c = keep (λ d. eqb (get_or groups d 0) c) (up_to size)

-- the code's list of them, 0 past their number
pub record Owns (own : List ℕ) (r : Own) : Type 0 where
  pub count : r.count ≡ length own
  pub properties : r.properties ≡ padded 60 0 own
