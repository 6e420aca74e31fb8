-- The comparison of two bags as the code makes and tells it.
use Rattle.std.specs.Prelude.{ℕ, ◌<◌, ◌≡◌, length, get_or, Option, MatchOption}
use Rattle.laws.specs.Bags as laws
use Rattle.laws.specs.Bags.{Bag, equal, within, around, apart}
use Rattle.conditions.specs.declared.bags.Comparison.{Comparison}
use Rattle.conditions.specs.declared.bags.Comparison.TheVariants.{Equal, Within, Around, Apart}

unfoldable pub in_code : laws.Comparison → Comparison
in_code equal = Equal
in_code within = Within
in_code around = Around
in_code apart = Apart

-- The first place at which two bags differ, or no place where they are the same.
pub record Differ (b other : Bag) (place : ℕ) : Type 0 where
  pub within : place < length b
  pub agree : (k : ℕ) → k < place → get_or b k 0 ≡ get_or other k 0
  pub differ : get_or b place 0 ≡ get_or other place 0 → ⊥

pub record Agree (b other : Bag) : Type 0 where
  pub agree : (k : ℕ) → k < length b → get_or b k 0 ≡ get_or other k 0

abbrev pub FirstDifference : Bag → Bag → Option ℕ → Type 0
FirstDifference b other place = MatchOption place (Agree b other) (Differ b other)
