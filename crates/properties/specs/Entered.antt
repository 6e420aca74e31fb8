-- The bags of one schema's parameters, written into the three tables from a place on.
use Rattle.std.specs.Prelude.{ℕ, ◌+◌, ◌≤◌, ◌≡◌, List, ◌++◌, length, take, drop}
use Rattle.laws.specs.Bags.{Bag}
use Rattle.model.specs.Card.{Schema}
use Rattle.model.specs.Transitions.{properties_from}
use Rattle.properties.specs.Tables.{rows_before}
use Rattle.properties.specs.Parameters.{bags_over}

-- so many places from `at` on are in each table
pub record RoomFrom (at size : ℕ) (preconditions deletes adds : List ℕ) : Type 0 where
  pub preconditions_room : at + size ≤ length preconditions
  pub deletes_room : at + size ≤ length deletes
  pub adds_room : at + size ≤ length adds

-- rows written from a place on, and what stood before and behind them
unfoldable pub rows_from : ℕ → List Bag → List ℕ → List ℕ
rows_from at bags before = take at before ++ rows_before bags (drop at before)

-- the bags of a schema's parameters in the three tables
pub record SchemaEntered (arities : List ℕ) (s : Schema) (at : ℕ) (preconditions deletes adds p d a : List ℕ) : Type 0 where
  pub preconditions_are : p ≡ rows_from at (bags_over (properties_from 0 arities) s.preconditions s.parameters) preconditions
  pub deletes_are : d ≡ rows_from at (bags_over (properties_from 0 arities) s.deletes s.parameters) deletes
  pub adds_are : a ≡ rows_from at (bags_over (properties_from 0 arities) s.adds s.parameters) adds
