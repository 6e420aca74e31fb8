-- What the functions ask of the lists that they are handed: no count is larger than its array, and no predicate is past a table of them.
use Rattle.std.specs.Prelude.{ℕ, ◌≤◌, ◌<◌, get_or}
use Rattle.card.specs.declared.Schema.{Schema}
use Rattle.card.specs.declared.SchemaList.{SchemaList}
use Rattle.card.specs.declared.FactList.{FactList}
use Rattle.card.specs.Represents.{blank_atom}

pub record SchemasFit (list : SchemaList) : Type 0 where
  pub few : list.count ≤ 32
  pub few_deletes : (i : ℕ) (d : Schema) → i < list.count → (get_or list.schemas i d).deletes.count ≤ 8
  pub few_adds : (i : ℕ) (d : Schema) → i < list.count → (get_or list.schemas i d).adds.count ≤ 8

pub record FactsFit (list : FactList) : Type 0 where
  pub few : list.count ≤ 512
  pub few_predicates : (i : ℕ) → i < list.count → (get_or list.facts i blank_atom).predicate < 20
