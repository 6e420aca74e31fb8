-- Tables that the bags of a task's parameters and objects were written to hold the task.
use Prim.Native.Nat.{ℕ, ◌≤◌, ◌<◌}
use mathlib.Core.Path.{◌≡◌, refl, sym, ap, ◌∙◌, subst}
use mathlib.Core.List.Memᴰ
use mathlib.Core.List.{List, []}
use lib.ListN.{length, length-map}
use Rattle.laws.specs.Lists.{up_to}
use Rattle.laws.proofs.Lists.{length_up_to, get_d_up_to}
use Rattle.laws.proofs.Mapped.{get_d_map}
use Rattle.model.specs.Card.{Task}
use Rattle.model.specs.Transitions.{properties, bag_of}
use Rattle.model.proofs.Grouping.{length_bag_of}
use Rattle.properties.specs.Parameters.{bags_over, ParameterTables}
use Rattle.properties.specs.Represented.{object_bags}
use Rattle.properties.specs.Tables.{stride, rows_before, bag_at}
use Rattle.properties.proofs.ParameterRules.{rules_read}
use Rattle.properties.proofs.RowTables.{Sized, bag_held}
use Rattle.spaces.specs.Tabled.{TablesOf}

module _ (t : Task) (narrow : length (properties t) ≤ stride) where
  bags_sized : Sized (length (properties t)) (object_bags t)
  unfolding object_bags bags_over
  bags_sized b m =
      let o = Memᴰ.of_map (bag_of (properties t) t.facts) (up_to t.objects) m in
      sym (ap length o.2) ∙ length_bag_of (properties t) t.facts o.0

  -- the bag of an object is in its row
  pub object_row : (counts : List ℕ) (o : ℕ) → o < t.objects
      → bag_at (length (properties t)) (rows_before (object_bags t) counts) o ≡ bag_of (properties t) t.facts o
  unfolding object_bags bags_over
  object_row counts o h =
      let here : o < length (up_to t.objects) = subst (λ (n : ℕ). o < n) (sym (length_up_to t.objects)) h in
      bag_held (length (properties t)) narrow (object_bags t) bags_sized counts o
      (subst (λ (n : ℕ). o < n) (sym (length-map (up_to t.objects) (bag_of (properties t) t.facts))) here)
      ∙ get_d_map (bag_of (properties t) t.facts) (up_to t.objects) o 0 [] here
      ∙ ap (bag_of (properties t) t.facts) (get_d_up_to t.objects o 0 h)

  pub tables_held : {count : ℕ} {preconditions deletes adds p d a : List ℕ} (counts : List ℕ) {c : List ℕ}
      → ParameterTables (properties t) t.schemas count preconditions deletes adds p d a → c ≡ rows_before (object_bags t) counts
      → TablesOf t (length (properties t)) count t.objects p d a c
  tables_held counts {c} written bags = record {
    properties_are = refl;
    objects_are = refl;
    rules_are = rules_read t narrow written refl;
    bags_are = λ o h. ap (λ (l : List ℕ). bag_at (length (properties t)) l o) bags ∙ object_row counts o h;
  }
