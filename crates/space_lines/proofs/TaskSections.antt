-- The section of an analysed space of a task, or of what is left of one: what the code keeps of it gives its lines.
use Prim.Native.Nat.{ℕ, ◌≤◌}
use native.Mathlib.Omega.{arith}
use mathlib.Core.Path.{◌≡◌, sym, ap, subst, ◌∙◌}
use mathlib.Core.List.{List, ◌∷◌, ◌++◌, map, append_assoc, Memᴰ}
use borrow.Author.Tests.{lt-ltb}
use lib.Dec.{ltb}
use lib.ListN.{length, get_or}
use Rattle.laws.specs.Lists.{member}
use Rattle.laws.proofs.Lists.{all_intro}
use Rattle.laws.proofs.Numbers.{InOrder, in_order_below, in_order_distinct}
use Rattle.laws.proofs.Walks.{keep_few}
use Rattle.masks.specs.Sets.{members_of}
use Rattle.model.specs.Answer.{accepted}
use Rattle.model.specs.Card.{Task}
use Rattle.model.specs.Writer.{check_task}
use Rattle.model.specs.Analysis.{Analysis}
use Rattle.model.specs.Lines.{space, state, membership, minimal, exclusions, nestings, space_lines, arity_of}
use Rattle.model.specs.Transitions.{properties}
use Rattle.model.proofs.Parts.{Part}
use Rattle.model.proofs.RuleCount.{properties_few}
use Rattle.properties.specs.Tables.{stride, bags_in}
use Rattle.sections.proofs.LimitLines.{limits_are}
use Rattle.sections.specs.Comparisons.{comparison_lines}
use Rattle.sections.specs.Limits.{limits_by}
use Rattle.text.specs.Kinds.{kind_says}
use Rattle.text.specs.declared.kinds.Kind.{Kind}
use Rattle.space_lines.specs.OwnLines.{invariant_lines, condition_lines, own_lines, Listable, AritiesOf, SpaceHeld}
use Rattle.space_lines.proofs.Conditions.{Sized, rows_there, few_conditions, bags_are}

-- the definition's lines by the arities of the space's properties
section_lines_lem : (t : Task) (number : ℕ) (a : Analysis) (arities : List ℕ)
    → ((c : ℕ) → Memᴰ c a.space.properties → arity_of t c ≡ get_or arities c 0)
    → space_lines t number a ≡ own_lines number a.kind a.space.properties a.space.members arities a.conditions
unfolding space_lines own_lines condition_lines invariant_lines comparison_lines
section_lines_lem t number a arities h =
    let own = a.space.properties in
    let bags = a.conditions in
    rw (limits_are arities own bags t h)
    (ap (λ lines. space number a.kind own a.space.members ∷ lines)
    (append_assoc (map state bags ++ limits_by arities own bags ++ map membership (minimal bags)) (exclusions bags (minimal bags)) (nestings bags)
    ∙ append_assoc (map state bags ++ limits_by arities own bags) (map membership (minimal bags)) (exclusions bags (minimal bags) ++ nestings bags)
    ∙ append_assoc (map state bags) (limits_by arities own bags) (comparison_lines bags)))

-- An analysis of a task: the properties of its space are the task's, in their order and few enough for a row.
pub record Writable (t : Task) (a : Analysis) : Type 0 where
  pub in_order : InOrder (length (properties t)) a.space.properties
  pub narrow : length a.space.properties ≤ stride
  pub sized : Sized a

-- numbers below n in their order are at most n
pub in_order_few : (n : ℕ) (ns : List ℕ) → InOrder n ns → length ns ≤ n
in_order_few n ns e = subst (λ (l : List ℕ). length l ≤ n) e (keep_few (λ i. member i ns) n)

-- that of a part of a task's spaces
pub part_writable : {t : Task} {a : Analysis} → check_task t ≡ accepted tt → Part t a.space → Sized a → Writable t a
part_writable {t} {a} ok part s =
    record {
      in_order = part.in_order;
      narrow = omega (arith, in_order_few (length (properties t)) a.space.properties part.in_order, properties_few t ok);
      sized = s;
    }

module _ {t : Task} {a : Analysis} (w : Writable t a) {kind : Kind} {own : List ℕ} {members : ℕ} {before table : List ℕ} {count : ℕ}
    (h : SpaceHeld a kind own members before table count) {arities : List ℕ} (r : AritiesOf t arities) where
  -- what the code keeps gives its lines
  pub section_is : (number : ℕ) → own_lines number (kind_says kind) own (members_of members) arities (bags_in (length own) count table)
      ≡ space_lines t number a
  section_is number =
      rw (h.kind_is, h.own_is, h.members_are, bags_are w.sized w.narrow h.conditions_held)
      (sym (section_lines_lem t number a arities (λ c m. sym (r.are c (in_order_below _ _ w.in_order c m)))))

  -- and they can be written
  pub listable : length table ≤ 3840 → Listable own arities table count
  listable short =
      subst (λ (l : List ℕ). Listable l arities table count) (sym h.own_is)
      record {
        rows = rows_there w.sized w.narrow h.conditions_held;
        few = few_conditions w.sized w.narrow h.conditions_held short;
        apart = in_order_distinct _ _ w.in_order;
        known =
            all_intro (λ c. ltb c (length arities)) a.space.properties
            (λ c m. lt-ltb c (length arities) (omega (arith, in_order_below _ _ w.in_order c m, r.long)));
      }
