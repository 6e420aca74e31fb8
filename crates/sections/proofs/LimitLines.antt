-- M lines of a space, property by property.
use Prim.Native.Nat.{ℕ, ◌+◌, ◌≤◌, ◌<◌}
use native.Mathlib.Numerals.{add-one}
use native.Mathlib.Omega.{arith}
use mathlib.Core.Path.{◌≡◌, refl, sym, ap, ◌∙◌}
use mathlib.Core.Bool.{Bool, true, false, cond}
use mathlib.Core.List.{List, [], ◌∷◌, ◌++◌, map, flat_map, Memᴰ}
use borrow.Author.Tests.{le-leb, lt-leb}
use lib.Dec.{leb}
use lib.ListN.{length, get_or, drop, drop_of_length-le}
use lib.Seq.{drop-cons}
use Rattle.laws.specs.Bags.{Bag}
use Rattle.laws.specs.Lists.{keep, up_to, from, distinct}
use Rattle.laws.proofs.Mapped.{keep_ext}
use Rattle.model.specs.Card.{Task}
use Rattle.model.specs.Lines.{Line, limit, limits, largest, count_of, arity_of}
use Rattle.model.specs.Text.{line_text, text}
use Rattle.sections.specs.Limits.{limits_by, column_of}
use Rattle.properties.specs.Tables.{bags_in, HasRows}
use Rattle.properties.proofs.RowTables.{length_bags_in}
use Rattle.sections.proofs.Columns.{column_is}
use Rattle.sections.proofs.LinesLeft.{no_lines}
use Rattle.text.specs.Room.{Room}
use Rattle.text.specs.Written.{Writes}
use Rattle.text.proofs.Writing.{Begins, nothing}

module _ (arities properties : List ℕ) (bags : List Bag) where
  abbrev line : ℕ → Line
  line c = limit c (largest (map (count_of properties c) bags))

  abbrev wide : ℕ → Bool
  wide c = leb 2 (get_or arities c 0)

  -- the M lines of the properties of a list
  unfoldable pub limits_of : List ℕ → List ℕ
  limits_of cs = text (map line (keep wide cs))

  -- with a condition they are those of all properties, with none there is none
  pub limits_all : 0 < length bags → text (limits_by arities properties bags) ≡ limits_of properties
  unfolding limits_of limits_by
  limits_all h = ap text (some bags h)
    where
      some : (bs : List Bag) → 0 < length bs
          → limits_by arities properties bs ≡ map (λ c. limit c (largest (map (count_of properties c) bs))) (keep wide properties)
      some [] h = absurd (omega arith)
      some (b ∷ bs) h = refl

  -- one property's line, or none, and the others
  pub limits_next : (c : ℕ) (cs : List ℕ) {most : ℕ} → largest (map (count_of properties c) bags) ≡ most
      → Begins (limits_of (c ∷ cs)) (cond (leb 2 (get_or arities c 0)) (line_text (limit c most)) []) (limits_of cs)
  unfolding limits_of keep text flat_map
  limits_next c cs e = record { path = go (wide c) ∙ ap (λ (n : ℕ). cond (wide c) (line_text (limit c n)) [] ++ limits_of cs) e }
    where
      go : (b : Bool) → text (map line (cond b (c ∷ keep wide cs) (keep wide cs))) ≡ cond b (line_text (line c)) [] ++ text (map line (keep wide cs))
      go true = refl
      go false = refl

  pub limits_none : limits_of [] ≡ []
  unfolding limits_of keep
  limits_none = no_lines

  -- where the arities are the task's, these are the model's limits
  pub limits_are : (t : Task) → ((c : ℕ) → Memᴰ c properties → arity_of t c ≡ get_or arities c 0)
      → limits t properties bags ≡ limits_by arities properties bags
  unfolding limits limits_by
  limits_are t h = same bags
    where
      same : (bs : List Bag) → limits t properties bs ≡ limits_by arities properties bs
      same [] = refl
      same (b ∷ bs) =
          ap (map (λ c. limit c (largest (map (count_of properties c) (b ∷ bs)))))
          (keep_ext _ _ properties (λ c m. ap (leb 2) (h c m)))

-- no line for an arity below 2
module _ (arity c most : ℕ) where
  pub narrow_written : arity < 2 → (before : List ℕ) → Writes (cond (leb 2 arity) (line_text (limit c most)) []) before before 0
  narrow_written h before = rw (lt-leb 2 arity h) (nothing before)

  -- and one for any other
  pub wide_room : {r : ℕ} {before : List ℕ} → 2 ≤ arity → r ≡ most → Room (cond (leb 2 arity) (line_text (limit c most)) []) before
      → Room (line_text (limit c r)) before
  wide_room h e room = rw e (rw (le-leb 2 arity h) at room)

  pub wide_written : {r n : ℕ} {before after : List ℕ} → 2 ≤ arity → r ≡ most → Writes (line_text (limit c r)) before after n
      → Writes (cond (leb 2 arity) (line_text (limit c most)) []) before after n
  wide_written h e w = rw (le-leb 2 arity h) (rw e at w)

-- M lines of the own properties from a place on
module _ (arities own : List ℕ) (count : ℕ) (table : List ℕ) where
  abbrev bags : List Bag
  bags = bags_in (length own) count table

  abbrev pub limits_from : ℕ → List ℕ
  limits_from k = limits_of arities own bags (drop k own)

  pub limits_start : 0 < count → text (limits_by arities own bags) ≡ limits_from 0
  limits_start some = limits_all arities own bags (rw (length_bags_in (length own) count table) some)

  pub limit_at : (k : ℕ) → HasRows (length own) count table → distinct own ≡ true → k < length own
      → Begins (limits_from k) (cond (leb 2 (get_or arities (get_or own k 0) 0)) (line_text (limit (get_or own k 0) (largest (column_of table count k)))) [])
      (limits_from (k + 1))
  limit_at k rows apart h =
      record {
        path =
            ap (limits_of arities own bags) (drop-cons own k 0 h ∙ ap (λ (n : ℕ). get_or own k 0 ∷ drop n own) (sym (add-one k)))
            ∙ (limits_next arities own bags (get_or own k 0) (drop (k + 1) own)
            (ap largest (column_is own count table k rows apart h))).path;
      }

  pub limits_end : (k : ℕ) → length own ≤ k → limits_from k ≡ []
  limits_end k h = ap (limits_of arities own bags) (drop_of_length-le own h) ∙ limits_none arities own bags

-- and none without a condition
pub no_limits : (arities properties : List ℕ) (size : ℕ) {count : ℕ} (table : List ℕ) {before : List ℕ} → count ≡ 0
    → Writes (text (limits_by arities properties (bags_in size count table))) before before 0
unfolding limits_by bags_in up_to from
no_limits arities properties size table {before} e = rw (e, no_lines) (nothing before)
