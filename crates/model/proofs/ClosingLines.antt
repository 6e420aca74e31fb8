-- The lines of the closing section: how an F, a C and an R line come about.
use Prim.Native.Nat.{ℕ, zero, suc, ◌+◌, ◌*◌, ◌<◌, zero-le, suc-le-suc}
use native.Mathlib.Nat.{add-zero, not-suc-le-zero, le_of_suc-le-suc}
use native.Mathlib.Omega.{arith}
use mathlib.Core.Path.{◌≡◌, refl, sym, ap, ◌∙◌, subst}
use mathlib.Core.Bool.{Bool, true, false, cond}
use mathlib.Core.Logic.{⊎_elim}
use mathlib.Core.List.Memᴰ
use mathlib.Core.List.{List, [], ◌∷◌, ◌++◌, map, flat_map, Memᴰ}
use lib.Dec.{leb}
use lib.ListN.{length, get_or, take}
use Rattle.laws.specs.Lists.{all, keep, up_to, member}
use Rattle.laws.proofs.Lists.{keep_at, flat_map_at, up_to_at, up_to_intro, mem_take}
use Rattle.model.specs.Card.{Task, Schema}
use Rattle.model.specs.Spaces.{Space, property, spaces}
use Rattle.model.specs.Analysis.{Analysis, analysis}
use Rattle.model.specs.Lines.{Line, total, ceiling, count_of, property_number, one_number, totals_by, totals, of_predicate, ceilings}
use Rattle.model.specs.Lines.{types_of, type_lines, closing_lines}
use Rattle.model.proofs.ListedSpace.{conditions_listed, of_each_space, spaces_of_analysis}

-- how an F line comes about: at a position of the predicate, all conditions of the property's space have one count
pub record TotalLine (t : Task) (p n : ℕ) : Type 0 where
  pub predicate_known : p < length t.arities
  pub position : ℕ
  pub position_known : position < get_or t.arities p 0
  pub of : Analysis
  pub of_listed : Memᴰ of (analysis t)
  pub in_space : member (property_number t p position) of.space.properties ≡ true
  pub each : ℕ
  pub one_number_lem :
      Memᴰ each (one_number (map (count_of of.space.properties (property_number t p position)) of.conditions))
  pub amount : n ≡ each * length of.space.members

-- such a space is listed as P: it has a condition
one_number_some : (ns : List ℕ) (n : ℕ) → Memᴰ n (one_number ns) → (x : ℕ) × Memᴰ x ns
unfolding one_number
one_number_some [] n m = absurd (Memᴰ.not-nil m)
one_number_some (y ∷ ns) n m = (y, Memᴰ.head refl)

pub total_of_property : {t : Task} {p n : ℕ} (r : TotalLine t p n) → r.of.kind ≡ property
total_of_property {t} {p} r =
    let a = r.of in
    let c = property_number t p r.position in
    let some = one_number_some (map (count_of a.space.properties c) a.conditions) r.each r.one_number_lem in
    let b = Memᴰ.of_map (count_of a.space.properties c) a.conditions some.1 in
    of_each_space t (λ u x. Memᴰ b.0 x.conditions → x.kind ≡ property) (λ u m. conditions_listed t u b.0) a r.of_listed b.1

total_by : (t : Task) (p n i : ℕ) → p < length t.arities → i < get_or t.arities p 0
    → Memᴰ n (totals_by (analysis t) (property_number t p i)) → TotalLine t p n
unfolding totals_by
total_by t p n i hp hi m =
    let r = flat_map_at _ (keep (λ a. member (property_number t p i) a.space.properties) (analysis t)) n m in
    let k = keep_at (λ a. member (property_number t p i) a.space.properties) (analysis t) r.0 r.1 in
    let e = Memᴰ.of_map (λ each. each * length r.0.space.members) _ r.2 in
    record {
      predicate_known = hp;
      position = i;
      position_known = hi;
      of = r.0;
      of_listed = k.0;
      in_space = k.1;
      each = e.0;
      one_number_lem = e.1;
      amount = sym e.2;
    }

total_line_lem : (t : Task) (p : ℕ) (line : Line) → p < length t.arities → Memᴰ line (totals t (analysis t) p)
    → (n : ℕ) × TotalLine t p n × (line ≡ total p n)
unfolding totals
total_line_lem t p line h m =
    let r = Memᴰ.of_map (total p) (take 1 (flat_map (λ i. totals_by (analysis t) (property_number t p i)) (up_to (get_or t.arities p 0)))) m in
    let k = mem_take 1 (flat_map (λ i. totals_by (analysis t) (property_number t p i)) (up_to (get_or t.arities p 0))) r.0 r.1 in
    let f = flat_map_at (λ i. totals_by (analysis t) (property_number t p i)) (up_to (get_or t.arities p 0)) r.0 k in
    (r.0, total_by t p r.0 f.0 h (up_to_at (get_or t.arities p 0) f.0 f.1) f.2, sym r.2)

-- how a C line comes about: in every schema adds are at most deletes
abbrev pub Capped : Task → ℕ → Type 0
Capped t p = all (λ s. leb (of_predicate p s.adds) (of_predicate p s.deletes)) t.schemas ≡ true

ceiling_line : (t : Task) (p : ℕ) (line : Line) → Memᴰ line (ceilings t p)
    → Capped t p × (line ≡ ceiling p (of_predicate p t.facts))
unfolding ceilings
ceiling_line t p line m =
    go (all (λ s. leb (of_predicate p s.adds) (of_predicate p s.deletes)) t.schemas) refl m
  where
    go : (b : Bool) → all (λ s. leb (of_predicate p s.adds) (of_predicate p s.deletes)) t.schemas ≡ b
        → Memᴰ line (cond b (ceiling p (of_predicate p t.facts) ∷ []) [])
        → Capped t p × (line ≡ ceiling p (of_predicate p t.facts))
    go true e k = (e, Memᴰ.eq_of_singleton k)
    go false e k = absurd (Memᴰ.not-nil k)

-- schemas counted from the second on
next_schema : (from i : ℕ) → suc from + i ≡ from + suc i
next_schema from i = omega arith

-- how an R line comes about: the objects of a parameter of a schema
pub types_line : (t : Task) (among : List Space) (from : ℕ) (schemas : List Schema) (d : Schema) (line : Line)
    → Memᴰ line (type_lines t among from schemas)
    → (i : ℕ) × (k : ℕ) × (i < length schemas) × (k < (get_or schemas i d).parameters)
    × (line ≡ types_of t among (from + i) (get_or schemas i d) k)
unfolding type_lines
types_line t among from [] d line m = absurd (Memᴰ.not-nil m)
types_line t among from (s ∷ schemas) d line m =
    ⊎_elim
    (λ here.
    let r = Memᴰ.of_map (types_of t among from s) (up_to s.parameters) here in
    (0, r.0, suc-le-suc zero-le, up_to_at s.parameters r.0 r.1, sym r.2 ∙ ap (λ (n : ℕ). types_of t among n s r.0) (sym (add-zero from))))
    (λ there.
    let r = types_line t among (suc from) schemas d line there in
    (suc r.0, r.1, suc-le-suc r.2, r.3, r.4 ∙ ap (λ (n : ℕ). types_of t among n (get_or schemas r.0 d) r.1) (next_schema from r.0)))
    (Memᴰ.append_cases (map (types_of t among from s) (up_to s.parameters)) m)

-- each parameter of each schema has its R line
pub types_present : (t : Task) (among : List Space) (from : ℕ) (schemas : List Schema) (d : Schema) (i k : ℕ) → i < length schemas
    → k < (get_or schemas i d).parameters
    → Memᴰ (types_of t among (from + i) (get_or schemas i d) k) (type_lines t among from schemas)
unfolding type_lines
types_present t among from [] d i k h hk = absurd (not-suc-le-zero h)
types_present t among from (s ∷ schemas) d zero k h hk =
    Memᴰ.append_left (type_lines t among (suc from) schemas)
    (subst (λ (n : ℕ). Memᴰ (types_of t among n s k) (map (types_of t among from s) (up_to s.parameters))) (sym (add-zero from))
    (Memᴰ.map (types_of t among from s) (up_to_intro s.parameters k hk)))
types_present t among from (s ∷ schemas) d (suc i) k h hk =
    Memᴰ.append_right (map (types_of t among from s) (up_to s.parameters))
    (subst (λ (n : ℕ). Memᴰ (types_of t among n (get_or schemas i d) k) (type_lines t among (suc from) schemas)) (next_schema from i)
    (types_present t among (suc from) schemas d i k (le_of_suc-le-suc h) hk))

-- a line of the closing section. Its R lines go by the spaces of the task, and so not by what is left of a mixed one
pub data ClosingLine (t : Task) (line : Line) : Type 0 where
  is_total : (p n : ℕ) → TotalLine t p n → line ≡ total p n → ClosingLine t line
  is_ceiling : (p : ℕ) → Capped t p → line ≡ ceiling p (of_predicate p t.facts) → ClosingLine t line
  is_types : Memᴰ line (type_lines t (spaces t) 0 t.schemas) → ClosingLine t line

pub closing_line : (t : Task) (line : Line) → Memᴰ line (closing_lines t (analysis t)) → ClosingLine t line
unfolding closing_lines
closing_line t line m =
    ⊎_elim
    (λ front.
    ⊎_elim
    (λ first.
    let r = flat_map_at (totals t (analysis t)) (up_to (length t.arities)) line first in
    let l = total_line_lem t r.0 line (up_to_at (length t.arities) r.0 r.1) r.2 in
    is_total r.0 l.0 l.1 l.2)
    (λ second.
    let r = flat_map_at (ceilings t) (up_to (length t.arities)) line second in
    let l = ceiling_line t r.0 line r.2 in
    is_ceiling r.0 l.0 l.1)
    (Memᴰ.append_cases (flat_map (totals t (analysis t)) (up_to (length t.arities))) front))
    (λ last. is_types (subst (λ (among : List Space). Memᴰ line (type_lines t among 0 t.schemas)) (spaces_of_analysis t) last))
    (Memᴰ.append_cases
    (flat_map (totals t (analysis t)) (up_to (length t.arities)) ++ flat_map (ceilings t) (up_to (length t.arities)))
    m)
