-- The bytes of a card put together from the pieces that the code writes.
use Prim.Native.Nat.{ℕ, ◌+◌, ◌*◌, ◌/◌, ◌%◌, ◌≤◌, ◌<◌}
use native.Mathlib.Omega.{arith}
use mathlib.Core.Path.{◌≡◌, refl, sym, ◌∙◌, ap}
use mathlib.Core.Bool.{Bool, true, false, cond, not, ◌&&◌}
use mathlib.Core.List.{List, [], ◌∷◌, ◌++◌, map, flat_map, append_assoc}
use lib.Dec.{eqb, leb, eqb-suc-zero}
use lib.ListN.{length, get_or}
use borrow.Author.Tests.{leb-true}
use Rattle.laws.proofs.Tests.{and_left, and_right}
use Rattle.model.specs.Card as model
use Rattle.model.specs.Writer.{atom_bytes, list_bytes, role_bytes, bit_for, schema_bytes, task_bytes}
use Rattle.card.specs.Represents.{entries, atom_of, atoms_of, schema_of, arities_of, schemas_of, facts_of, task_of, atoms_for, blank_schema}
use Rattle.card.specs.declared.Atom.{Atom}
use Rattle.card.specs.declared.AtomList.{AtomList}
use Rattle.card.specs.declared.Schema.{Schema}
use Rattle.card.specs.declared.Task.{Task}
use Rattle.writer.specs.Bytes.{atom_room, list_room, schema_room, header_room, card_room, WritesAt, bit_where, map_of, schema_fits, Fits}
use Rattle.card.proofs.Entries.{length_atoms, length_schemas, length_facts, length_entries, get_d_entries, default_alike, no_schema}
use Rattle.writer.proofs.WriteLaws.{writes_none, writes_then, writes_within}
use Rattle.laws.specs.Lists.{all}
use Rattle.laws.proofs.Lists.{all_at, mem_get_d}
use Rattle.card.specs.declared.SchemaList.{SchemaList}

-- a list
list_bytes_lem : (xs : List model.Atom) → (length xs ≡ 0 → ⊥) → list_bytes xs ≡ length xs ∷ flat_map atom_bytes xs
unfolding list_bytes
list_bytes_lem [] d = absurd (d refl)
list_bytes_lem (x ∷ xs) d = refl

module _ (arities : List ℕ) (list : AtomList) (at : ℕ) (x : List ℕ) where
  pub empty_list : list.count ≡ 0 → WritesAt list_room at (list_bytes (atoms_of arities list)) x x at
  unfolding list_bytes atoms_of entries
  empty_list e = rw e (writes_none list_room at x)

  pub whole_list : (list.count ≡ 0 → ⊥) → list.count ≤ 8 → at + list_room ≤ length x → (items : List Atom)
      → map (atom_of arities) items ≡ atoms_of arities list → length items ≡ list.count → (y z : List ℕ) (m n : ℕ)
      → WritesAt 1 at (list.count ∷ []) x y m → WritesAt (atom_room * length items) m (flat_map atom_bytes (map (atom_of arities) items)) y z n
      → WritesAt list_room at (list_bytes (atoms_of arities list)) x z n
  whole_list d short fits items read count y z m n v w =
      rw (list_bytes_lem (atoms_of arities list) (λ e. d (sym (length_atoms arities list) ∙ e)), length_atoms)
      (writes_within (1 + atom_room * list.count) list_room at _ x z n
      (writes_then 1 (atom_room * list.count) at _ _ x y z m n v (rw (read, count) at w) (omega arith)) (omega arith))

-- a schema
bit_of_list : (value : ℕ) (xs : List model.Atom) → bit_for value (list_bytes xs) ≡ bit_where (not (eqb (length xs) 0)) value
unfolding bit_for list_bytes bit_where
bit_of_list value [] = refl
bit_of_list value (x ∷ xs) = rw (eqb-suc-zero (length xs))

bit_of_roles : (n : ℕ) → bit_for 1 (role_bytes n) ≡ bit_where (not (eqb n 1)) 1
unfolding role_bytes bit_for bit_where
bit_of_roles n = go (eqb n 1)
  where
    go : (b : Bool) → bit_for 1 (cond b [] (n ∷ [])) ≡ bit_where (not b) 1
    go true = refl
    go false = refl

-- the map by the counts is the map by the fields
map_by_fields : (arities : List ℕ) (s : Schema)
    → bit_for 1 (role_bytes s.parameters) + bit_for 2 (list_bytes (atoms_of arities s.preconditions))
    + bit_for 4 (list_bytes (atoms_of arities s.deletes)) + bit_for 8 (list_bytes (atoms_of arities s.adds))
    ≡ map_of s
unfolding map_of
map_by_fields arities s = simp (bit_of_roles, bit_of_list, length_atoms)

pub whole_schema : (arities : List ℕ) (s : Schema) (at : ℕ) (x : List ℕ) → at + schema_room ≤ length x → (b : ℕ) → b ≡ map_of s
    → (y₁ y₂ y₃ y₄ y₅ : List ℕ) (n₁ n₂ n₃ n₄ n₅ : ℕ)
    → WritesAt 1 at (b ∷ []) x y₁ n₁ → WritesAt 1 n₁ (role_bytes s.parameters) y₁ y₂ n₂
    → WritesAt list_room n₂ (list_bytes (atoms_of arities s.preconditions)) y₂ y₃ n₃
    → WritesAt list_room n₃ (list_bytes (atoms_of arities s.deletes)) y₃ y₄ n₄
    → WritesAt list_room n₄ (list_bytes (atoms_of arities s.adds)) y₄ y₅ n₅
    → WritesAt schema_room at (schema_bytes (schema_of arities s)) x y₅ n₅
unfolding schema_bytes schema_of
whole_schema arities s at x fits b e y₁ y₂ y₃ y₄ y₅ n₁ n₂ n₃ n₄ n₅ w₁ w₂ w₃ w₄ w₅ =
    let v₂ = writes_then 1 1 at _ _ x y₁ y₂ n₁ n₂ w₁ w₂ (omega arith) in
    let v₃ = writes_then 2 list_room at _ _ x y₂ y₃ n₂ n₃ v₂ w₃ (omega arith) in
    let v₄ = writes_then (2 + list_room) list_room at _ _ x y₃ y₄ n₃ n₄ v₃ w₄ (omega arith) in
    rw (map_by_fields arities s, ← e) (writes_then (2 + list_room + list_room) list_room at _ _ x y₄ y₅ n₄ n₅ v₄ w₅ (omega arith))

-- a schema that fits: its role count and its lists
module _ (s : Schema) (fits : schema_fits s ≡ true) where
  each_fits : (s.parameters ≤ 6) × (s.preconditions.count ≤ 8) × (s.deletes.count ≤ 8) × (s.adds.count ≤ 8)
  unfolding schema_fits
  each_fits =
      let a = leb s.parameters 6 in
      let b = leb s.preconditions.count 8 in
      let c = leb s.deletes.count 8 in
      let d = leb s.adds.count 8 in
      let three = and_left (a && b && c) d fits in
      let two = and_left (a && b) c three in (
        leb-true _ _ (and_left a b two),
        leb-true _ _ (and_right a b two),
        leb-true _ _ (and_right (a && b) c three),
        leb-true _ _ (and_right (a && b && c) d fits),
      )

  pub parameters_fit : s.parameters ≤ 6
  parameters_fit = each_fits.0

  pub preconditions_fit : s.preconditions.count ≤ 8
  preconditions_fit = each_fits.1

  pub deletes_fit : s.deletes.count ≤ 8
  deletes_fit = each_fits.2

  pub adds_fit : s.adds.count ≤ 8
  adds_fit = each_fits.3

no_schema_fits : schema_fits no_schema ≡ schema_fits blank_schema
unfolding schema_fits blank_schema atoms_for
no_schema_fits = refl

-- each schema of a table that fits
pub schema_fits_lem : (list : SchemaList) (i : ℕ) → i < list.count → all schema_fits (entries list.count blank_schema list.schemas) ≡ true
    → schema_fits (get_or list.schemas i no_schema) ≡ true
schema_fits_lem list i h e =
    default_alike schema_fits no_schema blank_schema no_schema_fits list.schemas i
    ∙ ap schema_fits (sym (get_d_entries list.count blank_schema list.schemas i h))
    ∙ all_at schema_fits _ e _ (mem_get_d _ i blank_schema (rw length_entries h))

-- the header
pub whole_header : (arities : List ℕ) (objects schemas : ℕ) (x : List ℕ) → length arities ≤ 20 → header_room ≤ length x
    → (y₁ y₂ y₃ y₄ : List ℕ) (n₁ n₂ n₃ n₄ : ℕ) → WritesAt 1 0 (length arities ∷ []) x y₁ n₁ → WritesAt (length arities) n₁ arities y₁ y₂ n₂
    → WritesAt 1 n₂ (objects ∷ []) y₂ y₃ n₃ → WritesAt 1 n₃ (schemas ∷ []) y₃ y₄ n₄
    → WritesAt header_room 0 (length arities ∷ arities ++ (objects ∷ schemas ∷ [])) x y₄ n₄
whole_header arities objects schemas x few enough y₁ y₂ y₃ y₄ n₁ n₂ n₃ n₄ w₁ w₂ w₃ w₄ =
    let k = length arities in
    let v₂ = writes_then 1 k 0 _ _ x y₁ y₂ n₁ n₂ w₁ w₂ (omega arith) in
    let v₃ = writes_then (1 + k) 1 0 _ _ x y₂ y₃ n₂ n₃ v₂ w₃ (omega arith) in
    let v₄ = writes_then (1 + k + 1) 1 0 _ _ x y₃ y₄ n₃ n₄ v₃ w₄ (omega arith) in
    rw append_assoc at (writes_within (1 + k + 1 + 1) header_room 0 _ x y₄ n₄ v₄ (omega arith))

-- the pieces of a card in a row
pieces : (header schemas facts : List ℕ) (a b c d : ℕ)
    → header ++ (a ∷ b ∷ []) ++ schemas ++ (c ∷ d ∷ []) ++ facts ≡ header ++ (a ∷ b ∷ schemas) ++ (c ∷ d ∷ facts)
pieces header schemas facts a b c d = simp append_assoc

-- the whole card, of the arities, schemas and facts that the code reads from their arrays
pub whole_card : (t : Task) (x : List ℕ) → Fits t → card_room ≤ length x → (arities : List ℕ) (schemas : List Schema) (facts : List Atom)
    → arities ≡ arities_of t.predicates → map (schema_of arities) schemas ≡ schemas_of arities t.schemas → length schemas ≡ t.schemas.count
    → map (atom_of arities) facts ≡ facts_of arities t.facts → length facts ≡ t.facts.count
    → {y₁ y₂ y₃ y₄ : List ℕ} {n₁ n₂ n₃ n₄ : ℕ}
    → WritesAt header_room 0 (length arities ∷ arities ++ (t.objects ∷ t.schemas.count ∷ [])) x y₁ n₁
    → WritesAt (schema_room * length schemas) n₁ (flat_map schema_bytes (map (schema_of arities) schemas)) y₁ y₂ n₂
    → WritesAt 2 n₂ (t.facts.count / 256 ∷ t.facts.count % 256 ∷ []) y₂ y₃ n₃
    → WritesAt (atom_room * length facts) n₃ (flat_map atom_bytes (map (atom_of arities) facts)) y₃ y₄ n₄
    → WritesAt card_room 0 (task_bytes (task_of t)) x y₄ n₄
unfolding task_bytes task_of
whole_card t x fits enough arities schemas facts read schemas_read many facts_read most {y₁} {y₂} {y₃} {y₄} {n₁} {n₂} {n₃} {n₄} w₁ w₂ w₃ w₄ =
    let m = t.schemas.count in
    let n = t.facts.count in
    let within : header_room + schema_room * m + 2 + atom_room * n ≤ card_room = omega (arith, fits.schemas, fits.facts) in
    let v₂ = writes_then header_room (schema_room * m) 0 _ _ x y₁ y₂ n₁ n₂ w₁ (rw (schemas_read, many) at w₂) (omega arith) in
    let v₃ = writes_then (header_room + schema_room * m) 2 0 _ _ x y₂ y₃ n₂ n₃ v₂ w₃ (omega arith) in
    let v₄ = writes_then (header_room + schema_room * m + 2) (atom_room * n) 0 _ _ x y₃ y₄ n₃ n₄ v₃ (rw (facts_read, most) at w₄) (omega arith) in
    let written = writes_within (header_room + schema_room * m + 2 + atom_room * n) card_room 0 _ x y₄ n₄ v₄ within in
    rw (
      ← read,
      length_schemas arities t.schemas,
      length_facts arities t.facts,
      ← pieces (length arities ∷ arities) _ _ t.objects m (n / 256) (n % 256),
    )
    written
