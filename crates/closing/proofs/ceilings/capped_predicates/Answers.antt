-- The schemas are asked one after the other.
use Rattle.std.proofs.Common.{ℕ, ◌≡◌, ◌<◌, ◌&&◌, Bool, true, false, List, length, get_or, length-take-le, arith, rules, refl, sym, ap, ◌∙◌}
use lib.ListN.{get_or-replicate}
use lib.Seq.{get_or-take}
use Rattle.laws.proofs.Mapped.{all_map}
use Rattle.card.specs.declared.Schema.{Schema}
use Rattle.card.specs.Represents.{atoms_for, blank_schema, entries, atoms_of, schema_of, schemas_of}
use Rattle.card.proofs.Entries.{default_alike, no_schema}
use Rattle.closing.proofs.Capping.{capped}
use Rattle.closing.proofs.Tallying.{decides_start, decides_next, decides_end}
use Rattle.closing.proofs.ceilings.capped_predicates.Goals as goal

abbrev test : ℕ → List ℕ → Schema → Bool
test p arities s = capped p arities s.deletes s.adds

-- the schema that a turn takes, whatever is read past the end
here : (p : ℕ) (arities : List ℕ) (schemas : List Schema) (i : ℕ)
    → test p arities (get_or schemas i no_schema) ≡ test p arities (get_or schemas i blank_schema)
unfolding blank_schema atoms_for atoms_of entries
here p arities schemas i = default_alike (test p arities) no_schema blank_schema refl schemas i

pub loop-s-init : goal.loop-s-init
loop-s-init c p h arities =
    decides_start (test p arities) _ blank_schema _ _ (get_or-replicate 20 p true false (omega (arith, h, c.requires.predicates_bound)))

pub loop-s-preserved : goal.loop-s-preserved
loop-s-preserved c p h arities =
    let l = c.args.list in
    let i = c.loop-s.s-index in
    let size : length l.schemas ≡ 32 = search rules in
    let few = c.requires.schemas_fit.few in
    let more : i < l.count = omega arith in
    decides_next (test p arities) _ blank_schema _ _ i (c.loop-s.invariant p h arities) more _
    (c.still_capped-still.ensures p h arities
    ∙ ap (λ (b : Bool). b && get_or c.loop-s.capped p false)
    (ap (test p arities) (get_or-take l.count l.schemas i no_schema more) ∙ here p arities l.schemas i))

pub returns : goal.returns
unfolding schemas_of schema_of
returns c p h arities =
    let l = c.args.list in
    let size : length l.schemas ≡ 32 = search rules in
    let few = c.requires.schemas_fit.few in
    decides_end (test p arities) _ blank_schema _ _ c.loop-s.s-index (c.loop-s.invariant p h arities)
    (omega (arith, length-take-le l.count l.schemas (omega arith)))
    ∙ sym (all_map (schema_of arities) _ _)
