-- The loop of `decode` over the schemas: what is known in it of the whole card.
use Prim.Native.Nat.{ℕ, ◌+◌, ◌≤◌, ◌<◌}
use Rattle.std.proofs.Common.{Ok, Err, sym}
use mathlib.Core.Bool.{true}
use mathlib.Core.List.{List, []}
use mathlib.Core.Option.{none}
use mathlib.Core.Path.{◌≡◌, refl, ap, ap₂, ◌∙◌, subst⁻¹}
use lib.ListN.{length, take, drop, set}
use Rattle.laws.specs.Lists.{padded}
use Rattle.model.specs.Answer.{Answer, refused, accepted}
use Rattle.model.specs.Card as model
use Rattle.card.specs.declared.ArityList.{ArityList}
use Rattle.card.specs.declared.Refusal.{Refusal}
use Rattle.card.specs.declared.Schema.{Schema}
use Rattle.card.specs.declared.FactList.{FactList}
use Rattle.card.specs.declared.SchemaList.{SchemaList}
use Rattle.card.specs.declared.Verdict.TheVariants.{Accepted}
use Rattle.card.specs.Represents.{refusal_number, arities_of, arities_for, schema_of, schema_for, blank_schema, schemas_of}
use Rattle.card.specs.Represents.{schemas_for, facts_of, facts_for, task_of, Decodes}
use Rattle.reader_bytes.specs.declared.Cursor.{Cursor}
use Rattle.reader_bytes.proofs.Answers.{goes, halts, between_held}
use Rattle.reader_atoms.proofs.Filling.{filling_ends, filled, filled_count}
use Rattle.reader_lists.specs.ListReads.{AritiesReads, FactsReads}
use Rattle.reader_lists.proofs.Plain.{Plain, plain_starts, plain_goes_on, plain_stops}
use Rattle.reader.specs.TaskReads.{SchemaReads}
use Rattle.reader.proofs.Headers.{schemas_counted}
use Rattle.reader.proofs.Decoding.{no_schemas, no_facts, more_bytes, whole_card, goes_on, is_over}
use Rattle.reader.proofs.Decoding.{arities_in_range, lent_arities, task_kept, decodes_accepted}

-- The head of a card is read, its predicates and its number of objects; s are the bytes after it.
pub record HeadRead (card arities : List ℕ) (objects : ℕ) (s : List ℕ) : Type 0 where
  pub after_predicates : List ℕ
  pub predicates_read : model.predicates card ≡ accepted (arities, after_predicates)
  pub objects_read : model.byte_that (model.between 1 64) 3 after_predicates ≡ accepted (objects, s)

-- The head is read, and i of n schemas, up to a place on the card.
pub record SchemasFilling (card arities : List ℕ) (objects n : ℕ) (array : List Schema) (i at : ℕ) : Type 0 where
  pub after_head : List ℕ
  pub start : List ℕ
  pub head : HeadRead card arities objects after_head
  pub counted : model.byte_that (model.between 0 32) 4 after_head ≡ accepted (n, start)
  pub plain : Plain (schema_of arities) schema_for blank_schema 32 (model.schema arities) n start card array i at

-- the arities are read, and lent
pub predicates_lent : {card : List ℕ} {l : ArityList} {c : Cursor} → AritiesReads card (model.predicates card) (Ok (l, c))
    → model.predicates card ≡ accepted (take l.count l.arities, drop c.at card)
predicates_lent {card} {c = c} r = r.says ∙ ap (λ a. accepted (a, drop c.at card)) (lent_arities r.keeps)

-- .. and the number of objects
pub head_read : {card : List ℕ} {l : ArityList} {c : Cursor} {n objects : ℕ} {s : List ℕ} → AritiesReads card (model.predicates card) (Ok (l, c))
    → model.byte_that (model.between 1 64) 3 (drop c.at card) ≡ accepted (n, s) → objects ≡ n → HeadRead card (take l.count l.arities) objects s
head_read {card} {c = c} {s = s} r e same =
    record {
      after_predicates = drop c.at card;
      predicates_read = predicates_lent r;
      objects_read = e ∙ ap (λ n. accepted (n, s)) (sym same);
    }

module _ {card arities : List ℕ} {objects : ℕ} {s : List ℕ} (head : HeadRead card arities objects s) where
  -- the number of schemas is refused
  pub schemas_uncounted : {k : ℕ} → model.byte_that (model.between 0 32) 4 s ≡ refused k → model.decode card ≡ refused k
  unfolding model.schemas
  schemas_uncounted e = no_schemas card head.predicates_read head.objects_read (halts _ (schemas_counted s ∙ e))

  -- none of the schemas is read yet
  pub schemas_start : {n m at : ℕ} {list : SchemaList} → model.byte_that (model.between 0 32) 4 s ≡ accepted (n, drop at card) → m ≡ n → at ≤ length card
      → list ≡ schemas_for [] → SchemasFilling card arities objects m list.schemas 0 at
  unfolding schemas_for padded
  schemas_start {at = at} {list} e same within blank =
      let counted = e ∙ ap (λ n. accepted (n, drop at card)) (sym same) in
      record {
        after_head = s;
        start = _;
        head = head;
        counted = counted;
        plain = plain_starts (between_held 0 32 4 s counted).1 within refl (ap (λ (l : SchemaList). l.schemas) blank);
      }

module _ {card arities : List ℕ} {objects n : ℕ} {array : List Schema} {i at : ℕ} (filling : SchemasFilling card arities objects n array i at) where
  -- the schemas after the head are the n that are read one after the other
  counted_off : {k : ℕ} → model.many (λ previous. model.schema arities) none n filling.start ≡ refused k → model.decode card ≡ refused k
  unfolding model.schemas
  counted_off e =
      no_schemas card filling.head.predicates_read filling.head.objects_read
      (goes _ (schemas_counted filling.after_head ∙ filling.counted) ∙ e)

  -- the arities are in range
  pub filling_right : model.in_range arities ≡ true
  filling_right = arities_in_range card filling.head.predicates_read

  module _ (more : i < n) where
    -- a schema is refused
    pub schema_refused_lem : {k : Refusal} → SchemaReads arities card (model.schema arities (drop at card)) (Err k)
        → model.decode card ≡ refused (refusal_number k)
    schema_refused_lem read = counted_off (plain_stops filling.plain more read.says)

    -- a schema is read and listed
    pub schemas_go_on : {s : Schema} {c : Cursor} → SchemaReads arities card (model.schema arities (drop at card)) (Ok (s, c))
        → SchemasFilling card arities objects n (set array i s) (i + 1) c.at
    schemas_go_on read =
        record {
          after_head = filling.after_head;
          start = filling.start;
          head = filling.head;
          counted = filling.counted;
          plain = plain_goes_on filling.plain more read.says read.within read.keeps;
        }

  module _ (done : n ≤ i) where
    abbrev list : SchemaList
    list = record { count = n; schemas = array }

    -- all schemas are read
    schemas_read : model.schemas arities filling.after_head ≡ accepted (schemas_of arities list, drop at card)
    unfolding model.schemas schemas_of
    schemas_read = goes _ (schemas_counted filling.after_head ∙ filling.counted) ∙ filling_ends filling.plain.filling done

    schemas_kept : list ≡ schemas_for (schemas_of arities list)
    unfolding schemas_of schemas_for
    schemas_kept =
        ap₂ {C = SchemaList} (λ n a. record { count = n; schemas = a }) (filled_count filling.plain.filling done) (filled filling.plain.filling done)

    -- a fact, or their number, is refused
    pub facts_refused : {k : Refusal} → FactsReads arities card (model.facts arities objects (drop at card)) (Err k)
        → model.decode card ≡ refused (refusal_number k)
    facts_refused read = no_facts card filling.head.predicates_read filling.head.objects_read schemas_read read.says

    module _ {facts : FactList} {c : Cursor} (read : FactsReads arities card (model.facts arities objects (drop at card)) (Ok (facts, c))) where
      -- bytes follow the last fact
      pub bytes_follow : c.at < length card → model.decode card ≡ refused 14
      bytes_follow h = more_bytes card filling.head.predicates_read filling.head.objects_read schemas_read read.says (goes_on card c.at h)

      -- nothing follows: the card is read whole
      pub card_decodes : {l : ArityList} → l ≡ arities_for (arities_of l) → arities_of l ≡ arities → length card ≤ c.at
          → Decodes card (record { verdict = Accepted; task = record { predicates = l; objects = objects; schemas = list; facts = facts } })
      unfolding task_of
      card_decodes kept same h =
          let whole = whole_card card filling.head.predicates_read filling.head.objects_read schemas_read read.says (is_over card c.at h) in
          let as_task : List ℕ → Answer model.Task =
          λ a. accepted (record { arities = a; objects = objects; schemas = schemas_of a list; facts = facts_of a facts }) in
          decodes_accepted (whole ∙ ap as_task (sym same))
          (task_kept objects kept
          (subst⁻¹ (λ a. list ≡ schemas_for (schemas_of a list)) same schemas_kept)
          (subst⁻¹ (λ a. facts ≡ facts_for (facts_of a facts)) same read.keeps))
