-- Demand 2, the round trip: the card of a table is read back as that table, and a card's table is written as that card.
use Prim.Native.Nat.{ℕ, ◌+◌, ◌*◌, ◌/◌, ◌%◌, ◌≤◌, ◌<◌}
use native.Mathlib.Omega.{arith}
use mathlib.Core.Path.{◌≡◌, refl, sym, ap, ◌∙◌, subst}
use mathlib.Core.Bool.{true}
use mathlib.Core.Logic.{◌↔◌}
use mathlib.Core.List.{List, [], ◌∷◌, ◌++◌, flat_map, append_assoc, append-nil}
use lib.Dec.{leb, ltb}
use lib.ListN.{length, take, drop}
use lib.Seq.{take-append_seam}
use borrow.Author.Tests.{leb-true, leb-false, le-leb, lt-leb, ltb-true}
use Rattle.laws.specs.Lists.{all}
use Rattle.laws.proofs.Tests.{never, and_left, and_right, by_test}
use Rattle.laws.proofs.Reading.{all_after}
use Rattle.model.specs.Answer.{refused, accepted}
use Rattle.model.specs.Card.{Task, between, facts, is_end, decode}
use Rattle.model.specs.Writer.{check_task, atom_bytes, schema_bytes, task_bytes}
use Rattle.model.specs.Calls.{Call, output_bytes, finish, output, encode}
use Rattle.model.proofs.Answers.{then_inv, then_accepted, both_accepted, need_both_inv, need_both, one_value, one_number_lem, accepted_not_refused}
use Rattle.model.proofs.Answers.{by_answer, both_refused, need_refused}
use Rattle.model.proofs.CheckParts.{TaskParts, task_parts, check_task_intro, check_task_within}
use Rattle.model.proofs.CardSize.{are_bytes, card_size}
use Rattle.model.proofs.Codec.{reads_then, back_then, byte_that_codec}
use Rattle.model.proofs.ReadWrite.{predicates_codec, schemas_codec, facts_reads, facts_back, high_byte, low_byte}

-- a reader at the end of the card has no byte left
nothing_left : (s : List ℕ) → is_end s ≡ true → s ≡ []
unfolding is_end
nothing_left [] e = refl
nothing_left (b ∷ s) e = never (sym e)

-- the bytes of a card in front of its fact count
front_bytes : Task → List ℕ
front_bytes t = length t.arities ∷ t.arities ++ (t.objects ∷ length t.schemas ∷ flat_map schema_bytes t.schemas)

-- What a card says of its table: the writer accepts it, and but for the two bytes of the fact count the card is as written.
record Decoded (card : List ℕ) (t : Task) : Type 0 where
  checks : TaskParts t
  high : ℕ
  low : ℕ
  value : length t.facts ≡ high * 256 + low
  bytes : card ≡ front_bytes t ++ (high ∷ low ∷ flat_map atom_bytes t.facts)

-- reading piece by piece
decoded : (card : List ℕ) (t : Task) → decode card ≡ accepted t → Decoded card t
unfolding decode front_bytes
decoded card t e =
    reads_then predicates_codec card _ e λ arities s₁ h₁ p₁ e₁.
    reads_then (byte_that_codec (between 1 64) 3) s₁ _ e₁ λ objects s₂ h₂ p₂ e₂.
    reads_then (schemas_codec arities) s₂ _ e₂ λ schemas s₃ h₃ p₃ e₃.
    then_inv (facts arities objects s₃) _ e₃ λ q e₄ e₅.
    let f = facts_reads arities objects s₃ q e₄ in
    need_both_inv (is_end q.1) 14 _ e₅ λ h₅ e₆.
    subst (Decoded card) (one_value e₆) (record {
      checks = record {
        predicates = h₁.0;
        arities = h₁.1;
        objects = h₂;
        few_schemas = h₃.0;
        schemas = h₃.1;
        few_facts = f.few;
        facts = f.facts;
      };
      high = f.high;
      low = f.low;
      value = f.value;
      bytes = rw append_assoc (cc (nothing_left q.1 h₅, append-nil (flat_map atom_bytes q.0), f.in_front));
    })

-- a card describes only what the writer accepts
pub decode_checks : (card : List ℕ) (t : Task) → decode card ≡ accepted t → check_task t ≡ accepted tt
decode_checks card t e = check_task_intro t (decoded card t e).checks

-- the table of a card is written as that card
pub decode_writes : (card : List ℕ) → are_bytes card ≡ true → (t : Task) → decode card ≡ accepted t → task_bytes t ≡ card
unfolding task_bytes front_bytes all
decode_writes card h t e =
    let d = decoded card t e in
    let counts : List ℕ = d.high ∷ d.low ∷ flat_map atom_bytes t.facts in
    let after = all_after (λ b. ltb b 256) (front_bytes t) counts (rw d.bytes at h) in
    let low = ltb-true d.low 256 (and_left (ltb d.low 256) _ (and_right (ltb d.high 256) _ after)) in
    let high_is = ap (λ (n : ℕ). n / 256) d.value ∙ high_byte d.high d.low low in
    let low_is = ap (λ (n : ℕ). n % 256) d.value ∙ low_byte d.high d.low low in
    sym (d.bytes ∙ cc)

-- what the writer accepts is read back from its bytes
pub writes_decode : (t : Task) → check_task t ≡ accepted tt → decode (task_bytes t) ≡ accepted t
unfolding decode task_bytes is_end
writes_decode t e =
    let c = task_parts t e in
    let counts : List ℕ = length t.facts / 256 ∷ length t.facts % 256 ∷ flat_map atom_bytes t.facts in
    let facts_end = ap (λ (l : List ℕ). length t.facts / 256 ∷ length t.facts % 256 ∷ l) (append-nil (flat_map atom_bytes t.facts)) in
    ap (λ (l : List ℕ). decode (length t.arities ∷ l))
    (append_assoc t.arities (t.objects ∷ length t.schemas ∷ flat_map schema_bytes t.schemas) counts)
    ∙ back_then predicates_codec t.arities _ _ (c.predicates, c.arities)
    ∙ back_then (byte_that_codec (between 1 64) 3) t.objects _ _ c.objects
    ∙ back_then (schemas_codec t.arities) t.schemas counts _ (c.few_schemas, c.schemas)
    ∙ then_accepted _ (ap (facts t.arities t.objects) (sym facts_end) ∙ facts_back t.arities t.objects t.facts [] c.few_facts c.facts)
    ∙ need_both 14 _ refl

-- what is written are bytes
pub card_bytes : (t : Task) → check_task t ≡ accepted tt → are_bytes (task_bytes t) ≡ true
card_bytes t e = (card_size t e).each_byte

-- and at most 5,305 of them, so that the lent buffer of 65,536 has room
pub card_length : (t : Task) → check_task t ≡ accepted tt → length (task_bytes t) ≤ 5305
card_length t e = (card_size t e).at_most

-- the writer accepts exactly the tables that some card carries
pub carried : (t : Task) → (check_task t ≡ accepted tt) ↔ ((card : List ℕ) × (are_bytes card ≡ true) × (decode card ≡ accepted t))
carried t = (λ e. (task_bytes t, card_bytes t e, writes_decode t e), λ c. decode_checks c.0 t c.2)

-- a refusal: its number, and the lent bytes as they were
abbrev pub refusal : ℕ → List ℕ → Call
refusal n buffer = record { answer = refused n; buffer = buffer }

-- equal calls answer alike
same_answer : {a b : Call} → a ≡ b → a.answer ≡ b.answer
same_answer p = ap (λ (call : Call). call.answer) p

-- the call of the card writer, by what it checks
module _ (t : Task) (out : List ℕ) where
  -- a check of the table refuses
  encode_refused : {n : ℕ} → check_task t ≡ refused n → encode t out ≡ refusal n out
  unfolding encode finish
  encode_refused e = ap (finish out) (both_refused _ e)

  -- the lent buffer is short
  encode_short : check_task t ≡ accepted tt → length out < output_bytes → encode t out ≡ refusal 21 out
  unfolding encode finish
  encode_short e h = ap (finish out) (both_accepted _ e ∙ both_refused _ (need_refused 21 (lt-leb output_bytes (length out) h)))

  -- the card is written
  encode_written : check_task t ≡ accepted tt → output_bytes ≤ length out → encode t out ≡ output (task_bytes t) out
  unfolding encode finish
  encode_written e h = ap (finish out) (both_accepted _ e ∙ need_both 21 _ (le-leb output_bytes (length out) h))

  -- one of these three
  by_encode : {C : Type 0} → ((n : ℕ) → check_task t ≡ refused n → encode t out ≡ refusal n out → C)
      → (check_task t ≡ accepted tt → encode t out ≡ refusal 21 out → C)
      → (check_task t ≡ accepted tt → encode t out ≡ output (task_bytes t) out → C) → C
  by_encode f g h =
      by_answer (check_task t)
      (λ u e. by_test (leb output_bytes (length out)) (λ l. h e (encode_written e (leb-true output_bytes (length out) l)))
      (λ l. g e (encode_short e (leb-false output_bytes (length out) l))))
      (λ n e. f n e (encode_refused e))

-- no card describes the table
abbrev pub Uncarried : Task → Type 0
Uncarried t = (card : List ℕ) → are_bytes card ≡ true → decode card ≡ accepted t → ⊥

-- Demand 2, the round trip, in both directions and for every input, for the card writer as a call of document 01.
pub record RoundTrip : Type 0 where
  -- a card that is read is written again, byte for byte, from the table that it describes; the bytes after it are left
  pub card_again : (card : List ℕ) → are_bytes card ≡ true → (t : Task) → decode card ≡ accepted t
      → (out : List ℕ) → output_bytes ≤ length out
      → encode t out ≡ record { answer = accepted (length card); buffer = card ++ drop (length card) out }
  -- what is written is read back as the table that it was written from
  pub table_again : (t : Task) (out : List ℕ) (n : ℕ) → (encode t out).answer ≡ accepted n
      → decode (take n (encode t out).buffer) ≡ accepted t
  -- a table that no card describes is refused by the number of the check that it fails, 2 to 13, and no lent byte is altered
  pub uncarried : (t : Task) → Uncarried t
      → (n : ℕ) × (2 ≤ n) × (n ≤ 13) × (check_task t ≡ refused n) × ((out : List ℕ) → encode t out ≡ refusal n out)
  -- and no other table is refused by such a number
  pub only_uncarried : (t : Task) (out : List ℕ) (n : ℕ) → (encode t out).answer ≡ refused n → n ≤ 13 → Uncarried t
  -- a table that a card describes is refused only where the lent buffer is short, by 21
  pub short : (card : List ℕ) (t : Task) → decode card ≡ accepted t → (out : List ℕ) → length out < output_bytes
      → encode t out ≡ refusal 21 out

pub round_trip : RoundTrip
unfolding output
round_trip = record {
  card_again = λ card b t e out h.
      encode_written t out (decode_checks card t e) h ∙ ap (λ (s : List ℕ). output s out) (decode_writes card b t e);
  table_again = λ t out n e.
      by_encode t out
      (λ m c p. accepted_not_refused (sym e ∙ same_answer p))
      (λ c p. accepted_not_refused (sym e ∙ same_answer p))
      (λ c p.
      let n_is : n ≡ length (task_bytes t) = one_value (sym e ∙ same_answer p) in
      rw (p, n_is, take-append_seam) (writes_decode t c));
  uncarried = λ t f.
      by_answer (check_task t) (λ u e. absurd (f (task_bytes t) (card_bytes t e) (writes_decode t e)))
      (λ n e. let h = check_task_within t n e in (n, h.0, h.1, e, λ out. encode_refused t out e));
  only_uncarried = λ t out n e h card b d.
      by_encode t out (λ m c p. accepted_not_refused (sym (decode_checks card t d) ∙ c))
      (λ c p. let n_is : n ≡ 21 = one_number_lem (sym e ∙ same_answer p) in omega arith)
      (λ c p. accepted_not_refused (sym (same_answer p) ∙ e));
  short = λ card t e out h. encode_short t out (decode_checks card t e) h;
}
