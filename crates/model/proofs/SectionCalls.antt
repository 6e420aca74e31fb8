-- The listing by section calls is the program's: of an accepted card with n spaces the calls for sections 0 to n, each with a buffer of 65,536
-- bytes or more, are accepted, and what they write is, joined, what the program prints. Every later number is refused by 22; a shorter buffer
-- by 21, whatever the number. A refused card is refused by its own number in every call, and the program prints that number.
use Prim.Native.Nat.{ℕ, zero, suc, ◌≤◌, ◌<◌}
use native.Mathlib.Nat.{le_refl}
use native.Mathlib.Omega.{arith}
use mathlib.Core.Path.{◌≡◌, refl, sym, ap, ◌∙◌}
use mathlib.Core.List.{List, [], ◌∷◌, ◌++◌, flat_map}
use lib.Dec.{leb, ltb}
use lib.ListN.{length, get_or, take, drop, length-map, length-append}
use lib.Seq.{take-suc, take-length, take-append_seam}
use borrow.Author.Tests.{leb-true, leb-false, ltb-true, ltb-false, le-leb, lt-leb, lt-ltb, le-ltb}
use Rattle.laws.specs.Lists.{from, up_to}
use Rattle.laws.proofs.Tests.{by_test}
use Rattle.laws.proofs.Lists.{flat_map_append}
use Rattle.laws.proofs.Fronts.{up_to_next}
use Rattle.model.specs.Answer.{Answer, refused, accepted, ◌>>=◌, ◌>>◌, need}
use Rattle.model.specs.Card.{Task, decode}
use Rattle.model.specs.Spaces.{spaces}
use Rattle.model.specs.Analysis.{Analysis, analyse, analysis}
use Rattle.model.specs.Lines.{closing_lines, space_sections, sections}
use Rattle.model.specs.Text.{text}
use Rattle.model.specs.Calls.{Call, output_bytes, finish, output, section, printed, program}
use Rattle.model.proofs.Answers.{accepted_not_refused, one_value, by_answer}

-- what a call wrote: as many bytes as it answers; a refused call wrote none
written_by : Answer ℕ → List ℕ → List ℕ
written_by (refused n) buffer = []
written_by (accepted n) buffer = take n buffer

pub written : Call → List ℕ
written call = written_by call.answer call.buffer

-- ---- how many sections there are

length_space_sections : (t : Task) (n : ℕ) (analyses : List Analysis) → length (space_sections t n analyses) ≡ length analyses
unfolding space_sections
length_space_sections t n [] = refl
length_space_sections t n (a ∷ analyses) = ap suc (length_space_sections t (suc n) analyses)

-- one for each space, and the closing one
pub section_count : (t : Task) → length (sections t) ≡ suc (length (spaces t))
unfolding sections analysis
section_count t =
    length-append (space_sections t 0 (analysis t)) (closing_lines t (analysis t) ∷ [])
    ∙ omega (arith, length_space_sections t 0 (analysis t), length-map (spaces t) (analyse t))

-- ---- one call

module _ (card : List ℕ) (t : Task) (decoded : decode card ≡ accepted t) (number : ℕ) (out : List ℕ) where
  pub section_short : length out < output_bytes → section card number out ≡ record { answer = refused 21; buffer = out }
  unfolding section finish ◌>>=◌ ◌>>◌ need
  section_short h = rw (decoded, lt-leb output_bytes (length out) h)

  pub section_past : output_bytes ≤ length out → length (sections t) ≤ number
      → section card number out ≡ record { answer = refused 22; buffer = out }
  unfolding section finish ◌>>=◌ ◌>>◌ need
  section_past h k = rw (decoded, le-leb output_bytes (length out) h, le-ltb number (length (sections t)) k)

  pub section_accepted : output_bytes ≤ length out → number < length (sections t)
      → section card number out ≡ output (text (get_or (sections t) number [])) out
  unfolding section finish ◌>>=◌ ◌>>◌ need
  section_accepted h k = rw (decoded, le-leb output_bytes (length out) h, lt-ltb number (length (sections t)) k)

  -- what it wrote is the section's text
  pub section_text : output_bytes ≤ length out → number < length (sections t)
      → written (section card number out) ≡ text (get_or (sections t) number [])
  unfolding written written_by output
  section_text h k = ap written (section_accepted h k) ∙ take-append_seam (text (get_or (sections t) number [])) _

-- ---- all calls

module _ (card : List ℕ) (t : Task) (decoded : decode card ≡ accepted t) (outs : ℕ → List ℕ)
    (long : (i : ℕ) → output_bytes ≤ length (outs i)) where
  -- the first n calls write the text of the first n sections
  first_sections : (n : ℕ) → n ≤ length (sections t)
      → flat_map (λ i. written (section card i (outs i))) (up_to n) ≡ flat_map text (take n (sections t))
  unfolding flat_map up_to from
  first_sections zero h = refl
  first_sections (suc n) h =
      ap (flat_map (λ i. written (section card i (outs i)))) (up_to_next n)
      ∙ flat_map_append (λ i. written (section card i (outs i))) (up_to n) (n ∷ [])
      ∙ (λ i. first_sections n (omega arith) i ++ (section_text card t decoded n (outs n) (long n) h i ++ []))
      ∙ sym (flat_map_append text (take n (sections t)) (get_or (sections t) n [] ∷ []))
      ∙ ap (flat_map text) (sym (take-suc (sections t) n [] h))

  -- and all of them what the program prints
  calls_joined : flat_map (λ i. written (section card i (outs i))) (up_to (length (sections t))) ≡ program card
  unfolding program printed
  calls_joined =
      first_sections (length (sections t)) (le_refl (length (sections t)))
      ∙ ap (flat_map text) (take-length (sections t))
      ∙ sym (ap printed decoded)

-- What the section calls of an accepted card with n spaces do.
pub record SectionCalls (card : List ℕ) (t : Task) : Type 0 where
  -- 0 to n: the section's text from byte 0 on, the bytes after it left, and its length answered
  pub listed : (number : ℕ) (out : List ℕ) → output_bytes ≤ length out → number ≤ length (spaces t)
      → section card number out ≡ output (text (get_or (sections t) number [])) out
  -- joined they are what the program prints, whatever buffers they are given
  pub joined : (outs : ℕ → List ℕ) → ((i : ℕ) → output_bytes ≤ length (outs i))
      → flat_map (λ i. written (section card i (outs i))) (up_to (suc (length (spaces t)))) ≡ program card
  -- n + 1 and every later number: 22
  pub past : (number : ℕ) (out : List ℕ) → output_bytes ≤ length out → length (spaces t) < number
      → section card number out ≡ record { answer = refused 22; buffer = out }
  -- a short buffer: 21, before 22
  pub short : (number : ℕ) (out : List ℕ) → length out < output_bytes
      → section card number out ≡ record { answer = refused 21; buffer = out }

pub section_calls : (card : List ℕ) (t : Task) → decode card ≡ accepted t → SectionCalls card t
section_calls card t decoded = record {
  listed = λ number out h k. section_accepted card t decoded number out h (omega (arith, section_count t));
  joined = λ outs long.
      ap (λ (n : ℕ). flat_map (λ i. written (section card i (outs i))) (up_to n)) (sym (section_count t))
      ∙ calls_joined card t decoded outs long;
  past = λ number out h k. section_past card t decoded number out h (omega (arith, section_count t));
  short = λ number out h. section_short card t decoded number out h;
}

-- a refused card: by its own number, before 21 and 22; and the program prints the number
pub refused_sections : (card : List ℕ) (n number : ℕ) (out : List ℕ) → decode card ≡ refused n
    → (section card number out ≡ record { answer = refused n; buffer = out }) × (program card ≡ printed (refused n))
unfolding section finish program ◌>>=◌
refused_sections card n number out decoded = (rw decoded, ap printed decoded)

-- ---- what an accepted call tells

-- The card is accepted, the number is that of a section, and the buffer has its text in front.
pub record Listing (card : List ℕ) (number : ℕ) (out : List ℕ) (n : ℕ) : Type 0 where
  pub task : Task
  pub decoded : decode card ≡ accepted task
  pub known : number < length (sections task)
  pub length_said : length (text (get_or (sections task) number [])) ≡ n
  pub buffer : (section card number out).buffer ≡ text (get_or (sections task) number []) ++ drop n out

module _ (card : List ℕ) (number : ℕ) (out : List ℕ) (n : ℕ) (e : (section card number out).answer ≡ accepted n) where
  -- a call that is refused is not accepted
  not_refused : {m : ℕ} → section card number out ≡ record { answer = refused m; buffer = out } → Listing card number out n
  not_refused done = accepted_not_refused (sym e ∙ ap (λ (c : Call). c.answer) done)

  section_listed : (t : Task) → decode card ≡ accepted t → output_bytes ≤ length out → number < length (sections t) → Listing card number out n
  unfolding output
  section_listed t decoded room there =
      let bytes = text (get_or (sections t) number []) in
      let done = section_accepted card t decoded number out room there in
      let said : length bytes ≡ n = one_value (sym (ap (λ (c : Call). c.answer) done) ∙ e) in
      record {
        task = t;
        decoded = decoded;
        known = there;
        length_said = said;
        buffer = ap (λ (c : Call). c.buffer) done ∙ ap (λ (k : ℕ). bytes ++ drop k out) said;
      }

  pub accepted_section : Listing card number out n
  accepted_section =
      by_answer (decode card)
      (λ t decoded.
      by_test (leb output_bytes (length out))
      (λ long.
      let room = leb-true output_bytes (length out) long in
      by_test (ltb number (length (sections t)))
      (λ there. section_listed t decoded room (ltb-true number (length (sections t)) there))
      (λ past. not_refused (section_past card t decoded number out room (ltb-false number (length (sections t)) past))))
      (λ short. not_refused (section_short card t decoded number out (leb-false output_bytes (length out) short))))
      (λ m decoded. not_refused (refused_sections card m number out decoded).0)
