-- The listing call on the first 65,536 bytes of an output buffer: it answers as on the whole, and its value is within those bytes.
use Prim.Native.Nat.{ℕ, ◌≤◌, ◌<◌}
use native.Mathlib.Omega.{arith}
use mathlib.Core.Path.{◌≡◌, refl, sym, ap, ◌∙◌, subst}
use mathlib.Core.Bool.{Bool, true, false}
use mathlib.Core.List.{List, [], ◌++◌, append_assoc}
use lib.Dec.{ltb}
use lib.ListN.{length, get_or, take, drop, length-append, take-append-drop}
use lib.Seq.{drop-append-le, length-take-le}
use borrow.Author.Tests.{le-leb, lt-leb}
use Rattle.model.specs.Answer.{Answer, refused, accepted, ◌>>=◌, ◌>>◌, need}
use Rattle.model.specs.Card.{Task, decode}
use Rattle.model.specs.Lines.{sections}
use Rattle.model.specs.Text.{text}
use Rattle.model.specs.Calls.{Call, output_bytes, finish, output, section}
use Rattle.model.proofs.Answers.{one_value, not_accepted}
use Rattle.capi.specs.Numbers.{Small}

-- a text for an output buffer, if there is room and such a section
abbrev offered : List ℕ → Bool → Bool → List ℕ → Call
offered out room there bytes = finish out (need room 21 >> (need there 22 >> accepted (output bytes out)))

abbrev listed : ℕ → List ℕ → Bool → Answer Task → Call
listed number out room answer =
    finish out (answer >>= (λ t. need room 21 >> (need (ltb number (length (sections t))) 22 >> accepted (output (text (get_or (sections t) number [])) out))))

-- What is written to the first bytes of a buffer, and the bytes after them. This is stated for every number of bytes: at 65,536 the
-- prover would count.
module _ (size : ℕ) (out : List ℕ) (room : size ≤ length out) where
  few_written : (bytes : List ℕ) → length (bytes ++ drop (length bytes) (take size out)) ≡ size → length bytes ≤ size
  few_written bytes e = omega (arith, sym (length-append bytes (drop (length bytes) (take size out))) ∙ e)

  offered_leaves : (there : Bool) (bytes : List ℕ) → length (offered (take size out) true there bytes).buffer ≡ size
      → (offered (take size out) true there bytes).buffer ++ drop size out ≡ (offered out true there bytes).buffer
  unfolding finish ◌>>◌ need output
  offered_leaves true bytes l =
      let few = few_written bytes l in
      append_assoc bytes (drop (length bytes) (take size out)) (drop size out)
      ∙ ap (λ (l : List ℕ). bytes ++ l)
      (sym (drop-append-le (length bytes) (take size out) (drop size out) (omega (arith, length-take-le size out room)))
      ∙ ap (drop (length bytes)) (take-append-drop size out))
  offered_leaves false bytes l = take-append-drop size out

  listed_leaves : (number : ℕ) (answer : Answer Task) → length (listed number (take size out) true answer).buffer ≡ size
      → (listed number (take size out) true answer).buffer ++ drop size out ≡ (listed number out true answer).buffer
  listed_leaves number (refused k) l = unfold finish ◌>>=◌ in take-append-drop size out
  listed_leaves number (accepted t) l =
      unfold ◌>>=◌ in offered_leaves (ltb number (length (sections t))) (text (get_or (sections t) number [])) (unfold ◌>>=◌ in l)

module _ (number : ℕ) where
  -- no section without room
  pub short_small : (card out : List ℕ) → length out < output_bytes → Small (section card number out).answer
  unfolding section
  short_small card out h =
      record {
        within =
            λ n e. go (decode card) n (subst (λ (b : Bool). (listed number out b (decode card)).answer ≡ accepted n) (lt-leb output_bytes (length out) h) e);
      }
    where
      go : (answer : Answer Task) (n : ℕ) → (listed number out false answer).answer ≡ accepted n → n ≤ output_bytes
      go (refused k) n e = not_accepted k n (unfold finish ◌>>=◌ in e)
      go (accepted t) n e = not_accepted 21 n (unfold finish ◌>>=◌ ◌>>◌ need in e)

  -- the first bytes of a buffer that has room
  module _ (card out : List ℕ) (room : output_bytes ≤ length out) where
    abbrev first : List ℕ
    first = take output_bytes out

    first_length : length first ≡ output_bytes
    first_length = length-take-le output_bytes out room

    has_room : (buffer : List ℕ) → output_bytes ≤ length buffer → section card number buffer ≡ listed number buffer true (decode card)
    unfolding section
    has_room buffer h = ap (λ (b : Bool). listed number buffer b (decode card)) (le-leb output_bytes (length buffer) h)

    on_first : section card number first ≡ listed number first true (decode card)
    on_first = has_room first (omega (arith, first_length))

    -- the answer is that of the whole
    pub first_answers : (section card number first).answer ≡ (section card number out).answer
    first_answers =
        ap (λ (c : Call). c.answer) on_first ∙ go (decode card) ∙ sym (ap (λ (c : Call). c.answer) (has_room out room))
      where
        told : (there : Bool) (bytes : List ℕ) → (offered first true there bytes).answer ≡ (offered out true there bytes).answer
        told true bytes = unfold finish ◌>>◌ need output in refl
        told false bytes = unfold finish ◌>>◌ need in refl

        go : (answer : Answer Task) → (listed number first true answer).answer ≡ (listed number out true answer).answer
        go (refused k) = unfold finish ◌>>=◌ in refl
        go (accepted t) = unfold ◌>>=◌ in told (ltb number (length (sections t))) (text (get_or (sections t) number []))

    -- the length of what is written is that of the first bytes
    module _ (after : List ℕ) (written : after ≡ (section card number first).buffer) (kept : length after ≡ length first) where
      size : length (listed number first true (decode card)).buffer ≡ output_bytes
      size = ap (λ (c : Call). length c.buffer) (sym on_first) ∙ ap length (sym written) ∙ kept ∙ first_length

      pub first_small : Small (section card number first).answer
      first_small = record { within = λ n e. go (decode card) n size (ap (λ (c : Call). c.answer) (sym on_first) ∙ e) }
        where
          told : (there : Bool) (bytes : List ℕ) (n : ℕ) → length (offered first true there bytes).buffer ≡ output_bytes
              → (offered first true there bytes).answer ≡ accepted n → n ≤ output_bytes
          told true bytes n l e =
              let counted : length bytes ≡ n = one_value (unfold finish ◌>>◌ need output in e) in
              let few = few_written output_bytes out room bytes (unfold finish ◌>>◌ need output in l) in
              omega arith
          told false bytes n l e = not_accepted 22 n (unfold finish ◌>>◌ need in e)

          go : (answer : Answer Task) (n : ℕ) → length (listed number first true answer).buffer ≡ output_bytes
              → (listed number first true answer).answer ≡ accepted n → n ≤ output_bytes
          go (refused k) n l e = not_accepted k n (unfold finish ◌>>=◌ in e)
          go (accepted t) n l e =
              told (ltb number (length (sections t))) (text (get_or (sections t) number [])) n (unfold ◌>>=◌ in l) (unfold ◌>>=◌ in e)

      -- the buffer is that of the whole
      pub first_leaves : after ++ drop output_bytes out ≡ (section card number out).buffer
      first_leaves =
          ap (λ (l : List ℕ). l ++ drop output_bytes out) (written ∙ ap (λ (c : Call). c.buffer) on_first)
          ∙ listed_leaves output_bytes out room number (decode card) size ∙ sym (ap (λ (c : Call). c.buffer) (has_room out room))
