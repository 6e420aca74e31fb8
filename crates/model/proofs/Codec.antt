-- A reader and a writer that are inverse to one another, for one item and for a run of items.
use Prim.Native.Nat.{ℕ, zero, suc}
use mathlib.Core.Path.{◌≡◌, refl, sym, ap, ◌∙◌, subst}
use mathlib.Core.Bool.{Bool, true, false, ◌&&◌}
use mathlib.Core.List.{List, [], ◌∷◌, ◌++◌, flat_map, append_assoc}
use mathlib.Core.Option.{Option, none, some}
use lib.ListN.{length}
use Rattle.laws.specs.Lists.{all}
use Rattle.laws.proofs.Reading.{flat_map_single}
use Rattle.model.specs.Answer.{Answer, accepted, ◌>>=◌, ◌>>◌, need}
use Rattle.model.specs.Card.{Reader, byte, byte_that, many}
use Rattle.model.specs.Writer.{each}
use Rattle.model.proofs.Answers.{accepted_not_refused, one_value, then_inv, then_accepted, both_inv, both_accepted, need_inv, need_accepted}
use Rattle.model.proofs.Answers.{need_both, need_both_inv}

-- what was read fits, and its bytes were in front of those that are left
abbrev pub Parsed : {A : Type 0} → (A → Type 0) → (A → List ℕ) → List ℕ → A × List ℕ → Type 0
Parsed fits bytes s p = fits p.0 × (s ≡ bytes p.0 ++ p.1)

-- What is read was so written; and the bytes of what fits are read back, whatever follows them.
pub record Codec {A : Type 0} (read : Reader A) (fits : A → Type 0) (bytes : A → List ℕ) : Type 0 where
  pub reads : (s : List ℕ) (p : A × List ℕ) → read s ≡ accepted p → Parsed fits bytes s p
  pub back : (x : A) (rest : List ℕ) → fits x → read (bytes x ++ rest) ≡ accepted (x, rest)

-- what was read is the value answered
pub answered : {A : Type 0} (fits : A → Type 0) (bytes : A → List ℕ) (s : List ℕ) {p q : A × List ℕ} → accepted p ≡ accepted q
    → Parsed fits bytes s p → Parsed fits bytes s q
answered fits bytes s e h = subst (λ (p : _ × List ℕ). Parsed fits bytes s p) (one_value e) h

module _ {A : Type 0} {read : Reader A} {fits : A → Type 0} {bytes : A → List ℕ} (codec : Codec read fits bytes) where
  -- an item was read, and what follows accepts
  pub reads_then : {B C : Type 0} (s : List ℕ) (next : A × List ℕ → Answer B) {b : B} → (read s >>= next) ≡ accepted b
      → ((x : A) (rest : List ℕ) → fits x → s ≡ bytes x ++ rest → next (x, rest) ≡ accepted b → C) → C
  reads_then s next e f =
      then_inv (read s) next e λ p e₁ e₂. let r = codec.reads s p e₁ in f p.0 p.1 r.0 r.1 e₂

  -- the bytes of an item are read, and what follows goes on
  pub back_then : {B : Type 0} (x : A) (rest : List ℕ) (next : A × List ℕ → Answer B) → fits x
      → (read (bytes x ++ rest) >>= next) ≡ next (x, rest)
  back_then x rest next h = then_accepted next (codec.back x rest h)

  -- the same items under another description
  pub refit : {fits' : A → Type 0} {bytes' : A → List ℕ} → ((x : A) → fits x → fits' x) → ((x : A) → fits' x → fits x)
      → ((x : A) → fits x → bytes x ≡ bytes' x) → Codec read fits' bytes'
  refit to from same = record {
    reads = λ s p e.
        let r = codec.reads s p e in (to p.0 r.0, r.1 ∙ ap (λ (l : List ℕ). l ++ p.1) (same p.0 r.0));
    back = λ x rest h. rw (← (same x (from x h))) (codec.back x rest (from x h));
  }

-- a value that takes no byte
pub absent_codec : {A : Type 0} (value : A) → Codec (λ s. accepted (value, s)) (λ x. x ≡ value) (λ x. [])
absent_codec value = record {
  reads = λ s p e. answered (λ x. x ≡ value) (λ x. []) s e (refl, refl);
  back = λ x rest e. ap (λ (y : _). accepted (y, rest)) (sym e);
}

-- a byte that passes a test
pub byte_that_codec : (test : ℕ → Bool) (number : ℕ) → Codec (byte_that test number) (λ b. test b ≡ true) (λ b. b ∷ [])
unfolding byte_that byte ◌>>=◌
byte_that_codec test number = record { reads = reads; back = λ b rest e. need_both number (accepted (b, rest)) e }
  where
    reads : (s : List ℕ) (p : ℕ × List ℕ) → byte_that test number s ≡ accepted p
        → Parsed (λ b. test b ≡ true) (λ b. b ∷ []) s p
    reads [] p e = accepted_not_refused (sym e)
    reads (b ∷ s) p e = need_both_inv (test b) number _ e λ h k. answered (λ b. test b ≡ true) (λ b. b ∷ []) (b ∷ s) k (h, refl)

-- a run of n items that each pass a check, told the item before them
abbrev pub Run : {A : Type 0} → (Option A → A → Answer (Unit {0})) → Option A → ℕ → List A → Type 0
Run check previous n xs = (length xs ≡ n) × (each check previous xs ≡ accepted tt)

module _ {A : Type 0} {read : Option A → Reader A} {check : Option A → A → Answer (Unit {0})} {bytes : A → List ℕ}
    (item : (previous : Option A) → Codec (read previous) (λ x. check previous x ≡ accepted tt) bytes) where
  -- each item is read as it was written, one after another
  many_reads : (previous : Option A) (n : ℕ) (s : List ℕ) (p : List A × List ℕ) → many read previous n s ≡ accepted p
      → Parsed (Run check previous n) (flat_map bytes) s p
  unfolding many each flat_map
  many_reads previous zero s p e = answered (Run check previous zero) (flat_map bytes) s e ((refl, refl), refl)
  many_reads previous (suc n) s p e =
      reads_then (item previous) s _ e λ x s₁ h p₁ e₁. then_inv (many read (some x) n s₁) _ e₁ λ q e₂ e₃.
      let r = many_reads (some x) n s₁ q e₂ in
      answered (Run check previous (suc n)) (flat_map bytes) s e₃ (
        (ap suc r.0.0, both_accepted _ h ∙ r.0.1),
        p₁ ∙ ap (λ (l : List ℕ). bytes x ++ l) r.1 ∙ sym (append_assoc (bytes x) (flat_map bytes q.0) q.1),
      )

  -- and the bytes of all are read back
  many_back : (previous : Option A) (xs : List A) (rest : List ℕ) → each check previous xs ≡ accepted tt
      → many read previous (length xs) (flat_map bytes xs ++ rest) ≡ accepted (xs, rest)
  unfolding many each flat_map
  many_back previous [] rest h = refl
  many_back previous (x ∷ xs) rest h =
      both_inv (check previous x) _ h λ h₁ h₂. rw append_assoc
      (back_then (item previous) x (flat_map bytes xs ++ rest) _ h₁ ∙ then_accepted _ (many_back (some x) xs rest h₂))

  -- a run of items, from the codec of an item
  pub many_codec : (previous : Option A) (n : ℕ) → Codec (many read previous n) (Run check previous n) (flat_map bytes)
  many_codec previous n = record {
    reads = many_reads previous n;
    back = λ xs rest h. rw (← h.0) (many_back previous xs rest h.1);
  }

  -- a count byte that passes a test, and as many items
  pub counted_codec : (test : ℕ → Bool) (number : ℕ)
      → Codec (λ s. byte_that test number s >>= (λ (n, s₁). many read none n s₁))
      (λ xs. (test (length xs) ≡ true) × (each check none xs ≡ accepted tt)) (λ xs. length xs ∷ flat_map bytes xs)
  counted_codec test number = record {
    reads = λ s p e.
        reads_then (byte_that_codec test number) s _ e λ n s₁ h p₁ e₁.
        let r = (many_codec none n).reads s₁ p e₁ in
        let count = r.0.0 in
        ((ap test count ∙ h, r.0.1), p₁ ∙ rw (← count) (ap (λ (l : List ℕ). length p.0 ∷ l) r.1));
    back = λ xs rest h.
        back_then (byte_that_codec test number) (length xs) (flat_map bytes xs ++ rest) _ h.0
        ∙ (many_codec none (length xs)).back xs rest (refl, h.1);
  }

-- a check of one test on each item is the check that all pass it
pub each_need : {A : Type 0} (test : A → Bool) (number : ℕ) (previous : Option A) (xs : List A)
    → each (λ previous x. need (test x) number) previous xs ≡ need (all test xs) number
unfolding each all need ◌>>◌
each_need test number previous [] = refl
each_need test number previous (x ∷ xs) = go (test x) (each_need test number (some x) xs)
  where
    go : (b : Bool) {y : Answer (Unit {0})} → y ≡ need (all test xs) number → (need b number >> y) ≡ need (b && all test xs) number
    go true e = e
    go false e = refl

module _ (test : ℕ → Bool) (number : ℕ) where
  -- a byte that passes a test, as an item of a run
  byte_item : (previous : Option ℕ) → Codec (byte_that test number) (λ b. need (test b) number ≡ accepted tt) (λ b. b ∷ [])
  byte_item previous =
      refit (byte_that_codec test number) (λ b h. need_accepted number h) (λ b h. need_inv (test b) number h) (λ b h. refl)

  all_from : (bs : List ℕ) → each (λ previous b. need (test b) number) none bs ≡ accepted tt → all test bs ≡ true
  all_from bs h = need_inv (all test bs) number (sym (each_need test number none bs) ∙ h)

  all_to : (bs : List ℕ) → all test bs ≡ true → each (λ previous b. need (test b) number) none bs ≡ accepted tt
  all_to bs h = each_need test number none bs ∙ need_accepted number h

  -- n bytes that pass a test
  pub bytes_codec : (n : ℕ)
      → Codec (many (λ previous. byte_that test number) none n) (λ bs. (length bs ≡ n) × (all test bs ≡ true)) (λ bs. bs)
  bytes_codec n =
      refit (many_codec {check = λ previous b. need (test b) number} byte_item none n)
      (λ bs h. (h.0, all_from bs h.1)) (λ bs h. (h.0, all_to bs h.1)) (λ bs h. flat_map_single bs)

  -- a count byte that passes a test of its own, and as many bytes
  pub counted_bytes_codec : (count : ℕ → Bool) (refusal : ℕ)
      → Codec (λ s. byte_that count refusal s >>= (λ (n, s₁). many (λ previous. byte_that test number) none n s₁))
      (λ bs. (count (length bs) ≡ true) × (all test bs ≡ true)) (λ bs. length bs ∷ bs)
  counted_bytes_codec count refusal =
      refit (counted_codec {check = λ previous b. need (test b) number} byte_item count refusal)
      (λ bs h. (h.0, all_from bs h.1)) (λ bs h. (h.0, all_to bs h.1))
      (λ bs h. ap (λ (l : List ℕ). length bs ∷ l) (flat_map_single bs))
