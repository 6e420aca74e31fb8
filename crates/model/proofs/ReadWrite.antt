-- Each piece of the card: its reader and its writer are inverse to one another on what the writer accepts.
use Prim.Native.Nat.{ℕ, ◌+◌, ◌*◌, ◌/◌, ◌%◌, ◌≤◌, ◌<◌}
use native.Mathlib.Nat.{div-add-mod'}
use native.Mathlib.Omega.{arith}
use mathlib.Core.Path.{◌≡◌, refl, sym, ap, ◌∙◌, subst}
use mathlib.Core.Bool.{Bool, true, false, cond, not}
use mathlib.Core.List.{List, [], ◌∷◌, ◌++◌, flat_map, append_assoc}
use mathlib.Core.Option.{Option, none}
use lib.Dec.{leb, ltb, eqb}
use lib.ListN.{length, get_or}
use borrow.Author.Tests.{ltb-true, leb-true, le-leb, eqb-true, eqb-false, ne_eqb}
use Rattle.laws.specs.Lists.{all, from, up_to}
use Rattle.laws.proofs.Lists.{all_at, up_to_intro}
use Rattle.laws.proofs.Tests.{never, not-true, not-false, cond_false}
use Rattle.model.specs.Answer.{Answer, accepted, ◌>>=◌, ◌>>◌, need}
use Rattle.model.specs.Card.{Atom, Schema, Reader, above, between, has, byte, byte_that, many, atom, schema_atom, list, role_count, bit, schema}
use Rattle.model.specs.Card.{schema_lists, fact, fact_count, predicates, schemas, facts}
use Rattle.model.specs.Writer.{each, known, check_schema_atom, check_list, check_schema, check_fact, atom_bytes, list_bytes, role_bytes, bit_for, schema_bytes}
use Rattle.model.proofs.Answers.{accepted_not_refused, one_value, then_inv, then_accepted, need_inv, need_accepted, need_both_inv, need_both}
use Rattle.model.proofs.CheckParts.{known_parts, known_intro, between_parts, between_intro, schema_parts, check_schema_intro}
use Rattle.model.proofs.Codec.{Codec, answered, absent_codec, reads_then, back_then, refit, byte_that_codec, many_codec, counted_codec, bytes_codec}
use Rattle.model.proofs.Codec.{counted_bytes_codec}

-- an atom
pub atom_codec : (arities : List ℕ) (bound number : ℕ)
    → Codec (atom arities bound number) (λ a. known arities bound a ≡ true) atom_bytes
unfolding atom atom_bytes
atom_codec arities bound number = record {
  reads = λ s p e.
      reads_then predicates s _ e λ p s₁ h p₁ e₁.
      reads_then (arguments p) s₁ _ e₁ λ xs s₂ k p₂ e₂.
      answered (λ a. known arities bound a ≡ true) atom_bytes s e₂ (
        known_intro arities bound (record { predicate = p; arguments = xs }) (record { predicate = h; arity = k.0; arguments = k.1 }),
        p₁ ∙ ap (λ (l : List ℕ). p ∷ l) p₂,
      );
  back = λ a rest e.
      let h = known_parts arities bound a e in
      back_then predicates a.predicate (a.arguments ++ rest) _ h.predicate
      ∙ back_then (arguments a.predicate) a.arguments rest _ (h.arity, h.arguments);
}
  where
    predicates : Codec (byte_that (λ p. ltb p (length arities)) number) (λ p. ltb p (length arities) ≡ true) (λ p. p ∷ [])
    predicates = byte_that_codec (λ p. ltb p (length arities)) number

    arguments : (p : ℕ) → Codec (many (λ previous. byte_that (λ x. ltb x bound) number) none (get_or arities p 0))
        (λ xs. (length xs ≡ get_or arities p 0) × (all (λ x. ltb x bound) xs ≡ true))
        (λ xs. xs)
    arguments p = bytes_codec (λ x. ltb x bound) number (get_or arities p 0)

-- an atom of a schema
pub schema_atom_codec : (arities : List ℕ) (parameters : ℕ) (test : Atom → Bool) (number : ℕ) (previous : Option Atom)
    → Codec (schema_atom arities parameters test number previous)
    (λ a. check_schema_atom arities parameters test number previous a ≡ accepted tt)
    atom_bytes
unfolding schema_atom check_schema_atom
schema_atom_codec arities parameters test number previous = record {
  reads = λ s p e.
      reads_then (atom_codec arities parameters 7) s _ e λ a s₁ h p₁ e₁.
      need_both_inv (above previous a) 8 _ e₁ λ k e₂.
      need_both_inv (test a) number _ e₂ λ l e₃.
      answered (λ a. check_schema_atom arities parameters test number previous a ≡ accepted tt) atom_bytes s e₃
      (need_both 7 _ h ∙ need_both 8 _ k ∙ need_accepted number l, p₁);
  back = λ a rest e.
      need_both_inv (known arities parameters a) 7 _ e λ h e₁.
      need_both_inv (above previous a) 8 _ e₁ λ k e₂.
      back_then (atom_codec arities parameters 7) a rest _ h
      ∙ need_both 8 _ k ∙ need_both number _ (need_inv (test a) number e₂);
}

-- a fact
pub fact_codec : (arities : List ℕ) (objects : ℕ) (previous : Option Atom)
    → Codec (fact arities objects previous) (λ f. check_fact arities objects previous f ≡ accepted tt) atom_bytes
unfolding fact check_fact
fact_codec arities objects previous = record {
  reads = λ s p e.
      reads_then (atom_codec arities objects 12) s _ e λ f s₁ h p₁ e₁.
      need_both_inv (above previous f) 13 _ e₁ λ k e₂.
      answered (λ f. check_fact arities objects previous f ≡ accepted tt) atom_bytes s e₂
      (need_both 12 _ h ∙ need_accepted 13 k, p₁);
  back = λ f rest e.
      need_both_inv (known arities objects f) 12 _ e λ h e₁.
      back_then (atom_codec arities objects 12) f rest _ h ∙ need_both 13 _ (need_inv (above previous f) 13 e₁);
}

-- a field of a schema stands if it has bytes
abbrev pub stands : List ℕ → Bool
stands [] = false
stands (b ∷ field) = true

-- the role count: one is absent, more take their byte
pub one_parameter : role_bytes 1 ≡ []
unfolding role_bytes
one_parameter = refl

pub more_parameters : (n : ℕ) → 2 ≤ n → role_bytes n ≡ n ∷ []
unfolding role_bytes
more_parameters n h = cond_false (eqb n 1) [] (n ∷ []) (ne_eqb n 1 (omega arith))

-- the role count stands if it is another than one
parameters_stand : (n : ℕ) → stands (role_bytes n) ≡ not (eqb n 1)
unfolding role_bytes
parameters_stand n = go (eqb n 1)
  where
    go : (one : Bool) → stands (cond one [] (n ∷ [])) ≡ not one
    go true = refl
    go false = refl

-- the role count, as the flag of its field says
pub role_count_codec : (flag : Bool)
    → Codec (role_count flag) (λ n. (stands (role_bytes n) ≡ flag) × (between 1 6 n ≡ true)) role_bytes
unfolding role_count
role_count_codec false =
    refit (absent_codec 1) (λ n e. rw e (ap stands one_parameter, between_intro 1 6 1 (omega arith) (omega arith)))
    (λ n h. eqb-true n 1 (not-false (eqb n 1) (sym (parameters_stand n) ∙ h.0)))
    (λ n e. rw e (sym one_parameter))
role_count_codec true =
    refit (byte_that_codec (between 2 6) 5)
    (λ n e. let h = between_parts 2 6 n e in (ap stands (more_parameters n h.0), between_intro 1 6 n (omega arith) h.1))
    (λ n h.
    let other = eqb-false n 1 (not-true (eqb n 1) (sym (parameters_stand n) ∙ h.0)) in
    let k = between_parts 1 6 n h.1 in
    between_intro 2 6 n (above_one n other k.0) k.1)
    (λ n e. sym (more_parameters n (between_parts 2 6 n e).0))
  where
    above_one : (n : ℕ) → (n ≡ 1 → ⊥) → 1 ≤ n → 2 ≤ n
    above_one n d h = omega arith

-- a list of atoms: an empty one is absent, another is its count and its atoms
no_atoms : (atoms : List Atom) → stands (list_bytes atoms) ≡ false → atoms ≡ []
unfolding list_bytes
no_atoms [] e = refl
no_atoms (a ∷ atoms) e = never e

some_atoms : (atoms : List Atom) → stands (list_bytes atoms) ≡ true → 1 ≤ length atoms
unfolding list_bytes
some_atoms [] e = never (sym e)
some_atoms (a ∷ atoms) e = omega arith

pub atoms_stand : (atoms : List Atom) → 1 ≤ length atoms → list_bytes atoms ≡ length atoms ∷ flat_map atom_bytes atoms
unfolding list_bytes
atoms_stand [] h = absurd (omega arith)
atoms_stand (a ∷ atoms) h = refl

-- a list of at most 8 atoms that each pass a check, absent or not as the flag of its field says
abbrev pub Listed : (Option Atom → Atom → Answer (Unit {0})) → Bool → List Atom → Type 0
Listed check flag atoms = (stands (list_bytes atoms) ≡ flag) × (check_list check atoms ≡ accepted tt)

-- a list of atoms, from the codec of its atoms
pub list_codec : {read : Option Atom → Reader Atom} {check : Option Atom → Atom → Answer (Unit {0})}
    → ((previous : Option Atom) → Codec (read previous) (λ a. check previous a ≡ accepted tt) atom_bytes) → (flag : Bool)
    → Codec (list flag read) (Listed check flag) list_bytes
unfolding list check_list list_bytes need ◌>>◌ each
list_codec item false =
    refit (absent_codec []) (λ atoms e. rw e (refl, refl)) (λ atoms h. no_atoms atoms h.0) (λ atoms e. ap list_bytes (sym e))
list_codec item true =
    refit (counted_codec item (between 1 8) 6)
    (λ atoms h.
    let k = between_parts 1 8 (length atoms) h.0 in
    (ap stands (atoms_stand atoms k.0), need_both 6 _ (le-leb (length atoms) 8 k.1) ∙ h.1))
    (λ atoms h.
    need_both_inv (leb (length atoms) 8) 6 _ h.1 λ h₁ h₂.
    (between_intro 1 8 (length atoms) (some_atoms atoms h.0) (leb-true (length atoms) 8 h₁), h₂))
    (λ atoms h. sym (atoms_stand atoms (between_parts 1 8 (length atoms) h.0).0))

-- the map of four fields
abbrev pub field_map : Bool → Bool → Bool → Bool → ℕ
field_map a b c d = cond a 1 0 + cond b 2 0 + cond c 4 0 + cond d 8 0

-- a map below 16 is made of its four bits
map_of_bits : (b : ℕ) → ltb b 16 ≡ true → field_map (bit 0 b) (bit 1 b) (bit 2 b) (bit 3 b) ≡ b
unfolding bit all up_to from
map_of_bits b e =
    eqb-true (field_map (bit 0 b) (bit 1 b) (bit 2 b) (bit 3 b)) b
    (all_at (λ n. eqb (field_map (bit 0 n) (bit 1 n) (bit 2 n) (bit 3 n)) n) (up_to 16) refl b (up_to_intro 16 b (ltb-true b 16 e)))

-- the bits of a map are the flags that it was made of
bits_of_map : (a b c d : Bool) → let m = field_map a b c d in
    (ltb m 16 ≡ true) × (bit 0 m ≡ a) × (bit 1 m ≡ b) × (bit 2 m ≡ c) × (bit 3 m ≡ d)
unfolding bit
bits_of_map true true true true = (refl, refl, refl, refl, refl)
bits_of_map true true true false = (refl, refl, refl, refl, refl)
bits_of_map true true false true = (refl, refl, refl, refl, refl)
bits_of_map true true false false = (refl, refl, refl, refl, refl)
bits_of_map true false true true = (refl, refl, refl, refl, refl)
bits_of_map true false true false = (refl, refl, refl, refl, refl)
bits_of_map true false false true = (refl, refl, refl, refl, refl)
bits_of_map true false false false = (refl, refl, refl, refl, refl)
bits_of_map false true true true = (refl, refl, refl, refl, refl)
bits_of_map false true true false = (refl, refl, refl, refl, refl)
bits_of_map false true false true = (refl, refl, refl, refl, refl)
bits_of_map false true false false = (refl, refl, refl, refl, refl)
bits_of_map false false true true = (refl, refl, refl, refl, refl)
bits_of_map false false true false = (refl, refl, refl, refl, refl)
bits_of_map false false false true = (refl, refl, refl, refl, refl)
bits_of_map false false false false = (refl, refl, refl, refl, refl)

-- the value of a field in the map
bit_for_stands : (value : ℕ) (field : List ℕ) → bit_for value field ≡ cond (stands field) value 0
unfolding bit_for
bit_for_stands value [] = refl
bit_for_stands value (b ∷ field) = refl

-- the map of a schema's own fields
schema_map : Schema → ℕ
schema_map s =
    field_map (stands (role_bytes s.parameters)) (stands (list_bytes s.preconditions))
    (stands (list_bytes s.deletes)) (stands (list_bytes s.adds))

-- the bytes of a schema, field by field
schema_fields : (s : Schema) (rest : List ℕ) → schema_bytes s ++ rest
    ≡ schema_map s ∷ (role_bytes s.parameters ++ (list_bytes s.preconditions ++ (list_bytes s.deletes ++ (list_bytes s.adds ++ rest))))
unfolding schema_bytes schema_map
schema_fields s rest = simp (bit_for_stands, append_assoc)

-- a schema: its map tells which fields follow
pub schema_codec : (arities : List ℕ) → Codec (schema arities) (λ s. check_schema arities s ≡ accepted tt) schema_bytes
unfolding schema schema_lists schema_map
schema_codec arities = record {
  reads = λ s p e.
      reads_then map_byte s _ e λ bits s₁ h₁ p₁ e₁.
      reads_then (role_count_codec (bit 0 bits)) s₁ _ e₁ λ n s₂ h₂ p₂ e₂.
      reads_then (listed n (λ a. true) 8 (bit 1 bits)) s₂ _ e₂ λ pre s₃ h₃ p₃ e₃.
      reads_then (listed n (has pre) 9 (bit 2 bits)) s₃ _ e₃ λ del s₄ h₄ p₄ e₄.
      reads_then (listed n (λ a. not (has pre a)) 10 (bit 3 bits)) s₄ _ e₄ λ add s₅ h₅ p₅ e₅.
      answered (λ s. check_schema arities s ≡ accepted tt) schema_bytes s e₅
      let x : Schema = record { parameters = n; preconditions = pre; deletes = del; adds = add } in (
        check_schema_intro arities x (record { parameters = h₂.1; preconditions = h₃.1; deletes = h₄.1; adds = h₅.1 }),
        cc (schema_fields x s₅, map_of_bits bits h₁),
      );
  back = λ s rest e.
      let c = schema_parts arities s e in
      let m = schema_map s in
      let n = s.parameters in
      let pre = s.preconditions in
      let h =
      bits_of_map (stands (role_bytes n)) (stands (list_bytes pre)) (stands (list_bytes s.deletes)) (stands (list_bytes s.adds)) in
      rw (schema_fields s rest)
      (back_then map_byte m _ _ h.0
      ∙ back_then (role_count_codec (bit 0 m)) n _ _ (sym h.1, c.parameters)
      ∙ back_then (listed n (λ a. true) 8 (bit 1 m)) pre _ _ (sym h.2, c.preconditions)
      ∙ back_then (listed n (has pre) 9 (bit 2 m)) s.deletes _ _ (sym h.3, c.deletes)
      ∙ back_then (listed n (λ a. not (has pre a)) 10 (bit 3 m)) s.adds rest _ (sym h.4, c.adds));
}
  where
    map_byte : Codec (byte_that (λ b. ltb b 16) 5) (λ b. ltb b 16 ≡ true) (λ b. b ∷ [])
    map_byte = byte_that_codec (λ b. ltb b 16) 5

    listed : (n : ℕ) (test : Atom → Bool) (number : ℕ) (flag : Bool)
        → Codec (list flag (schema_atom arities n test number)) (Listed (check_schema_atom arities n test number) flag) list_bytes
    listed n test number flag = list_codec (schema_atom_codec arities n test number) flag

-- the predicates, by their arities
pub predicates_codec : Codec predicates
    (λ arities. (between 1 20 (length arities) ≡ true) × (all (between 1 3) arities ≡ true)) (λ arities. length arities ∷ arities)
unfolding predicates
predicates_codec = counted_bytes_codec (between 1 3) 2 (between 1 20) 2

-- the schemas
pub schemas_codec : (arities : List ℕ)
    → Codec (schemas arities) (λ ss. (leb (length ss) 32 ≡ true) × (each (λ previous. check_schema arities) none ss ≡ accepted tt))
    (λ ss. length ss ∷ flat_map schema_bytes ss)
unfolding schemas
schemas_codec arities = counted_codec (λ previous. schema_codec arities) (λ n. leb n 32) 4

-- the fact count: what was read are two bytes of at most 512 together
pub record Counted (s : List ℕ) (p : ℕ × List ℕ) : Type 0 where
  pub high : ℕ
  pub low : ℕ
  pub few : p.0 ≤ 512
  pub value : p.0 ≡ high * 256 + low
  pub in_front : s ≡ high ∷ low ∷ p.1

pub fact_count_reads : (s : List ℕ) (p : ℕ × List ℕ) → fact_count s ≡ accepted p → Counted s p
unfolding fact_count byte ◌>>=◌
fact_count_reads [] p e = accepted_not_refused (sym e)
fact_count_reads (high ∷ []) p e = accepted_not_refused (sym e)
fact_count_reads (high ∷ low ∷ s) p e =
    need_both_inv (leb (high * 256 + low) 512) 11 _ e λ h k.
    subst (Counted (high ∷ low ∷ s)) (one_value k)
    (record { high = high; low = low; few = leb-true (high * 256 + low) 512 h; value = refl; in_front = refl })

-- and the two bytes of a count are read back
pub fact_count_back : (n : ℕ) (rest : List ℕ) → n ≤ 512 → fact_count (n / 256 ∷ n % 256 ∷ rest) ≡ accepted (n, rest)
unfolding fact_count byte ◌>>=◌
fact_count_back n rest h = rw (div-add-mod' n 256) (need_both 11 _ (le-leb n 512 h))

-- the facts: what was read are the two bytes of their count, at most 512, and their own bytes
pub record FactsCounted (arities : List ℕ) (objects : ℕ) (s : List ℕ) (p : List Atom × List ℕ) : Type 0 where
  pub few : leb (length p.0) 512 ≡ true
  pub facts : each (check_fact arities objects) none p.0 ≡ accepted tt
  pub high : ℕ
  pub low : ℕ
  pub value : length p.0 ≡ high * 256 + low
  pub in_front : s ≡ high ∷ low ∷ (flat_map atom_bytes p.0 ++ p.1)

module _ (arities : List ℕ) (objects : ℕ) where
  pub facts_reads : (s : List ℕ) (p : List Atom × List ℕ) → facts arities objects s ≡ accepted p → FactsCounted arities objects s p
  unfolding facts
  facts_reads s p e =
      then_inv (fact_count s) _ e λ q e₁ e₂.
      let c = fact_count_reads s q e₁ in
      let r = (many_codec (fact_codec arities objects) none q.0).reads q.1 p e₂ in
      record {
        few = ap (λ (k : ℕ). leb k 512) r.0.0 ∙ le-leb q.0 512 c.few;
        facts = r.0.1;
        high = c.high;
        low = c.low;
        value = r.0.0 ∙ c.value;
        in_front = c.in_front ∙ ap (λ (l : List ℕ). c.high ∷ c.low ∷ l) r.1;
      }

  -- and the bytes of facts are read back
  pub facts_back : (fs : List Atom) (rest : List ℕ) → leb (length fs) 512 ≡ true → each (check_fact arities objects) none fs ≡ accepted tt
      → facts arities objects (length fs / 256 ∷ length fs % 256 ∷ (flat_map atom_bytes fs ++ rest)) ≡ accepted (fs, rest)
  unfolding facts
  facts_back fs rest few right =
      then_accepted _ (fact_count_back (length fs) (flat_map atom_bytes fs ++ rest) (leb-true (length fs) 512 few))
      ∙ (many_codec (fact_codec arities objects) none (length fs)).back fs rest (refl, right)

-- the two bytes of a count are those that it was read from
pub high_byte : (high low : ℕ) → low < 256 → (high * 256 + low) / 256 ≡ high
high_byte high low h = omega arith

pub low_byte : (high low : ℕ) → low < 256 → (high * 256 + low) % 256 ≡ low
low_byte high low h = omega arith
