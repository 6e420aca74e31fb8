-- How large a card is: what the writer accepts becomes at most 5,305 numbers, each of them a byte.
use Prim.Native.Nat.{ℕ, zero-le, ◌+◌, ◌*◌, ◌/◌, ◌%◌, ◌≤◌, ◌<◌}
use native.Mathlib.Nat.{le_trans, mul-le-mul_right}
use native.Mathlib.Omega.{arith}
use mathlib.Core.Path.{◌≡◌, refl}
use mathlib.Core.Bool.{Bool, true, false, cond}
use mathlib.Core.List.{List, [], ◌∷◌, ◌++◌, flat_map, Memᴰ}
use mathlib.Core.Option.{Option, none}
use lib.Dec.{leb, ltb, eqb}
use lib.ListN.{length, get_or, length-append}
use borrow.Author.Tests.{ltb-true, lt-ltb, leb-true}
use Rattle.laws.specs.Lists.{all}
use Rattle.laws.proofs.Tests.{and_intro}
use Rattle.laws.proofs.Lists.{all_at, mem_get_d}
use Rattle.laws.proofs.Reading.{all_append, all_weaken, all_flat_map, length_flat_map}
use Rattle.model.specs.Answer.{Answer, accepted}
use Rattle.model.specs.Card.{Atom, Schema, Task, between}
use Rattle.model.specs.Writer.{known, check_schema_atom, check_list, check_schema, check_fact, check_task, atom_bytes, list_bytes, role_bytes, bit_for}
use Rattle.model.specs.Writer.{schema_bytes, task_bytes}
use Rattle.model.proofs.Answers.{need_both_inv}
use Rattle.model.proofs.CheckParts.{between_parts, known_parts, each_at, schema_parts, task_parts}

-- every number is a byte
abbrev pub are_bytes : List ℕ → Bool
are_bytes s = all (λ b. ltb b 256) s

-- bytes, at most `size` of them
pub record Bytes (size : ℕ) (s : List ℕ) : Type 0 where
  pub each_byte : are_bytes s ≡ true
  pub at_most : length s ≤ size

-- no byte, one more, two runs, and a run of items
bytes_none : (size : ℕ) → Bytes size []
unfolding all
bytes_none size = record { each_byte = refl; at_most = zero-le }

bytes_cons : (size : ℕ) (b : ℕ) {s : List ℕ} → b < 256 → Bytes size s → Bytes (1 + size) (b ∷ s)
unfolding all
bytes_cons size b h k = record { each_byte = and_intro (ltb b 256) _ (lt-ltb b 256 h) k.each_byte; at_most = omega arith }

bytes_append : {m n : ℕ} (s t : List ℕ) → Bytes m s → Bytes n t → Bytes (m + n) (s ++ t)
bytes_append s t h k = record {
  each_byte = all_append (λ b. ltb b 256) s t h.each_byte k.each_byte;
  at_most = omega (arith, length-append s t);
}

bytes_flat_map : {A : Type 0} (n k : ℕ) (bytes : A → List ℕ) (xs : List A) → length xs ≤ n
    → ((x : A) → Memᴰ x xs → Bytes k (bytes x)) → Bytes (n * k) (flat_map bytes xs)
bytes_flat_map n k bytes xs h f = record {
  each_byte = all_flat_map (λ b. ltb b 256) bytes xs (λ x m. (f x m).each_byte);
  at_most = le_trans (length_flat_map bytes k xs (λ x m. (f x m).at_most)) (mul-le-mul_right k h);
}

-- a list of atoms takes at most 33 bytes
list_size : (check : Option Atom → Atom → Answer (Unit {0})) (atoms : List Atom) → check_list check atoms ≡ accepted tt
    → ((previous : Option Atom) (a : Atom) → check previous a ≡ accepted tt → Bytes 4 (atom_bytes a)) → Bytes 33 (list_bytes atoms)
unfolding check_list list_bytes
list_size check atoms e f =
    need_both_inv (leb (length atoms) 8) 6 _ e λ h k.
    let few = leb-true (length atoms) 8 h in
    go atoms few (bytes_flat_map 8 4 atom_bytes atoms few (λ a m. let r = each_at check none atoms k a m in f r.0 a r.1))
  where
    go : (atoms : List Atom) → length atoms ≤ 8 → Bytes 32 (flat_map atom_bytes atoms) → Bytes 33 (list_bytes atoms)
    go [] h k = bytes_none 33
    go (a ∷ atoms) h k = bytes_cons 32 (length (a ∷ atoms)) (omega arith) k

-- a role count takes at most 1 byte
roles_size : (n : ℕ) → between 1 6 n ≡ true → Bytes 1 (role_bytes n)
unfolding role_bytes
roles_size n h = let k = between_parts 1 6 n h in go (eqb n 1) (omega arith)
  where
    go : (one : Bool) → n < 256 → Bytes 1 (cond one [] (n ∷ []))
    go true k = bytes_none 1
    go false k = bytes_cons 0 n k (bytes_none 0)

-- a field adds at most its value to the map
bit_for_size : (value : ℕ) (field : List ℕ) → bit_for value field ≤ value
unfolding bit_for
bit_for_size value [] = omega arith
bit_for_size value (b ∷ field) = omega arith

module _ (arities : List ℕ) (few : between 1 20 (length arities) ≡ true) (small : all (between 1 3) arities ≡ true) where
  -- an atom takes at most 4 bytes
  atom_size : (bound : ℕ) → bound ≤ 256 → (a : Atom) → known arities bound a ≡ true → Bytes 4 (atom_bytes a)
  unfolding atom_bytes
  atom_size bound h a e =
      let k = known_parts arities bound a e in
      let p = ltb-true a.predicate (length arities) k.predicate in
      let n = between_parts 1 20 (length arities) few in
      let arity = get_or arities a.predicate 0 in
      let m = between_parts 1 3 arity (all_at (between 1 3) arities small arity (mem_get_d arities a.predicate 0 p)) in
      bytes_cons 3 a.predicate (omega arith) (record {
        each_byte = all_weaken (λ x. ltb x bound) (λ x. ltb x 256) a.arguments below_bound k.arguments;
        at_most = omega (arith, k.arity);
      })
    where
      below_bound : (x : ℕ) → ltb x bound ≡ true → ltb x 256 ≡ true
      below_bound x q = let l = ltb-true x bound q in lt-ltb x 256 (omega arith)

  -- so does an atom of a schema, and a fact
  schema_atom_size : (parameters : ℕ) → between 1 6 parameters ≡ true
      → (test : Atom → Bool) (number : ℕ) (previous : Option Atom) (a : Atom)
      → check_schema_atom arities parameters test number previous a ≡ accepted tt → Bytes 4 (atom_bytes a)
  unfolding check_schema_atom
  schema_atom_size parameters h test number previous a e =
      let n = between_parts 1 6 parameters h in
      need_both_inv (known arities parameters a) 7 _ e λ k e₁. atom_size parameters (omega arith) a k

  fact_size : (objects : ℕ) → between 1 64 objects ≡ true → (previous : Option Atom) (f : Atom)
      → check_fact arities objects previous f ≡ accepted tt → Bytes 4 (atom_bytes f)
  unfolding check_fact
  fact_size objects h previous f e =
      let n = between_parts 1 64 objects h in
      need_both_inv (known arities objects f) 12 _ e λ k e₁. atom_size objects (omega arith) f k

  -- a schema takes at most 101 bytes
  schema_size : (s : Schema) → check_schema arities s ≡ accepted tt → Bytes 101 (schema_bytes s)
  unfolding schema_bytes
  schema_size s e =
      let c = schema_parts arities s e in
      let n = s.parameters in
      let atoms = schema_atom_size n c.parameters in
      let roles = role_bytes n in
      let pre = list_bytes s.preconditions in
      let del = list_bytes s.deletes in
      let add = list_bytes s.adds in
      bytes_cons 100 _ (omega (arith, bit_for_size 1 roles, bit_for_size 2 pre, bit_for_size 4 del, bit_for_size 8 add))
      (bytes_append (roles ++ pre ++ del) add
      (bytes_append (roles ++ pre) del
      (bytes_append roles pre (roles_size n c.parameters) (list_size _ s.preconditions c.preconditions (atoms _ _)))
      (list_size _ s.deletes c.deletes (atoms _ _)))
      (list_size _ s.adds c.adds (atoms _ _)))

-- a card takes at most 5,305 bytes
pub card_size : (t : Task) → check_task t ≡ accepted tt → Bytes 5305 (task_bytes t)
unfolding task_bytes
card_size t e =
    let c = task_parts t e in
    let predicates = between_parts 1 20 (length t.arities) c.predicates in
    let objects = between_parts 1 64 t.objects c.objects in
    let schemas = leb-true (length t.schemas) 32 c.few_schemas in
    let facts = leb-true (length t.facts) 512 c.few_facts in
    let arities : Bytes 20 t.arities = record {
      each_byte = all_weaken (between 1 3) (λ b. ltb b 256) t.arities small c.arities;
      at_most = predicates.1;
    } in
    bytes_append _ _
    (bytes_append (length t.arities ∷ t.arities) _
    (bytes_cons 20 (length t.arities) (omega arith) arities)
    (bytes_cons 3233 t.objects (omega arith)
    (bytes_cons 3232 (length t.schemas) (omega arith)
    (bytes_flat_map 32 101 schema_bytes t.schemas schemas
    (λ s m. schema_size t.arities c.predicates c.arities s (each_at _ none t.schemas c.schemas s m).1)))))
    (bytes_cons 2049 (length t.facts / 256) (omega arith)
    (bytes_cons 2048 (length t.facts % 256) (omega arith)
    (bytes_flat_map 512 4 atom_bytes t.facts facts
    (λ f m. let r = each_at _ none t.facts c.facts f m in
    fact_size t.arities c.predicates c.arities t.objects c.objects r.0 f r.1))))
  where
    small : (n : ℕ) → between 1 3 n ≡ true → ltb n 256 ≡ true
    small n e = let h = between_parts 1 3 n e in lt-ltb n 256 (omega arith)
