-- The reader never looks past byte 5,306 of a card: what the 5,305 bytes of the longest card do not decide, one byte more does.
use Prim.Native.Nat.{ℕ, zero, suc, ◌+◌, ◌*◌, ◌≤◌}
use native.Mathlib.Nat.{suc-mul}
use native.Mathlib.Omega.{arith}
use mathlib.Core.Path.{◌≡◌, refl, sym, ap}
use mathlib.Core.Bool.{Bool, true, false, not}
use mathlib.Core.Option.{Option, none, some}
use mathlib.Core.List.{List, [], ◌∷◌}
use lib.Dec.{leb, ltb}
use lib.ListN.{length, get_or, take}
use borrow.Author.Tests.{leb-true}
use Rattle.laws.specs.Lists.{all}
use Rattle.laws.proofs.Tests.{and_left, and_right, and_intro}
use Rattle.model.specs.Answer.{Answer, refused, accepted, ◌>>=◌, ◌>>◌, need}
use Rattle.model.specs.Card.{Atom, Task, Reader, has, above, between, byte, byte_that, many, atom, schema_atom, list, role_count, bit, schema}
use Rattle.model.specs.Card.{schema_lists, fact, fact_count, predicates, schemas, facts, is_end, decode}
use Rattle.model.proofs.Checked.{between_high}

-- The answers of a reader on some bytes and on the first of them: one refusal, or one value, which passes a test, with at least k of the bytes
-- that are left.
data Alike {A : Type 0} (test : A → Bool) (k : ℕ) : Answer (A × List ℕ) → Answer (A × List ℕ) → Type 0 where
  both_refused : (n : ℕ) → Alike test k (refused n) (refused n)
  both_accepted : (a : A) (s : List ℕ) (j : ℕ) → test a ≡ true → k ≤ j → Alike test k (accepted (a, s)) (accepted (a, take j s))

-- a reader looks at no more than n bytes, and its values pass a test
abbrev Reads : {A : Type 0} → ℕ → (A → Bool) → Reader A → Type 0
Reads n test read = (k j : ℕ) (s : List ℕ) → n + k ≤ j → Alike test k (read s) (read (take j s))

-- one reader after another
alike_bind :
    {A B : Type 0} {test : A → Bool} {other : B → Bool} {k m : ℕ} {x y : Answer (A × List ℕ)} → Alike test m x y
    → (next : A × List ℕ → Answer (B × List ℕ))
    → ((a : A) (s : List ℕ) (j : ℕ) → test a ≡ true → m ≤ j → Alike other k (next (a, s)) (next (a, take j s)))
    → Alike other k (x >>= next) (y >>= next)
unfolding ◌>>=◌
alike_bind (both_refused n) next h = both_refused n
alike_bind (both_accepted a s j p q) next h = h a s j p q

reads_bind :
    {A B : Type 0} (n m total : ℕ) → n + m ≤ total → (test : A → Bool) (other : B → Bool) (read : Reader A) (next : A → Reader B)
    → Reads n test read → ((a : A) → test a ≡ true → Reads m other (next a))
    → Reads total other (λ s. read s >>= (λ (a, s₁). next a s₁))
reads_bind n m total fits test other read next first later k j s h =
    alike_bind (first (m + k) j s (omega arith)) (λ (a, s₁). next a s₁) (λ a s₁ i p q. later a p k i s₁ q)

-- a check reads nothing
reads_need :
    {A : Type 0} (n : ℕ) (test : A → Bool) (passes : Bool) (number : ℕ) (read : Reader A) → (passes ≡ true → Reads n test read)
    → Reads n test (λ s. need passes number >> read s)
unfolding need ◌>>◌
reads_need n test true number read later = later refl
reads_need n test false number read later = λ k j s h. both_refused number

-- nor does a value
reads_none : {A : Type 0} (test : A → Bool) (a : A) → test a ≡ true → Reads 0 test (λ s. accepted (a, s))
reads_none test a e k j s h = both_accepted a s j e (omega arith)

-- nor does what is made of a value
reads_made :
    {A B : Type 0} (n : ℕ) (test : A → Bool) (other : B → Bool) (read : Reader A) (make : A → B) → Reads n test read
    → ((a : A) → test a ≡ true → other (make a) ≡ true) → Reads n other (λ s. read s >>= (λ (a, s₁). accepted (make a, s₁)))
reads_made n test other read make first passes =
    reads_bind n 0 n (omega arith) test other read (λ a s. accepted (make a, s)) first
    (λ a p. reads_none other (make a) (passes a p))

-- a bound may be larger
reads_more : {A : Type 0} (n m : ℕ) (test : A → Bool) (read : Reader A) → n ≤ m → Reads n test read → Reads m test read
reads_more n m test read h first k j s l = first k j s (omega arith)

reads_byte : Reads 1 (λ b. true) byte
unfolding byte
reads_byte k zero s h = absurd (omega arith)
reads_byte k (suc j) [] h = both_refused 1
reads_byte k (suc j) (b ∷ s) h = both_accepted b s j refl (omega arith)

reads_byte_that : (test : ℕ → Bool) (number : ℕ) → Reads 1 test (byte_that test number)
unfolding byte_that
reads_byte_that test number =
    reads_bind 1 0 1 (omega arith) (λ b. true) test byte (λ b s. need (test b) number >> accepted (b, s)) reads_byte
    (λ b p. reads_need 0 test (test b) number (λ s. accepted (b, s)) (λ e. reads_none test b e))

-- n items of at most m bytes
reads_many :
    {A : Type 0} (m : ℕ) (test : A → Bool) (read : Option A → Reader A) → ((previous : Option A) → Reads m test (read previous))
    → (n : ℕ) (previous : Option A) → Reads (n * m) (all test) (many read previous n)
unfolding many all
reads_many m test read each zero previous = reads_more 0 (0 * m) (all test) _ (omega arith) (reads_none (all test) [] refl)
reads_many m test read each (suc n) previous =
    reads_bind m (n * m) (suc n * m) (let e = suc-mul n m in omega arith) test (all test) (read previous) _ (each previous)
    (λ x p. reads_made (n * m) (all test) (all test) (many read (some x) n) (λ xs. x ∷ xs) (reads_many m test read each n (some x))
    (λ xs q. and_intro (test x) (all test xs) p q))

reads_role_count : (stands : Bool) → Reads 1 (λ n. true) (role_count stands)
unfolding role_count
reads_role_count false = reads_more 0 1 _ _ (omega arith) (reads_none _ 1 refl)
reads_role_count true = λ k j s h. forget (reads_byte_that (between 2 6) 5 k j s h)
  where
    forget : {k : ℕ} {x y : Answer (ℕ × List ℕ)} → Alike (between 2 6) k x y → Alike (λ n. true) k x y
    forget (both_refused n) = both_refused n
    forget (both_accepted a s j p q) = both_accepted a s j refl q

-- an arity is at most 3, of an unknown predicate too
arity_bound : (arities : List ℕ) → all (between 1 3) arities ≡ true → (p : ℕ) → get_or arities p 0 ≤ 3
unfolding all
arity_bound [] e p = omega arith
arity_bound (n ∷ ns) e zero = between_high 1 3 n (and_left (between 1 3 n) (all (between 1 3) ns) e)
arity_bound (n ∷ ns) e (suc p) = arity_bound ns (and_right (between 1 3 n) (all (between 1 3) ns) e) p

module _ (arities : List ℕ) (right : all (between 1 3) arities ≡ true) where
  -- an atom: at most 4 bytes
  reads_atom : (bound number : ℕ) → Reads 4 (λ a. true) (atom arities bound number)
  unfolding atom
  reads_atom bound number =
      reads_bind 1 3 4 (omega arith) (λ p. ltb p (length arities)) (λ a. true) (byte_that (λ p. ltb p (length arities)) number) _
      (reads_byte_that (λ p. ltb p (length arities)) number)
      (λ p h. reads_made 3 (all (λ x. ltb x bound)) (λ a. true) _ (λ xs. record { predicate = p; arguments = xs })
      (reads_more (get_or arities p 0 * 1) 3 _ _ (let few = arity_bound arities right p in omega arith)
      (reads_many 1 (λ x. ltb x bound) (λ previous. byte_that (λ x. ltb x bound) number)
      (λ previous. reads_byte_that (λ x. ltb x bound) number) (get_or arities p 0) none))
      (λ a q. refl))

  reads_schema_atom :
      (parameters : ℕ) (test : Atom → Bool) (number : ℕ) (previous : Option Atom)
      → Reads 4 (λ a. true) (schema_atom arities parameters test number previous)
  unfolding schema_atom
  reads_schema_atom parameters test number previous =
      reads_bind 4 0 4 (omega arith) (λ a. true) (λ a. true) (atom arities parameters 7) _ (reads_atom parameters 7)
      (λ a h. reads_need 0 (λ a. true) (above previous a) 8 _
      (λ e. reads_need 0 (λ a. true) (test a) number _ (λ q. reads_none (λ a. true) a refl)))

  reads_fact : (objects : ℕ) (previous : Option Atom) → Reads 4 (λ a. true) (fact arities objects previous)
  unfolding fact
  reads_fact objects previous =
      reads_bind 4 0 4 (omega arith) (λ a. true) (λ a. true) (atom arities objects 12) _ (reads_atom objects 12)
      (λ a h. reads_need 0 (λ a. true) (above previous a) 13 _ (λ e. reads_none (λ a. true) a refl))

  -- a list: its count and at most 8 atoms
  reads_list :
      (stands : Bool) (read : Option Atom → Reader Atom) → ((previous : Option Atom) → Reads 4 (λ a. true) (read previous))
      → Reads 33 (all (λ a. true)) (list stands read)
  unfolding list all
  reads_list false read each = reads_more 0 33 _ _ (omega arith) (reads_none _ [] refl)
  reads_list true read each =
      reads_bind 1 32 33 (omega arith) (between 1 8) _ (byte_that (between 1 8) 6) _ (reads_byte_that (between 1 8) 6)
      (λ n h. reads_more (n * 4) 32 _ _ (let few = between_high 1 8 n h in omega arith) (reads_many 4 (λ a. true) read each n none))

  -- a schema: its map, its role count and three lists
  reads_schema : Reads 101 (λ s. true) (schema arities)
  unfolding schema schema_lists
  reads_schema =
      reads_bind 1 100 101 (omega arith) (λ b. ltb b 16) _ (byte_that (λ b. ltb b 16) 5) _ (reads_byte_that (λ b. ltb b 16) 5)
      (λ bits h. reads_bind 1 99 100 (omega arith) (λ n. true) _ (role_count (bit 0 bits)) _ (reads_role_count (bit 0 bits))
      (λ parameters h. reads_bind 33 66 99 (omega arith) (all (λ a. true)) _ (list (bit 1 bits) _) _
      (reads_list (bit 1 bits) _ (reads_schema_atom parameters (λ a. true) 8))
      (λ preconditions h. reads_bind 33 33 66 (omega arith) (all (λ a. true)) _ (list (bit 2 bits) _) _
      (reads_list (bit 2 bits) _ (reads_schema_atom parameters (has preconditions) 9))
      (λ deletes h. reads_made 33 (all (λ a. true)) _ (list (bit 3 bits) _)
      (λ adds. record { parameters = parameters; preconditions = preconditions; deletes = deletes; adds = adds })
      (reads_list (bit 3 bits) _ (reads_schema_atom parameters (λ a. not (has preconditions a)) 10))
      (λ adds h. refl)))))

-- the fact count: two bytes, and at most 512
reads_fact_count : Reads 2 (λ n. leb n 512) fact_count
unfolding fact_count
reads_fact_count =
    reads_bind 1 1 2 (omega arith) (λ b. true) _ byte _ reads_byte
    (λ high h. reads_bind 1 0 1 (omega arith) (λ b. true) _ byte _ reads_byte
    (λ low h. reads_need 0 _ (leb (high * 256 + low) 512) 11 _ (λ e. reads_none (λ n. leb n 512) (high * 256 + low) e)))

-- the predicates: their count and at most 20 arities
reads_predicates : Reads 21 (all (between 1 3)) predicates
unfolding predicates
reads_predicates =
    reads_bind 1 20 21 (omega arith) (between 1 20) _ (byte_that (between 1 20) 2) _ (reads_byte_that (between 1 20) 2)
    (λ n h. reads_more (n * 1) 20 _ _ (let few = between_high 1 20 n h in omega arith)
    (reads_many 1 (between 1 3) _ (λ previous. reads_byte_that (between 1 3) 2) n none))

module _ (arities : List ℕ) (right : all (between 1 3) arities ≡ true) where
  -- the schemas: their count and at most 32 of them
  reads_schemas : Reads 3233 (all (λ s. true)) (schemas arities)
  unfolding schemas
  reads_schemas =
      reads_bind 1 3232 3233 (omega arith) (λ n. leb n 32) _ (byte_that (λ n. leb n 32) 4) _ (reads_byte_that (λ n. leb n 32) 4)
      (λ n h. reads_more (n * 101) 3232 _ _ (let few = leb-true n 32 h in omega arith)
      (reads_many 101 (λ s. true) _ (λ previous. reads_schema arities right) n none))

  -- the facts: their count and at most 512 of them
  reads_facts : (objects : ℕ) → Reads 2050 (all (λ f. true)) (facts arities objects)
  unfolding facts
  reads_facts objects =
      reads_bind 2 2048 2050 (omega arith) (λ n. leb n 512) _ fact_count _ reads_fact_count
      (λ n h. reads_more (n * 4) 2048 _ _ (let few = leb-true n 512 h in omega arith)
      (reads_many 4 (λ f. true) _ (reads_fact arities right objects) n none))

-- what follows a reader is asked of one value, and of the rest or the first bytes of it
alike_end :
    {A B : Type 0} {test : A → Bool} {k : ℕ} {x y : Answer (A × List ℕ)} → Alike test k x y → (next : A × List ℕ → Answer B)
    → ((a : A) (s : List ℕ) (j : ℕ) → test a ≡ true → k ≤ j → next (a, s) ≡ next (a, take j s)) → (x >>= next) ≡ (y >>= next)
unfolding ◌>>=◌
alike_end (both_refused n) next h = refl
alike_end (both_accepted a s j p q) next h = h a s j p q

-- one byte shows whether there is another
is_end_take : (s : List ℕ) (j : ℕ) → 1 ≤ j → is_end s ≡ is_end (take j s)
unfolding is_end
is_end_take s zero h = absurd (omega arith)
is_end_take [] (suc j) h = refl
is_end_take (b ∷ s) (suc j) h = refl

-- the task, or the refusal, is that of the first 5,306 bytes
pub decode_window : (card : List ℕ) → decode (take 5306 card) ≡ decode card
unfolding decode
decode_window card =
    sym
    (alike_end (reads_predicates 5285 5306 card (omega arith)) _
    (λ arities s₁ j₁ right h₁. alike_end (reads_byte_that (between 1 64) 3 5284 j₁ s₁ (omega arith)) _
    (λ objects s₂ j₂ known h₂. alike_end (reads_schemas arities right 2051 j₂ s₂ (omega arith)) _
    (λ schemas s₃ j₃ done h₃. alike_end (reads_facts arities right objects 1 j₃ s₃ (omega arith)) _
    (λ facts s₄ j₄ done h₄.
    let task : Task = record { arities = arities; objects = objects; schemas = schemas; facts = facts } in
    ap (λ (b : Bool). need b 14 >> accepted task) (is_end_take s₄ j₄ h₄))))))
