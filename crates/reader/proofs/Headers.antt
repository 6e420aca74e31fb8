-- The head of a schema: its bit map and its role count.
use Prim.Native.Nat.{ℕ, ◌/◌, ◌%◌}
use native.Mathlib.Omega.{arith}
use mathlib.Core.Bool.{Bool, true, false, ◌&&◌}
use mathlib.Core.List.{List}
use mathlib.Core.Path.{◌≡◌, ap, sym, ◌∙◌, fun_ext}
use lib.Dec.{leb, ltb, eqb, leb-zero}
use Rattle.model.specs.Answer.{refused, accepted}
use Rattle.model.specs.Card.{role_count, byte_that, between, bit, schema_lists, schema}
use Rattle.reader_bytes.proofs.Answers.{goes, halts}

module _ (present : Bool) (s : List ℕ) where
  -- no role count means 1
  pub role_absent : present ≡ false → role_count present s ≡ accepted (1, s)
  unfolding role_count
  role_absent e = ap (λ p. role_count p s) e

  pub role_present : present ≡ true → role_count present s ≡ byte_that (between 2 6) 5 s
  unfolding role_count
  role_present e = ap (λ p. role_count p s) e

-- the lowest bit
pub bit_zero : (b : ℕ) → eqb (b % 2) 1 ≡ bit 0 b
unfolding bit
bit_zero b = let same : b % 2 ≡ b / 1 % 2 = omega arith in rw same

module _ (arities : List ℕ) (s : List ℕ) where
  -- the bit map is refused
  pub map_refused : {k : ℕ} → byte_that (λ b. ltb b 16) 5 s ≡ refused k → schema arities s ≡ refused k
  unfolding schema
  map_refused e = halts _ e

  module _ {bits : ℕ} (s₁ : List ℕ) {present : Bool} (e : byte_that (λ b. ltb b 16) 5 s ≡ accepted (bits, s₁)) (p : present ≡ bit 0 bits) where
    -- the role count is refused
    pub roles_refused : {k : ℕ} → role_count present s₁ ≡ refused k → schema arities s ≡ refused k
    unfolding schema
    roles_refused f = goes _ e ∙ halts _ (ap (λ t. role_count t s₁) (sym p) ∙ f)

    -- the head is read, and the lists follow
    pub head_read : {parameters : ℕ} (s₂ : List ℕ) → role_count present s₁ ≡ accepted (parameters, s₂)
        → schema arities s ≡ schema_lists arities bits parameters s₂
    unfolding schema
    head_read s₂ f = goes _ e ∙ goes _ (ap (λ t. role_count t s₁) (sym p) ∙ f)

-- the number of schemas: 0 to 32
pub schemas_counted : (s : List ℕ) → byte_that (λ n. leb n 32) 4 s ≡ byte_that (between 0 32) 4 s
unfolding between
schemas_counted s = ap (λ test. byte_that test 4 s) (fun_ext λ n. sym (ap (λ t. t && leb n 32) (leb-zero n)))
