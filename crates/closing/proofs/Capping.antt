-- Which predicates are capped, and the C line of a predicate, by what the code finds of its schemas and its facts.
use Prim.Native.Nat.{ℕ, zero, suc, ◌+◌, ◌≤◌, ◌<◌}
use native.Mathlib.Nat.{le_refl}
use native.Mathlib.Omega.{arith}
use mathlib.Core.Path.{◌≡◌, refl, sym, ap, ◌∙◌, subst}
use mathlib.Core.Bool.{Bool, true, false, ◌&&◌}
use mathlib.Core.List.{List, [], ◌∷◌}
use lib.Dec.{leb, ltb}
use lib.ListN.{get_or, set}
use lib.Seq.{get_or-set_other}
use borrow.Author.Tests.{ltb-true, ltb-false}
use Rattle.laws.specs.Lists.{all}
use Rattle.laws.proofs.Tests.{by_test, cond_true, cond_false}
use Rattle.model.specs.Lines.{ceiling, of_predicate, ceilings}
use Rattle.card.specs.declared.AtomList.{AtomList}
use Rattle.card.specs.declared.Task.{Task}
use Rattle.card.specs.Represents.{task_of, atoms_of, schemas_of, facts_of}

-- a schema with these lists adds no more atoms of the predicate than it deletes
abbrev pub capped : ℕ → List ℕ → AtomList → AtomList → Bool
capped p arities deletes adds = leb (of_predicate p (atoms_of arities adds)) (of_predicate p (atoms_of arities deletes))

-- The schema was asked for the predicates before p.
pub record Asked (deletes adds : AtomList) (before table : List Bool) (p : ℕ) : Type 0 where
  pub passed : (q : ℕ) → q < p → (arities : List ℕ) → get_or table q false ≡ (capped q arities deletes adds && get_or before q false)
  pub left : (q : ℕ) → p ≤ q → get_or table q false ≡ get_or before q false

-- an entry that is false, whether there was one or not
set_false : (table : List Bool) (p : ℕ) → get_or (set table p false) p false ≡ false
set_false [] p = refl
set_false (b ∷ table) zero = refl
set_false (b ∷ table) (suc p) = set_false table p

module _ {deletes adds : AtomList} {before : List Bool} where
  pub asked_none : Asked deletes adds before before 0
  asked_none = record { passed = λ q h arities. absurd (omega (arith, h)); left = λ q h. refl }

  module _ {table : List Bool} {p : ℕ} (so_far : Asked deletes adds before table p) where
    -- what is known of the predicates before p and at p is known before the next
    one_more : (later : List Bool)
        → ((q : ℕ) → q < p → get_or later q false ≡ get_or table q false)
        → ((arities : List ℕ) → get_or later p false ≡ (capped p arities deletes adds && get_or before p false))
        → (q : ℕ) → q < p + 1 → (arities : List ℕ) → get_or later q false ≡ (capped q arities deletes adds && get_or before q false)
    one_more later kept here q h arities =
        by_test (ltb q p)
        (λ e. let k = ltb-true q p e in kept q k ∙ so_far.passed q k arities)
        (λ e.
        let same : p ≡ q = let k = ltb-false q p e in omega arith in
        subst (λ (n : ℕ). get_or later n false ≡ (capped n arities deletes adds && get_or before n false)) same (here arities))

    pub asked_capped : ((arities : List ℕ) → capped p arities deletes adds ≡ true) → Asked deletes adds before table (p + 1)
    asked_capped e = record {
      passed =
          one_more table (λ q h. refl)
          (λ arities. so_far.left p (le_refl p) ∙ sym (ap (λ (b : Bool). b && get_or before p false) (e arities)));
      left = λ q h. so_far.left q (omega (arith, h));
    }

    pub asked_uncapped : ((arities : List ℕ) → capped p arities deletes adds ≡ false) → Asked deletes adds before (set table p false) (p + 1)
    asked_uncapped e = record {
      passed =
          one_more (set table p false) (λ q h. get_or-set_other table p q false false (λ same. omega (arith, h, same)))
          (λ arities. set_false table p ∙ sym (ap (λ (b : Bool). b && get_or before p false) (e arities)));
      left = λ q h. get_or-set_other table p q false false (λ same. omega (arith, h, same)) ∙ so_far.left q (omega (arith, h));
    }

module _ (task : Task) (p : ℕ) {b : Bool}
    (found : (arities : List ℕ) → b ≡ all (λ s. leb (of_predicate p s.adds) (of_predicate p s.deletes)) (schemas_of arities task.schemas)) where
  -- no schema adds more than it deletes: the number of facts
  pub capped_line : b ≡ true → {n : ℕ} → ((arities : List ℕ) → n ≡ of_predicate p (facts_of arities task.facts))
      → ceilings (task_of task) p ≡ ceiling p n ∷ []
  unfolding ceilings task_of
  capped_line e held =
      cond_true _ _ _ (sym (found (task_of task).arities) ∙ e) ∙ ap (λ (k : ℕ). ceiling p k ∷ []) (sym (held (task_of task).arities))

  -- some schema does: no line
  pub uncapped : b ≡ false → ceilings (task_of task) p ≡ []
  unfolding ceilings task_of
  uncapped e = cond_false _ _ _ (sym (found (task_of task).arities) ∙ e)
