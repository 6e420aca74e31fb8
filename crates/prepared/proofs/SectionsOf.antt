-- The sections of a task: one for each space, in order, and the closing section behind them.
use Prim.Native.Nat.{ℕ, zero, suc, ◌+◌, ◌<◌}
use native.Mathlib.Nat.{le_of_suc-le-suc, not-suc-le-zero, add-zero, zero-add}
use native.Mathlib.Omega.{arith}
use mathlib.Core.Path.{◌≡◌, refl, sym, ap, ◌∙◌, subst}
use mathlib.Core.List.{List, [], ◌∷◌}
use lib.ListN.{length, get_or, length-append, length-map, get_or-append}
use lib.Seq.{get_or-append-add}
use Rattle.laws.proofs.Mapped.{get_d_map}
use Rattle.model.specs.Card.{Task}
use Rattle.model.specs.Spaces.{spaces}
use Rattle.model.specs.Analysis.{Analysis, analyse, analysis}
use Rattle.model.specs.Lines.{section_lines, space_sections, closing_lines, sections}
use Rattle.spaces.specs.SpaceTable.{space_at}

-- the analyses of a task: one for each space, in order
module _ (t : Task) where
  pub length_analysis : length (analysis t) ≡ length (spaces t)
  unfolding analysis
  length_analysis = length-map (spaces t) (analyse t)

  -- the analysis at a place is that of the space there
  pub analysis_at_lem : (i : ℕ) (d : Analysis) → i < length (spaces t) → get_or (analysis t) i d ≡ analyse t (space_at t i)
  unfolding analysis space_at
  analysis_at_lem i d h = get_d_map (analyse t) (spaces t) i (record { properties = []; rules = []; members = [] }) d h

-- as many sections as analyses
length_space_sections : (t : Task) (n : ℕ) (analyses : List Analysis) → length (space_sections t n analyses) ≡ length analyses
unfolding space_sections
length_space_sections t n [] = refl
length_space_sections t n (a ∷ analyses) = ap suc (length_space_sections t (suc n) analyses)

-- and at each place the lines of the analysis there, numbered by place
space_section_at : (t : Task) (n : ℕ) (analyses : List Analysis) (i : ℕ) (d : Analysis) → i < length analyses
    → get_or (space_sections t n analyses) i [] ≡ section_lines t (n + i) (get_or analyses i d)
unfolding space_sections
space_section_at t n [] i d h = absurd (not-suc-le-zero h)
space_section_at t n (a ∷ analyses) zero d h = ap (λ (k : ℕ). section_lines t k a) (sym (add-zero n))
space_section_at t n (a ∷ analyses) (suc i) d h =
    space_section_at t (suc n) analyses i d (le_of_suc-le-suc h)
    ∙ ap (λ (k : ℕ). section_lines t k (get_or analyses i d)) (omega arith)

module _ (t : Task) where
  count_fronts : length (space_sections t 0 (analysis t)) ≡ length (spaces t)
  count_fronts = length_space_sections t 0 (analysis t) ∙ length_analysis t

  -- one section for each space, and one more
  pub section_count : length (sections t) ≡ length (spaces t) + 1
  unfolding sections
  section_count =
      length-append (space_sections t 0 (analysis t)) (closing_lines t (analysis t) ∷ [])
      ∙ ap (λ (n : ℕ). n + 1) count_fronts

  -- the section of a space
  pub section_of_space : (i : ℕ) → i < length (spaces t) → get_or (sections t) i [] ≡ section_lines t i (analyse t (space_at t i))
  unfolding sections
  section_of_space i h =
      let none : Analysis = analyse t (space_at t 0) in
      get_or-append (space_sections t 0 (analysis t)) (closing_lines t (analysis t) ∷ []) [] i
      (subst (λ (n : ℕ). i < n) (sym count_fronts) h)
      ∙ space_section_at t 0 (analysis t) i none (subst (λ (n : ℕ). i < n) (sym (length_analysis t)) h)
      ∙ ap (λ (k : ℕ). section_lines t k (get_or (analysis t) i none)) (zero-add i)
      ∙ ap (section_lines t i) (analysis_at_lem t i none h)

  -- the closing section
  pub section_closing : (i : ℕ) → i ≡ length (spaces t) → get_or (sections t) i [] ≡ closing_lines t (analysis t)
  unfolding sections
  section_closing i e =
      ap (λ (n : ℕ). get_or (sections t) n []) (e ∙ sym count_fronts ∙ sym (add-zero (length (space_sections t 0 (analysis t)))))
      ∙ get_or-append-add (space_sections t 0 (analysis t)) (closing_lines t (analysis t) ∷ []) 0 []
