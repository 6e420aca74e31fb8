-- The totals of all spaces, entered one after the other, in tables that keep their lengths.
use Prim.Native.Nat.{ℕ, ◌+◌, ◌≤◌, ◌<◌}
use native.Mathlib.Omega.{arith}
use mathlib.Core.Path.{◌≡◌, ap, ◌∙◌}
use mathlib.Core.List.{List}
use lib.ListN.{length, take, replicate}
use Rattle.model.specs.Card.{Task}
use Rattle.model.specs.Analysis.{analysis}
use Rattle.closing.specs.Fixed.{fixed_table}
use Rattle.totals.specs.Totals.{totals_of}
use Rattle.prepared.specs.declared.Prepared.{Prepared}
use Rattle.prepared.specs.declared.Found.{Found}
use Rattle.prepared.specs.Prepared.{Given}
use Rattle.prepared.specs.Found.{SpaceReady, SpaceFound, found_totals}
use Rattle.prepared.proofs.Analysing.{found_in}
use Rattle.prepared.proofs.Totalling.{totals_none, totals_with, totals_all}

-- The tables lent for the analysis of a space have kept their lengths.
pub record SameLengths (starts finishes conditions now_starts now_finishes now_conditions : List ℕ) : Type 0 where
  pub starts_kept : length now_starts ≡ length starts
  pub finishes_kept : length now_finishes ≡ length finishes
  pub conditions_kept : length now_conditions ≡ length conditions

-- the totals of the first spaces of whatever task is prepared
abbrev pub Entered : Prepared → List ℕ → List ℕ → List ℕ → ℕ → List ℕ → Type 0
Entered p deletes adds counts number fixed =
    (t : Task) (preconditions : List ℕ) → Given t p preconditions deletes adds counts → fixed ≡ totals_of (take number (analysis t))

pub entered_none : (p : Prepared) (deletes adds counts : List ℕ) → Entered p deletes adds counts 0 (replicate 60 0)
entered_none p deletes adds counts t preconditions given = totals_none t

module _ {p : Prepared} {deletes adds counts : List ℕ} where
  -- one space can be analysed where another was
  pub analysable_again : {i j : ℕ} {starts finishes conditions now_starts now_finishes now_conditions : List ℕ}
      → SpaceReady i p deletes adds counts starts finishes conditions
      → SameLengths starts finishes conditions now_starts now_finishes now_conditions → j < p.spaces.count
      → SpaceReady j p deletes adds counts now_starts now_finishes now_conditions
  analysable_again h kept known = record {
    task = h.task;
    preconditions = h.preconditions;
    given = h.given;
    known = known;
    starts_long = omega (arith, h.starts_long, kept.starts_kept);
    finishes_long = omega (arith, h.finishes_long, kept.finishes_kept);
    conditions_long = omega (arith, h.conditions_long, kept.conditions_kept);
  }

  -- one space more
  pub entered_next : {number : ℕ} {starts finishes conditions : List ℕ} → SpaceReady number p deletes adds counts starts finishes conditions
      → {f : Found} {now_starts now_finishes now_conditions : List ℕ}
      → SpaceFound number p deletes adds counts f starts finishes conditions now_starts now_finishes now_conditions
      → length now_conditions ≡ length conditions → (fixed : List ℕ) {after : List ℕ} → after ≡ found_totals number p f now_conditions fixed
      → Entered p deletes adds counts number fixed → Entered p deletes adds counts (number + 1) after
  entered_next {number} h {f} {now_conditions = now_conditions} found kept fixed is entered t preconditions given =
      is ∙ ap (found_totals number p f now_conditions) (entered t preconditions given) ∙ totals_with (found_in h found kept given).of

-- after the last space they are the task's
pub entered_all : {p : Prepared} {deletes adds counts : List ℕ} {number : ℕ} {fixed : List ℕ} → p.spaces.count ≤ number
    → Entered p deletes adds counts number fixed
    → (t : Task) (preconditions : List ℕ) → Given t p preconditions deletes adds counts → fixed ≡ fixed_table t
entered_all h entered t preconditions given = entered t preconditions given ∙ totals_all given h
