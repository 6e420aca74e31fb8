-- Sections written in turn from byte 0 of a buffer: one, one more, all.
use Prim.Native.Nat.{ℕ, ◌+◌, ◌≤◌, ◌<◌}
use native.Mathlib.Numerals.{add-one}
use native.Mathlib.Omega.{arith}
use mathlib.Core.Path.{◌≡◌, refl, sym, ap, ap₂, ◌∙◌, subst}
use mathlib.Core.Bool.{Bool, true}
use mathlib.Core.List.{List, [], ◌∷◌, foldl-append, flat_map}
use lib.ListN.{length, get_or, take, drop, replicate}
use lib.Seq.{take-suc, take-append_seam}
use Rattle.std.proofs.Common.{Option}
use Rattle.std.specs.Io.KnownBytes.{Appends}
use Rattle.model.specs.Card.{Task}
use Rattle.model.specs.Answer.{accepted}
use Rattle.model.specs.Calls.{output, printed}
use Rattle.model.specs.Analysis.{analysis}
use Rattle.model.specs.Lines.{Line, section_lines, closing_lines, sections}
use Rattle.model.specs.Text.{text}
use Rattle.model.proofs.RuleCount.{properties_few}
use Rattle.properties.specs.Tables.{stride}
use Rattle.text.specs.Written.{Writes}
use Rattle.closing.proofs.TypedObjects.{spaces_few}
use Rattle.totals.specs.Totals.{totals_of}
use Rattle.prepared.specs.Found.{SpaceReady, SpaceFound, FoundIn, analysis_at, found_totals}
use Rattle.prepared.specs.Prepared.{RoomForMoves, Given}
use Rattle.prepared.specs.declared.Found.{Found}
use Rattle.prepared.specs.declared.Prepared.{Prepared}
use Rattle.prepared.proofs.Analysing.{found_in}
use Rattle.prepared.proofs.SectionsOf.{section_count, section_of_space, section_closing}
use Rattle.prepared.proofs.Totalling.{totals_none, totals_with}
use Rattle.printer.proofs.Delivered.{next_given, all_given}
use Rattle.printer.specs.Leaves.{over, in_turn, SpacePrinted, SpaceDelivered}

-- a section that is written
pub one_turn : (section : List Line) {out out' : List ℕ} {n : ℕ} → Writes (text section) out out' n → out' ≡ in_turn (section ∷ []) out
unfolding in_turn over output
one_turn section w = w.buffer

-- the section of a space, written from what was found of it, and the totals, for each task that is prepared so
pub space_printed : {number : ℕ} {p : Prepared} {deletes adds counts starts finishes conditions : List ℕ}
    → SpaceReady number p deletes adds counts starts finishes conditions → {f : Found} {now_starts now_finishes now_conditions fixed fixed' out out' : List ℕ}
    {n : ℕ} → SpaceFound number p deletes adds counts f starts finishes conditions now_starts now_finishes now_conditions
    → length now_conditions ≡ length conditions → fixed' ≡ found_totals number p f now_conditions fixed
    → ((t : Task) → FoundIn t number p f deletes adds counts now_conditions → Writes (text (section_lines t number (analysis_at t number))) out out' n)
    → SpacePrinted number p deletes adds counts fixed fixed' out out'
space_printed {number} {p} asked {f} {now_conditions = now_conditions} {out = out} found kept entered written = record {
  buffer =
      λ {t} {preconditions} given.
      let in_task = found_in asked found kept given in
      one_turn (section_lines t number (analysis_at t number)) (written t in_task)
      ∙ ap (λ (section : List Line). in_turn (section ∷ []) out) (sym (section_of_space t number in_task.of.known));
  totals =
      λ {t} {preconditions} given before.
      entered ∙ ap (found_totals number p f now_conditions) before ∙ totals_with (found_in asked found kept given).of;
}

-- what was written is at the front of the buffer
pub written_front : {bytes before after : List ℕ} {n : ℕ} → Writes bytes before after n → take n after ≡ bytes
written_front {bytes} {before} w =
    ap₂ (λ (k : ℕ) (l : List ℕ). take k l) w.count w.buffer ∙ take-append_seam bytes (drop (length bytes) before)

-- the section of a space, given to a writer from where it was written
pub space_delivered : {number : ℕ} {p : Prepared} {deletes adds counts starts finishes conditions : List ℕ}
    → SpaceReady number p deletes adds counts starts finishes conditions → {f : Found} {now_starts now_finishes now_conditions out out' : List ℕ} {n : ℕ}
    → SpaceFound number p deletes adds counts f starts finishes conditions now_starts now_finishes now_conditions
    → length now_conditions ≡ length conditions
    → ((t : Task) → FoundIn t number p f deletes adds counts now_conditions → Writes (text (section_lines t number (analysis_at t number))) out out' n)
    → (written : Bool) (before after : Option (List ℕ)) → (written ≡ true → Appends before after (take n out'))
    → SpaceDelivered number p deletes adds counts written before after
space_delivered {number} asked found kept section written before after given = record {
  whole =
      λ ended {t} {preconditions} in_tables.
      let in_task = found_in asked found kept in_tables in
      subst (Appends before after)
      (written_front (section t in_task) ∙ ap text (sym (section_of_space t number in_task.of.known)))
      (given ended);
}

-- What is known before the section with this number: what the sections so far leave in the buffer, and their totals.
pub record Before (t : Task) (number : ℕ) (fixed out₀ out : List ℕ) : Type 0 where
  pub buffer : out ≡ in_turn (take number (sections t)) out₀
  pub totals : fixed ≡ totals_of (take number (analysis t))

-- The tables and the buffer keep their lengths.
pub record Kept (starts₀ starts finishes₀ finishes conditions₀ conditions out₀ out : List ℕ) : Type 0 where
  pub starts_kept : length starts ≡ length starts₀
  pub finishes_kept : length finishes ≡ length finishes₀
  pub conditions_kept : length conditions ≡ length conditions₀
  pub out_kept : length out ≡ length out₀

pub room_again : {rows : ℕ} {starts₀ starts finishes₀ finishes conditions₀ conditions out₀ out : List ℕ}
    → RoomForMoves rows starts₀ finishes₀ conditions₀ → Kept starts₀ starts finishes₀ finishes conditions₀ conditions out₀ out
    → RoomForMoves rows starts finishes conditions
room_again room k = record {
  starts_room = omega (arith, room.starts_room, k.starts_kept);
  finishes_room = omega (arith, room.finishes_room, k.finishes_kept);
  conditions_room = k.conditions_kept ∙ room.conditions_room;
}

-- a task has few spaces
pub spaces_low : {t : Task} {p : Prepared} {preconditions deletes adds counts : List ℕ} → Given t p preconditions deletes adds counts
    → p.spaces.count ≤ 60
spaces_low {t} {p} given = spaces_few t p.spaces given.prepared.spaces_are (properties_few t given.checked)

-- before the first
pub before_first : (t : Task) (out : List ℕ) → Before t 0 (replicate stride 0) out out
unfolding in_turn
before_first t out = record { buffer = refl; totals = totals_none t }

-- one section more
next_turn : {t : Task} {number : ℕ} {fixed out₀ out : List ℕ} → Before t number fixed out₀ out → number < length (sections t)
    → {out' : List ℕ} → out' ≡ in_turn (get_or (sections t) number [] ∷ []) out → out' ≡ in_turn (take (number + 1) (sections t)) out₀
unfolding in_turn
next_turn {t} {number} {out₀ = out₀} before there written =
    written
    ∙ ap (in_turn (get_or (sections t) number [] ∷ [])) before.buffer
    ∙ sym (foldl-append over out₀ (take number (sections t)) (get_or (sections t) number [] ∷ []))
    ∙ ap (λ (some : List (List Line)). in_turn some out₀)
    (sym (ap (λ (n : ℕ). take n (sections t)) (add-one number) ∙ take-suc (sections t) number [] there))

module _ {t : Task} {p : Prepared} {preconditions deletes adds counts : List ℕ} (given : Given t p preconditions deletes adds counts) {number : ℕ}
    {fixed out₀ out : List ℕ} (before : Before t number fixed out₀ out) where
  -- that of a space
  pub space_next : {fixed' out' : List ℕ} → number < p.spaces.count → SpacePrinted number p deletes adds counts fixed fixed' out out'
      → Before t (number + 1) fixed' out₀ out'
  space_next h printed = record {
    buffer = next_turn before (omega (arith, h, given.prepared.spaces_are.count, section_count t)) (printed.buffer given);
    totals = printed.totals given before.totals;
  }

  -- the closing one, behind those of all spaces
  pub closing_next : {out' : List ℕ} → number ≡ p.spaces.count → out' ≡ in_turn (closing_lines t (analysis t) ∷ []) out
      → out' ≡ in_turn (take (p.spaces.count + 1) (sections t)) out₀
  closing_next e written =
      let last = e ∙ given.prepared.spaces_are.count in
      next_turn before (omega (arith, last, section_count t))
      (written ∙ ap (λ (section : List Line). in_turn (section ∷ []) out) (sym (section_closing t number last)))
      ∙ ap (λ (n : ℕ). in_turn (take (n + 1) (sections t)) out₀) e

-- each space has a section
pub space_there : {t : Task} {p : Prepared} {preconditions deletes adds counts : List ℕ} → Given t p preconditions deletes adds counts → {number : ℕ}
    → number < p.spaces.count → number < length (sections t)
space_there {t} given h = omega (arith, h, given.prepared.spaces_are.count, section_count t)

-- the closing section given behind those of all spaces: that is all that is printed
pub closing_given : {t : Task} {p : Prepared} {preconditions deletes adds counts : List ℕ} → Given t p preconditions deletes adds counts
    → {number : ℕ} (first before after : Option (List ℕ)) → number ≡ p.spaces.count
    → Appends first before (flat_map text (take number (sections t))) → Appends before after (text (closing_lines t (analysis t)))
    → Appends first after (printed (accepted t))
closing_given {t} given {number} first before after e earlier last =
    let here = e ∙ given.prepared.spaces_are.count in
    all_given first after t (number + 1) (omega (arith, here, section_count t))
    (next_given first before after (sections t) number (omega (arith, here, section_count t)) earlier
    (subst (Appends before after) (ap text (sym (section_closing t number here))) last))

-- the closing section is the last
pub made_to_the_end : {t : Task} {p : Prepared} {preconditions deletes adds counts : List ℕ} → Given t p preconditions deletes adds counts
    → p.spaces.count + 1 ≡ length (sections t)
made_to_the_end {t} given = omega (arith, given.prepared.spaces_are.count, section_count t)
