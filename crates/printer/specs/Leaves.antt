-- What printing leaves in the buffer and in the tables lent to it, and what it gives the writer of the listing.
use Rattle.std.specs.Prelude.{ℕ, ◌+◌, ◌≤◌, ◌≡◌, Bool, true, length, get_or, take, Option, IfSome, Result, Ok, Err, OnOk}
use Rattle.std.specs.Io.KnownBytes.{Keeps, Appends}
use mathlib.Core.List.{List, [], ◌∷◌, foldl}
use Rattle.model.specs.Answer.{Answer, refused, accepted}
use Rattle.model.specs.Card.{Task, decode}
use Rattle.model.specs.Analysis.{analysis}
use Rattle.model.specs.Lines.{Line, sections}
use Rattle.model.specs.Text.{text}
use Rattle.model.specs.Calls.{output, printed, program}
use Rattle.model.specs.Transitions.{properties}
use Rattle.properties.specs.Tables.{rows_before}
use Rattle.properties.specs.Represented.{object_bags}
use Rattle.properties.specs.Parameters.{parameters_in, ParameterTables}
use Rattle.totals.specs.Totals.{totals_of}
use Rattle.prepared.specs.Prepared.{Given}
use Rattle.prepared.specs.declared.Prepared.{Prepared}
use Rattle.printer.specs.declared.Unprinted.{Unprinted}
use Rattle.printer.specs.declared.Unprinted.TheVariants.{Unread, CutOff}
use Rattle.printer.specs.declared.printing.Stopped.{Stopped}

-- a section's text, written to a buffer from byte 0 on; the bytes after it are left
unfoldable pub over : List ℕ → List Line → List ℕ
over buffer section = (output (text section) buffer).buffer

-- sections written so, one after the other
unfoldable pub in_turn : List (List Line) → List ℕ → List ℕ
in_turn sections buffer = foldl over buffer sections

-- what printing a card leaves in the buffer: a refused card leaves it as it was, an accepted card's sections are written to it in turn
unfoldable pub left_by_printing : Answer Task → List ℕ → List ℕ
left_by_printing (refused n) buffer = buffer
left_by_printing (accepted t) buffer = in_turn (sections t) buffer

-- and what it leaves after so many sections
unfoldable pub left_by_sections : ℕ → Answer Task → List ℕ → List ℕ
left_by_sections n (refused k) buffer = buffer
left_by_sections n (accepted t) buffer = in_turn (take n (sections t)) buffer

-- how many of these sections were made: all of them if all of the listing was written
abbrev pub sections_made : List (List Line) → Result (Unit {0}) Stopped → ℕ
sections_made sections (Ok u) = length sections
sections_made sections (Err r) = r.sections

-- How far a listing of these sections was printed: no further than its end.
abbrev pub Reaches : List (List Line) → Result (Unit {0}) Stopped → Type 0
Reaches sections (Ok u) = Unit {0}
Reaches sections (Err r) = r.sections ≤ length sections

-- A card was printed, whole or up to a write that failed.
abbrev pub Prints : Answer Task → Result (Unit {0}) Stopped → List ℕ → List ℕ → Type 0
Prints answer (Ok u) out out' = out' ≡ left_by_printing answer out
Prints answer (Err r) out out' = out' ≡ left_by_sections r.sections answer out

-- what became of an input that was not printed whole
abbrev pub UnprintedFrom : Unprinted → List ℕ → List ℕ → List ℕ → Type 0
UnprintedFrom Unread window out out' = out' ≡ out
UnprintedFrom (CutOff n k) window out out' = (n ≤ length window) × (out' ≡ left_by_sections k (decode (take n window)) out)

-- What became of an input. The card is the n bytes that were read to the front of the window.
abbrev pub PrintsFrom : Result ℕ Unprinted → List ℕ → List ℕ → List ℕ → Type 0
PrintsFrom (Ok n) window out out' = (n ≤ length window) × (out' ≡ left_by_printing (decode (take n window)) out)
PrintsFrom (Err u) window out out' = UnprintedFrom u window out out'

-- nothing is given of an input that was not read
abbrev pub DeliversNothing : Unprinted → Option (List ℕ) → Option (List ℕ) → Type 0
DeliversNothing Unread before after = Keeps before after
DeliversNothing (CutOff n k) before after = Unit {0}

-- What the writer of the listing was given, where it says what it holds: nothing of an input that was not read, and of a card that was
-- printed whole just what the program prints of it. Of a listing that was cut off the writer does not say how much it took.
abbrev pub Delivers : Result ℕ Unprinted → List ℕ → Option (List ℕ) → Option (List ℕ) → Type 0
Delivers (Ok n) window before after = Appends before after (printed (decode (take n window)))
Delivers (Err u) window before after = DeliversNothing u before after

-- The same of all the bytes that the input had, where it says them: what is behind the window decides nothing.
abbrev pub DeliversProgram : Result ℕ Unprinted → Option (List ℕ) → Option (List ℕ) → Option (List ℕ) → Type 0
DeliversProgram (Ok n) card before after = IfSome card (λ bytes. Appends before after (program bytes))
DeliversProgram (Err u) card before after = Unit {0}

-- The section of a space was written and its totals entered, for each task whose tables were given.
pub record SpacePrinted (number : ℕ) (p : Prepared) (deletes adds counts fixed fixed' out out' : List ℕ) : Type 0 where
  pub buffer : {t : Task} {preconditions : List ℕ} → Given t p preconditions deletes adds counts
      → out' ≡ in_turn (get_or (sections t) number [] ∷ []) out
  pub totals : {t : Task} {preconditions : List ℕ} → Given t p preconditions deletes adds counts
      → fixed ≡ totals_of (take number (analysis t)) → fixed' ≡ totals_of (take (number + 1) (analysis t))

-- The writer was given the section of a space, if that ended well, for each task whose tables were given.
pub record SpaceDelivered (number : ℕ) (p : Prepared) (deletes adds counts : List ℕ) (written : Bool) (before after : Option (List ℕ)) : Type 0 where
  pub whole : written ≡ true → {t : Task} {preconditions : List ℕ} → Given t p preconditions deletes adds counts
      → Appends before after (text (get_or (sections t) number []))

-- The writer was given all that is printed of a task, if that ended well.
abbrev pub ListingDelivered : Task → Result (Unit {0}) Stopped → Option (List ℕ) → Option (List ℕ) → Type 0
ListingDelivered t r before after = OnOk r (Appends before after (printed (accepted t)))

-- The tables of a task were filled: every number of them, before and after.
pub record Filled (t : Task) (preconditions deletes adds counts p d a c : List ℕ) : Type 0 where
  pub parameters_are : ParameterTables (properties t) t.schemas (parameters_in t.schemas) preconditions deletes adds p d a
  pub counts_are : c ≡ rows_before (object_bags t) counts
