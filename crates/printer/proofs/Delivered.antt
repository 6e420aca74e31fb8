-- What the writer of a listing was given.
use Rattle.std.proofs.Common.{◌≡◌, ℕ, ◌+◌, ◌<◌, List, [], ◌∷◌, ◌++◌, length, get_or, take, take_all, append-nil, add-one, arith, Option, None, Some, IfSome, OnOk, is_ok, true, Result, Ok, Err, ap, sym, subst, ◌∙◌}
use mathlib.Core.List.{flat_map}
use Rattle.std.specs.Io.KnownBytes.{Appends}
use Rattle.std.proofs.KnownBytes.{Appends-nil, Appends-trans}
use Rattle.std.proofs.Math.Seq.{take-suc}
use Rattle.laws.proofs.Lists.{flat_map_append}
use Rattle.model.specs.Answer.{Answer, accepted}
use Rattle.model.specs.Card.{Task, decode}
use Rattle.model.specs.Lines.{Line, sections}
use Rattle.model.specs.Text.{text}
use Rattle.model.specs.Calls.{printed, program}
use Rattle.model.proofs.Window.{decode_window}
use Rattle.printer.specs.declared.printing.Stopped.{Stopped}

-- what holds of a call that ended well
pub if_ok : {A E P : Type 0} (r : Result A E) → OnOk r P → is_ok r ≡ true → P
if_ok (Ok x) holds ended = holds
if_ok (Err e) holds ended = cc

-- bytes that are what is printed of a card, by the answer to it
pub given_printed : (before after : Option (List ℕ)) (card : List ℕ) {bytes : List ℕ} {answer : Answer Task} → bytes ≡ printed answer → decode card ≡ answer
    → Appends before after bytes → Appends before after (printed (decode card))
given_printed before after card shows is given = subst (Appends before after) (shows ∙ ap printed (sym is)) given

-- and so if printing ended well
pub ended_printed : (r : Result (Unit {0}) Stopped) (before after : Option (List ℕ)) (card : List ℕ) {answer : Answer Task} → decode card ≡ answer
    → OnOk r (Appends before after (printed answer)) → OnOk r (Appends before after (printed (decode card)))
ended_printed r before after card is given =
    subst (λ (bytes : List ℕ). OnOk r (Appends before after bytes)) (ap printed (sym is)) given

-- what is printed of the front of an input is what the program prints of all of it
pub of_the_whole : (known : Option (List ℕ)) (window : List ℕ) (n size : ℕ) (before after : Option (List ℕ)) → size ≡ n → length window ≡ 5306
    → IfSome known (λ bytes. take n window ≡ take (length window) bytes) → Appends before after (printed (decode (take size window)))
    → IfSome known (λ bytes. Appends before after (program bytes))
unfolding program
of_the_whole None window n size before after same long front given = tt
of_the_whole (Some bytes) window n size before after same long front given =
    let card = ap (λ (k : ℕ). take k window) same ∙ front ∙ ap (λ (k : ℕ). take k bytes) long in
    subst (λ (answer : Answer Task). Appends before after (printed answer)) (ap decode card ∙ decode_window bytes) given

-- nothing is given before the first section
pub none_given : (held : Option (List ℕ)) (all : List (List Line)) → Appends held held (flat_map text (take 0 all))
unfolding flat_map
none_given held all = Appends-nil held

-- the texts of the sections so far, and of the next
texts_next : (all : List (List Line)) (number : ℕ) → number < length all
    → flat_map text (take number all) ++ text (get_or all number []) ≡ flat_map text (take (number + 1) all)
unfolding flat_map
texts_next all number there =
    let last = get_or all number [] in
    ap (λ (bytes : List ℕ). flat_map text (take number all) ++ bytes) (sym (append-nil (text last)))
    ∙ sym (flat_map_append text (take number all) (last ∷ []))
    ∙ ap (flat_map text) (sym (ap (λ (n : ℕ). take n all) (add-one number) ∙ take-suc all number [] there))

-- one section more
pub next_given : (first before after : Option (List ℕ)) (all : List (List Line)) (number : ℕ) → number < length all
    → Appends first before (flat_map text (take number all)) → Appends before after (text (get_or all number []))
    → Appends first after (flat_map text (take (number + 1) all))
next_given first before after all number there earlier given =
    subst (Appends first after) (texts_next all number there) (Appends-trans first before after _ _ earlier given)

-- all sections of a task are what is printed of it
pub all_given : (first after : Option (List ℕ)) (t : Task) (number : ℕ) → number ≡ length (sections t)
    → Appends first after (flat_map text (take number (sections t))) → Appends first after (printed (accepted t))
unfolding printed
all_given first after t number every given =
    subst (λ (some : List (List Line)). Appends first after (flat_map text some))
    (take_all number (sections t) (omega (arith, every))) given
