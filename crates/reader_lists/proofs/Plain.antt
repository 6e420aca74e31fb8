-- The loops that read items with no order between them: arities, schemas.
use Prim.Native.Nat.{ℕ, ◌+◌, ◌≤◌, ◌<◌}
use mathlib.Core.List.{List}
use mathlib.Core.Option.{none}
use mathlib.Core.Path.{◌≡◌, sym, subst}
use lib.ListN.{length, drop, set, replicate}
use Rattle.model.specs.Answer.{refused, accepted}
use Rattle.model.specs.Card as model
use Rattle.reader_bytes.specs.declared.Cursor.{Cursor}
use Rattle.reader_atoms.proofs.Filling.{Filling, filling_starts, filling_goes_on, filling_stops}

module _ {A B : Type 0} (value : B → A) (keep : A → B) (blank : B) (size : ℕ) (read : model.Reader A) (n : ℕ) (start card : List ℕ) where
  -- i of n items are read, up to a place on the card
  pub record Plain (array : List B) (i at : ℕ) : Type 0 where
    pub within : at ≤ length card
    pub filling : Filling value keep blank size (λ previous. read) n start array i (drop at card)

module _ {A B : Type 0} {value : B → A} {keep : A → B} {blank : B} {size : ℕ} {read : model.Reader A} {n : ℕ} {start card : List ℕ}
    {array : List B} {at : ℕ} where
  -- nothing is read yet
  pub plain_starts : n ≤ size → at ≤ length card → start ≡ drop at card → array ≡ replicate size blank
      → Plain value keep blank size read n start card array 0 at
  plain_starts few within here blanks =
      record {
        within = within;
        filling =
            subst (λ s. Filling value keep blank size (λ previous. read) n start array 0 s) here
            (subst (λ a. Filling value keep blank size (λ previous. read) n start a 0 start) (sym blanks)
            (filling_starts value keep blank size (λ previous. read) n start few));
      }

module _ {A B : Type 0} {value : B → A} {keep : A → B} {blank : B} {size : ℕ} {read : model.Reader A} {n : ℕ} {start card : List ℕ}
    {array : List B} {i at : ℕ} (p : Plain value keep blank size read n start card array i at) (more : i < n) where
  -- the next item is stored
  pub plain_goes_on : {b : B} {c : Cursor} → read (drop at card) ≡ accepted (value b, drop c.at card) → c.at ≤ length card → b ≡ keep (value b)
      → Plain value keep blank size read n start card (set array i b) (i + 1) c.at
  plain_goes_on e within k =
      record { within = within; filling = filling_goes_on p.filling more e k }

  -- the next item is refused
  pub plain_stops : {k : ℕ} → read (drop at card) ≡ refused k → model.many (λ previous. read) none n start ≡ refused k
  plain_stops e = filling_stops p.filling more e
