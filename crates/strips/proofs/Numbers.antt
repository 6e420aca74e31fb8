-- The numbers of the next state: what goes and what comes, as the code keeps them.
use Prim.Native.Nat.{ℕ, ◌+◌, ◌-◌, ◌≤◌}
use native.Mathlib.Nat.{sub-zero, le_refl, le_trans}
use native.Mathlib.Omega.{arith}
use mathlib.Core.Path.{◌≡◌, sym, ap, ◌∙◌}
use mathlib.Core.Bool.{true}
use mathlib.Core.List.{List, [], ◌∷◌, map}
use lib.ListN.{length, take, replicate, length-map, length-append}
use lib.Seq.{take_at, length-take-le}
use Rattle.laws.specs.Lists.{padded}
use Rattle.model.specs.Card as model
use Rattle.model.specs.Strips.{ground, taken_out, put_in}
use Rattle.card.specs.Represents.{atoms_of, schema_of}
use Rattle.card.proofs.Entries.{length_atoms}
use Rattle.card.specs.declared.AtomList.{AtomList}
use Rattle.card.specs.declared.Schema.{Schema}
use Rattle.sets.specs.Numbers.{rising, without, without_all, inserted_all, SetKept, Becomes}
use Rattle.sets.proofs.Ascending.{without_rising, length_without}
use Rattle.sets.proofs.Changing.{left_set, left_length, left_kept}
use Rattle.state.specs.Rows.{fact_number}
use Rattle.actions.specs.Grounds.{facts_kept, Bound}
use Rattle.actions.specs.declared.Facts.{Facts}
use Rattle.strips.specs.Steps.{next_numbers, NextReady}

-- a set that only loses numbers ascends, and is no longer
pub without_all_rising : (out ns : List ℕ) → rising 0 ns ≡ true → rising 0 (without_all out ns) ≡ true
unfolding without_all
without_all_rising [] ns e = e
without_all_rising (n ∷ out) ns e = without_all_rising out (without n ns) (without_rising n 0 ns e)

pub length_without_all : (out ns : List ℕ) → length (without_all out ns) ≤ length ns
unfolding without_all
length_without_all [] ns = le_refl (length ns)
length_without_all (n ∷ out) ns = le_trans (length_without_all out (without n ns)) (length_without n ns)

-- as many facts as the list has atoms
pub length_grounds :
    {arities objects : List ℕ} {l : AtomList} → Bound arities objects l → length (map (ground objects) (atoms_of arities l)) ≡ l.count
length_grounds {arities} {objects} {l} b = length-map (atoms_of arities l) (ground objects) ∙ length_atoms arities l

module _ {arities objects : List ℕ} (schema : Schema) where
  pub few_out : Bound arities objects schema.deletes → length (taken_out (schema_of arities schema) objects) ≤ 8
  unfolding taken_out schema_of
  few_out b = let n = length_grounds b in let few = b.few in omega arith

  pub few_in : Bound arities objects schema.adds → length (put_in (schema_of arities schema) objects) ≤ 8
  unfolding put_in schema_of
  few_in b = let n = length_grounds b in let few = b.few in omega arith

-- Facts as the code keeps them: their count, and their numbers at the front.
module _ {f : Facts} (facts : List model.Atom) (kept : f ≡ facts_kept facts) (few : length facts ≤ 8) where
  pub kept_count : f.count ≡ length facts
  unfolding facts_kept
  kept_count = ap (λ (g : Facts). g.count) kept

  pub kept_within : f.count ≤ length f.numbers
  unfolding facts_kept padded
  kept_within =
      let size : length f.numbers ≡ length (map fact_number facts) + length {A = ℕ} (replicate (8 - length (map fact_number facts)) 0) =
      (ap (λ (g : Facts). length g.numbers) kept ∙ length-append (map fact_number facts) (replicate (8 - length (map fact_number facts)) 0)) in
      let n = length-map facts fact_number in
      let c = kept_count in
      omega arith

  pub kept_numbers : take (f.count - 0) f.numbers ≡ map fact_number facts
  unfolding facts_kept padded
  kept_numbers =
      ap (λ (k : ℕ). take k f.numbers) (sub-zero f.count)
      ∙ ap (λ (g : Facts). take f.count g.numbers) kept
      ∙ take_at (map fact_number facts) _ f.count (length-map facts fact_number ∙ sym kept_count)

-- What the code knows between taking out and putting in.
module _
    {arities objects : List ℕ} {schema : Schema} {was : List ℕ} {count : ℕ} (ready : NextReady arities objects schema was count)
    {now : List ℕ} {left : ℕ}
    (gone : Becomes (without_all (map fact_number (taken_out (schema_of arities schema) objects)) (take count was)) was now left)
  where
    out : List ℕ
    out = map fact_number (taken_out (schema_of arities schema) objects)

    size : length (take count was) ≡ count
    size = length-take-le count was ready.set.few

    fits : length (without_all out (take count was)) ≤ length was
    unfolding out
    fits = let fewer = length_without_all out (take count was) in let n = size in let few = ready.set.few in omega arith

    pub between_length : length now ≡ length was
    unfolding out
    between_length = left_length gone fits

    pub between_set : SetKept left now
    unfolding out
    between_set =
        left_kept gone fits (without_all_rising out (take count was) ready.set.ascends)

    pub between_few : left ≤ count
    unfolding out
    between_few =
        let fewer = length_without_all out (take count was) in let n = size in let c = gone.counted in omega arith

    pub next_becomes :
        {next : List ℕ} {r : ℕ} → Becomes (inserted_all (map fact_number (put_in (schema_of arities schema) objects)) (take left now)) now next r
        → Becomes (next_numbers (schema_of arities schema) objects (take count was)) was next r
    unfolding next_numbers padded out
    next_becomes b =
        let same = left_set gone fits in
        let new : List ℕ = map fact_number (put_in (schema_of arities schema) objects) in
        record {
          listed =
              b.listed ∙ ap (λ (k : ℕ). padded k 0 (inserted_all new (take left now))) between_length
              ∙ ap (λ (l : List ℕ). padded (length was) 0 (inserted_all new l)) same;
          counted = b.counted ∙ ap (λ (l : List ℕ). length (inserted_all new l)) same;
        }
