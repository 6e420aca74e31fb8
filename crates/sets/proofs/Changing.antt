-- Changing a set of numbers at the front of a list: a number taken out, or put in at its place.
use Prim.Native.Nat.{ℕ, zero, suc, ◌+◌, ◌-◌, ◌≤◌, ◌<◌, zero-le}
use native.Mathlib.Nat.{sub-zero, le_of_suc-le-suc}
use native.Mathlib.Omega.{arith}
use native.Mathlib.Numerals.{add-one}
use mathlib.Core.Path.{◌≡◌, refl, sym, ap, ◌∙◌, subst}
use mathlib.Core.Bool.{Bool, true, false, cond}
use mathlib.Core.List.{List, [], ◌∷◌, ◌++◌, foldl, append_assoc}
use lib.Dec.{ltb}
use borrow.Author.Tests.{ltb-true, ltb-false}
use lib.ListN.{length, get_or, take, drop, replicate, length-append, length-drop, length-replicate, take-append-drop}
use lib.Seq.{take-take, take_all, take_at, drop_at, drop-drop, length-take-le}
use Rattle.std.specs.Prelude.{Result, Ok, Err}
use Rattle.laws.specs.Lists.{member, padded}
use Rattle.laws.proofs.Tests.{never, by_test}
use Rattle.sets.specs.Numbers.{rising, place, found, without, inserted, gap_closed, room_made, SetKept, Becomes}
use Rattle.sets.proofs.Ascending.{place_within, member_past_end, without_rising, inserted_rising, length_without, length_inserted}
use Rattle.sets.proofs.Ascending.{without_absent, without_there, inserted_absent, inserted_there}

-- a part from the front on
pub part_front : (count : ℕ) (xs : List ℕ) → take (count - 0) xs ≡ take count xs
part_front count xs = ap (λ (n : ℕ). take n xs) (sub-zero count)

-- what a search says: the number is on the list or not, and its place
pub found_there : (r : Result ℕ ℕ) (n i : ℕ) (l : List ℕ) → r ≡ found n l → r ≡ Ok i → (member n l ≡ true) × (i ≡ place n l)
unfolding found
found_there r n i l e k = go (member n l) refl (sym k ∙ e)
  where
    go : (b : Bool) → member n l ≡ b → Ok i ≡ cond b (Ok (place n l)) (Err (place n l)) → (member n l ≡ true) × (i ≡ place n l)
    go true p q = (p, cc)
    go false p q = absurd cc

pub found_missing : (r : Result ℕ ℕ) (n i : ℕ) (l : List ℕ) → r ≡ found n l → r ≡ Err i → (member n l ≡ false) × (i ≡ place n l)
unfolding found
found_missing r n i l e k = go (member n l) refl (sym k ∙ e)
  where
    go : (b : Bool) → member n l ≡ b → Err i ≡ cond b (Ok (place n l)) (Err (place n l)) → (member n l ≡ false) × (i ≡ place n l)
    go true p q = absurd cc
    go false p q = (p, cc)

-- a number on the list stands before the end
pub there_within : (n : ℕ) (l : List ℕ) → member n l ≡ true → place n l < length l
there_within n l e =
    by_test (ltb (place n l) (length l)) (ltb-true (place n l) (length l))
    (λ p. never (sym e ∙ member_past_end n l (ltb-false (place n l) (length l) p)))

-- one 0 fewer
drop_one : (k : ℕ) → drop {A = ℕ} 1 (replicate k 0) ≡ replicate (k - 1) 0
drop_one zero = refl
drop_one (suc k) = ap (λ (m : ℕ). replicate {A = ℕ} m 0) (let e : k ≡ suc k - 1 = omega arith in e)

module _ (count n : ℕ) (was : List ℕ) (kept : SetKept count was) where
  size : length (take count was) ≡ count
  size = length-take-le count was kept.few

  -- nothing changes
  pub unchanged : (list : List ℕ) → list ≡ take count was → Becomes list was was count
  unfolding padded
  unchanged list e =
      let same : length list ≡ count = (ap length e ∙ size) in
      record {
        listed =
            sym (take-append-drop count was)
            ∙ ap (λ (l : List ℕ). l ++ drop count was) (sym e)
            ∙ ap (λ (l : List ℕ). list ++ l) kept.blank
            ∙ ap (λ (k : ℕ). list ++ replicate (length was - k) 0) (sym same);
        counted = sym same;
      }

  pub removed_missing : member n (take count was) ≡ false → Becomes (without n (take count was)) was was count
  removed_missing e = unchanged (without n (take count was)) (without_absent n (take count was) e)

  pub removed_there :
      (at : ℕ) (now : List ℕ) → member n (take count was) ≡ true → at ≡ place n (take count was) → now ≡ gap_closed at count was
      → Becomes (without n (take count was)) was now (count - 1)
  unfolding gap_closed padded
  removed_there at now e p q =
      let few = kept.few in
      let all = size in
      let within = there_within n (take count was) e in
      let gone : without n (take count was) ≡ take at was ++ drop (suc at) (take count was) =
      (without_there n 0 (take count was) kept.ascends e
      ∙ ap (λ (k : ℕ). take k (take count was) ++ drop (suc k) (take count was)) (sym p)
      ∙ ap (λ (l : List ℕ). l ++ drop (suc at) (take count was)) (take-take at count was (omega arith))) in
      let fewer : length (without n (take count was)) ≡ count - 1 =
      (ap length gone ∙ length-append (take at was) (drop (suc at) (take count was))
      ∙ (let front = length-take-le at was (omega arith) in let back = length-drop (suc at) (take count was) in omega arith)) in
      let zeros : suc (length was - count) ≡ length was - length (without n (take count was)) = omega arith in
      record {
        listed =
            q ∙ ap (λ (l : List ℕ). l ++ 0 ∷ drop count was) (sym gone)
            ∙ ap (λ (l : List ℕ). without n (take count was) ++ 0 ∷ l) kept.blank
            ∙ ap (λ (k : ℕ). without n (take count was) ++ replicate k 0) zeros;
        counted = sym fewer;
      }

  pub inserted_again : member n (take count was) ≡ true → Becomes (inserted n (take count was)) was was count
  inserted_again e = unchanged (inserted n (take count was)) (inserted_there n 0 (take count was) kept.ascends e)

  pub inserted_new :
      (at : ℕ) (now : List ℕ) → count < length was → member n (take count was) ≡ false → at ≡ place n (take count was)
      → now ≡ room_made at count n was → Becomes (inserted n (take count was)) was now (count + 1)
  unfolding room_made padded
  inserted_new at now room e p q =
      let all = size in
      let within = place_within n (take count was) in
      let more : inserted n (take count was) ≡ take at was ++ n ∷ drop at (take count was) =
      (inserted_absent n (take count was) e
      ∙ ap (λ (k : ℕ). take k (take count was) ++ n ∷ drop k (take count was)) (sym p)
      ∙ ap (λ (l : List ℕ). l ++ n ∷ drop at (take count was)) (take-take at count was (omega arith))) in
      let longer : length (inserted n (take count was)) ≡ suc count =
      (ap length more ∙ length-append (take at was) (n ∷ drop at (take count was))
      ∙ (let front = length-take-le at was (omega arith) in let back = length-drop at (take count was) in omega arith)) in
      let behind : drop (suc count) was ≡ replicate (length was - length (inserted n (take count was))) 0 =
      (ap (λ (k : ℕ). drop k was) (sym (add-one count)) ∙ sym (drop-drop 1 count was) ∙ ap (drop 1) kept.blank
      ∙ drop_one (length was - count)
      ∙ ap (λ (k : ℕ). replicate k 0) (let z : length was - count - 1 ≡ length was - length (inserted n (take count was)) = omega arith in z)) in
      record {
        listed =
            q ∙ sym (append_assoc (take at was) (n ∷ drop at (take count was)) (drop (suc count) was))
            ∙ ap (λ (l : List ℕ). l ++ drop (suc count) was) (sym more)
            ∙ ap (λ (l : List ℕ). inserted n (take count was) ++ l) behind;
        counted = add-one count ∙ sym longer;
      }

-- what a change left is a set again, where it ascends and there is room for it
module _ {set before after : List ℕ} {r : ℕ} (becomes : Becomes set before after r) (room : length set ≤ length before) where
  pub left_set : take r after ≡ set
  unfolding padded
  left_set =
      ap (λ (l : List ℕ). take r l) becomes.listed ∙ take_at set _ r (sym becomes.counted)

  pub left_length : length after ≡ length before
  unfolding padded
  left_length =
      ap length becomes.listed ∙ length-append set (replicate (length before - length set) 0)
      ∙ (let zeros = length-replicate {A = ℕ} (length before - length set) 0 in omega arith)

  pub left_kept : rising 0 set ≡ true → SetKept r after
  unfolding padded
  left_kept e =
      let same = left_length in
      let count = becomes.counted in
      record {
        few = omega arith;
        ascends = ap (rising 0) left_set ∙ e;
        blank =
            ap (λ (l : List ℕ). drop r l) becomes.listed ∙ drop_at set _ r (sym count)
            ∙ ap (λ (k : ℕ). replicate k 0) (let z : length before - length set ≡ length after - r = omega arith in z);
      }

-- one more number after those before it
fold_more : (f : List ℕ → ℕ → List ℕ) (l ns : List ℕ) (i : ℕ) → i < length ns
    → foldl f l (take (suc i) ns) ≡ f (foldl f l (take i ns)) (get_or ns i 0)
fold_more f l [] i h = absurd (omega arith)
fold_more f l (n ∷ ns) zero h = refl
fold_more f l (n ∷ ns) (suc i) h = fold_more f (f l n) ns i (le_of_suc-le-suc h)

-- Numbers changed one after the other: what the first i of them have left.
pub record Changing (change : List ℕ → ℕ → List ℕ) (ns list before : List ℕ) (i : ℕ) (now : List ℕ) (r : ℕ) : Type 0 where
  pub becomes : Becomes (foldl change list (take i ns)) before now r
  pub ascends : rising 0 (foldl change list (take i ns)) ≡ true
  pub room : length (foldl change list (take i ns)) ≤ length list + i
  pub fits : length (foldl change list (take i ns)) ≤ length before

module _ {change : List ℕ → ℕ → List ℕ} {ns list before : List ℕ} {i : ℕ} {now : List ℕ} {r : ℕ} (c : Changing change ns list before i now r) where
  pub changing_step :
      {next : List ℕ} {s : ℕ} → i < length ns
      → Becomes (change (take r now) (get_or ns i 0)) now next s
      → rising 0 (change (take r now) (get_or ns i 0)) ≡ true
      → length (change (take r now) (get_or ns i 0)) ≤ suc (length (take r now))
      → length (change (take r now) (get_or ns i 0)) ≤ length before
      → Changing change ns list before (i + 1) next s
  unfolding padded
  changing_step h b e k l =
      let done = foldl change list (take i ns) in
      let now_set : take r now ≡ done = left_set c.becomes c.fits in
      let same : length now ≡ length before = left_length c.becomes c.fits in
      let more : foldl change list (take (i + 1) ns) ≡ change (take r now) (get_or ns i 0) =
      (ap (λ (m : ℕ). foldl change list (take m ns)) (add-one i) ∙ fold_more change list ns i h
      ∙ ap (λ (m : List ℕ). change m (get_or ns i 0)) (sym now_set)) in
      let room = c.room in
      let size = ap length now_set in
      record {
        becomes = record {
          listed = b.listed ∙ ap (λ (m : ℕ). padded m 0 (change (take r now) (get_or ns i 0))) same ∙ ap (padded (length before) 0) (sym more);
          counted = b.counted ∙ ap length (sym more);
        };
        ascends = ap (rising 0) more ∙ e;
        room = subst (λ (m : List ℕ). length m ≤ length list + (i + 1)) (sym more) (omega arith);
        fits = subst (λ (m : List ℕ). length m ≤ length before) (sym more) l;
      }

  pub changing_end : length ns ≤ i → Becomes (foldl change list ns) before now r
  changing_end h = subst (λ (m : List ℕ). Becomes (foldl change list m) before now r) (take_all i ns h) c.becomes

  -- between two changes there is a set
  pub changing_set : SetKept r now
  changing_set = left_kept c.becomes c.fits c.ascends

  pub changing_length : length now ≡ length before
  changing_length = left_length c.becomes c.fits

  -- no more numbers than those at the start and one for each change
  pub changing_count : r ≤ length list + i
  changing_count = let counted = c.becomes.counted in let room = c.room in omega arith

pub changing_start :
    (change : List ℕ → ℕ → List ℕ) (ns : List ℕ) {before : List ℕ} {count : ℕ} → SetKept count before
    → Changing change ns (take count before) before 0 before count
changing_start change ns {before} {count} kept =
    let few = kept.few in
    let size = length-take-le count before few in
    record {
      becomes = unchanged count 0 before kept (take count before) refl;
      ascends = kept.ascends;
      room = omega arith;
      fits = omega arith;
    }

-- a number taken out after those before it
abbrev pub take_out : List ℕ → ℕ → List ℕ
take_out ms n = without n ms

module _ {ns list before : List ℕ} {i : ℕ} {now : List ℕ} {r : ℕ} (c : Changing take_out ns list before i now r) where
  pub removing_step : {next : List ℕ} {s : ℕ} → i < length ns → Becomes (without (get_or ns i 0) (take r now)) now next s
      → Changing take_out ns list before (i + 1) next s
  removing_step h b =
      let kept = changing_set c in
      let same = changing_length c in
      let few = kept.few in
      let size = length-take-le r now few in
      let fewer = length_without (get_or ns i 0) (take r now) in
      changing_step c h b (without_rising (get_or ns i 0) 0 (take r now) kept.ascends) (omega arith) (omega arith)

-- a number put in after those before it
abbrev pub put_in : List ℕ → ℕ → List ℕ
put_in ms n = inserted n ms

module _ {ns list before : List ℕ} {i : ℕ} {now : List ℕ} {r : ℕ} (c : Changing put_in ns list before i now r) where
  pub inserting_step : {next : List ℕ} {s : ℕ} → i < length ns → length list + length ns ≤ length before
      → Becomes (inserted (get_or ns i 0) (take r now)) now next s → Changing put_in ns list before (i + 1) next s
  inserting_step h enough b =
      let kept = changing_set c in
      let count = changing_count c in
      let size = length-take-le r now kept.few in
      let more = length_inserted (get_or ns i 0) (take r now) in
      changing_step c h b (inserted_rising (get_or ns i 0) 0 (take r now) zero-le kept.ascends) (omega arith) (omega arith)
