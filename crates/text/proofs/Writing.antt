-- Laws of writing: bytes written one after the other are written together.
use Prim.Native.Nat.{ℕ, suc, ◌+◌, ◌-◌, ◌≤◌, ◌<◌}
use mathlib.Core.Path.{◌≡◌, refl, sym, ap, subst, ◌∙◌}
use mathlib.Core.List.{List, [], ◌∷◌, ◌++◌, append_assoc, append-nil}
use native.Mathlib.Omega.{arith}
use native.Mathlib.Numerals.{add-one}
use lib.ListN.{length, take, drop, set, length-append, length-drop, drop_of_length-le}
use lib.Seq.{take_all, drop-drop, take_at, drop_at, set_split}
use Rattle.text.specs.Room.{Room}
use Rattle.text.specs.Written.{Writes}

-- nothing written
pub nothing : (before : List ℕ) → Writes [] before before 0
nothing before = record { count = refl; buffer = refl }

-- the buffer is as long after a write that it has room for
pub as_long : {bytes before after : List ℕ} {n : ℕ} → Writes bytes before after n → n ≤ length before → length after ≡ length before
as_long {bytes} {before} w room = ap length w.buffer ∙ simp (length-append, length-drop) (omega (arith, w.count))

-- what was written stands in front of the rest of the buffer
front : {bytes before after : List ℕ} {n : ℕ} → Writes bytes before after n → take n after ≡ bytes
front {bytes} w = rw w.buffer (take_at bytes _ _ (sym w.count))

rest : {bytes before after : List ℕ} {n : ℕ} → Writes bytes before after n → drop n after ≡ drop n before
rest {bytes} w = rw w.buffer (drop_at bytes _ _ (sym w.count) ∙ rw (← w.count))

-- a write and then another into the rest of the buffer, which is lent on
pub and_then : {first second before mid part : List ℕ} {at n : ℕ} → Writes first before mid at
    → Writes second (take (length mid - at) (drop at mid)) part n
    → Writes (first ++ second) before (take at mid ++ (part ++ drop (length mid - at) (drop at mid))) (at + n)
and_then {first} {second} {before} {mid} {part} {at} {n} w v = record { count = counted; buffer = stands }
  where
    counted : at + n ≡ length (first ++ second)
    counted = simp length-append (omega (arith, w.count, v.count))

    lent : take (length mid - at) (drop at mid) ≡ drop at before
    lent = take_all (length mid - at) (drop at mid) (simp length-drop (omega arith)) ∙ rest w

    spent : drop (length mid - at) (drop at mid) ≡ []
    spent = drop_of_length-le (drop at mid) {i = length mid - at} (simp length-drop (omega arith))

    behind : part ≡ second ++ drop (length (first ++ second)) before
    behind = v.buffer ∙ rw (lent, drop-drop, ← v.count, ← counted)

    stands : take at mid ++ (part ++ drop (length mid - at) (drop at mid)) ≡ first ++ second ++ drop (length (first ++ second)) before
    stands = rw (front w, spent, behind) (simp (append-nil, append_assoc))

-- a byte stored behind what was written
pub and_byte : {bytes before mid : List ℕ} {at : ℕ} → Writes bytes before mid at → (b : ℕ) → at < length mid
    → Writes (bytes ++ (b ∷ [])) before (set mid at b) (at + 1)
and_byte {bytes} {before} {mid} {at} w b room = record { count = counted; buffer = stands }
  where
    counted : at + 1 ≡ length (bytes ++ (b ∷ []))
    counted = simp length-append (omega (arith, w.count))

    further : drop (suc at) mid ≡ drop (suc at) before
    further = rw (← add-one at, ← drop-drop 1 at mid, ← drop-drop 1 at before, rest w)

    stands : set mid at b ≡ bytes ++ (b ∷ []) ++ drop (length (bytes ++ (b ∷ []))) before
    stands = set_split mid at b room ∙ rw (front w, ← counted, add-one, further) (simp append_assoc)

-- one byte at the start
pub one_byte : (b : ℕ) (before : List ℕ) → 0 < length before → Writes (b ∷ []) before (set before 0 b) 1
one_byte b before room = and_byte (nothing before) b room

-- Part of a text is written and the rest remains. There is room for all of it.
pub record Remains (all rest before now : List ℕ) (at : ℕ) : Type 0 where
  pub written : List ℕ
  pub whole : all ≡ written ++ rest
  pub so_far : Writes written before now at
  pub room : Room all before
  pub reached : at + length rest ≡ length all
  pub kept : length now ≡ length before

-- at the start all remains
pub start : {all before : List ℕ} → Room all before → Remains all all before before 0
start {all} {before} room =
    record { written = []; whole = refl; so_far = nothing before; room = room; reached = omega arith; kept = refl }

-- where nothing remains, all is written
pub finish : {all rest before now : List ℕ} {at : ℕ} → Remains all rest before now at → rest ≡ [] → Writes all before now at
finish {all} {rest} {before} {now} {at} r none =
    subst (λ (l : List ℕ). Writes l before now at) (sym (r.whole ∙ rw none (append-nil _))) r.so_far

-- what remains may be said in other words
pub remains_as : {all rest rest' before now : List ℕ} {at : ℕ} → rest ≡ rest' → Remains all rest before now at
    → Remains all rest' before now at
remains_as {all} {rest} {rest'} {before} {now} {at} e r = subst (λ (l : List ℕ). Remains all l before now at) e r

-- A text begins with these bytes, and those come later.
pub record Begins (text bytes later : List ℕ) : Type 0 where
  pub path : text ≡ bytes ++ later

module _ {all rest before now bytes later : List ℕ} {at : ℕ} (r : Remains all rest before now at) (b : Begins rest bytes later) where
  sizes : length rest ≡ length bytes + length later
  sizes = simp length-append at (ap length b.path)

  -- what comes next fits into the buffer from the place on
  pub next_fits : Room bytes (take (length now - at) (drop at now))
  next_fits =
      record {
        fits =
            rw (take_all (length now - at) (drop at now) (simp length-drop (omega arith)))
            (simp length-drop (omega (arith, sizes)));
      }

  -- and when it is written there, less remains
  pub next : {part : List ℕ} {n : ℕ} → Writes bytes (take (length now - at) (drop at now)) part n
      → Remains all later before (take at now ++ (part ++ drop (length now - at) (drop at now))) (at + n)
  next w =
      let both = and_then r.so_far w in
      record {
        written = r.written ++ bytes;
        whole = r.whole ∙ rw b.path (sym (append_assoc r.written bytes later));
        so_far = both;
        room = r.room;
        reached = omega (arith, w.count, sizes);
        kept = as_long both (omega (arith, w.count, sizes));
      }

-- a text that begins with bytes has room for them
pub first_fits : {text bytes later before : List ℕ} → Begins text bytes later → Room text before → Room bytes before
first_fits b room = record { fits = let h = simp length-append at (ap length b.path) in omega arith }

-- A text in two parts, the first of which is written.
module _ {text bytes later before mid : List ℕ} {at : ℕ} (b : Begins text bytes later) (room : Room text before)
    (w : Writes bytes before mid at) where
  pub begun : Remains text later before mid at
  begun =
      let h = simp length-append at (ap length b.path) in
      record {
        written = bytes;
        whole = b.path;
        so_far = w;
        room = room;
        reached = omega (arith, w.count);
        kept = as_long w (omega (arith, w.count));
      }

  all_later : Begins later later []
  all_later = record { path = sym (append-nil later) }

  -- the rest of the buffer begins inside it
  pub rest_inside : at ≤ length mid
  rest_inside = let r = begun in omega arith

  -- and has room for the second part
  pub second_fits : Room later (take (length mid - at) (drop at mid))
  second_fits = next_fits begun all_later

  -- with which the text is written
  pub both : {part : List ℕ} {n : ℕ} → Writes later (take (length mid - at) (drop at mid)) part n
      → Writes text before (take at mid ++ (part ++ drop (length mid - at) (drop at mid))) (at + n)
  both v = finish (next begun all_later v) refl

-- A text that ends in one byte, all before which is written.
module _ {text bytes before mid : List ℕ} {at last : ℕ} (b : Begins text bytes (last ∷ [])) (room : Room text before)
    (w : Writes bytes before mid at) where
  -- there is room for that byte
  pub last_inside : at < length mid
  last_inside = let r = begun b room w in omega arith

  -- with which the text is written
  pub with_last : Writes text before (set mid at last) (at + 1)
  with_last = subst (λ (l : List ℕ). Writes l before (set mid at last) (at + 1)) (sym b.path) (and_byte w last last_inside)
