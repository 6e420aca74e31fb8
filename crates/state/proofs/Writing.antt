-- Writing: numbers loaded from a buffer's rows, rows and zeros stored to a buffer, one after the other.
use Prim.Native.Nat.{ℕ, zero, suc, ◌+◌, ◌-◌, ◌*◌, ◌≤◌, ◌<◌}
use native.Mathlib.Omega.{arith}
use native.Mathlib.Numerals.{add-one}
use mathlib.Core.Path.{◌≡◌, refl, sym, ap, ◌∙◌}
use mathlib.Core.List.{List, [], ◌∷◌, ◌++◌, flat_map, append_assoc, append-nil}
use lib.ListN.{length, get_or, take, drop, set, replicate, length-append, length-drop, length-replicate}
use lib.Seq.{take-suc, take_at, drop-cons, drop-drop, drop-append-add, set_at, length-take-le}
use borrow.Rule.Slice.PartMut.{put_mid, Post-is}
use Rattle.laws.proofs.Lists.{flat_map_append}
use Rattle.state.specs.Rows.{row_number, row_bytes, row_at, numbers_in, stored}

-- a part put back: what stands before it and behind it is as it was
pub part_put : (a e : ℕ) (was part : List ℕ) → a ≤ e → put_mid a (e - a) was part ≡ take a was ++ part ++ drop e was
part_put a e was part h =
    ap (λ (l : List ℕ). take a was ++ (part ++ l)) (Post-is a e was h) ∙ sym (append_assoc (take a was) part (drop e was))

-- a value stored right behind what has been written
pub store_next :
    (xs was : List ℕ) (i v : ℕ) → length xs ≡ i → i < length was
    → set (xs ++ drop i was) i v ≡ xs ++ (v ∷ []) ++ drop (i + 1) was
store_next xs was i v n h =
    ap (λ (l : List ℕ). set (xs ++ l) i v) (drop-cons was i 0 h)
    ∙ set_at xs (get_or was i 0) (drop (suc i) was) v i n
    ∙ sym (append_assoc xs (v ∷ []) (drop (suc i) was))
    ∙ ap (λ (k : ℕ). xs ++ (v ∷ []) ++ drop k was) (sym (add-one i))

-- the numbers of one row more
numbers_more : (i : ℕ) (buffer : List ℕ) → numbers_in (suc i) buffer ≡ numbers_in i buffer ++ (row_number (row_at i buffer) ∷ [])
unfolding numbers_in row_at
numbers_more zero buffer = refl
numbers_more (suc i) buffer =
    ap (λ (l : List ℕ). row_number (take 4 buffer) ∷ l)
    (numbers_more i (drop 4 buffer)
    ∙ ap (λ (l : List ℕ). numbers_in i (drop 4 buffer) ++ (row_number (take 4 l) ∷ []))
    (drop-drop (4 * i) 4 buffer ∙ ap (λ (k : ℕ). drop k buffer) (let e : 4 + 4 * i ≡ 4 * suc i = omega arith in e)))

pub length_numbers_in : (n : ℕ) (buffer : List ℕ) → length (numbers_in n buffer) ≡ n
unfolding numbers_in
length_numbers_in zero buffer = refl
length_numbers_in (suc n) buffer = ap suc (length_numbers_in n (drop 4 buffer))

-- the numbers of the first i rows stand at the front
pub load_step :
    (buffer was now : List ℕ) (i n : ℕ) → now ≡ numbers_in i buffer ++ drop i was → i < length was → n ≡ row_number (row_at i buffer)
    → set now i n ≡ numbers_in (i + 1) buffer ++ drop (i + 1) was
load_step buffer was now i n e h p =
    ap (λ (l : List ℕ). set l i n) e
    ∙ store_next (numbers_in i buffer) was i n (length_numbers_in i buffer) h
    ∙ ap (λ (l : List ℕ). l ++ drop (i + 1) was)
    (ap (λ (m : ℕ). numbers_in i buffer ++ (m ∷ [])) p ∙ sym (numbers_more i buffer)
    ∙ ap (λ (k : ℕ). numbers_in k buffer) (sym (add-one i)))

pub load_length : (buffer was now : List ℕ) (i : ℕ) → now ≡ numbers_in i buffer ++ drop i was → i ≤ length was → length now ≡ length was
load_length buffer was now i e h =
    ap length e ∙ length-append (numbers_in i buffer) (drop i was)
    ∙ (let a = length_numbers_in i buffer in let b = length-drop i was in omega arith)

pub clear_length :
    (at : ℕ) (was now : List ℕ) (i : ℕ) → at ≤ i → now ≡ take at was ++ replicate (i - at) 0 ++ drop i was → i ≤ length was
    → length now ≡ length was
clear_length at was now i low e h =
    ap length e ∙ length-append (take at was ++ replicate (i - at) 0) (drop i was)
    ∙ (let a = length-append (take at was) (replicate (i - at) 0) in
    let b = length-take-le at was (omega arith) in
    let c = length-replicate {A = ℕ} (i - at) 0 in
    let d = length-drop i was in
    omega arith)

-- the zeros behind some of them
pub drop_zeros : (k n : ℕ) → drop {A = ℕ} k (replicate n 0) ≡ replicate (n - k) 0
drop_zeros zero n = ap (λ (m : ℕ). replicate {A = ℕ} m 0) (let e : n ≡ n - 0 = omega arith in e)
drop_zeros (suc k) zero = ap (λ (m : ℕ). replicate {A = ℕ} m 0) (let e : 0 ≡ 0 - suc k = omega arith in e)
drop_zeros (suc k) (suc n) = drop_zeros k n ∙ ap (λ (m : ℕ). replicate {A = ℕ} m 0) (let e : n - k ≡ suc n - suc k = omega arith in e)

-- four bytes for each number
pub length_rows : (ns : List ℕ) → length (flat_map row_bytes ns) ≡ 4 * length ns
unfolding flat_map row_bytes
length_rows [] = refl
length_rows (n ∷ ns) = let later = length_rows ns in omega arith

-- the rows of the first i numbers stand at the front
pub rows_written :
    (ns was : List ℕ) {now next : List ℕ} {i : ℕ} → now ≡ flat_map row_bytes (take i ns) ++ drop (4 * i) was → i < length ns
    → next ≡ take (4 * i) now ++ row_bytes (get_or ns i 0) ++ drop (4 * i + 4) now
    → next ≡ flat_map row_bytes (take (i + 1) ns) ++ drop (4 * (i + 1)) was
unfolding flat_map
rows_written ns was {now} {next} {i} e h w =
    let written : List ℕ = flat_map row_bytes (take i ns) in
    let size : length written ≡ 4 * i = (length_rows (take i ns) ∙ ap (λ (k : ℕ). 4 * k) (length-take-le i ns (omega arith))) in
    let front : take (4 * i) now ≡ written = (ap (take (4 * i)) e ∙ take_at written (drop (4 * i) was) (4 * i) size) in
    let back : drop (4 * i + 4) now ≡ drop (4 * (i + 1)) was =
    (ap (drop (4 * i + 4)) e ∙ ap (λ (k : ℕ). drop (k + 4) (written ++ drop (4 * i) was)) (sym size)
    ∙ drop-append-add written (drop (4 * i) was) 4 ∙ drop-drop 4 (4 * i) was
    ∙ ap (λ (k : ℕ). drop k was) (let m : 4 * i + 4 ≡ 4 * (i + 1) = omega arith in m)) in
    let more : written ++ row_bytes (get_or ns i 0) ≡ flat_map row_bytes (take (i + 1) ns) =
    (ap (λ (l : List ℕ). written ++ l) (sym (append-nil (row_bytes (get_or ns i 0))))
    ∙ sym (flat_map_append row_bytes (take i ns) (get_or ns i 0 ∷ []))
    ∙ ap (flat_map row_bytes) (sym (take-suc ns i 0 h) ∙ ap (λ (k : ℕ). take k ns) (sym (add-one i)))) in
    w ∙ ap (λ (l : List ℕ). l ++ row_bytes (get_or ns i 0) ++ drop (4 * i + 4) now) front
    ∙ ap (λ (l : List ℕ). written ++ row_bytes (get_or ns i 0) ++ l) back
    ∙ ap (λ (l : List ℕ). l ++ drop (4 * (i + 1)) was) more

-- rows, then zeros up to byte 4,096
pub rows_stored :
    (ns was now next : List ℕ) → now ≡ flat_map row_bytes ns ++ drop (4 * length ns) was → length ns ≤ 1024
    → next ≡ take (4 * length ns) now ++ replicate (4096 - 4 * length ns) 0 ++ drop 4096 now → next ≡ stored ns was
unfolding stored
rows_stored ns was now next e few w =
    let rows : List ℕ = flat_map row_bytes ns in
    let n : ℕ = 4 * length ns in
    let front : take n now ≡ rows = (ap (take n) e ∙ take_at rows (drop n was) n (length_rows ns)) in
    let all : length rows + (4096 - n) ≡ 4096 = (let l = length_rows ns in omega arith) in
    let back : drop 4096 now ≡ drop 4096 was =
    (ap (drop 4096) e ∙ ap (λ (k : ℕ). drop k (rows ++ drop n was)) (sym all)
    ∙ drop-append-add rows (drop n was) (4096 - n) ∙ drop-drop (4096 - n) n was
    ∙ ap (λ (k : ℕ). drop k was) (let m : n + (4096 - n) ≡ 4096 = omega arith in m)) in
    w ∙ ap (λ (l : List ℕ). l ++ replicate (4096 - n) 0 ++ drop 4096 now) front
    ∙ ap (λ (l : List ℕ). rows ++ replicate (4096 - n) 0 ++ l) back

pub rows_length :
    (ns was now : List ℕ) (i : ℕ) → now ≡ flat_map row_bytes (take i ns) ++ drop (4 * i) was → i ≤ length ns → 4 * length ns ≤ length was
    → length now ≡ length was
rows_length ns was now i e h room =
    ap length e ∙ length-append (flat_map row_bytes (take i ns)) (drop (4 * i) was)
    ∙ (let a = length_rows (take i ns) in let b = length-take-le i ns h in let c = length-drop (4 * i) was in omega arith)
