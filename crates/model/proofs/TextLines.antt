-- The text of lines determines the lines: two lists of lines that have one text are one list. So what demand 3 says of the lines of a listing
-- is said of the bytes that the listing call writes.
--
-- Every byte of an item is above the blank, so that blanks tell the items of a line apart, and byte 10 tells the lines apart. A number is read
-- back from its digits and a line from its items: the letter says which line it is, and of the two lists of an `S` line the first ends at the
-- second colon, since no number is written as a colon.
use Prim.Native.Nat.{ℕ, zero, suc, ◌+◌, ◌*◌, ◌-◌, ◌/◌, ◌%◌, ◌≤◌, ◌<◌}
use native.Mathlib.Omega.{arith}
use mathlib.Core.Path.{◌≡◌, refl, sym, ap, ◌∙◌}
use mathlib.Core.Bool.{Bool, true, false, cond, not, ◌&&◌}
use mathlib.Core.List.{List, [], ◌∷◌, ◌++◌, map, flat_map, foldl, foldl-append, append_assoc, nil≢cons, head-eq_of_cons-eq, tail-eq_of_cons-eq}
use lib.Dec.{leb, ltb, eqb}
use lib.ListN.{length, get_or, drop, length-append}
use borrow.Author.Tests.{leb-true, ltb-true, ltb-false, le-leb, lt-ltb}
use Rattle.laws.specs.Lists.{all, same}
use Rattle.laws.proofs.Tests.{never, and_left, and_right, and_intro, to_not_false, by_test}
use Rattle.laws.proofs.Lists.{same_eq}
use Rattle.laws.proofs.Reading.{all_append, all_weaken}
use Rattle.model.specs.Spaces.{Kind, static, attribute, property, mixed, wide, rescued}
use Rattle.model.specs.Lines.{Line, space, state, limit, membership, exclusion, nesting, total, ceiling, types}
use Rattle.model.specs.Text.{digits_within, decimal, kind_letter, colon, items, spaced, line_text, text}

-- ---- numbers

-- the number that digits stand for
number_of : List ℕ → ℕ
number_of digits = foldl (λ n digit. n * 10 + (digit - 48)) 0 digits

number_within : (room n : ℕ) → n < room → number_of (digits_within room n) ≡ n
unfolding number_of digits_within
number_within zero n h = absurd (omega arith)
number_within (suc room) n h =
    by_test (ltb n 10) (λ e. rw e (omega arith)) (λ e.
    let large : 10 ≤ n = ltb-false n 10 e in
    let front = number_within room (n / 10) (omega arith) in
    rw (e, foldl-append, front) (omega arith))

-- a number is read back
number_again : (n : ℕ) → number_of (decimal n) ≡ n
unfolding decimal
number_again n = number_within (suc n) n (omega arith)

numbers_again : (ns : List ℕ) → map number_of (map decimal ns) ≡ ns
numbers_again [] = refl
numbers_again (n ∷ ns) = λ i. number_again n i ∷ numbers_again ns i

-- a byte is a digit
digit : ℕ → Bool
digit b = leb 48 b && leb b 57

one_digit : (d : ℕ) → d < 10 → all digit ((48 + d) ∷ []) ≡ true
unfolding all digit
one_digit d h =
    and_intro (digit (48 + d)) true
    (and_intro (leb 48 (48 + d)) (leb (48 + d) 57) (le-leb 48 (48 + d) (omega arith)) (le-leb (48 + d) 57 (omega arith)))
    refl

digits_within_lem : (room n : ℕ) → all digit (digits_within room n) ≡ true
unfolding digits_within all
digits_within_lem zero n = refl
digits_within_lem (suc room) n =
    by_test (ltb n 10) (λ e. rw e (one_digit n (ltb-true n 10 e))) (λ e.
    rw e
    (all_append digit (digits_within room (n / 10)) ((48 + n % 10) ∷ []) (digits_within_lem room (n / 10)) (one_digit (n % 10) (omega arith))))

decimal_digits : (n : ℕ) → all digit (decimal n) ≡ true
unfolding decimal
decimal_digits n = digits_within_lem (suc n) n

-- no number is written as a colon
no_colon : (n : ℕ) → same (decimal n) colon ≡ false
unfolding all digit
no_colon n =
    by_test (same (decimal n) colon) (λ e. never (sym (decimal_digits n) ∙ ap (all digit) (same_eq (decimal n) colon e))) (λ e. e)

-- ---- runs of bytes apart

-- an item: every byte is above the blank
abbrev plain : List ℕ → Type 0
plain item = all (ltb 32) item ≡ true

decimal_plain : (n : ℕ) → plain (decimal n)
decimal_plain n = all_weaken digit (ltb 32) (decimal n) above (decimal_digits n)
  where
    above : (b : ℕ) → digit b ≡ true → ltb 32 b ≡ true
    above b e = lt-ltb 32 b (omega (arith, leb-true 48 b (and_left (leb 48 b) (leb b 57) (unfold digit in e))))

-- a run of bytes ends, or goes on with a byte that fails the test
stops : (ℕ → Bool) → List ℕ → Bool
stops test [] = true
stops test (b ∷ bs) = not (test b)

-- of two equal runs the parts up to the first byte that fails the test are equal, and so are the parts after it
apart : (test : ℕ → Bool) (xs ys xs' ys' : List ℕ) → all test xs ≡ true → all test ys ≡ true → stops test xs' ≡ true → stops test ys' ≡ true
    → xs ++ xs' ≡ ys ++ ys' → (xs ≡ ys) × (xs' ≡ ys')
unfolding all stops
apart test [] [] xs' ys' p q u v e = (refl, e)
apart test [] (y ∷ ys) xs' ys' p q u v e =
    never (sym u ∙ ap (stops test) e ∙ to_not_false (test y) (and_left (test y) (all test ys) q))
apart test (x ∷ xs) [] xs' ys' p q u v e =
    never (sym v ∙ ap (stops test) (sym e) ∙ to_not_false (test x) (and_left (test x) (all test xs) p))
apart test (x ∷ xs) (y ∷ ys) xs' ys' p q u v e =
    let later = apart test xs ys xs' ys' (and_right (test x) (all test xs) p) (and_right (test y) (all test ys) q) u v (tail-eq_of_cons-eq e) in
    (λ i. head-eq_of_cons-eq e i ∷ later.0 i, later.1)

-- Items that are plain, and the items of a line: its letter in front.
data Plain : List (List ℕ) → Type 0 where
  none : Plain []
  also : {item : List ℕ} {rest : List (List ℕ)} → plain item → Plain rest → Plain (item ∷ rest)

data Lettered : List (List ℕ) → Type 0 where
  lettered : {letter : ℕ} {rest : List (List ℕ)} → plain (letter ∷ []) → Plain rest → Lettered ((letter ∷ []) ∷ rest)

-- items after the first, each after a blank
abbrev blanked : List (List ℕ) → List ℕ
blanked rest = flat_map (λ item. 32 ∷ item) rest

blanks_stop : (rest : List (List ℕ)) → stops (ltb 32) (blanked rest) ≡ true
unfolding flat_map stops
blanks_stop [] = refl
blanks_stop (item ∷ rest) = refl

-- blanks tell items apart
blanked_apart : {xs ys : List (List ℕ)} → Plain xs → Plain ys → blanked xs ≡ blanked ys → xs ≡ ys
unfolding flat_map
blanked_apart none none e = refl
blanked_apart none (also q qs) e = absurd (nil≢cons e)
blanked_apart (also p ps) none e = absurd (nil≢cons (sym e))
blanked_apart (also {item = x} {rest = xs} p ps) (also {item = y} {rest = ys} q qs) e =
    let parts = apart (ltb 32) x y (blanked xs) (blanked ys) p q (blanks_stop xs) (blanks_stop ys) (tail-eq_of_cons-eq e) in
    λ i. parts.0 i ∷ blanked_apart ps qs parts.1 i

spaced_apart : {xs ys : List (List ℕ)} → Lettered xs → Lettered ys → spaced xs ≡ spaced ys → xs ≡ ys
unfolding spaced
spaced_apart (lettered {letter = l} {rest = xs} p ps) (lettered {letter = m} {rest = ys} q qs) e =
    let parts = apart (ltb 32) (l ∷ []) (m ∷ []) (blanked xs) (blanked ys) p q (blanks_stop xs) (blanks_stop ys) e in
    λ i. parts.0 i ∷ blanked_apart ps qs parts.1 i

-- every byte of a line is above byte 10
plain_above : (item : List ℕ) → plain item → all (ltb 10) item ≡ true
plain_above item p = all_weaken (ltb 32) (ltb 10) item (λ b e. lt-ltb 10 b (omega (arith, ltb-true 32 b e))) p

blanked_above : {rest : List (List ℕ)} → Plain rest → all (ltb 10) (blanked rest) ≡ true
unfolding flat_map all
blanked_above none = refl
blanked_above (also {item = item} {rest = rest} p ps) = all_append (ltb 10) (32 ∷ item) (blanked rest) (plain_above item p) (blanked_above ps)

spaced_above : {xs : List (List ℕ)} → Lettered xs → all (ltb 10) (spaced xs) ≡ true
unfolding spaced
spaced_above (lettered {letter = l} {rest = rest} p ps) =
    all_append (ltb 10) (l ∷ []) (blanked rest) (plain_above (l ∷ []) p) (blanked_above ps)

-- ---- lines

numbers_plain : (ns : List ℕ) {rest : List (List ℕ)} → Plain rest → Plain (map decimal ns ++ rest)
numbers_plain [] p = p
numbers_plain (n ∷ ns) p = also (decimal_plain n) (numbers_plain ns p)

last_plain : (ns : List ℕ) → Plain (map decimal ns)
last_plain [] = none
last_plain (n ∷ ns) = also (decimal_plain n) (last_plain ns)

kind_plain : (k : Kind) → plain (kind_letter k ∷ [])
unfolding all kind_letter
kind_plain static = refl
kind_plain attribute = refl
kind_plain property = refl
kind_plain mixed = refl
kind_plain wide = refl
kind_plain rescued = refl

colon_plain : plain colon
unfolding all
colon_plain = refl

items_lettered : (l : Line) → Lettered (items l)
unfolding items all
items_lettered (space n kind properties members) =
    lettered refl
    (also (decimal_plain n)
    (also (kind_plain kind) (also colon_plain (numbers_plain properties (also colon_plain (last_plain members))))))
items_lettered (state counts) = lettered refl (also colon_plain (last_plain counts))
items_lettered (limit c most) = lettered refl (also (decimal_plain c) (also (decimal_plain most) none))
items_lettered (membership i) = lettered refl (also (decimal_plain i) none)
items_lettered (exclusion i j) = lettered refl (also (decimal_plain i) (also (decimal_plain j) none))
items_lettered (nesting i j) = lettered refl (also (decimal_plain i) (also (decimal_plain j) none))
items_lettered (total p n) = lettered refl (also (decimal_plain p) (also (decimal_plain n) none))
items_lettered (ceiling p n) = lettered refl (also (decimal_plain p) (also (decimal_plain n) none))
items_lettered (types n k objects) =
    lettered refl (also (decimal_plain n) (also (decimal_plain k) (also colon_plain (last_plain objects))))

-- the kind of a letter
kind_from : ℕ → Kind
kind_from letter =
    cond (eqb letter 83) static (cond (eqb letter 65) attribute (cond (eqb letter 80) property
    (cond (eqb letter 77) mixed (cond (eqb letter 87) wide rescued))))

kind_again : (k : Kind) → kind_from (kind_letter k) ≡ k
unfolding kind_from kind_letter
kind_again static = refl
kind_again attribute = refl
kind_again property = refl
kind_again mixed = refl
kind_again wide = refl
kind_again rescued = refl

-- the items in front of a colon, and those behind it
before_colon : List (List ℕ) → List (List ℕ)
before_colon [] = []
before_colon (item ∷ rest) = let before = before_colon rest in cond (same item colon) [] (item ∷ before)

after_colon : List (List ℕ) → List (List ℕ)
after_colon [] = []
after_colon (item ∷ rest) = let after = after_colon rest in cond (same item colon) rest after

before_again : (ns : List ℕ) (rest : List (List ℕ)) → before_colon (map decimal ns ++ (colon ∷ rest)) ≡ map decimal ns
unfolding before_colon same
before_again [] rest = refl
before_again (n ∷ ns) rest = rw (no_colon n) (ap (λ (l : List (List ℕ)). decimal n ∷ l) (before_again ns rest))

after_again : (ns : List ℕ) (rest : List (List ℕ)) → after_colon (map decimal ns ++ (colon ∷ rest)) ≡ rest
unfolding after_colon same
after_again [] rest = refl
after_again (n ∷ ns) rest = rw (no_colon n) (after_again ns rest)

-- the line that items stand for, by its letter
number_at : ℕ → List (List ℕ) → ℕ
number_at place xs = number_of (get_or xs place [])

line_by : ℕ → List (List ℕ) → Line
line_by letter xs =
    cond (eqb letter 83)
    (space (number_at 1 xs) (kind_from (get_or (get_or xs 2 []) 0 0)) (map number_of (before_colon (drop 4 xs))) (map number_of (after_colon (drop 4 xs))))
    (cond (eqb letter 84) (state (map number_of (drop 2 xs)))
    (cond (eqb letter 77) (limit (number_at 1 xs) (number_at 2 xs))
    (cond (eqb letter 68) (membership (number_at 1 xs))
    (cond (eqb letter 88) (exclusion (number_at 1 xs) (number_at 2 xs))
    (cond (eqb letter 69) (nesting (number_at 1 xs) (number_at 2 xs))
    (cond (eqb letter 70) (total (number_at 1 xs) (number_at 2 xs))
    (cond (eqb letter 67) (ceiling (number_at 1 xs) (number_at 2 xs))
    (types (number_at 1 xs) (number_at 2 xs) (map number_of (drop 4 xs))))))))))

line_of : List (List ℕ) → Line
line_of xs = line_by (get_or (get_or xs 0 []) 0 0) xs

-- a line is read back from its items
line_again : (l : Line) → line_of (items l) ≡ l
unfolding line_of line_by number_at items
line_again (space n kind properties members) =
    λ i. space (number_again n i) (kind_again kind i)
    ((ap (map number_of) (before_again properties (map decimal members)) ∙ numbers_again properties) i)
    ((ap (map number_of) (after_again properties (map decimal members)) ∙ numbers_again members) i)
line_again (state counts) = ap state (numbers_again counts)
line_again (limit c most) = λ i. limit (number_again c i) (number_again most i)
line_again (membership index) = ap membership (number_again index)
line_again (exclusion one other) = λ i. exclusion (number_again one i) (number_again other i)
line_again (nesting one other) = λ i. nesting (number_again one i) (number_again other i)
line_again (total p n) = λ i. total (number_again p i) (number_again n i)
line_again (ceiling p n) = λ i. ceiling (number_again p i) (number_again n i)
line_again (types n k objects) = λ i. types (number_again n i) (number_again k i) (numbers_again objects i)

-- the text of one line determines it
line_determined : (l m : Line) → spaced (items l) ≡ spaced (items m) → l ≡ m
line_determined l m e = sym (line_again l) ∙ ap line_of (spaced_apart (items_lettered l) (items_lettered m) e) ∙ line_again m

-- a text is its first line, byte 10, and the text of the other lines
text_parts : (l : Line) (ls : List Line) → text (l ∷ ls) ≡ spaced (items l) ++ (10 ∷ text ls)
unfolding text line_text flat_map
text_parts l ls = append_assoc (spaced (items l)) (10 ∷ []) (text ls)

some_text : (l : Line) (ls : List Line) → [] ≡ text (l ∷ ls) → ⊥
some_text l ls e = omega (arith, ap length (e ∙ text_parts l ls), length-append (spaced (items l)) (10 ∷ text ls))

-- the text of lines determines the lines
pub text_determines : (xs ys : List Line) → text xs ≡ text ys → xs ≡ ys
unfolding stops
text_determines [] [] e = refl
text_determines [] (y ∷ ys) e = absurd (some_text y ys (unfold text flat_map in e))
text_determines (x ∷ xs) [] e = absurd (some_text x xs (unfold text flat_map in sym e))
text_determines (x ∷ xs) (y ∷ ys) e =
    let parts =
    apart (ltb 10) (spaced (items x)) (spaced (items y)) (10 ∷ text xs) (10 ∷ text ys) (spaced_above (items_lettered x))
    (spaced_above (items_lettered y)) refl refl (sym (text_parts x xs) ∙ e ∙ text_parts y ys) in
    λ i. line_determined x y parts.0 i ∷ text_determines xs ys (tail-eq_of_cons-eq parts.1) i
