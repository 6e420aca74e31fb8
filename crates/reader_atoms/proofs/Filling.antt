-- A loop that reads items into an array: what stands in the array so far, put before what is still to be read, is the whole answer.
use Prim.Native.Nat.{ℕ, suc, ◌+◌, ◌-◌, ◌≤◌, ◌<◌}
use native.Mathlib.Omega.{arith}
use native.Mathlib.Numerals.{add-one}
use mathlib.Core.List.{List, [], ◌∷◌, ◌++◌, map, append_assoc, append-nil, map-append}
use mathlib.Core.Option.{Option, none, some}
use mathlib.Core.Path.{◌≡◌, refl, ap, ap₂, ◌∙◌, sym, subst}
use lib.ListN.{length, take, drop, set, replicate, length-set, length-replicate, take-append-drop}
use lib.Seq.{length-take-le, take-suc-set, drop-set-lt, drop-drop}
use Rattle.laws.specs.Lists.{padded}
use Rattle.model.specs.Answer.{Answer, refused, accepted, ◌>>=◌}
use Rattle.model.specs.Card.{Reader, many}
use Rattle.card.specs.Represents.{entries}
use Rattle.card.proofs.Entries.{entries_within, length_table}
use Rattle.reader_bytes.proofs.Answers.{goes}
use Rattle.reader_atoms.proofs.Many.{many_stops}

module _ {A : Type 0} where
  -- the last item of a list, or the one before it
  unfoldable pub last_of : Option A → List A → Option A
  last_of previous [] = previous
  last_of previous (x ∷ xs) = last_of (some x) xs

  pub last_of_snoc : (previous : Option A) (xs : List A) (x : A) → last_of previous (xs ++ x ∷ []) ≡ some x
  unfolding last_of
  last_of_snoc previous [] x = refl
  last_of_snoc previous (y ∷ xs) x = last_of_snoc (some y) xs x

  -- items read before, and an answer to the rest
  unfoldable pub prepend : List A → Answer (List A × List ℕ) → Answer (List A × List ℕ)
  prepend xs (refused n) = refused n
  prepend xs (accepted (ys, s)) = accepted (xs ++ ys, s)

  prepend_none : (r : Answer (List A × List ℕ)) → prepend [] r ≡ r
  unfolding prepend
  prepend_none (refused n) = refl
  prepend_none (accepted (ys, s)) = refl

  -- one more item stands before the rest
  prepend_next : (xs : List A) (x : A) (r : Answer (List A × List ℕ))
      → prepend xs (r >>= λ (ys, s). accepted (x ∷ ys, s)) ≡ prepend (xs ++ x ∷ []) r
  unfolding prepend ◌>>=◌
  prepend_next xs x (refused n) = refl
  prepend_next xs x (accepted (ys, s)) = ap (λ zs. accepted (zs, s)) (sym (append_assoc xs (x ∷ []) ys))

module _ {A B : Type 0} (value : B → A) (keep : A → B) (blank : B) (size : ℕ) (read : Option A → Reader A) (n : ℕ) (start : List ℕ) where
  -- i of n items are read: the array holds them, as they are kept, and blanks; the rest of the bytes is s
  pub record Filling (array : List B) (i : ℕ) (s : List ℕ) : Type 0 where
    pub far : i ≤ n
    pub room : n ≤ size
    pub long : length array ≡ size
    pub left :
        prepend (map value (take i array)) (many read (last_of none (map value (take i array))) (n - i) s) ≡ many read none n start
    pub exact : map keep (map value (take i array)) ≡ take i array
    pub blanks : drop i array ≡ replicate (size - i) blank

  -- nothing is read yet
  pub filling_starts : n ≤ size → Filling (replicate size blank) 0 start
  unfolding last_of
  filling_starts h =
      let all_left : n - 0 ≡ n = omega arith in
      let none_full : size - 0 ≡ size = omega arith in
      record {
        far = omega arith;
        room = h;
        long = length-replicate size blank;
        left = prepend_none _ ∙ ap (λ m. many read none m start) all_left;
        exact = refl;
        blanks = ap (λ m. replicate m blank) (sym none_full);
      }

module _ {A B : Type 0} {value : B → A} {keep : A → B} {blank : B} {size : ℕ} {read : Option A → Reader A} {n : ℕ} {start : List ℕ}
    {array : List B} {i : ℕ} {s : List ℕ} (f : Filling value keep blank size read n start array i s) where
  -- an item is refused: so is the whole
  pub filling_stops : {k : ℕ} → i < n → read (last_of none (map value (take i array))) s ≡ refused k → many read none n start ≡ refused k
  unfolding prepend
  filling_stops more e =
      let one : n - i ≡ suc (n - suc i) = omega arith in
      sym f.left ∙ ap (λ m. prepend (map value (take i array)) (many read (last_of none (map value (take i array))) m s)) one
      ∙ ap (prepend (map value (take i array))) (many_stops _ _ _ _ e)

  -- the item that is stored is then the last
  pub filling_last : (b : B) → i < n → last_of none (map value (take (i + 1) (set array i b))) ≡ some (value b)
  filling_last b more =
      let there : i < length array = omega (arith, f.long, f.room) in
      let taken : take (i + 1) (set array i b) ≡ take i array ++ b ∷ [] = rw (add-one i) (take-suc-set array i b there) in
      ap (λ xs. last_of none (map value xs)) taken
      ∙ ap (last_of none) (map-append value (take i array) (b ∷ []))
      ∙ last_of_snoc none (map value (take i array)) (value b)

  -- an item is read and stored
  pub filling_goes_on : {b : B} {s₁ : List ℕ} → i < n → read (last_of none (map value (take i array))) s ≡ accepted (value b, s₁)
      → b ≡ keep (value b) → Filling value keep blank size read n start (set array i b) (i + 1) s₁
  unfolding many
  filling_goes_on {b} {s₁} more e k =
      let there : i < length array = omega (arith, f.long, f.room) in
      let taken : take (i + 1) (set array i b) ≡ take i array ++ b ∷ [] = rw (add-one i) (take-suc-set array i b there) in
      let valued : map value (take (i + 1) (set array i b)) ≡ map value (take i array) ++ value b ∷ [] =
      ap (map value) taken ∙ map-append value (take i array) (b ∷ []) in
      let one : n - i ≡ suc (n - (i + 1)) = omega arith in
      let gap : size - i ≡ suc (size - (i + 1)) = omega (arith, f.room) in
      let rest : ℕ → Answer (List A × List ℕ) = λ m. prepend (map value (take i array)) (many read (last_of none (map value (take i array))) m s) in
      let next : List A → Answer (List A × List ℕ) = λ ys. prepend ys (many read (last_of none ys) (n - (i + 1)) s₁) in
      record {
        far = omega arith;
        room = f.room;
        long = length-set array i b ∙ f.long;
        left =
            ap next valued
            ∙ ap (λ p. prepend (map value (take i array) ++ value b ∷ []) (many read p (n - (i + 1)) s₁))
            (last_of_snoc none (map value (take i array)) (value b))
            ∙ sym (prepend_next (map value (take i array)) (value b) (many read (some (value b)) (n - (i + 1)) s₁))
            ∙ ap (prepend (map value (take i array))) (sym (goes _ e))
            ∙ ap rest (sym one)
            ∙ f.left;
        exact =
            ap (map keep) valued
            ∙ map-append keep (map value (take i array)) (value b ∷ [])
            ∙ ap₂ (λ xs x. xs ++ x ∷ []) f.exact (sym k)
            ∙ sym taken;
        blanks =
            drop-set-lt (i + 1) array i b (omega arith)
            ∙ sym (drop-drop 1 i array)
            ∙ ap (drop 1) (f.blanks ∙ ap (λ m. replicate m blank) gap);
      }

  module _ (done : n ≤ i) where
    -- the first n places of the array are its n entries
    items : take n array ≡ entries n blank array
    items = sym (entries_within n blank array (omega (arith, f.long, f.room)))

    -- all is read
    pub filling_ends : many read none n start ≡ accepted (map value (entries n blank array), s)
    unfolding many prepend
    filling_ends =
        let all : i ≡ n = omega (arith, f.far) in
        let none_left : n - i ≡ 0 = omega arith in
        sym f.left
        ∙ ap (λ m. prepend (map value (take i array)) (many read (last_of none (map value (take i array))) m s)) none_left
        ∙ ap (λ xs. accepted (xs, s)) (append-nil (map value (take i array)) ∙ ap (λ m. map value (take m array)) all ∙ ap (map value) items)

    -- there are as many items as were asked for
    pub filled_count : n ≡ length (map value (entries n blank array))
    filled_count = sym (length_table value n blank array)

    -- the array holds them, and blanks after them
    pub filled : array ≡ padded size blank (map keep (map value (entries n blank array)))
    unfolding padded
    filled =
        let all : i ≡ n = omega (arith, f.far) in
        let exact : map keep (map value (take n array)) ≡ take n array =
        subst (λ m. map keep (map value (take m array)) ≡ take m array) all f.exact in
        let blanks : drop n array ≡ replicate (size - n) blank = subst (λ m. drop m array ≡ replicate (size - m) blank) all f.blanks in
        let counted : length (map keep (map value (take n array))) ≡ n = ap length exact ∙ length-take-le n array (omega (arith, f.long, f.room)) in
        sym (take-append-drop n array)
        ∙ ap₂ ◌++◌ (sym exact) (blanks ∙ ap (λ m. replicate (size - m) blank) (sym counted))
        ∙ ap (λ xs. padded size blank (map keep (map value xs))) items
