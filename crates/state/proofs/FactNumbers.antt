-- Facts and their numbers: the order and equality of facts, states and their changes, and what stands in a buffer.
use Prim.Native.Nat.{ℕ, zero, suc, ◌-◌, ◌*◌, ◌≤◌, ◌<◌, zero-le}
use native.Mathlib.Omega.{arith}
use mathlib.Core.Path.{◌≡◌, refl, sym, ap, ◌∙◌}
use mathlib.Core.Bool.{Bool, true, false, cond, not, ◌&&◌, ◌||◌}
use mathlib.Core.Logic.{⊎_elim}
use mathlib.Core.Option.{none, some}
use mathlib.Core.List.{List, [], ◌∷◌, ◌++◌, map, flat_map, foldl}
use lib.Dec.{ltb, leb, eqb, lit<}
use lib.ListN.{length, get_or, take, drop, replicate, length-map, length-drop}
use borrow.Author.Tests.{eq-eqb, eqb-true, ltb-true, le-leb}
use Rattle.laws.specs.Lists.{any, all, keep, member}
use Rattle.laws.proofs.Tests.{and_left, and_right, and_intro, same_test, cond_true, cond_false}
use Rattle.laws.proofs.Lists.{all_at, all_intro, keep_at}
use Rattle.model.specs.Card.{Atom, below, same_atom, has, above}
use Rattle.model.specs.Writer.{known}
use Rattle.model.specs.Strips.{State, filler, fact_bytes, fact_at, facts_in, row_right, rows_right, ascending, put, written}
use Rattle.model.proofs.Order.{bytes_order, known_predicate, known_arity, known_arguments, same_atom_eq, eq_same_atom, ascending_head, ascending_tail}
use Rattle.model.proofs.Checked.{arity_within}
use Rattle.model.proofs.Buffer.{fact_at_fact_bytes}
use Rattle.model.proofs.States.{put_at}
use Rattle.sets.specs.Numbers.{rising, without, inserted, without_all, inserted_all}
use Rattle.state.specs.Rows.{row_number, row_bytes, fact_number, numbers_in, stored, Shape}
use Rattle.state.proofs.RowBytes.{Four, four_at, number_bytes, number_order, number_same}
use Rattle.state.proofs.RightRows.{eqb_swap, right_row_fact}

module _ {A : Type 0} where
  -- nothing taken out
  keep_all : (xs : List A) → keep (λ x. true) xs ≡ xs
  unfolding keep
  keep_all [] = refl
  keep_all (x ∷ xs) = ap (λ (l : List A). x ∷ l) (keep_all xs)

  -- what passes neither of two tests, taken out one after the other
  keep_twice : (a b : A → Bool) (xs : List A) → keep (λ x. not (a x || b x)) xs ≡ keep (λ x. not (b x)) (keep (λ x. not (a x)) xs)
  unfolding keep
  keep_twice a b [] = refl
  keep_twice a b (x ∷ xs) = go (a x) (b x) refl (keep_twice a b xs)
    where
      go : (p q : Bool) → b x ≡ q → keep (λ x. not (a x || b x)) xs ≡ keep (λ x. not (b x)) (keep (λ x. not (a x)) xs)
          → cond (not (p || q)) (x ∷ keep (λ x. not (a x || b x)) xs) (keep (λ x. not (a x || b x)) xs)
          ≡ keep (λ x. not (b x)) (cond (not p) (x ∷ keep (λ x. not (a x)) xs) (keep (λ x. not (a x)) xs))
      go true q e later = later
      go false true e later = later ∙ sym (cond_false (not (b x)) _ _ (ap not e))
      go false false e later = ap (λ (l : List A). x ∷ l) later ∙ sym (cond_true (not (b x)) _ _ (ap not e))

-- every fact is known
abbrev pub all_known : List ℕ → ℕ → List Atom → Type 0
all_known arities objects facts = all (known arities objects) facts ≡ true

module _ {arities : List ℕ} {objects : ℕ} (shape : Shape arities objects) where
  -- a known fact has four bytes
  pub fact_four : (f : Atom) → known arities objects f ≡ true → Four (fact_bytes f)
  unfolding fact_bytes all
  fact_four f k =
      let p = ltb-true f.predicate (length arities) (known_predicate arities objects f k) in
      let within = arity_within arities f.predicate shape.right p in
      let n = known_arity arities objects f k in
      go f.arguments (known_arguments arities objects f k) (omega arith) (omega arith)
      (let few = shape.few_predicates in omega arith)
    where
      small : (x : ℕ) → ltb x objects ≡ true → x < 256
      small x e = let h = ltb-true x objects e in let few = shape.few_objects in omega arith

      go : (xs : List ℕ) → all (λ x. ltb x objects) xs ≡ true → 1 ≤ length xs → length xs ≤ 3 → f.predicate < 256
          → Four (f.predicate ∷ xs ++ replicate (3 - length xs) filler)
      go [] e low high p = absurd (omega arith)
      go (x ∷ []) e low high p =
          let first = small x (and_left (ltb x objects) true e) in
          record { first = f.predicate; second = x; third = 255; fourth = 255; are = refl; small = (p, first, lit< tt, lit< tt) }
      go (x ∷ y ∷ []) e low high p =
          let first = small x (and_left (ltb x objects) (ltb y objects && true) e) in
          let second = small y (and_left (ltb y objects) true (and_right (ltb x objects) (ltb y objects && true) e)) in
          record { first = f.predicate; second = x; third = y; fourth = 255; are = refl; small = (p, first, second, lit< tt) }
      go (x ∷ y ∷ z ∷ []) e low high p =
          let first = small x (and_left (ltb x objects) (ltb y objects && (ltb z objects && true)) e) in
          let rest = and_right (ltb x objects) (ltb y objects && (ltb z objects && true)) e in
          let second = small y (and_left (ltb y objects) (ltb z objects && true) rest) in
          let third = small z (and_left (ltb z objects) true (and_right (ltb y objects) (ltb z objects && true) rest)) in
          record { first = f.predicate; second = x; third = y; fourth = z; are = refl; small = (p, first, second, third) }
      go (x ∷ y ∷ z ∷ w ∷ ws) e low high p = absurd (omega arith)

  -- the order of facts is that of their numbers
  pub number_below : (f g : Atom) → known arities objects f ≡ true → known arities objects g ≡ true → ltb (fact_number f) (fact_number g) ≡ below f g
  unfolding fact_number
  number_below f g p q = number_order (fact_bytes f) (fact_bytes g) (fact_four f p) (fact_four g q) ∙ bytes_order arities objects f g p q

  -- facts with one number are one
  pub number_equal : (f g : Atom) → known arities objects f ≡ true → known arities objects g ≡ true → eqb (fact_number f) (fact_number g) ≡ same_atom f g
  unfolding fact_number
  number_equal f g p q =
      same_test (eqb (fact_number f) (fact_number g)) (same_atom f g)
      (λ e. eq_same_atom f g
      (sym (fact_at_fact_bytes arities f (known_arity arities objects f p))
      ∙ ap (fact_at arities) (number_same (fact_bytes f) (fact_bytes g) (fact_four f p) (fact_four g q) (eqb-true (fact_number f) (fact_number g) e))
      ∙ fact_at_fact_bytes arities g (known_arity arities objects g q)))
      (λ e. eq-eqb (fact_number f) (fact_number g) (ap fact_number (same_atom_eq f g e)))

  head_known : (f : Atom) (s : List Atom) → all_known arities objects (f ∷ s) → known arities objects f ≡ true
  unfolding all
  head_known f s k = and_left (known arities objects f) (all (known arities objects) s) k

  tail_known : (f : Atom) (s : List Atom) → all_known arities objects (f ∷ s) → all_known arities objects s
  unfolding all
  tail_known f s k = and_right (known arities objects f) (all (known arities objects) s) k

  -- a fact is in a state if its number is among the state's
  pub member_has : (f : Atom) (s : State) → known arities objects f ≡ true → all_known arities objects s → member (fact_number f) (map fact_number s) ≡ has s f
  unfolding member any has
  member_has f [] p k = refl
  member_has f (g ∷ s) p k =
      ap (λ (b : Bool). b || member (fact_number f) (map fact_number s)) (number_equal f g p (head_known g s k))
      ∙ ap (λ (b : Bool). same_atom f g || b) (member_has f s p (tail_known g s k))

  -- putting a fact in
  pub numbers_put : (f : Atom) (s : State) → known arities objects f ≡ true → all_known arities objects s
      → map fact_number (put f s) ≡ inserted (fact_number f) (map fact_number s)
  unfolding put inserted
  numbers_put f [] p k = refl
  numbers_put f (g ∷ s) p k =
      go (same_atom f g) (below f g) (numbers_put f s p (tail_known g s k))
      ∙ ap (λ (b : Bool). cond b (n ∷ ns) (cond (below f g) (fact_number f ∷ n ∷ ns) (n ∷ inserted (fact_number f) ns)))
      (sym (number_equal f g p (head_known g s k)))
      ∙ ap (λ (b : Bool). cond (eqb (fact_number f) n) (n ∷ ns) (cond b (fact_number f ∷ n ∷ ns) (n ∷ inserted (fact_number f) ns)))
      (sym (number_below f g p (head_known g s k)))
    where
      n : ℕ
      n = fact_number g

      ns : List ℕ
      ns = map fact_number s

      go : (same less : Bool) → map fact_number (put f s) ≡ inserted (fact_number f) ns
          → map fact_number (cond same (g ∷ s) (cond less (f ∷ g ∷ s) (g ∷ put f s)))
          ≡ cond same (n ∷ ns) (cond less (fact_number f ∷ n ∷ ns) (n ∷ inserted (fact_number f) ns))
      go true less later = refl
      go false true later = refl
      go false false later = ap (λ (l : List ℕ). n ∷ l) later

  pub put_known : (f : Atom) (s : State) → known arities objects f ≡ true → all_known arities objects s → all_known arities objects (put f s)
  put_known f s p k =
      all_intro (known arities objects) (put f s)
      (λ g m. ⊎_elim (λ e. ap (known arities objects) e ∙ p) (λ j. all_at (known arities objects) s k g j) (put_at f s g m))

  pub numbers_puts : (fs : List Atom) (s : State) → all_known arities objects fs → all_known arities objects s
      → map fact_number (foldl (λ r f. put f r) s fs) ≡ inserted_all (map fact_number fs) (map fact_number s)
  unfolding inserted_all
  numbers_puts [] s j k = refl
  numbers_puts (f ∷ fs) s j k =
      let p = head_known f fs j in
      numbers_puts fs (put f s) (tail_known f fs j) (put_known f s p k)
      ∙ ap (λ (l : List ℕ). inserted_all (map fact_number fs) l) (numbers_put f s p k)

  -- taking facts out
  numbers_without : (d : Atom) (s : State) → known arities objects d ≡ true → all_known arities objects s
      → map fact_number (keep (λ f. not (same_atom f d)) s) ≡ without (fact_number d) (map fact_number s)
  unfolding keep without
  numbers_without d [] p k = refl
  numbers_without d (g ∷ s) p k =
      go (same_atom g d) (numbers_without d s p (tail_known g s k))
      ∙ ap (λ (b : Bool). cond (not b) (fact_number g ∷ without (fact_number d) (map fact_number s)) (without (fact_number d) (map fact_number s)))
      (sym (eqb_swap (fact_number d) (fact_number g) ∙ number_equal g d (head_known g s k) p))
    where
      go : (b : Bool) → map fact_number (keep (λ f. not (same_atom f d)) s) ≡ without (fact_number d) (map fact_number s)
          → map fact_number (cond (not b) (g ∷ keep (λ f. not (same_atom f d)) s) (keep (λ f. not (same_atom f d)) s))
          ≡ cond (not b) (fact_number g ∷ without (fact_number d) (map fact_number s)) (without (fact_number d) (map fact_number s))
      go true later = later
      go false later = ap (λ (l : List ℕ). fact_number g ∷ l) later

  pub keep_known : (test : Atom → Bool) (s : State) → all_known arities objects s → all_known arities objects (keep test s)
  keep_known test s k =
      all_intro (known arities objects) (keep test s) (λ g m. all_at (known arities objects) s k g (keep_at test s g m).0)

  pub numbers_removed : (ds : List Atom) (s : State) → all_known arities objects ds → all_known arities objects s
      → map fact_number (keep (λ f. not (has ds f)) s) ≡ without_all (map fact_number ds) (map fact_number s)
  unfolding without_all has any
  numbers_removed [] s j k = ap (map fact_number) (keep_all s)
  numbers_removed (d ∷ ds) s j k =
      let p = head_known d ds j in
      ap (map fact_number) (keep_twice (λ f. same_atom f d) (has ds) s)
      ∙ numbers_removed ds (keep (λ f. not (same_atom f d)) s) (tail_known d ds j) (keep_known (λ f. not (same_atom f d)) s k)
      ∙ ap (λ (l : List ℕ). without_all (map fact_number ds) l) (numbers_without d s p k)

  -- the four bytes of its number are a fact's
  pub fact_bytes_lem : (f : Atom) → known arities objects f ≡ true → row_bytes (fact_number f) ≡ fact_bytes f
  unfolding fact_number
  fact_bytes_lem f k = number_bytes (fact_bytes f) (fact_four f k)

  pub facts_bytes : (s : State) → all_known arities objects s → flat_map row_bytes (map fact_number s) ≡ flat_map fact_bytes s
  unfolding flat_map
  facts_bytes [] k = refl
  facts_bytes (f ∷ s) k =
      ap (λ (l : List ℕ). l ++ flat_map row_bytes (map fact_number s)) (fact_bytes_lem f (head_known f s k))
      ∙ ap (λ (l : List ℕ). fact_bytes f ++ l) (facts_bytes s (tail_known f s k))

  -- a state's numbers stored are the state written
  pub stored_written : (s : State) (buffer : List ℕ) → all_known arities objects s → stored (map fact_number s) buffer ≡ written s buffer
  unfolding stored written
  stored_written s buffer k =
      ap (λ (l : List ℕ). l ++ replicate (4096 - 4 * length (map fact_number s)) 0 ++ drop 4096 buffer) (facts_bytes s k)
      ∙ ap (λ (n : ℕ). flat_map fact_bytes s ++ replicate (4096 - 4 * n) 0 ++ drop 4096 buffer) (length-map s fact_number)

  -- the numbers of an ascending state ascend
  rising_after : (f : Atom) (s : State) → known arities objects f ≡ true → all_known arities objects s → ascending (some f) s ≡ true
      → rising (suc (fact_number f)) (map fact_number s) ≡ true
  unfolding rising above
  rising_after f [] p k e = refl
  rising_after f (g ∷ s) p k e =
      let q = head_known g s k in
      and_intro (leb (suc (fact_number f)) (fact_number g)) (rising (suc (fact_number g)) (map fact_number s))
      (le-leb _ _ (ltb-true (fact_number f) (fact_number g) (number_below f g p q ∙ ascending_head (some f) g s e)))
      (rising_after g s q (tail_known g s k) (ascending_tail (some f) g s e))

  pub rising_state : (s : State) → all_known arities objects s → ascending none s ≡ true → rising 0 (map fact_number s) ≡ true
  unfolding rising
  rising_state [] k e = refl
  rising_state (f ∷ s) k e =
      and_intro (leb 0 (fact_number f)) (rising (suc (fact_number f)) (map fact_number s)) (le-leb 0 (fact_number f) zero-le)
      (rising_after f s (head_known f s k) (tail_known f s k) (ascending_tail none f s e))

  -- right rows hold the numbers of the facts they stand for
  pub numbers_of_rows : (n : ℕ) (buffer : List ℕ) → rows_right arities objects n buffer ≡ true → 4 * n ≤ length buffer
      → numbers_in n buffer ≡ map fact_number (facts_in arities n buffer)
  unfolding numbers_in facts_in rows_right fact_number
  numbers_of_rows zero buffer e room = refl
  numbers_of_rows (suc n) buffer e room =
      let right = and_left (row_right arities objects (take 4 buffer)) _ e in
      let rest = and_right (row_right arities objects (take 4 buffer)) _ e in
      let bytes : take 4 buffer ≡ get_or buffer 0 0 ∷ get_or buffer 1 0 ∷ get_or buffer 2 0 ∷ get_or buffer 3 0 ∷ [] = four_at 0 buffer (omega arith) in
      let fact : fact_bytes (fact_at arities (take 4 buffer)) ≡ take 4 buffer =
      (ap (λ (r : List ℕ). fact_bytes (fact_at arities r)) bytes
      ∙ right_row_fact arities objects _ _ _ _ shape.right (sym (ap (row_right arities objects) bytes) ∙ right)
      ∙ sym bytes) in
      ap (λ (m : ℕ). m ∷ numbers_in n (drop 4 buffer)) (ap row_number (sym fact))
      ∙ ap (λ (l : List ℕ). fact_number (fact_at arities (take 4 buffer)) ∷ l)
      (numbers_of_rows n (drop 4 buffer) rest (let l = length-drop 4 buffer in omega arith))
