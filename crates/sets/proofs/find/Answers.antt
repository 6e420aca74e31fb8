-- What the library's search says, of numbers that ascend.
use Rattle.std.proofs.Common.{◌≡◌, ℕ, ◌≤◌, ◌<◌, Bool, true, cond, List, length, get_or, sym, ap₂, arith, Result, Ok, Err}
use Rattle.std.specs.Result.{MatchResult}
use Rattle.std.proofs.lemmas.List.Sorted.{searched}
use native.Mathlib.Nat.{le_refl}
use Rattle.sets.specs.Numbers.{rising, place, found}
use Rattle.sets.proofs.Ascending.{rising_no_less, place_is, place_there, member_there, member_missing}
use Rattle.sets.proofs.find.Goals as goal

-- what is found, by whether the number is on the list
told : (n : ℕ) (ns : List ℕ) → rising 0 ns ≡ true → (r : Result ℕ ℕ)
    → MatchResult r (λ i. (i < length ns) × (get_or ns i 0 ≡ n))
    (λ i. (i ≤ length ns) × ((k : ℕ) → k < i → get_or ns k 0 < n) × ((k : ℕ) → i ≤ k → k < length ns → n < get_or ns k 0))
    → r ≡ found n ns
unfolding found
told n ns e (Ok i) h =
    ap₂ (λ (b : Bool) (k : ℕ). cond b (Ok k) (Err (place n ns))) (sym (member_there n ns e i h.0 h.1)) (place_there n ns e i h.0 h.1)
told n ns e (Err i) h =
    let here = place_is n ns e i h.0 h.1 (λ k above within. let more = h.2 k above within in omega arith) in
    ap₂ (λ (b : Bool) (k : ℕ). cond b (Ok (place n ns)) (Err k)) (sym (member_missing n ns e i here (h.2 i (le_refl i)))) here

pub returns : goal.returns
returns c =
    told c.args.n c.args.numbers.now c.requires c.binary_search.result
    (searched _ _ _ c.binary_search.ensures.position (rising_no_less c.args.numbers.now c.requires))
