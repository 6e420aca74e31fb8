-- Where the properties of each predicate begin, as a loop over the arities finds it.
use Prim.Native.Nat.{ℕ, suc, ◌+◌, ◌≤◌, ◌<◌}
use native.Mathlib.Omega.{arith}
use mathlib.Core.Path.{◌≡◌, refl, sym, ap, ◌∙◌}
use mathlib.Core.List.{List, map}
use lib.ListN.{length, get_or, take, set, replicate, length-map}
use lib.Seq.{take-take, length-take-le}
use Rattle.laws.specs.Lists.{from, up_to, sum, padded}
use Rattle.laws.proofs.Lists.{length_up_to, up_to_at}
use Rattle.laws.proofs.Mapped.{map_ext}
use Rattle.laws.proofs.Fronts.{map_up_to_next, sum_take_next}
use Rattle.laws.proofs.Padded.{padded_set}
use Rattle.model.proofs.RuleCount.{length_properties}
use Rattle.properties.specs.Represented.{first_properties, Numbers}

-- what the loop has after n predicates: the number of their properties, and where those of each begin
pub record Begun (arities : List ℕ) (n : ℕ) (firsts : List ℕ) (count : ℕ) : Type 0 where
  pub summed : count ≡ sum (take n arities)
  pub filled : firsts ≡ padded 20 0 (map (λ p. sum (take p arities)) (up_to n))

module _ (arities : List ℕ) where
  -- before the first predicate
  pub begin : Begun arities 0 (replicate 20 0) 0
  begin = record { summed = unfold sum in refl; filled = unfold up_to from padded in refl }

  -- one predicate more
  pub next : (n : ℕ) (firsts : List ℕ) (count : ℕ) → n < 20 → n < length arities → Begun arities n firsts count
      → Begun arities (suc n) (set firsts n count) (count + get_or arities n 0)
  next n firsts count h k b = record {
    summed = ap (λ (c : ℕ). c + get_or arities n 0) b.summed ∙ sym (sum_take_next arities n k);
    filled =
        ap (λ (l : List ℕ). set l n count) b.filled
        ∙ ap (set (padded 20 0 (map (λ p. sum (take p arities)) (up_to n))) n) b.summed
        ∙ padded_set 20 0 (map (λ p. sum (take p arities)) (up_to n)) (sum (take n arities)) (length-map (up_to n) _ ∙ length_up_to n) h
        ∙ ap (padded 20 0) (sym (map_up_to_next (λ p. sum (take p arities)) n));
  }

  -- after the last one
  pub finish : (n : ℕ) (firsts : List ℕ) (count : ℕ) → n ≤ length arities → Begun arities n firsts count
      → Numbers (take n arities) (record { count = count; firsts = firsts })
  unfolding first_properties
  finish n firsts count h b = record {
    counted = b.summed ∙ sym (length_properties 0 (take n arities));
    firsts =
        b.filled ∙ ap (padded 20 0) same;
  }
    where
      same : map (λ p. sum (take p arities)) (up_to n) ≡ map (λ p. sum (take p (take n arities))) (up_to (length (take n arities)))
      same =
          map_ext (λ p. sum (take p arities)) (λ p. sum (take p (take n arities))) (up_to n)
          (λ p m. ap sum (sym (take-take p n arities (let k = up_to_at n p m in omega arith))))
          ∙ ap (λ (k : ℕ). map (λ p. sum (take p (take n arities))) (up_to k)) (sym (length-take-le n arities h))
