-- What a state has after facts are put in one after the other.
use mathlib.Core.Path.{◌≡◌, refl, sym, subst}
use mathlib.Core.Bool.{true}
use mathlib.Core.Logic.{◌⊎◌, inl, inr, ⊎_elim}
use mathlib.Core.List.Memᴰ
use mathlib.Core.List.{List, [], ◌∷◌, foldl, Memᴰ}
use mathlib.Core.Option.{none}
use Rattle.laws.proofs.Lists.{any_at, any_intro}
use Rattle.laws.proofs.Counting.{Picks}
use Rattle.model.specs.Card.{Atom, same_atom, has, above}
use Rattle.model.specs.Strips.{State, ascending, put}
use Rattle.model.proofs.Order.{same_atom_eq, same_atom_refl}
use Rattle.model.proofs.States.{put_ascending, put_there, put_stays, put_at}

-- the test for an atom on a list is membership
pub has_picks : (atoms : List Atom) → Picks (has atoms) atoms
unfolding has
has_picks atoms = record {
  picked = λ a e.
      let r = any_at (same_atom a) atoms e in
      subst (λ (b : Atom). Memᴰ b atoms) (sym (same_atom_eq a r.0 r.2)) r.1;
  picks = λ a m. any_intro (same_atom a) atoms a m (same_atom_refl a);
}

-- facts put in one after the other
abbrev pub put_all : State → List Atom → State
put_all s atoms = foldl (λ s f. put f s) s atoms

-- they leave the order
pub put_all_ascending : (s : State) (atoms : List Atom) → ascending none s ≡ true → ascending none (put_all s atoms) ≡ true
unfolding above
put_all_ascending s [] e = e
put_all_ascending s (f ∷ atoms) e = put_all_ascending (put f s) atoms (put_ascending f none s refl e)

-- the facts that were there stay
pub put_all_stays : (s : State) (atoms : List Atom) (g : Atom) → Memᴰ g s → Memᴰ g (put_all s atoms)
put_all_stays s [] g m = m
put_all_stays s (f ∷ atoms) g m = put_all_stays (put f s) atoms g (put_stays f s g m)

-- those put in are there
pub put_all_there : (s : State) (atoms : List Atom) (g : Atom) → Memᴰ g atoms → Memᴰ g (put_all s atoms)
put_all_there s [] g m = absurd (Memᴰ.not-nil m)
put_all_there s (f ∷ atoms) g m =
    ⊎_elim
    (λ p. put_all_stays (put f s) atoms g (subst (λ (h : Atom). Memᴰ h (put f s)) (sym p) (put_there f s)))
    (put_all_there (put f s) atoms g)
    (Memᴰ.cases_cons m)

-- and nothing else is there
pub put_all_at : (s : State) (atoms : List Atom) (g : Atom) → Memᴰ g (put_all s atoms) → Memᴰ g s ⊎ Memᴰ g atoms
put_all_at s [] g m = inl m
put_all_at s (f ∷ atoms) g m =
    ⊎_elim
    (λ k. ⊎_elim (λ p. inr (Memᴰ.head p)) (λ j. inl j) (put_at f s g k))
    (λ k. inr (Memᴰ.tail k))
    (put_all_at (put f s) atoms g m)
