-- Folds: steps that do nothing or the same, what every step keeps, what one step brings about, and where a fold leads whose every step leads on.
use mathlib.Core.Path.{◌≡◌, refl, sym, ap, ◌∙◌, subst}
use mathlib.Core.Logic.{◌⊎◌, inl, inr, ⊎_elim}
use mathlib.Core.List.Memᴰ
use mathlib.Core.List.{List, [], ◌∷◌, flat_map, foldl, foldl-append, Memᴰ}

module _ {A B : Type 0} where
  -- steps that change nothing
  pub fold_still : (f : B → A → B) (xs : List A) → ((b : B) (x : A) → Memᴰ x xs → f b x ≡ b) → (b : B) → foldl f b xs ≡ b
  fold_still f [] h b = refl
  fold_still f (x ∷ xs) h b = ap (λ (c : B). foldl f c xs) (h b x (Memᴰ.head refl)) ∙ fold_still f xs (λ c y m. h c y (Memᴰ.tail m)) b

  -- steps that do the same
  pub fold_ext : (f g : B → A → B) (xs : List A) → ((b : B) (x : A) → Memᴰ x xs → f b x ≡ g b x) → (b : B) → foldl f b xs ≡ foldl g b xs
  fold_ext f g [] h b = refl
  fold_ext f g (x ∷ xs) h b =
      ap (λ (c : B). foldl f c xs) (h b x (Memᴰ.head refl)) ∙ fold_ext f g xs (λ c y m. h c y (Memᴰ.tail m)) (g b x)

  -- what every step of a fold keeps holds at its end
  pub foldl_keeps : (Holds : B → Type 0) (f : B → A → B) (xs : List A)
      → ((b : B) (x : A) → Memᴰ x xs → Holds b → Holds (f b x)) → (b : B) → Holds b → Holds (foldl f b xs)
  foldl_keeps Holds f [] keeps b h = h
  foldl_keeps Holds f (x ∷ xs) keeps b h =
      foldl_keeps Holds f xs (λ c y m. keeps c y (Memᴰ.tail m)) (f b x) (keeps b x (Memᴰ.head refl) h)

  -- what one step of a fold brings about and the later ones keep holds at its end
  pub foldl_reaches : (Holds Reached : B → Type 0) (f : B → A → B) (xs : List A)
      → ((b : B) (x : A) → Memᴰ x xs → Holds b → Holds (f b x))
      → ((b : B) (x : A) → Memᴰ x xs → Holds b → Reached b → Reached (f b x))
      → (y : A) → Memᴰ y xs → ((b : B) → Holds b → Reached (f b y)) → (b : B) → Holds b → Reached (foldl f b xs)
  foldl_reaches Holds Reached f [] keeps stays y m reach b h = absurd (Memᴰ.not-nil m)
  foldl_reaches Holds Reached f (x ∷ xs) keeps stays y m reach b h =
      go (foldl_reaches Holds Reached f xs later later_stays y) (Memᴰ.cases_cons m)
    where
      later : (c : B) (z : A) → Memᴰ z xs → Holds c → Holds (f c z)
      later c z k = keeps c z (Memᴰ.tail k)

      later_stays : (c : B) (z : A) → Memᴰ z xs → Holds c → Reached c → Reached (f c z)
      later_stays c z k = stays c z (Memᴰ.tail k)

      both : (c : B) (z : A) → Memᴰ z xs → Holds c × Reached c → Holds (f c z) × Reached (f c z)
      both c z k now = (later c z k now.0, later_stays c z k now.0 now.1)

      next : Holds (f b x)
      next = keeps b x (Memᴰ.head refl) h

      go : (Memᴰ y xs → ((c : B) → Holds c → Reached (f c y)) → (c : B) → Holds c → Reached (foldl f c xs))
          → (y ≡ x) ⊎ Memᴰ y xs → Reached (foldl f (f b x) xs)
      go further (inl p) =
          (foldl_keeps (λ c. Holds c × Reached c) f xs both (f b x) (next, subst (λ (z : A). Reached (f b z)) p (reach b h))).1
      go further (inr k) = further k reach (f b x) next

  -- a fold whose every step leads on, by a relation that is reflexive and transitive: it leads on as a whole, and for each
  -- element on from some stage to its step, and from there to the end
  module _ (R : B → B → Type 0) (same : (b : B) → R b b) (then : (b c d : B) → R b c → R c d → R b d) (f : B → A → B)
      (step : (b : B) (x : A) → R b (f b x)) where
    pub fold_leads : (b : B) (xs : List A) → R b (foldl f b xs)
    fold_leads b xs = foldl_keeps (R b) f xs (λ c x k r. then b c (f c x) r (step c x)) b (same b)

    pub fold_at : (b : B) (xs : List A) (x : A) → Memᴰ x xs → (c : B) × R b c × R (f c x) (foldl f b xs)
    fold_at b [] x k = absurd (Memᴰ.not-nil k)
    fold_at b (y ∷ xs) x k =
        ⊎_elim (λ e. (b, same b, subst (λ (z : A). R (f b z) (foldl f (f b y) xs)) (sym e) (fold_leads (f b y) xs)))
        (λ j. let r = fold_at (f b y) xs x j in (r.0, then b (f b y) r.0 (step b y) r.1, r.2))
        (Memᴰ.cases_cons k)

-- a fold that is seen as another: each step is seen as the other's step, while something holds that each step keeps
pub fold_as : {A B C : Type 0} (seen : B → C) (Holds : B → Type 0) (f : B → A → B) (g : C → A → C)
    → ((b : B) (x : A) → Holds b → seen (f b x) ≡ g (seen b) x) → ((b : B) (x : A) → Holds b → Holds (f b x))
    → (b : B) → Holds b → (xs : List A) → seen (foldl f b xs) ≡ foldl g (seen b) xs
fold_as seen Holds f g step keeps b h [] = refl
fold_as seen Holds f g step keeps b h (x ∷ xs) =
    fold_as seen Holds f g step keeps (f b x) (keeps b x h) xs ∙ ap (λ c. foldl g c xs) (step b x h)

-- a fold over lists one after the other
pub fold_lists : {A B C : Type 0} (f : C → B → C) (g : A → List B) (xs : List A) (c : C)
    → foldl f c (flat_map g xs) ≡ foldl (λ b x. foldl f b (g x)) c xs
unfolding flat_map
fold_lists f g [] c = refl
fold_lists f g (x ∷ xs) c = foldl-append f c (g x) (flat_map g xs) ∙ fold_lists f g xs (foldl f c (g x))
