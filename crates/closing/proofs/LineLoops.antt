-- Lines written number by number: those of the numbers that are left.
use Prim.Native.Nat.{ℕ, ◌+◌, ◌≤◌, ◌<◌}
use mathlib.Core.Path.{◌≡◌, sym, ap, ◌∙◌, subst}
use mathlib.Core.List.{List, [], ◌∷◌, ◌++◌, map, flat_map}
use Rattle.laws.specs.Lists.{up_to}
use Rattle.laws.proofs.Lists.{flat_map_append}
use Rattle.laws.proofs.Walks.{left, left_all, left_none, left_one}
use Rattle.model.specs.Lines.{Line}
use Rattle.model.specs.Text.{line_text, text}
use Rattle.text.specs.Room.{Room}
use Rattle.text.specs.Written.{Writes}
use Rattle.text.proofs.Writing.{Begins, Remains}
use native.Mathlib.Omega.{arith}
use lib.ListN.{length}

-- a text may be said in other words
pub room_as : {bytes bytes' buffer : List ℕ} → bytes ≡ bytes' → Room bytes buffer → Room bytes' buffer
room_as {buffer = buffer} e r = subst (λ (l : List ℕ). Room l buffer) e r

pub writes_as : {bytes bytes' before after : List ℕ} {n : ℕ} → bytes ≡ bytes' → Writes bytes before after n → Writes bytes' before after n
writes_as {before = before} {after = after} {n = n} e w = subst (λ (l : List ℕ). Writes l before after n) e w

-- the place that is reached is within the buffer
pub remains_within : {all rest before now : List ℕ} {at : ℕ} → Remains all rest before now at → at ≤ length now
remains_within r = omega (arith, r.reached, r.room.fits, r.kept)

-- the text of some lines and of others behind them
pub text_parts : (front back : List Line) → Begins (text (front ++ back)) (text front) (text back)
unfolding text
text_parts front back = record { path = flat_map_append line_text front back }

module _ (f : ℕ → List Line) (size : ℕ) where
  -- the lines that are left
  abbrev pub lines_left : ℕ → List ℕ
  lines_left i = text (flat_map f (left i size))

  pub lines_start : text (flat_map f (up_to size)) ≡ lines_left 0
  lines_start = ap (λ (l : List ℕ). text (flat_map f l)) (sym (left_all size))

  module _ (i : ℕ) (h : i < size) where
    first_of : lines_left i ≡ text (f i ++ flat_map f (left (i + 1) size))
    unfolding flat_map
    first_of = ap (λ (l : List ℕ). text (flat_map f l)) (left_one i size h)

    -- a number that gives one line, and one that gives none
    pub line_next : {line : Line} → f i ≡ line ∷ [] → Begins (lines_left i) (line_text line) (lines_left (i + 1))
    unfolding text flat_map
    line_next e = record { path = first_of ∙ ap (λ (l : List Line). text (l ++ flat_map f (left (i + 1) size))) e }

    pub no_line : f i ≡ [] → lines_left i ≡ lines_left (i + 1)
    no_line e = first_of ∙ ap (λ (l : List Line). text (l ++ flat_map f (left (i + 1) size))) e

  pub lines_end : (i : ℕ) → size ≤ i → lines_left i ≡ []
  unfolding text flat_map
  lines_end i h = ap (λ (l : List ℕ). text (flat_map f l)) (left_none i size h)

-- One line for each number.
module _ (g : ℕ → Line) (size : ℕ) where
  abbrev pub each_left : ℕ → List ℕ
  each_left i = text (map g (left i size))

  pub each_start : text (map g (up_to size)) ≡ each_left 0
  each_start = ap (λ (l : List ℕ). text (map g l)) (sym (left_all size))

  pub each_next : (i : ℕ) → i < size → {line : Line} → line ≡ g i → Begins (each_left i) (line_text line) (each_left (i + 1))
  unfolding text flat_map
  each_next i h e =
      record { path = ap (λ (l : List ℕ). text (map g l)) (left_one i size h) ∙ ap (λ (k : Line). line_text k ++ each_left (i + 1)) (sym e) }

  pub each_end : (i : ℕ) → size ≤ i → each_left i ≡ []
  unfolding text flat_map
  each_end i h = ap (λ (l : List ℕ). text (map g l)) (left_none i size h)
