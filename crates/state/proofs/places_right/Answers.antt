-- The three bytes after the predicate, one after the other.
use Rattle.std.proofs.Common.{◌≡◌, ℕ, Bool, ◌&&◌, get_or, sym, ap, ◌∙◌}
use Rattle.state.specs.Rows.{place_right, places_right}
use Rattle.state.proofs.places_right.Goals as goal
use Rattle.state.proofs.places_right.Goals.{then-place_right, else-place_right}

pub returns-then-place_right-2 : goal.returns-then-place_right-2
unfolding places_right
returns-then-place_right-2 c =
    let place : ℕ → Bool = λ k. place_right c.args.objects c.args.arity k (get_or c.args.row k 0) in
    let both : c.if-place_right.value ≡ (place 1 && place 2) =
    elim c.if-place_right.branch [
      | then-place_right w ↦
          w.value-is ∙ w.place_right-then-place_right.ensures ∙ ap (λ (b : Bool). b && place 2) w.if-place_right.ensures
      | else-place_right w ↦ w.value-is ∙ w.if-place_right.false ∙ ap (λ (b : Bool). b && place 2) w.if-place_right.ensures
    ] in
    c.place_right-then-place_right-2.ensures ∙ ap (λ (b : Bool). b && place 3) (sym c.if-place_right-2.true ∙ both)

pub returns-else-place_right-2 : goal.returns-else-place_right-2
unfolding places_right
returns-else-place_right-2 c =
    let place : ℕ → Bool = λ k. place_right c.args.objects c.args.arity k (get_or c.args.row k 0) in
    let both : c.if-place_right.value ≡ (place 1 && place 2) =
    elim c.if-place_right.branch [
      | then-place_right w ↦
          w.value-is ∙ w.place_right-then-place_right.ensures ∙ ap (λ (b : Bool). b && place 2) w.if-place_right.ensures
      | else-place_right w ↦ w.value-is ∙ w.if-place_right.false ∙ ap (λ (b : Bool). b && place 2) w.if-place_right.ensures
    ] in
    c.if-place_right-2.false ∙ ap (λ (b : Bool). b && place 3) (sym c.if-place_right-2.false ∙ both)
