-- A row is right if its predicate is known and the bytes after it are right for its arity.
use Rattle.std.proofs.Common.{◌≡◌, ◌<◌, ℕ, List, true, get_or, length, sym, ap, ◌∙◌, arith}
use Rattle.model.specs.Card.{in_range}
use Rattle.model.specs.Strips.{row_right}
use Rattle.model.proofs.Checked.{arity_within}
use Rattle.state.specs.Rows.{places_right}
use Rattle.state.proofs.RightRows.{row_unknown, row_places}
use Rattle.state.proofs.row_right.Goals as goal

-- the arity that was found for the row's predicate is n
by_arity : (arities : List ℕ) (objects : ℕ) (row : List ℕ) {p arity n : ℕ} → length row ≡ 4 → in_range arities ≡ true → p < length arities
    → p ≡ get_or row 0 0 → arity ≡ get_or arities p 0 → arity ≡ n → places_right objects n row ≡ row_right arities objects row
unfolding places_right
by_arity arities objects row four right known first found e =
    row_places arities objects row four (sym e ∙ found ∙ ap (λ (k : ℕ). get_or arities k 0) first) right (omega (arith, known, first))

pub returns-in_default : goal.returns-in_default
returns-in_default c = row_unknown _ _ c.args.row (omega arith) (omega (arith, c.in_default.ensures.lookup.3))

pub returns-in-1 : goal.returns-in-1
returns-in-1 c =
    let found = c.in-Some.ensures.lookup.3 in
    c.places_right.ensures ∙ by_arity _ _ _ (omega arith) c.requires found.0 c.from.ensures (found.1 0) c.in-1.is

pub returns-in-2 : goal.returns-in-2
returns-in-2 c =
    let found = c.in-Some.ensures.lookup.3 in
    c.places_right-in-2.ensures ∙ by_arity _ _ _ (omega arith) c.requires found.0 c.from.ensures (found.1 0) c.in-2.is

pub returns-in_default-arity : goal.returns-in_default-arity
returns-in_default-arity c =
    let found = c.in-Some.ensures.lookup.3 in
    let most = arity_within _ c.from.result c.requires (omega (arith, found.0)) in
    c.places_right-in_default-arity.ensures
    ∙ by_arity _ _ _ (omega arith) c.requires found.0 c.from.ensures (found.1 0) (omega (arith, c.in_default-arity, found.1 0, most))
