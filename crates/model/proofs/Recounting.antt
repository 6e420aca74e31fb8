-- Every listing stays as it is (document 02, No. 3): with the running tally an extension is what it was by the former text, which
-- counted the known conditions anew for each result.
use Prim.Native.Nat.{ℕ}
use mathlib.Core.Path.{◌≡◌, refl, ap, ◌∙◌}
use mathlib.Core.Bool.{Bool, true, false, cond, not, ◌&&◌}
use mathlib.Core.List.{List, [], ◌∷◌, ◌++◌, foldl}
use lib.Dec.{leb, ltb}
use lib.ListN.{length, get_or}
use Rattle.laws.specs.Lists.{any, up_to}
use Rattle.laws.specs.Bags.{Bag, contains, strictly_contains, listed}
use Rattle.laws.proofs.Folds.{fold_as}
use Rattle.model.specs.Extension.{Move, Outcome, neither, mixed, wide, Search, Extension, most_conditions, results, adjoin, hidden_by}
use Rattle.model.specs.Extension.{ending, appending, starting, test, unless_ended, offer, try, visit, explore, extend_from, extend}
use Rattle.model.proofs.ListsPerStart.{Tallied, offer_takes, onward_try, onward_visit, onward_explore}

-- ---- the former text: what the definitions of the same names said

pub record RecountingSearch : Type 0 where
  pub outcome : Outcome
  pub own : List Bag
  pub known : List Bag

unfoldable pub test_recounting : RecountingSearch → Bag → RecountingSearch
test_recounting s b =
    cond
    (listed s.own b)
    s
    (cond
    (any (strictly_contains b) s.own)
    (record { outcome = mixed (hidden_by s.own b); own = s.own; known = s.known })
    (cond
    (not (listed s.known b) && leb most_conditions (length s.known))
    (record { outcome = wide; own = s.own; known = s.known })
    (record { outcome = neither; own = s.own ++ (b ∷ []); known = adjoin s.known b })))

unfoldable pub offer_recounting : RecountingSearch → Bag → RecountingSearch
offer_recounting s b = let tested = test_recounting s b in unless_ended s.outcome tested s

unfoldable pub try_recounting : Bag → RecountingSearch → Move → RecountingSearch
try_recounting b s m = let tried = foldl offer_recounting s (results b m) in cond (contains b m.start) tried s

unfoldable pub visit_recounting : List Move → RecountingSearch → ℕ → RecountingSearch
visit_recounting moves s i =
    let visited = foldl (try_recounting (get_or s.own i [])) s moves in cond (ltb i (length s.own)) visited s

unfoldable pub explore_recounting : List Move → RecountingSearch → RecountingSearch
explore_recounting moves s = foldl (visit_recounting moves) s (up_to most_conditions)

unfoldable pub extend_from_recounting : List Move → List Bag → List Bag → List (List Bag) → Extension
extend_from_recounting moves known [] lists = record { outcome = neither; lists = lists }
extend_from_recounting moves known (b ∷ bags) lists =
    let s = explore_recounting moves (record { outcome = neither; own = b ∷ []; known = known }) in
    let later = extend_from_recounting moves s.known bags (lists ++ (s.own ∷ [])) in
    unless_ended s.outcome later (record { outcome = s.outcome; lists = lists })

unfoldable pub extend_recounting : List Move → List Bag → Extension
extend_recounting moves initial = extend_from_recounting moves initial initial []

-- ---- is what is said now

-- a search without its tally
abbrev untallied : Search → RecountingSearch
untallied s = record { outcome = s.outcome; own = s.own; known = s.known }

-- where the tally is the number of known conditions, to offer, try, visit and explore is what it was
offer_as_before : (s : Search) (b : Bag) → Tallied s → untallied (offer s b) ≡ offer_recounting (untallied s) b
unfolding offer offer_recounting test test_recounting unless_ended
offer_as_before s b e = go s.outcome (tested (listed s.own b) (any (strictly_contains b) s.own) (listed s.known b))
  where
    either : (w : Bool) → untallied (cond w (ending s wide) (appending s b)) ≡ cond w (untallied (ending s wide)) (untallied (appending s b))
    either true = refl
    either false = refl

    tested : (l m k : Bool)
        → untallied (cond l s (cond m (ending s (mixed (hidden_by s.own b))) (cond (not k && leb most_conditions s.tally) (ending s wide) (appending s b))))
        ≡ cond l (untallied s)
        (cond m (record { outcome = mixed (hidden_by s.own b); own = s.own; known = s.known })
        (cond (not k && leb most_conditions (length s.known))
        (record { outcome = wide; own = s.own; known = s.known })
        (record { outcome = neither; own = s.own ++ (b ∷ []); known = adjoin s.known b })))
    tested true m k = refl
    tested false true k = refl
    tested false false k =
        ap (λ (n : ℕ). untallied (cond (not k && leb most_conditions n) (ending s wide) (appending s b))) e
        ∙ either (not k && leb most_conditions (length s.known))

    go : (o : Outcome) → untallied (test s b) ≡ test_recounting (untallied s) b
        → untallied (unless_ended o (test s b) s) ≡ unless_ended o (test_recounting (untallied s) b) (untallied s)
    go neither h = h
    go (mixed places) h = refl
    go wide h = refl

try_as_before : (b : Bag) (s : Search) (m : Move) → Tallied s → untallied (try b s m) ≡ try_recounting b (untallied s) m
unfolding try try_recounting
try_as_before b s m e = go (contains b m.start)
  where
    go : (c : Bool)
        → untallied (cond c (foldl offer s (results b m)) s) ≡ cond c (foldl offer_recounting (untallied s) (results b m)) (untallied s)
    go true = fold_as untallied Tallied offer offer_recounting offer_as_before (λ t r. (offer_takes t r).0.tallied) s e (results b m)
    go false = refl

visit_as_before : (moves : List Move) (s : Search) (i : ℕ) → Tallied s → untallied (visit moves s i) ≡ visit_recounting moves (untallied s) i
unfolding visit visit_recounting
visit_as_before moves s i e = go (ltb i (length s.own))
  where
    go : (c : Bool)
        → untallied (cond c (foldl (try (get_or s.own i [])) s moves) s)
        ≡ cond c (foldl (try_recounting (get_or s.own i [])) (untallied s) moves) (untallied s)
    go true =
        let b = get_or s.own i [] in
        fold_as untallied Tallied (try b) (try_recounting b) (try_as_before b) (λ t m. (onward_try b t m).tallied) s e moves
    go false = refl

explore_as_before : (moves : List Move) (s : Search) → Tallied s → untallied (explore moves s) ≡ explore_recounting moves (untallied s)
unfolding explore explore_recounting
explore_as_before moves s e =
    fold_as untallied Tallied (visit moves) (visit_recounting moves) (visit_as_before moves) (λ t i. (onward_visit moves t i).tallied) s e (up_to most_conditions)

-- so is each own list after the other
extend_from_as_before : (moves : List Move) (known : List Bag) (tally : ℕ) (bags : List Bag) (lists : List (List Bag)) → tally ≡ length known
    → extend_from moves known tally bags lists ≡ extend_from_recounting moves known bags lists
unfolding extend_from extend_from_recounting
extend_from_as_before moves known tally [] lists e = refl
extend_from_as_before moves known tally (b ∷ bags) lists e =
    let s = explore moves (starting b known tally) in
    ap (λ (x : Extension). unless_ended s.outcome x (record { outcome = s.outcome; lists = lists }))
    (extend_from_as_before moves s.known s.tally bags (lists ++ (s.own ∷ [])) ((onward_explore moves (starting b known tally)).tallied e))
    ∙ ap (λ (f : RecountingSearch).
    unless_ended f.outcome (extend_from_recounting moves f.known bags (lists ++ (f.own ∷ []))) (record { outcome = f.outcome; lists = lists }))
    (explore_as_before moves (starting b known tally) e)

-- and the whole extension, whatever the moves and the bags
pub extend_as_before : (moves : List Move) (initial : List Bag) → extend moves initial ≡ extend_recounting moves initial
unfolding extend extend_recounting
extend_as_before moves initial = extend_from_as_before moves initial (length initial) initial [] refl
