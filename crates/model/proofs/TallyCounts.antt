-- The tally of a space's conditions, document 02, No. 3: at every step of every search it is the number of distinct conditions met
-- so far, all opening ones counted from the start.
use Prim.Native.Nat.{ℕ, ◌≤◌}
use native.Mathlib.Omega.{arith}
use mathlib.Core.Path.{◌≡◌, refl, sym, ap, ◌∙◌, subst}
use mathlib.Core.Bool.{Bool, true, false, cond, not, ◌&&◌}
use mathlib.Core.Logic.{⊎_elim}
use mathlib.Core.List.Memᴰ
use mathlib.Core.List.{List, [], ◌∷◌, ◌++◌, map, foldl, foldl-append, Memᴰ}
use lib.Dec.{leb}
use lib.ListN.{length}
use borrow.Author.Tests.{leb-true}
use Rattle.laws.specs.Lists.{any}
use Rattle.laws.specs.Bags.{Bag, strictly_contains, listed}
use Rattle.laws.proofs.Tests.{and_right}
use Rattle.laws.proofs.Counting.{NoRepeat, no_repeat_length}
use Rattle.model.specs.Card.{Task}
use Rattle.model.specs.Spaces.{Space, condition}
use Rattle.model.specs.Analysis.{initial_conditions}
use Rattle.model.specs.Extension.{Move, Outcome, neither, mixed, wide, Search, Extension, most_conditions, adjoin, hidden_by}
use Rattle.model.specs.Extension.{ending, appending, starting, test, unless_ended, offer, explore, extend_from, extend, joined}
use Rattle.model.proofs.JoinedLists.{adjoin_there, adjoin_all_once, joined_last, joined_has, joined_from, joined_once, joined_one}
use Rattle.model.proofs.ListsPerStart.{Onward, Tallied, offer_takes, explore_keeps, own_list_of, mixed_closed, wide_closed, wide_not_mixed}

-- ---- the stages of the searches of a space

-- A stage, with the own lists that are done: the first start, one more result offered, or the next start. At a start the tally goes on
-- from the search before.
pub data Stage (initial : List Bag) : List (List Bag) → Search → Type 0 where
  first : (b : Bag) → Memᴰ b initial → Stage initial [] (starting b initial (length initial))
  offered : {lists : List (List Bag)} {s : Search} → Stage initial lists s → (b : Bag) → Stage initial lists (offer s b)
  next : {lists : List (List Bag)} {s : Search} → Stage initial lists s → (b : Bag) → Memᴰ b initial
      → Stage initial (lists ++ (s.own ∷ [])) (starting b s.known s.tally)

-- the conditions met so far: the opening ones, those of the own lists done and those of the own list as it is, each once
abbrev pub met : List Bag → List (List Bag) → Search → List Bag
met initial lists s = joined (initial ∷ (lists ++ (s.own ∷ [])))

-- ---- the tally counts them

-- the tally is the number of conditions that are known
tally_known : {initial : List Bag} {lists : List (List Bag)} {s : Search} → Stage initial lists s → Tallied s
tally_known (first b k) = refl
tally_known (offered {s = s} stage b) = (offer_takes s b).0.tallied (tally_known stage)
tally_known (next stage b k) = tally_known stage

module _ (initial : List Bag) where
  -- what an own list has more is known, and met
  met_more : (lists : List (List Bag)) (s t : Search) → Onward s t → s.known ≡ met initial lists s → t.known ≡ met initial lists t
  met_more lists s t w e =
      let before = joined (initial ∷ lists) in
      w.learnt
      ∙ ap (λ (l : List Bag). foldl adjoin l w.more) (e ∙ joined_last (initial ∷ lists) s.own)
      ∙ sym (foldl-append adjoin before s.own w.more)
      ∙ sym (ap (foldl adjoin before) w.grown)
      ∙ sym (joined_last (initial ∷ lists) t.own)

  -- a search starts with a condition that was met before
  met_start : (lists : List (List Bag)) (b : Bag) → Memᴰ b initial → joined (initial ∷ (lists ++ ((b ∷ []) ∷ []))) ≡ joined (initial ∷ lists)
  met_start lists b k =
      joined_last (initial ∷ lists) (b ∷ []) ∙ adjoin_there (joined (initial ∷ lists)) b (joined_has (initial ∷ lists) initial b (Memᴰ.head refl) k)

  -- what is known is what was met, where the opening conditions are distinct
  known_met : NoRepeat initial → {lists : List (List Bag)} {s : Search} → Stage initial lists s → s.known ≡ met initial lists s
  known_met once (first b k) = sym (met_start [] b k ∙ joined_one initial once)
  known_met once (offered {lists} {s} stage b) = met_more lists s (offer s b) (offer_takes s b).0 (known_met once stage)
  known_met once (next {lists} {s} stage b k) = known_met once stage ∙ sym (met_start (lists ++ (s.own ∷ [])) b k)

  pub tally_counts : NoRepeat initial → {lists : List (List Bag)} {s : Search} → Stage initial lists s → s.tally ≡ length (met initial lists s)
  tally_counts once stage = tally_known stage ∙ ap length (known_met once stage)

-- in every property space of every table: its opening conditions are distinct
pub tally_counts_in_spaces : (t : Task) (u : Space) {lists : List (List Bag)} {s : Search} → Stage (initial_conditions t u) lists s
    → s.tally ≡ length (met (initial_conditions t u) lists s)
unfolding initial_conditions
tally_counts_in_spaces t u =
    tally_counts (initial_conditions t u) (adjoin_all_once [] (map (condition t u.properties t.facts) u.members) tt)

-- ---- every extension goes from stage to stage, to its end

explore_stage : (moves : List Move) {initial : List Bag} {lists : List (List Bag)} (s : Search) → Stage initial lists s
    → Stage initial lists (explore moves s)
explore_stage moves {initial} {lists} = explore_keeps (Stage initial lists) (λ t b stage. offered stage b) moves

-- The stage at which an extension ends: it ends as that search does and, if neither way, with the lists done and that search's own.
pub record EndsAt (initial : List Bag) (x : Extension) : Type 0 where
  pub lists : List (List Bag)
  pub last : Search
  pub stage : Stage initial lists last
  pub outcome : x.outcome ≡ last.outcome
  pub all : x.outcome ≡ neither → x.lists ≡ lists ++ (last.own ∷ [])

module _ (moves : List Move) (initial : List Bag) where
  -- one search, and what comes after it where it ends neither way
  ends_by : (lists : List (List Bag)) (s : Search) → Stage initial lists s → (later : Extension) → (s.outcome ≡ neither → EndsAt initial later)
      → (o : Outcome) → s.outcome ≡ o → EndsAt initial (unless_ended o later (record { outcome = o; lists = lists }))
  unfolding unless_ended
  ends_by lists s stage later ends neither e = ends e
  ends_by lists s stage later ends (mixed places) e = record { lists = lists; last = s; stage = stage; outcome = sym e; all = mixed_closed }
  ends_by lists s stage later ends wide e = record { lists = lists; last = s; stage = stage; outcome = sym e; all = wide_closed }

  extend_from_ends : (lists : List (List Bag)) (known : List Bag) (tally : ℕ) (b : Bag) (bags : List Bag)
      → ((x : Bag) → Memᴰ x bags → Memᴰ x initial) → Stage initial lists (starting b known tally)
      → EndsAt initial (extend_from moves known tally (b ∷ bags) lists)
  unfolding extend_from
  extend_from_ends lists known tally b [] h stage =
      let s = explore moves (starting b known tally) in
      let done = explore_stage moves (starting b known tally) stage in
      ends_by lists s done (record { outcome = neither; lists = lists ++ (s.own ∷ []) })
      (λ e. record { lists = lists; last = s; stage = done; outcome = sym e; all = λ f. refl }) s.outcome refl
  extend_from_ends lists known tally b (c ∷ bags) h stage =
      let s = explore moves (starting b known tally) in
      let done = explore_stage moves (starting b known tally) stage in
      ends_by lists s done (extend_from moves s.known s.tally (c ∷ bags) (lists ++ (s.own ∷ [])))
      (λ e.
      extend_from_ends (lists ++ (s.own ∷ [])) s.known s.tally c bags (λ x k. h x (Memᴰ.tail k))
      (next done c (h c (Memᴰ.head refl))))
      s.outcome refl

-- the extension of a space that has initial bags ends at a stage
pub extension_ends : (moves : List Move) (b : Bag) (bags : List Bag) → EndsAt (b ∷ bags) (extend moves (b ∷ bags))
unfolding extend
extension_ends moves b bags =
    extend_from_ends moves (b ∷ bags) [] (b ∷ bags) (length (b ∷ bags)) b bags (λ x k. Memᴰ.tail k) (first b (Memᴰ.head refl))

-- ---- a space that ends neither way: at the end the tally is the number of conditions that are listed

-- the initial bags are on the own lists, so that to join them too adds none
initial_joined : (moves : List Move) (initial : List Bag) → length initial ≤ most_conditions → (extend moves initial).outcome ≡ neither
    → (x : Bag) → Memᴰ x (joined (initial ∷ (extend moves initial).lists)) → Memᴰ x (joined (extend moves initial).lists)
initial_joined moves initial h e x k =
    let lists = (extend moves initial).lists in
    let f = joined_from (initial ∷ lists) x k in
    ⊎_elim
    (λ p.
    let own = own_list_of moves initial h e x (subst (Memᴰ x) p f.2) in joined_has lists own.0 x own.1 own.2.has_initial)
    (λ j. joined_has lists f.0 x j f.2) (Memᴰ.cases_cons f.1)

pub tally_listed : (moves : List Move) (b : Bag) (bags : List Bag) → NoRepeat (b ∷ bags) → length (b ∷ bags) ≤ most_conditions
    → (extend moves (b ∷ bags)).outcome ≡ neither
    → (extension_ends moves b bags).last.tally ≡ length (joined (extend moves (b ∷ bags)).lists)
tally_listed moves b bags once h e =
    let initial = b ∷ bags in
    let lists = (extend moves initial).lists in
    let end = extension_ends moves b bags in
    omega (
      arith,
      tally_counts initial once end.stage,
      ap (λ (l : List (List Bag)). length (joined (initial ∷ l))) (end.all e),
      no_repeat_length (joined (initial ∷ lists)) (joined lists) (joined_once (initial ∷ lists)) (initial_joined moves initial h e),
      no_repeat_length (joined lists) (joined (initial ∷ lists)) (joined_once lists)
          (λ x k. let f = joined_from lists x k in joined_has (initial ∷ lists) f.0 x (Memᴰ.tail f.1) f.2),
    )

-- ---- a space that ends as wide: 64 conditions have been met, and the result that ends it is not counted

-- a result ends a search as wide only where the tally is full
offer_wide : (s : Search) (b : Bag) → (s.outcome ≡ wide → most_conditions ≤ s.tally) → (offer s b).outcome ≡ wide → most_conditions ≤ (offer s b).tally
unfolding offer unless_ended test
offer_wide s b before = go s.outcome refl
  where
    tested : (l m w : Bool) → s.outcome ≡ neither → (not (listed s.known b) && leb most_conditions s.tally) ≡ w
        → (let t : Search = cond l s (cond m (ending s (mixed (hidden_by s.own b))) (cond w (ending s wide) (appending s b))) in
        t.outcome ≡ wide → most_conditions ≤ t.tally)
    tested true m w e p f = wide_closed (sym f ∙ e)
    tested false true w e p f = wide_not_mixed (sym f)
    tested false false true e p f =
        leb-true most_conditions s.tally (and_right (not (listed s.known b)) (leb most_conditions s.tally) p)
    tested false false false e p f = wide_closed (sym f)

    go : (o : Outcome) → s.outcome ≡ o
        → (let t : Search = unless_ended o (test s b) s in t.outcome ≡ wide → most_conditions ≤ t.tally)
    go neither e =
        tested (listed s.own b) (any (strictly_contains b) s.own) (not (listed s.known b) && leb most_conditions s.tally) e refl
    go (mixed places) e = before
    go wide e = before

wide_full : {initial : List Bag} {lists : List (List Bag)} {s : Search} → Stage initial lists s → s.outcome ≡ wide → most_conditions ≤ s.tally
wide_full (first b k) e = wide_closed (sym e)
wide_full (offered {s = s} stage b) e = offer_wide s b (λ f. wide_full stage f) e
wide_full (next stage b k) e = wide_closed (sym e)

-- the tally is never above 64
tally_room : {initial : List Bag} {lists : List (List Bag)} {s : Search} → length initial ≤ most_conditions → Stage initial lists s
    → s.tally ≤ most_conditions
tally_room h (first b k) = h
tally_room h (offered {s = s} stage b) = (offer_takes s b).0.room (tally_room h stage)
tally_room h (next stage b k) = tally_room h stage

pub wide_met_64 : (initial : List Bag) → NoRepeat initial → length initial ≤ most_conditions → {lists : List (List Bag)} {s : Search}
    → Stage initial lists s → s.outcome ≡ wide → length (met initial lists s) ≡ most_conditions
wide_met_64 initial once h stage e = omega (arith, tally_counts initial once stage, wide_full stage e, tally_room h stage)
