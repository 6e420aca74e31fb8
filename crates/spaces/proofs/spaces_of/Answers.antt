-- The steps in turn: grouping, labels, the members at first, the closing, and the masks by the number of their space.
use Rattle.std.proofs.Common.{◌≡◌, ℕ, ◌≤◌, ◌<◌, List, eqb, length, get_or, take, arith, rules}
use mathlib.Core.Path.{sym, ap, ◌∙◌, subst}
use mathlib.Core.List.{map}
use Rattle.laws.specs.Lists.{padded}
use Rattle.laws.proofs.Walks.{keep_few}
use Rattle.properties.specs.Parameters.{RoomForBags}
use Rattle.spaces.specs.Steps.{groups_in, labelled, rounds_in}
use Rattle.spaces.specs.Tabled.{Grouped}
use Rattle.spaces.proofs.Found.{groups_known, labelled_known, spaces_found}
use Rattle.spaces.proofs.spaces_of.Goals as goal

-- the labels that the grouping gave are below 60
known : {size count : ℕ} {p d a groups : List ℕ} → size ≤ 60 → RoomForBags count p d a → length groups ≡ 60 → groups ≡ groups_in size count d a
    → Grouped size groups
known narrow room full e = record {
  narrow = narrow;
  filled = omega arith;
  known = λ c. subst (λ (l : List ℕ). get_or l c 0 < 60) (sym e) (groups_known narrow room c);
}

pub initial_members-initial-requires-clause-grouped : goal.initial_members-initial-requires-clause-grouped
initial_members-initial-requires-clause-grouped c =
    let size : length c.grouping-groups.result ≡ 60 = search rules in
    known c.requires.size_bound.0 c.requires.room_for_bags size c.grouping-groups.ensures

pub close-closed-requires-clause-grouped : goal.close-closed-requires-clause-grouped
close-closed-requires-clause-grouped c =
    let size : length c.grouping-groups.result ≡ 60 = search rules in
    known c.requires.size_bound.0 c.requires.room_for_bags size c.grouping-groups.ensures

pub by_number-members-requires-clause-count_bound : goal.by_number-members-requires-clause-count_bound
unfolding labelled
by_number-members-requires-clause-count_bound c =
    let few = keep_few (λ x. eqb (get_or c.grouping-groups.result x 0) x) c.args.size in
    omega (arith, few, c.labels_of-labels.ensures.count_value, c.requires.size_bound.0)

pub by_number-members-requires-clause-by_index : goal.by_number-members-requires-clause-by_index
by_number-members-requires-clause-by_index c k =
    subst (λ (l : List ℕ). get_or l k 0 < 60) (sym c.labels_of-labels.ensures.lowest_value)
    (labelled_known c.args.size c.requires.size_bound.0 c.grouping-groups.result k)

pub returns : goal.returns
returns c =
    let a = c.args in
    spaces_found a.size a.parameters a.objects a.preconditions.now a.deletes.now a.adds.now a.counts.now
    c.grouping-groups.ensures c.labels_of-labels.ensures.count_value c.labels_of-labels.ensures.lowest_value
    (c.by_number-members.ensures
    ∙ ap (λ (masks : List ℕ). padded 60 0 (map (λ l. get_or masks l 0) (take c.labels_of-labels.result.count c.labels_of-labels.result.lowest)))
    (c.close-closed.ensures
    ∙ ap
    (rounds_in c.grouping-groups.result a.objects a.size a.parameters a.preconditions.now a.deletes.now a.adds.now
    c.labels_of-labels.result.count)
    c.initial_members-initial.ensures))
