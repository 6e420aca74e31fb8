-- K1 to K11 of document 01 hold of the definitions, and the further vectors: the table of specs/Vectors.antt, entry by entry, by computation.
use mathlib.Core.Path.{◌≡◌, refl, sym, ap, ◌∙◌}
use mathlib.Core.List.Memᴰ
use mathlib.Core.List.{List, [], ◌∷◌, flat_map, Memᴰ}
use mathlib.Core.Logic.{⊎_elim}
use Rattle.laws.specs.Lists.{lists_open}
use Rattle.laws.specs.Bags.{bags_open}
use Rattle.model.specs.Answer.{answer_opens}
use Rattle.model.specs.Card.{card_opens}
use Rattle.model.specs.Writer.{writer_opens}
use Rattle.model.specs.Strips.{strips_opens}
use Rattle.model.specs.Transitions.{transitions_open}
use Rattle.model.specs.Spaces.{spaces_open}
use Rattle.model.specs.Extension.{extension_opens}
use Rattle.model.specs.Analysis.{analysis_opens}
use Rattle.model.specs.Rescue.{rescue_opens}
use Rattle.model.specs.Lines.{lines_open}
use Rattle.model.specs.Text.{text_opens}
use Rattle.model.specs.Calls.{calls_open}
use Rattle.model.specs.Open.{open_opens}
use Rattle.model.specs.Preview.{preview_opens}
use Rattle.model.specs.Histories.{histories_open}
use Rattle.model.specs.Vectors.{Entry, table, answer, vectors_open}
use Rattle.model.specs.Vectors.{bench_card, presses_refused, presses_made, swallowed_add, mixed_space, conditions_56, wide_space}
use Rattle.model.specs.Vectors.{no_bytes, byte_more, objects_65, objects_64, roles_1, roles_7}
use Rattle.model.specs.Vectors.{two_starts, nested_chain, two_rounds, three_arguments, two_digits, empty_lists, conditions_64, condition_65}
use Rattle.model.specs.Vectors.{section_written, section_past, short_first, card_first, zeros_after, table_written, table_short}
use Rattle.model.specs.Vectors.{atoms_first, list_of_9, two_open, after_closed, given_refused, state_first, no_room}
use Rattle.model.specs.Vectors.{in_state_order, nothing_comes, both_asked, malformed_asked, asking_refused, no_room_asked}
use Rattle.model.specs.Vectors.{still_so, coming_differs, going_differs, filler_differs, order_differs, row_repeated, rows_missing}
use Rattle.model.specs.Vectors.{checks_first, room_first, committed_and_asked}
use Rattle.model.specs.Vectors.{rescued_switch, member_left_out, no_total_rescued, first_contained, own_list_alone, rescued_twice}
use Rattle.model.specs.Vectors.{rule_emptied, start_emptied, finish_emptied, no_property_left, no_member_left, rescue_wide}

-- opens every definition, for what is proved by computation
unfoldable pub definitions_open : Unit {0}
unfolding
    flat_map lists_open bags_open answer_opens card_opens writer_opens strips_opens transitions_open spaces_open extension_opens analysis_opens rescue_opens
    lines_open text_opens calls_open open_opens preview_opens histories_open vectors_open
definitions_open = tt

-- the definitions answer as expected
abbrev pub Holds : Entry → Type 0
Holds e = answer e.question ≡ e.expected

bench_card_holds : Holds bench_card
unfolding definitions_open
bench_card_holds = refl

presses_refused_holds : Holds presses_refused
unfolding definitions_open
presses_refused_holds = refl

presses_made_holds : Holds presses_made
unfolding definitions_open
presses_made_holds = refl

swallowed_add_holds : Holds swallowed_add
unfolding definitions_open
swallowed_add_holds = refl

mixed_space_holds : Holds mixed_space
unfolding definitions_open
mixed_space_holds = refl

conditions_56_holds : Holds conditions_56
unfolding definitions_open
conditions_56_holds = refl

wide_space_holds : Holds wide_space
unfolding definitions_open
wide_space_holds = refl

no_bytes_holds : Holds no_bytes
unfolding definitions_open
no_bytes_holds = refl

byte_more_holds : Holds byte_more
unfolding definitions_open
byte_more_holds = refl

objects_65_holds : Holds objects_65
unfolding definitions_open
objects_65_holds = refl

objects_64_holds : Holds objects_64
unfolding definitions_open
objects_64_holds = refl

roles_1_holds : Holds roles_1
unfolding definitions_open
roles_1_holds = refl

roles_7_holds : Holds roles_7
unfolding definitions_open
roles_7_holds = refl

two_starts_holds : Holds two_starts
unfolding definitions_open
two_starts_holds = refl

nested_chain_holds : Holds nested_chain
unfolding definitions_open
nested_chain_holds = refl

two_rounds_holds : Holds two_rounds
unfolding definitions_open
two_rounds_holds = refl

three_arguments_holds : Holds three_arguments
unfolding definitions_open
three_arguments_holds = refl

two_digits_holds : Holds two_digits
unfolding definitions_open
two_digits_holds = refl

empty_lists_holds : Holds empty_lists
unfolding definitions_open
empty_lists_holds = refl

conditions_64_holds : Holds conditions_64
unfolding definitions_open
conditions_64_holds = refl

condition_65_holds : Holds condition_65
unfolding definitions_open
condition_65_holds = refl

section_written_holds : Holds section_written
unfolding definitions_open
section_written_holds = refl

section_past_holds : Holds section_past
unfolding definitions_open
section_past_holds = refl

short_first_holds : Holds short_first
unfolding definitions_open
short_first_holds = refl

card_first_holds : Holds card_first
unfolding definitions_open
card_first_holds = refl

zeros_after_holds : Holds zeros_after
unfolding definitions_open
zeros_after_holds = refl

table_written_holds : Holds table_written
unfolding definitions_open
table_written_holds = refl

table_short_holds : Holds table_short
unfolding definitions_open
table_short_holds = refl

atoms_first_holds : Holds atoms_first
unfolding definitions_open
atoms_first_holds = refl

list_of_9_holds : Holds list_of_9
unfolding definitions_open
list_of_9_holds = refl

two_open_holds : Holds two_open
unfolding definitions_open
two_open_holds = refl

after_closed_holds : Holds after_closed
unfolding definitions_open
after_closed_holds = refl

given_refused_holds : Holds given_refused
unfolding definitions_open
given_refused_holds = refl

state_first_holds : Holds state_first
unfolding definitions_open
state_first_holds = refl

no_room_holds : Holds no_room
unfolding definitions_open
no_room_holds = refl

in_state_order_holds : Holds in_state_order
unfolding definitions_open
in_state_order_holds = refl

nothing_comes_holds : Holds nothing_comes
unfolding definitions_open
nothing_comes_holds = refl

both_asked_holds : Holds both_asked
unfolding definitions_open
both_asked_holds = refl

malformed_asked_holds : Holds malformed_asked
unfolding definitions_open
malformed_asked_holds = refl

asking_refused_holds : Holds asking_refused
unfolding definitions_open
asking_refused_holds = refl

no_room_asked_holds : Holds no_room_asked
unfolding definitions_open
no_room_asked_holds = refl

still_so_holds : Holds still_so
unfolding definitions_open
still_so_holds = refl

coming_differs_holds : Holds coming_differs
unfolding definitions_open
coming_differs_holds = refl

going_differs_holds : Holds going_differs
unfolding definitions_open
going_differs_holds = refl

filler_differs_holds : Holds filler_differs
unfolding definitions_open
filler_differs_holds = refl

order_differs_holds : Holds order_differs
unfolding definitions_open
order_differs_holds = refl

row_repeated_holds : Holds row_repeated
unfolding definitions_open
row_repeated_holds = refl

rows_missing_holds : Holds rows_missing
unfolding definitions_open
rows_missing_holds = refl

checks_first_holds : Holds checks_first
unfolding definitions_open
checks_first_holds = refl

room_first_holds : Holds room_first
unfolding definitions_open
room_first_holds = refl

committed_and_asked_holds : Holds committed_and_asked
unfolding definitions_open
committed_and_asked_holds = refl

rescued_switch_holds : Holds rescued_switch
unfolding definitions_open
rescued_switch_holds = refl

member_left_out_holds : Holds member_left_out
unfolding definitions_open
member_left_out_holds = refl

no_total_rescued_holds : Holds no_total_rescued
unfolding definitions_open
no_total_rescued_holds = refl

first_contained_holds : Holds first_contained
unfolding definitions_open
first_contained_holds = refl

own_list_alone_holds : Holds own_list_alone
unfolding definitions_open
own_list_alone_holds = refl

rescued_twice_holds : Holds rescued_twice
unfolding definitions_open
rescued_twice_holds = refl

rule_emptied_holds : Holds rule_emptied
unfolding definitions_open
rule_emptied_holds = refl

start_emptied_holds : Holds start_emptied
unfolding definitions_open
start_emptied_holds = refl

finish_emptied_holds : Holds finish_emptied
unfolding definitions_open
finish_emptied_holds = refl

no_property_left_holds : Holds no_property_left
unfolding definitions_open
no_property_left_holds = refl

no_member_left_holds : Holds no_member_left
unfolding definitions_open
no_member_left_holds = refl

rescue_wide_holds : Holds rescue_wide
unfolding definitions_open
rescue_wide_holds = refl

-- each entry of a list holds
infixr 5 ◌and◌
data AllHold : List Entry → Type 0 where
  none : AllHold []
  ◌and◌ : {e : Entry} {entries : List Entry} → Holds e → AllHold entries → AllHold (e ∷ entries)

at_each : {entries : List Entry} → AllHold entries → (e : Entry) → Memᴰ e entries → Holds e
at_each none e m = absurd (Memᴰ.not-nil m)
at_each (first and later) e m =
    ⊎_elim (λ same. ap (λ (e : Entry). answer e.question) same ∙ first ∙ sym (ap (λ (e : Entry). e.expected) same))
    (λ k. at_each later e k)
    (Memᴰ.cases_cons m)

every_entry : AllHold table
unfolding table
every_entry =
    bench_card_holds
    and presses_refused_holds
    and presses_made_holds
    and swallowed_add_holds
    and mixed_space_holds
    and conditions_56_holds
    and wide_space_holds
    and no_bytes_holds
    and byte_more_holds
    and objects_65_holds
    and objects_64_holds
    and roles_1_holds
    and roles_7_holds
    and two_starts_holds
    and nested_chain_holds
    and two_rounds_holds
    and three_arguments_holds
    and two_digits_holds
    and empty_lists_holds
    and conditions_64_holds
    and condition_65_holds
    and section_written_holds
    and section_past_holds
    and short_first_holds
    and card_first_holds
    and zeros_after_holds
    and table_written_holds
    and table_short_holds
    and atoms_first_holds
    and list_of_9_holds
    and two_open_holds
    and after_closed_holds
    and given_refused_holds
    and state_first_holds
    and no_room_holds
    and in_state_order_holds
    and nothing_comes_holds
    and both_asked_holds
    and malformed_asked_holds
    and asking_refused_holds
    and no_room_asked_holds
    and still_so_holds
    and coming_differs_holds
    and going_differs_holds
    and filler_differs_holds
    and order_differs_holds
    and row_repeated_holds
    and rows_missing_holds
    and checks_first_holds
    and room_first_holds
    and committed_and_asked_holds
    and rescued_switch_holds
    and member_left_out_holds
    and no_total_rescued_holds
    and first_contained_holds
    and own_list_alone_holds
    and rescued_twice_holds
    and rule_emptied_holds
    and start_emptied_holds
    and finish_emptied_holds
    and no_property_left_holds
    and no_member_left_holds
    and rescue_wide_holds
    and none

-- every entry of the table holds
pub vectors_hold : (e : Entry) → Memᴰ e table → Holds e
vectors_hold e m = at_each every_entry e m
