-- What is left of the space is listed behind it, if it is.
use Rattle.std.proofs.Common.{arith, rules}
use Rattle.prepared.specs.Found.{analysis_at}
use Rattle.prepared.proofs.Finding.{number_few}
use Rattle.prepared.proofs.Rescuing.{rescuable, rescue_unlisted, few_left, listable_rescue, room_rescue, rescue_listed}
use Rattle.prepared.proofs.write_rescue.Goals as goal

pub offset_bounds-prepared-number : goal.offset_bounds-prepared-number
offset_bounds-prepared-number c = omega (arith, number_few c.requires.section_ready.found.of)

pub bounds-prepared-number : goal.bounds-prepared-number
bounds-prepared-number c = number_few c.requires.section_ready.found.of

pub rescue-requires : goal.rescue-requires
rescue-requires c = record {
  task = c.requires.section_ready.task;
  analysis = analysis_at c.requires.section_ready.task c.args.number;
  given = rescuable c.requires.section_ready.found c.requires.section_ready.room;
}

pub returns-in_default : goal.returns-in_default
returns-in_default c t h =
    rescue_unlisted h.of (c.in_default.ensures t (analysis_at t c.args.number) (rescuable h c.requires.section_ready.room)) _

pub shared_ref_as_front-write_space : goal.shared_ref_as_front-write_space
shared_ref_as_front-write_space c =
    let ready = c.requires.section_ready in
    omega (arith, few_left ready.found.of (c.in-Some.ensures _ _ (rescuable ready.found ready.room)))

pub write_space-requires-clause-listable : goal.write_space-requires-clause-listable
write_space-requires-clause-listable c =
    let ready = c.requires.section_ready in
    listable_rescue ready.found.of (c.in-Some.ensures _ _ (rescuable ready.found ready.room))

pub write_space-requires-clause-room : goal.write_space-requires-clause-room
write_space-requires-clause-room c =
    let ready = c.requires.section_ready in
    room_rescue ready.found.of (c.in-Some.ensures _ _ (rescuable ready.found ready.room))
    (search rules) _ c.requires.space_bytes_in_bounds

pub returns : goal.returns
returns c t h =
    rescue_listed h.of (c.in-Some.ensures t (analysis_at t c.args.number) (rescuable h c.requires.section_ready.room))
    c.write_space.ensures
