use Rattle.masks.specs.Sets.{members_of}
use Rattle.text.proofs.Writing.{first_fits}
use Rattle.text.proofs.LineTexts.{colon_first, numbers_fit, end_inside, last_written}
use Rattle.text.proofs.rows.write_last_members.Goals as goal

pub write_mark-end-requires : goal.write_mark-end-requires
write_mark-end-requires c = first_fits (colon_first (members_of c.args.mask)) c.requires

pub write_members-end-requires : goal.write_members-end-requires
write_members-end-requires c = numbers_fit (members_of c.args.mask) c.requires c.write_mark-end.ensures

pub bounds-out-end : goal.bounds-out-end
bounds-out-end c = end_inside (members_of c.args.mask) c.requires c.write_mark-end.ensures c.write_members-end.ensures

pub returns : goal.returns
returns c = last_written (members_of c.args.mask) c.requires c.write_mark-end.ensures c.write_members-end.ensures
