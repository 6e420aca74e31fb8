-- The state's numbers are loaded, and the next state's numbers made, which are stored if they are not too many.
use Rattle.std.proofs.Common.{arith}
use Rattle.strips.proofs.Applying.{state_formed, next_ready, next_stored, next_within, next_replaced}
use Rattle.strips.proofs.store_successor.Goals as goal

pub load-requires : goal.load-requires
load-requires c =
    let formed = state_formed c.requires.state in
    let few = formed.count_fits in
    let room = formed.room in
    (omega arith, omega arith)

pub next_numbers-next-requires : goal.next_numbers-next-requires
next_numbers-next-requires c = next_ready c.requires c.load.ensures

pub slice_bounds-store_next-end : goal.slice_bounds-store_next-end
slice_bounds-store_next-end c = next_within c.requires c.load.ensures c.next_numbers-next.ensures

pub store_next-requires : goal.store_next-requires
store_next-requires c = (state_formed c.requires.state).room

pub returns : goal.returns
returns c = next_replaced c.requires (next_stored c.requires c.load.ensures c.next_numbers-next.ensures) c.store_next.ensures
