use denote.Param.Send.{given_send, given_sync, sendable}
use Rattle.std.proofs.Crossing.{crosses}
use Rattle.std.proofs.MapsCrossing.{crosses as maps_cross}
use Rattle.std.proofs.MapsCrossingOver.{crosses as sets_cross}
use Rattle.atomic_table.proofs.shared.Seat.TheSendSync as seat
use Rattle.atomic_table.proofs.shared.Shared.TheSendSync as shared
use Rattle.locked.proofs.Shared.{caller_send, lease_send, lease_sync, store_sync}
use Rattle.threads_run.proofs.two_callers.all_look.Goals as goal

pub join-seen-requires-send-F : goal.join-seen-requires-send-F
join-seen-requires-send-F g c κs within =
    let device = c.type_bounds.send-D in
    let device_read = given_sync 0 g.row.D c.type_bounds.sync-D in
    let room = c.type_bounds.send-B in
    let room_read = given_sync 1 g.row.B c.type_bounds.sync-B in
    let gate = given_sync 2 g.row.G c.type_bounds.sync-G in
    let runtime = given_sync 3 g.row.R c.type_bounds.sync-R in
    search (store_sync, caller_send, lease_send, lease_sync, shared.the_send, shared.the_sync, seat.the_send, given_send, given_sync, sendable, crosses, maps_cross, sets_cross) depth 400 fits 50000
