use denote.Param.Send.{given_send, given_sync, sendable}
use Rattle.std.proofs.Crossing.{crosses}
use Rattle.std.proofs.MapsCrossing.{crosses as maps_cross}
use Rattle.std.proofs.MapsCrossingOver.{crosses as sets_cross}
use Rattle.atomic_table.proofs.shared.Seat.TheSendSync as seat
use Rattle.atomic_table.proofs.shared.Shared.TheSendSync as shared
use Rattle.locked.proofs.Shared.{caller_send, lease_send, lease_sync, store_sync}
use Rattle.server.proofs.Crossing.{fork_send, session_send}
use Rattle.server.proofs.running.fn.serve_at.scope.Goals as goal

pub spawn-kept-requires-send-F : goal.spawn-kept-requires-send-F
spawn-kept-requires-send-F g c κs within =
    let bounds = c.requires.1.1.1.1 in
    let device = bounds.0 in
    let device_read = bounds.1 in
    let room = bounds.2 in
    let room_read = bounds.3 in
    let gate = bounds.4 in
    let runtime = bounds.5 in
    search (store_sync, caller_send, lease_send, lease_sync, shared.the_send, shared.the_sync, seat.the_send, given_send, given_sync, sendable, crosses, maps_cross, sets_cross) depth 400 fits 50000

pub serve_on-served-requires-send-F : goal.serve_on-served-requires-send-F
serve_on-served-requires-send-F g c κs within =
    let bounds = c.requires.1.1.1.1 in
    let device = bounds.0 in
    let device_read = bounds.1 in
    let room = bounds.2 in
    let room_read = bounds.3 in
    let gate = bounds.4 in
    let runtime = bounds.5 in
    search (fork_send, sendable) depth 400 fits 50000

pub serve_on-served-requires-send-F-Session : goal.serve_on-served-requires-send-F-Session
serve_on-served-requires-send-F-Session g c κs within =
    let bounds = c.requires.1.1.1.1 in
    let device = bounds.0 in
    let device_read = bounds.1 in
    let room = bounds.2 in
    let room_read = bounds.3 in
    let gate = bounds.4 in
    let runtime = bounds.5 in
    search (session_send, sendable) depth 400 fits 50000
