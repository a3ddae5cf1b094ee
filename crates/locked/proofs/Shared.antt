-- A store may be used by several threads at once: shown part by part, since a search from above runs out of steps.
use denote.RattleType.{RattleType}
use denote.Enum.Declared as chosen
use denote.Struct.Declared as declared
use denote.Param.Send.{AllSync, EachSend, EachSync, IsSend, IsSync, enum_send, enum_sync, recorded_send, recorded_sync, sendable, struct_sync}
use Rattle.std.proofs.Crossing.{crosses}
use Rattle.std.proofs.MapsCrossing.{crosses as maps_cross}
use Rattle.std.proofs.MapsCrossingOver.{crosses as sets_cross}
use Rattle.std.proofs.Crossing.{send as heap_send, frees}
use Rattle.std_heap.specs.contracts.Global as Heap
use Rattle.std_heap.specs.contracts.GlobalAllocator.TheImpl.{ghosts}
use Rattle.std_collections.proofs.ListMemory.Crosses.{Nodes-send, Nodes-sync}
use Rattle.std_collections.specs.contracts.linked_list.nodes.Nodes as Nodes
use Rattle.atomic_table.proofs.send_lease.SendLease.TheSendSync as lease
use Rattle.atomic_table.proofs.shared.Seat.TheSendSync as seat
use Rattle.atomic_table.proofs.shared.Shared.TheSendSync as shared
use Rattle.atomic_table.specs.contracts.send_lease.SendLease as SendLease
use Rattle.tuples.specs.contracts.entry.Entry as Entry
use Rattle.tuples.specs.contracts.tuple.Tuple as Tuple
use Rattle.tuples.specs.contracts.change.Change as Change
use Rattle.records.specs.contracts.mark.Mark as Mark
use Rattle.records.specs.contracts.record.Record as Record
use Rattle.device.specs.declared.device.Device as Device
use Rattle.published.specs.contracts.words.Published as Published
use Rattle.sides.specs.declared.room.Room as Room
use Rattle.sides.specs.contracts.attempts.Attempt as Attempt
use Rattle.sides.specs.contracts.launch.Launch as Launch
use Rattle.sides.specs.contracts.lists.Lists as Lists
use Rattle.flights.specs.contracts.launch.LaunchLog as LaunchLog
use Rattle.flights.specs.contracts.coordinator_cell.CoordinatorCell as CoordinatorCell
use Rattle.sides.specs.contracts.caller.Caller as Caller
use Rattle.locked.specs.contracts.store.Store as Store
use Rattle.locked.proofs.Crosses.{entry as entry_send, log_place_send, tuple as tuple_send}
use Rattle.locked.proofs.Looked.{cell_sync, entry as entry_sync, tuple as tuple_sync}

-- at the heap, since a search finds no allocator's ghost members in a row
list_send : (T : RattleType) → IsSend T → IsSend (Nodes.the_row T Heap.the_row ghosts)
list_send T s = Nodes-send T Heap.the_row ghosts s heap_send frees

list_sync : (T : RattleType) → IsSync T → IsSync (Nodes.the_row T Heap.the_row ghosts)
list_sync T s = Nodes-sync T Heap.the_row ghosts s

pub lease_sync : (T : RattleType) → IsSync (SendLease.the_row T Heap.the_row ghosts)
lease_sync T = lease.the_sync T Heap.the_row ghosts heap_send frees

pub lease_send : (T : RattleType) → IsSend (SendLease.the_row T Heap.the_row ghosts)
lease_send T = lease.the_send T Heap.the_row ghosts heap_send frees

change_send : IsSend Change.the_row
change_send = let a = tuple_send in search (sendable, crosses, maps_cross, sets_cross) depth 400 fits 50000

change_sync : IsSync Change.the_row
change_sync = let a = tuple_sync in search (sendable, crosses, maps_cross, sets_cross) depth 400 fits 50000

mark_send : IsSend Mark.the_row
mark_send = let a = change_send in search (sendable, crosses, maps_cross, sets_cross) depth 400 fits 50000

mark_sync : IsSync Mark.the_row
mark_sync = let a = change_sync in search (sendable, crosses, maps_cross, sets_cross) depth 400 fits 50000

record_send : IsSend Record.the_row
record_send =
    let e = entry_send in
    let m = mark_send in
    let each : EachSend (chosen.variants Record.the_type) = (
      (search (sendable, crosses, maps_cross, sets_cross) depth 400 fits 50000, tt),
      (
        (search (sendable, crosses, maps_cross, sets_cross) depth 400 fits 50000, (search (sendable, crosses, maps_cross, sets_cross) depth 400 fits 50000, tt)),
        (
          (search (sendable, crosses, maps_cross, sets_cross) depth 400 fits 50000, tt),
          (
            (search (sendable, crosses, maps_cross, sets_cross) depth 400 fits 50000, (search (sendable, crosses, maps_cross, sets_cross) depth 400 fits 50000, (search (sendable, crosses, maps_cross, sets_cross) depth 400 fits 50000, (search (sendable, crosses, maps_cross, sets_cross) depth 400 fits 50000, tt)))),
            (
              (search (sendable, crosses, maps_cross, sets_cross) depth 400 fits 50000, (search (sendable, crosses, maps_cross, sets_cross) depth 400 fits 50000, tt)),
              (
                (search (sendable, crosses, maps_cross, sets_cross) depth 400 fits 50000, tt),
                ((search (sendable, crosses, maps_cross, sets_cross) depth 400 fits 50000, tt), tt),
              ),
            ),
          ),
        ),
      ),
    ) in
    recorded_send _ _ _ (Record.the_type).to_one (enum_send (chosen.shape Record.the_type) each)

record_sync : IsSync Record.the_row
record_sync =
    let e = entry_sync in
    let m = mark_sync in
    let each : EachSync (chosen.variants Record.the_type) = (
      (search (sendable, crosses, maps_cross, sets_cross) depth 400 fits 50000, tt),
      (
        (search (sendable, crosses, maps_cross, sets_cross) depth 400 fits 50000, (search (sendable, crosses, maps_cross, sets_cross) depth 400 fits 50000, tt)),
        (
          (search (sendable, crosses, maps_cross, sets_cross) depth 400 fits 50000, tt),
          (
            (search (sendable, crosses, maps_cross, sets_cross) depth 400 fits 50000, (search (sendable, crosses, maps_cross, sets_cross) depth 400 fits 50000, (search (sendable, crosses, maps_cross, sets_cross) depth 400 fits 50000, (search (sendable, crosses, maps_cross, sets_cross) depth 400 fits 50000, tt)))),
            (
              (search (sendable, crosses, maps_cross, sets_cross) depth 400 fits 50000, (search (sendable, crosses, maps_cross, sets_cross) depth 400 fits 50000, tt)),
              (
                (search (sendable, crosses, maps_cross, sets_cross) depth 400 fits 50000, tt),
                ((search (sendable, crosses, maps_cross, sets_cross) depth 400 fits 50000, tt), tt),
              ),
            ),
          ),
        ),
      ),
    ) in
    recorded_sync _ _ _ (Record.the_type).to_one (enum_sync (chosen.shape Record.the_type) each)

launch_send : IsSend Launch.the_row
launch_send = let a = record_send in search (list_send, sendable, crosses, maps_cross, sets_cross) depth 400 fits 50000

launch_sync : IsSync Launch.the_row
launch_sync = let a = record_sync in let b = record_send in search (list_sync, sendable, crosses, maps_cross, sets_cross) depth 400 fits 50000

attempt_send : IsSend Attempt.the_row
attempt_send = let a = entry_send in search (sendable, crosses, maps_cross, sets_cross) depth 400 fits 50000

attempt_sync : IsSync Attempt.the_row
attempt_sync = let a = entry_sync in search (sendable, crosses, maps_cross, sets_cross) depth 400 fits 50000

launch_log_send : (B : RattleType) (h : Room.Ghosts B.Denot) → IsSend B → IsSend (LaunchLog.the_row B h)
launch_log_send B h b = let a = launch_send in search (sendable, crosses, maps_cross, sets_cross, seat.the_send) depth 400 fits 50000

lists_sync : (B : RattleType) (h : Room.Ghosts B.Denot) → IsSync B → IsSync (Lists.the_row B h)
lists_sync B h c =
    let es = entry_send in
    let ey = entry_sync in
    let fs = launch_send in
    let fy = launch_sync in
    let ts = attempt_send in
    let ty = attempt_sync in
    search (lease_send, lease_sync, shared.the_send, shared.the_sync, sendable, crosses) depth 400 fits 50000

pub store_sync : (D B G : RattleType) (g : Device.Ghosts D.Denot) (h : Room.Ghosts B.Denot) → IsSend D → IsSync D → IsSend B → IsSync B → IsSync G → IsSync (Store.the_row D B G g h)
store_sync D B G g h d e b c y =
    let n = log_place_send D B g h d b in
    let p = cell_sync D B g h d e b c in
    let l = launch_log_send B h b in
    let w = lists_sync B h c in
    let all : AllSync (declared.fields (Store.the_type D B G g h)) = (y, (search (lease_send, lease_sync, shared.the_send, shared.the_sync, sendable, crosses) depth 400 fits 50000, (search (lease_send, lease_sync, shared.the_send, shared.the_sync, sendable, crosses) depth 400 fits 50000, (search (lease_send, lease_sync, shared.the_send, shared.the_sync, sendable, crosses) depth 400 fits 50000, (search (lease_send, lease_sync, shared.the_send, shared.the_sync, sendable, crosses) depth 400 fits 50000, (search (lease_send, lease_sync, shared.the_send, shared.the_sync, sendable, crosses) depth 400 fits 50000, (search (lease_send, lease_sync, shared.the_send, shared.the_sync, sendable, crosses) depth 400 fits 50000, (search (lease_send, lease_sync, shared.the_send, shared.the_sync, sendable, crosses) depth 400 fits 50000, (search (lease_send, lease_sync, shared.the_send, shared.the_sync, sendable, crosses) depth 400 fits 50000, tt))))))))) in
    recorded_sync _ _ _ (Store.the_type D B G g h).to_one (struct_sync (declared.shape (Store.the_type D B G g h)) all)

pub caller_send : (B : RattleType) (h : Room.Ghosts B.Denot) → IsSend B → IsSend (Caller.the_row B h)
caller_send B h b = search (sendable, crosses, maps_cross, sets_cross, seat.the_send) depth 400 fits 50000
