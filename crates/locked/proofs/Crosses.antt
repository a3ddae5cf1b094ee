-- What lies under the lock of a node may go to another thread with its devices: shown part by part, since a search from above runs out of steps.
use denote.RattleType.{RattleType}
use denote.Struct.Declared as declared
use denote.Param.Send.{AllSend, IsSend, recorded_send, sendable, struct_send}
use Rattle.std.proofs.Crossing.{crosses}
use Rattle.std.proofs.MapsCrossing.{crosses as maps_cross}
use Rattle.std.proofs.MapsCrossingOver.{crosses as sets_cross}
use Rattle.std.proofs.sync.RwLock.TheSendSync as lock
use Rattle.atomic_table.proofs.perch.Perch.TheSendSync as perch
use Rattle.atomic_table.proofs.shared.Seat.TheSendSync as seat
use Rattle.tuples.specs.contracts.entry.Entry as Entry
use Rattle.tuples.specs.contracts.entry.WriteId as WriteId
use Rattle.tuples.specs.contracts.tuple.Tuple as Tuple
use Rattle.device.specs.declared.device.Device as Device
use Rattle.away.specs.contracts.away.Away as Away
use Rattle.away.specs.contracts.away.AwayDevice.TheImpl as away
use Rattle.records.specs.contracts.identity.Identity as Identity
use Rattle.journal.specs.contracts.journal.Journal as Journal
use Rattle.versions.specs.contracts.versions.Versions as Versions
use Rattle.holds.specs.contracts.by_id.ById as ById
use Rattle.holds.specs.contracts.holds.Holds as Holds
use Rattle.replay.specs.contracts.memory.Memory as Memory
use Rattle.ledger.specs.contracts.ledger.Ledger as Ledger
use Rattle.shard.specs.contracts.staged_ids.StagedIds as StagedIds
use Rattle.shard.specs.contracts.shard.Shard as Shard
use Rattle.coordinator.specs.contracts.coordinator.Coordinator as Coordinator
use Rattle.calls.specs.contracts.node.Node as Node
use Rattle.published.specs.contracts.shared.SharedPass as SharedPass
use Rattle.published.proofs.Crosses.{shared_send}
use Rattle.sides.specs.declared.room.Room as Room
use Rattle.sides.specs.contracts.shard_side.ShardSide as ShardSide
use Rattle.sides.specs.contracts.coordinator_side.CoordinatorSide as CoordinatorSide
use Rattle.flights.specs.contracts.berth.Berth as Berth
use Rattle.flights.specs.contracts.coordinator_place.CoordinatorPlace as CoordinatorPlace
use Rattle.flights.specs.contracts.landings.Landings as Landings
use Rattle.flights.specs.contracts.shard_cell.ShardCell as ShardCell
use Rattle.flights.specs.contracts.shard_place.ShardPlace as ShardPlace

-- ---- what no device is in

pub entry : IsSend Entry.the_row
entry = search (sendable, crosses, maps_cross, sets_cross) depth 400 fits 50000

write_id : IsSend WriteId.the_row
write_id = search (sendable, crosses, maps_cross, sets_cross) depth 400 fits 50000

pub tuple : IsSend Tuple.the_row
tuple = search (sendable, crosses, maps_cross, sets_cross) depth 400 fits 50000

identity : IsSend Identity.the_row
identity = search (sendable, crosses, maps_cross, sets_cross) depth 400 fits 50000

by_id : IsSend ById.the_row
by_id = let a = entry in let b = write_id in search (sendable, crosses, maps_cross, sets_cross) depth 400 fits 50000

holds : IsSend Holds.the_row
holds = let a = by_id in let b = tuple in search (sendable, crosses, maps_cross, sets_cross) depth 400 fits 50000

versions : IsSend Versions.the_row
versions = search (sendable, crosses, maps_cross, sets_cross) depth 400 fits 50000

memory : IsSend Memory.the_row
memory = let a = holds in let b = versions in search (sendable, crosses, maps_cross, sets_cross) depth 400 fits 50000

staged : IsSend StagedIds.the_row
staged = search (sendable, crosses, maps_cross, sets_cross) depth 400 fits 50000

ledger : IsSend Ledger.the_row
ledger = search (sendable, crosses, maps_cross, sets_cross) depth 400 fits 50000

pass : IsSend (SharedPass.the_row Entry.the_row)
pass = shared_send Entry.the_row entry

-- ---- nodes

module _ (D : RattleType) (g : Device.Ghosts D.Denot) (d : IsSend D) where
  journal_send : IsSend (Journal.the_row D g)
  journal_send = search (sendable, crosses, maps_cross, sets_cross) depth 400 fits 50000

  shard_send : IsSend (Shard.the_row D g)
  shard_send = let a = journal_send in let b = memory in let e = staged in let f = identity in search (sendable, crosses, maps_cross, sets_cross) depth 400 fits 50000

  coordinator_send : IsSend (Coordinator.the_row D g)
  coordinator_send = let a = journal_send in let b = ledger in let e = identity in search (sendable, crosses, maps_cross, sets_cross) depth 400 fits 50000

  node_send : IsSend (Node.the_row D g)
  node_send = let a = shard_send in let b = coordinator_send in let e = identity in search (sendable, crosses, maps_cross, sets_cross) depth 400 fits 50000

-- ---- what lies under a lock

pub side_send : (D B : RattleType) (g : Device.Ghosts D.Denot) (h : Room.Ghosts B.Denot) → IsSend D → IsSend B → IsSend (ShardSide.the_row D B g h)
side_send D B g h d b = let n = node_send D g d in let e = pass in let f = identity in search (sendable, crosses, maps_cross, sets_cross) depth 400 fits 50000

log_send : (D B : RattleType) (g : Device.Ghosts D.Denot) (h : Room.Ghosts B.Denot) → IsSend D → IsSend B → IsSend (CoordinatorSide.the_row D B g h)
log_send D B g h d b = let n = node_send D g d in let e = identity in search (sendable, crosses, maps_cross, sets_cross, seat.the_send) depth 400 fits 50000

away_send : (D : RattleType) → IsSend D → IsSend (Away.the_row D)
away_send D d = search (sendable, crosses, maps_cross, sets_cross) depth 400 fits 50000

berth_send : (X Y : RattleType) → IsSend X → IsSend Y → IsSend (Berth.the_row X Y)
berth_send X Y x y = search (sendable, crosses, maps_cross, sets_cross) depth 400 fits 50000

pub place_send : (D B : RattleType) (g : Device.Ghosts D.Denot) (h : Room.Ghosts B.Denot) → IsSend D → IsSend B → IsSend (ShardPlace.the_row D B g h)
place_send D B g h d b =
    let here = side_send D B g h d b in
    let out = side_send (Away.the_row D) B (away.ghosts D g away.no_dict away.no_dict) h (away_send D d) b in
    let berth = berth_send _ _ here out in
    search (sendable, crosses, maps_cross, sets_cross, perch.the_send) depth 400 fits 50000

landings : IsSend (Landings.the_field).row
landings = search (sendable, crosses, maps_cross, sets_cross) depth 400 fits 50000

pub cell_send : (D B : RattleType) (g : Device.Ghosts D.Denot) (h : Room.Ghosts B.Denot) → IsSend D → IsSend B → IsSend (ShardCell.the_row D B g h)
cell_send D B g h d b =
    let all : AllSend (declared.fields (ShardCell.the_type D B g h)) = (lock.the_field_send (ShardPlace.the_row D B g h) (place_send D B g h d b), (landings, tt)) in
    recorded_send _ _ _ (ShardCell.the_type D B g h).to_one (struct_send (declared.shape (ShardCell.the_type D B g h)) all)

pub log_place_send : (D B : RattleType) (g : Device.Ghosts D.Denot) (h : Room.Ghosts B.Denot) → IsSend D → IsSend B → IsSend (CoordinatorPlace.the_row D B g h)
log_place_send D B g h d b =
    let here = log_send D B g h d b in
    let out = log_send (Away.the_row D) B (away.ghosts D g away.no_dict away.no_dict) h (away_send D d) b in
    let berth = berth_send _ _ here out in
    search (sendable, crosses, maps_cross, sets_cross, seat.the_send) depth 400 fits 50000
