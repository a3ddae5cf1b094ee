-- What lies under the lock of a shard may be read by several threads at once: shown part by part, since a search from above runs out of steps.
use denote.RattleType.{RattleType}
use denote.Struct.Declared as declared
use denote.Param.Send.{AllSync, IsSend, IsSync, recorded_sync, sendable, struct_sync}
use Rattle.std.proofs.Crossing.{crosses}
use Rattle.std.proofs.MapsCrossing.{crosses as maps_cross}
use Rattle.std.proofs.MapsCrossingOver.{crosses as sets_cross}
use Rattle.std.proofs.sync.RwLock.TheSendSync as lock
use Rattle.atomic_table.proofs.perch.Perch.TheSendSync as perch
use Rattle.tuples.specs.contracts.entry.Entry as Entry
use Rattle.tuples.specs.contracts.entry.WriteId as WriteId
use Rattle.tuples.specs.contracts.tuple.Tuple as Tuple
use Rattle.device.specs.declared.device.Device as Device
use Rattle.away.specs.contracts.away.Away as Away
use Rattle.away.specs.contracts.away.AwayDevice.TheImpl as away
use Rattle.records.specs.contracts.identity.Identity as Identity
use Rattle.journal.specs.contracts.journal.Journal as Journal
use Rattle.versions.specs.contracts.versions.Versions as Versions
use Rattle.holds.specs.contracts.by_id.ById as ById
use Rattle.holds.specs.contracts.holds.Holds as Holds
use Rattle.replay.specs.contracts.memory.Memory as Memory
use Rattle.ledger.specs.contracts.ledger.Ledger as Ledger
use Rattle.shard.specs.contracts.staged_ids.StagedIds as StagedIds
use Rattle.shard.specs.contracts.shard.Shard as Shard
use Rattle.coordinator.specs.contracts.coordinator.Coordinator as Coordinator
use Rattle.calls.specs.contracts.node.Node as Node
use Rattle.published.specs.contracts.shared.SharedPass as SharedPass
use Rattle.published.proofs.Crosses.{shared_sync}
use Rattle.sides.specs.declared.room.Room as Room
use Rattle.sides.specs.contracts.shard_side.ShardSide as ShardSide
use Rattle.flights.specs.contracts.berth.Berth as Berth
use Rattle.flights.specs.contracts.landings.Landings as Landings
use Rattle.flights.specs.contracts.shard_cell.ShardCell as ShardCell
use Rattle.flights.specs.contracts.shard_place.ShardPlace as ShardPlace
use Rattle.locked.proofs.Crosses.{place_send}

-- ---- what no device is in

pub entry : IsSync Entry.the_row
entry = search (sendable, crosses, maps_cross, sets_cross) depth 400 fits 50000

write_id : IsSync WriteId.the_row
write_id = search (sendable, crosses, maps_cross, sets_cross) depth 400 fits 50000

pub tuple : IsSync Tuple.the_row
tuple = search (sendable, crosses, maps_cross, sets_cross) depth 400 fits 50000

identity : IsSync Identity.the_row
identity = search (sendable, crosses, maps_cross, sets_cross) depth 400 fits 50000

by_id : IsSync ById.the_row
by_id = let a = entry in let b = write_id in search (sendable, crosses, maps_cross, sets_cross) depth 400 fits 50000

holds : IsSync Holds.the_row
holds = let a = by_id in let b = tuple in search (sendable, crosses, maps_cross, sets_cross) depth 400 fits 50000

versions : IsSync Versions.the_row
versions = search (sendable, crosses, maps_cross, sets_cross) depth 400 fits 50000

memory : IsSync Memory.the_row
memory = let a = holds in let b = versions in search (sendable, crosses, maps_cross, sets_cross) depth 400 fits 50000

staged : IsSync StagedIds.the_row
staged = search (sendable, crosses, maps_cross, sets_cross) depth 400 fits 50000

ledger : IsSync Ledger.the_row
ledger = search (sendable, crosses, maps_cross, sets_cross) depth 400 fits 50000

pass : IsSync (SharedPass.the_row Entry.the_row)
pass = shared_sync Entry.the_row entry

-- ---- nodes

module _ (D : RattleType) (g : Device.Ghosts D.Denot) (d : IsSync D) where
  journal_sync : IsSync (Journal.the_row D g)
  journal_sync = search (sendable, crosses, maps_cross, sets_cross) depth 400 fits 50000

  shard_sync : IsSync (Shard.the_row D g)
  shard_sync = let a = journal_sync in let b = memory in let e = staged in let f = identity in search (sendable, crosses, maps_cross, sets_cross) depth 400 fits 50000

  coordinator_sync : IsSync (Coordinator.the_row D g)
  coordinator_sync = let a = journal_sync in let b = ledger in let e = identity in search (sendable, crosses, maps_cross, sets_cross) depth 400 fits 50000

  node_sync : IsSync (Node.the_row D g)
  node_sync = let a = shard_sync in let b = coordinator_sync in let e = identity in search (sendable, crosses, maps_cross, sets_cross) depth 400 fits 50000

-- ---- what lies under a lock

pub side_sync : (D B : RattleType) (g : Device.Ghosts D.Denot) (h : Room.Ghosts B.Denot) → IsSync D → IsSync B → IsSync (ShardSide.the_row D B g h)
side_sync D B g h d b = let n = node_sync D g d in let e = pass in let f = identity in search (sendable, crosses, maps_cross, sets_cross) depth 400 fits 50000

away_sync : (D : RattleType) → IsSync D → IsSync (Away.the_row D)
away_sync D d = search (sendable, crosses, maps_cross, sets_cross) depth 400 fits 50000

berth_sync : (X Y : RattleType) → IsSync X → IsSync Y → IsSync (Berth.the_row X Y)
berth_sync X Y x y = search (sendable, crosses, maps_cross, sets_cross) depth 400 fits 50000

pub place_sync : (D B : RattleType) (g : Device.Ghosts D.Denot) (h : Room.Ghosts B.Denot) → IsSync D → IsSync B → IsSync (ShardPlace.the_row D B g h)
place_sync D B g h d b =
    let here = side_sync D B g h d b in
    let out = side_sync (Away.the_row D) B (away.ghosts D g away.no_dict away.no_dict) h (away_sync D d) b in
    let berth = berth_sync _ _ here out in
    search (sendable, crosses, maps_cross, sets_cross, perch.the_sync) depth 400 fits 50000

landings : IsSync (Landings.the_field).row
landings = search (sendable, crosses, maps_cross, sets_cross) depth 400 fits 50000

pub cell_sync : (D B : RattleType) (g : Device.Ghosts D.Denot) (h : Room.Ghosts B.Denot) → IsSend D → IsSync D → IsSend B → IsSync B → IsSync (ShardCell.the_row D B g h)
cell_sync D B g h d e b c =
    let all : AllSync (declared.fields (ShardCell.the_type D B g h)) = (lock.the_field_sync (ShardPlace.the_row D B g h) (place_send D B g h d b) (place_sync D B g h e c), (landings, tt)) in
    recorded_sync _ _ _ (ShardCell.the_type D B g h).to_one (struct_sync (declared.shape (ShardCell.the_type D B g h)) all)
