-- A node under its lock whose devices are elsewhere, and what it is once they are back.
use Rattle.std.specs.Prelude.{◌≡◌, ◌⊎◌, ◌++◌, ℕ, false, List, take, Option, Some, None, Ok}
use mathlib.Core.List.{IsPrefix}
use Rattle.refusal.specs.declared.refusal.Refusal.{Refusal}
use Rattle.tuples.specs.declared.entry.Entry.{Entry}
use Rattle.records.specs.declared.record.Record.{Record}
use Rattle.records.specs.Replays.{shard_state}
use Rattle.device.specs.Device.{State, left}
use Rattle.away.specs.declared.away.Away.{Away}
use Rattle.journal.specs.Records.{Finds, View}
use Rattle.decisions.specs.Coordinators.{CoordinatorView}
use Rattle.shard.specs.Shards.{IsUp, ShardView}
use Rattle.calls.specs.Lending.{NodeLands, NodeLends, NodeMayLand}
use Rattle.calls.specs.Opening.{refusal_of}
use Rattle.calls.specs.Views.{NodeView, coordinator, refused, shard}
use Rattle.calls.specs.declared.reply.Reply.{Reply}
use Rattle.calls.specs.declared.reply.Reply.TheVariants.{Coordinator as from_coordinator}
use Rattle.calls.specs.declared.reply.CoordinatorReply.TheVariants as told
use Rattle.calls.specs.declared.lending.Flying.{Flying}
use Rattle.calls.specs.declared.lending.Flying.TheVariants.{Coordinator}
use Rattle.ties.specs.ShardTies.{AreRowsOf, RowsAnywhere}

-- the node is a shard that is up
abbrev pub IsUpIn : {D : Type 0} → Option (NodeView D) → Type 0
IsUpIn (Some (shard v)) = v.is_down ≡ false
IsUpIn (Some (coordinator v)) = ⊥
IsUpIn (Some (refused e a b)) = ⊥
IsUpIn None = ⊥

-- what a shard had staged is staged before anything else, and what is durable is as it was
abbrev pub StagesMoreIn : {D : Type 0} → Option (NodeView D) → Option (NodeView D) → Type 0
StagesMoreIn (Some (shard old)) (Some (shard new)) = (new.durable ≡ old.durable) × IsPrefix old.staged new.staged
StagesMoreIn (Some (shard old)) new = ⊥
StagesMoreIn old new = Unit {0}

-- the node is a coordinator that is up
abbrev pub IsUpThere : {D : Type 0} → Option (NodeView D) → Type 0
IsUpThere (Some (coordinator v)) = v.is_down ≡ false
IsUpThere (Some (shard v)) = ⊥
IsUpThere (Some (refused e a b)) = ⊥
IsUpThere None = ⊥

-- the same of a coordinator, which is up if it was
abbrev pub LogStagesMoreIn : {D : Type 0} → Option (NodeView D) → Option (NodeView D) → Type 0
LogStagesMoreIn (Some (coordinator old)) (Some (coordinator new)) = (new.durable ≡ old.durable) × IsPrefix old.staged new.staged × (new.is_down ≡ old.is_down)
LogStagesMoreIn (Some (coordinator old)) new = ⊥
LogStagesMoreIn old new = Unit {0}

-- the refusal of the node's opening, if that was refused
abbrev pub refusal_in : {D : Type 0} → Option (NodeView D) → Option Refusal
refusal_in (Some node) = refusal_of node
refusal_in None = None

-- it is told that a flush went well
abbrev pub IsFlushed : Reply → Type 0
IsFlushed (from_coordinator (told.Flush (Ok done))) = Unit {0}
IsFlushed reply = ⊥

-- that is told of a coordinator that is up
abbrev pub FlushTellsUp : {D : Type 0} → Option (NodeView D) → Reply → Type 0
FlushTellsUp node reply = IsFlushed reply → IsUpThere node

module _ {D : Type 0} (state : D → State) (honest : D → Type 0) where
  -- while the shard is up its honest devices have its records, whatever list these stand for
  pub record IsSoundShard (v : ShardView D) : Type 0 where
    pub running : v.is_down ≡ false → IsUp state honest v
    pub honest_a : honest v.a
    pub honest_b : honest v.b

  abbrev pub IsSoundIn : Option (NodeView D) → Type 0
  IsSoundIn (Some (shard v)) = IsSoundShard v
  IsSoundIn (Some (refused e a b)) = honest a × honest b
  IsSoundIn (Some (coordinator v)) = ⊥
  IsSoundIn None = ⊥

  -- the node is there, and was lent
  abbrev pub LendsIn : Option (NodeView D) → Option (NodeView (Away D)) → View D → Flying → Type 0
  LendsIn (Some old) (Some new) flight flying = NodeLends state honest old new flight flying
  LendsIn old new flight flying = ⊥

  -- the node is there, and this may be its flight
  abbrev pub MayLandIn : Option (NodeView (Away D)) → View D → Flying → Type 0
  MayLandIn (Some node) flown flying = NodeMayLand state honest node flown flying
  MayLandIn None flown flying = ⊥

  -- the node is there, and has its devices again
  abbrev pub LandsIn : Option (NodeView (Away D)) → View D → Flying → Option (NodeView D) → Type 0
  LandsIn (Some old) flown flying (Some new) = NodeLands state honest old flown flying new
  LandsIn old flown flying new = ⊥

  -- What a stop leaves of the devices that come back are the shard's rows of the list, and if all is up, those that are durable then.
  pub record LandsRows (shards s : ℕ) (flown : View D) (seen : List Entry) (low : ℕ) : Type 0 where
    pub kept : flown.is_down ≡ false → AreRowsOf shards s seen low (shard_state flown.durable)
    pub anywhere : RowsAnywhere state honest shards s flown.a flown.b seen low

  -- The coordinator that stayed is up. The devices that come back are honest, and a stop leaves of them what was durable as they left, with what flew or without.
  pub record ComesBack (v : CoordinatorView (Away D)) (flown : View D) (count : ℕ) : Type 0 where
    pub up : v.is_down ≡ false
    pub honest_a : honest flown.a
    pub honest_b : honest flown.b
    pub leaves : (rs : List Record) → Finds (left (state flown.a)) (left (state flown.b)) rs → (rs ≡ v.durable) ⊎ (rs ≡ v.durable ++ take count v.staged)

  abbrev pub ComesBackIn : Option (NodeView (Away D)) → View D → Flying → Type 0
  ComesBackIn (Some (coordinator v)) flown (Coordinator flying) = ComesBack v flown flying.sent.count
  ComesBackIn was flown flying = ⊥
