-- What a reply tells of the list of writes that a pass has seen.
use Rattle.std.specs.Prelude.{◌≡◌, ◌≤◌, ℕ, List, length, Option, Some, Ok}
use Rattle.tuples.specs.declared.entry.Entry.{Entry}
use Rattle.tuples.specs.Reads.{IsSelection}
use Rattle.tuples.specs.Walking.{IsCheckSelection}
use Rattle.decisions.specs.Flows.{Freshness, at_least, exact, latest}
use Rattle.decisions.specs.Values.{BatchValue}
use Rattle.shard.specs.declared.replies.ReadReply.TheVariants.{Rows}
use Rattle.calls.specs.declared.call.NodeCall.{NodeCall}
use Rattle.calls.specs.declared.call.NodeCall.TheVariants.{Coordinator, Shard}
use Rattle.calls.specs.declared.call.CoordinatorCall.TheVariants.{Batch, Heads}
use Rattle.calls.specs.declared.call.ShardCall.TheVariants.{Read, ReadForCheck}
use Rattle.calls.specs.declared.reply.Reply.{Reply}
use Rattle.calls.specs.declared.reply.Reply.TheVariants.{Coordinator as from_coordinator, Shard as from_shard}
use Rattle.calls.specs.declared.reply.CoordinatorReply.TheVariants as told
use Rattle.calls.specs.declared.reply.ShardReply.TheVariants as told_by
use Rattle.laws.specs.Shards.{there_of}
use Rattle.ties.specs.TellingLaws.{IsBatchOf}

-- Heads tell a kept place of the list; a batch is a part of it; and rows are those that are selected of it at their place, of the tuples of the shard.
abbrev pub IsTold : ℕ → List Entry → NodeCall → Reply → Type 0
IsTold shards seen (Coordinator Heads) (from_coordinator (told.Heads (Ok heads))) = heads.kept ≤ length seen
IsTold shards seen (Coordinator (Batch from to)) (from_coordinator (told.Batch (Ok b))) = IsBatchOf seen b
IsTold shards seen (Shard s (Read place set)) (from_shard (told_by.Read back (Ok (Rows rows)))) = (place ≤ length seen) × IsSelection (there_of shards s seen place) set rows.items
IsTold shards seen (Shard s (ReadForCheck place x u)) (from_shard (told_by.ReadForCheck back_x back_u (Ok (Rows rows)))) = (place ≤ length seen) × IsCheckSelection (there_of shards s seen place) x u rows.items
IsTold shards seen call reply = Unit {0}

-- a batch that is held is a part of the list
abbrev pub IsHeld : List Entry → Option BatchValue → Type 0
IsHeld seen held = (b : BatchValue) → held ≡ Some b → IsBatchOf seen b

-- the place is one that was asked for
abbrev pub IsAsAsked : Freshness → ℕ → Type 0
IsAsAsked latest place = Unit {0}
IsAsAsked (at_least z) place = z ≤ place
IsAsAsked (exact z) place = place ≡ z
