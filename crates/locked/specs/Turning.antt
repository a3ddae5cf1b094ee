-- One turn of a flow over the nodes of a shared store.
use Rattle.std.specs.Prelude.{◌≡◌, ℕ, List, Bool, Result, Ok}
use Rattle.refusal.specs.declared.refusal.Refusal.{Refusal}
use Rattle.tuples.specs.declared.entry.Entry.{Entry}
use Rattle.published.specs.Known.{Known}
use Rattle.calls.specs.declared.call.NodeCall.{NodeCall}
use Rattle.calls.specs.declared.reply.Reply.{Reply}
use Rattle.calls.specs.declared.reply.Reply.TheVariants.{Shard}
use Rattle.calls.specs.declared.reply.ShardReply.TheVariants.{Read, ReadForCheck}
use Rattle.shard.specs.declared.replies.ReadReply.{ReadReply}
use Rattle.shard.specs.declared.replies.ReadReply.TheVariants.{Behind}
use Rattle.flow_ties.specs.Cares.{HandsOver}
use Rattle.flow_ties.specs.Refusing.{Notices}
use Rattle.flights.specs.LogPlaces.{TellsWriters}
use Rattle.flights.specs.Serving.{KnowsMore, Serves}
use Rattle.ties.specs.Ties.{Attempt}

-- in place of rows the shard told that it has not learned so far
abbrev pub AreBehind : Result ReadReply Refusal → Type 0
AreBehind rows = rows ≡ Ok Behind

-- the reply is that of a shard that was to read, for a read or for a check, and it tells so
abbrev pub TellsBehind : Reply → Type 0
TellsBehind (Shard (Read set rows)) = AreBehind rows
TellsBehind (Shard (ReadForCheck x u rows)) = AreBehind rows
TellsBehind reply = ⊥

module _ {F O : Type 0} (asks : F → NodeCall → O → Type 0) where
  -- whichever call it makes, what it hands to a shard is of what the caller has seen
  abbrev pub HandsWhatIsSeen : Known Entry → F → Type 0
  HandsWhatIsSeen pass v = (call : NodeCall) (out : O) → asks v call out → HandsOver pass.seen pass.horizon call

  -- A turn: its call, the reply, which tells what is of the list that the caller has then seen and of the decisions that it then knows, and what it makes of that.
  pub record Turns {L : Type 0} (rests : Type 0) (gives : O → Reply → L → Type 0) (shards : ℕ) (old new : Known Entry) (tried more : Known Attempt) (marks later_marks : List Bool) (v : F) (after : L) : Type 0 where
    pub call : NodeCall
    pub out : O
    pub reply : Reply
    pub asked : asks v call out
    pub serves : Serves rests shards old new call reply
    pub knows : KnowsMore tried more
    pub tells : rests → TellsWriters old.seen more.seen new.seen call reply
    pub given : gives out reply after
    pub notices : Notices shards marks call reply later_marks
