-- What a call of a node leaves a caller with, and what its reply tells.
use Rattle.std.specs.Prelude.{◌≡◌, ℕ, length, Ok}
use mathlib.Core.List.{IsPrefix}
use Rattle.tuples.specs.declared.entry.Entry.{Entry}
use Rattle.published.specs.Known.{Known}
use Rattle.calls.specs.Belonging.{IsReplyTo}
use Rattle.calls.specs.declared.call.NodeCall.{NodeCall}
use Rattle.calls.specs.declared.call.NodeCall.TheVariants.{Coordinator}
use Rattle.calls.specs.declared.call.CoordinatorCall.TheVariants.{Begin}
use Rattle.calls.specs.declared.reply.Reply.{Reply}
use Rattle.calls.specs.declared.reply.Reply.TheVariants.{Coordinator as from_coordinator}
use Rattle.calls.specs.declared.reply.CoordinatorReply.TheVariants as told
use Rattle.ties.specs.Ties.{Attempt}
use Rattle.sides.specs.Sides.{IsLater}
use Rattle.flow_ties.specs.Telling.{IsTold}
use Rattle.flow_ties.specs.Watches.{TellsWatcher}
use Rattle.flow_ties.specs.Cares.{TellsCare}
use Rattle.flow_ties.specs.Refusing.{TellsReach}
use Rattle.flow_ties.specs.Writes.{IsOfRequest}

-- a write that is begun is the one that was handed in
abbrev pub TellsIntent : NodeCall → Reply → Type 0
TellsIntent (Coordinator (Begin write)) (from_coordinator (told.Begin (Ok intent))) = IsOfRequest write intent.write
TellsIntent call reply = Unit {0}

-- A caller that made a call has the reply to it, and knows what it knew. If the store rested when it was opened, what the reply tells is of the list that
-- the caller has then seen: to anyone, to a watch, to a care and to a write.
pub record Serves (rests : Type 0) (shards : ℕ) (old new : Known Entry) (call : NodeCall) (reply : Reply) : Type 0 where
  pub later : IsLater old new
  pub belongs : IsReplyTo call reply
  pub told : rests → IsTold shards new.seen call reply
  pub reach : rests → TellsReach new.seen call reply
  pub watcher : rests → TellsWatcher (length old.seen) call reply
  pub care : rests → TellsCare new.horizon call reply
  pub intent : rests → TellsIntent call reply

-- a caller knows the decisions that it knew
pub record KnowsMore (old new : Known Attempt) : Type 0 where
  pub table : new.table ≡ old.table
  pub seen : IsPrefix old.seen new.seen
