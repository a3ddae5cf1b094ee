-- Which refusal a reply carries.
use Rattle.std.specs.Prelude.{◌≡◌, ◌⊎◌, ◌↔◌, Bool, true, List, Option, Some, None, Result, Ok, Err, slice_get}
use Rattle.refusal.specs.declared.refusal.Refusal.{Refusal}
use Rattle.refusal.specs.declared.refusal.Refusal.TheVariants.{Unsure}
use Rattle.refusal.specs.Refusals.{number_of}
use Rattle.coordinator.specs.declared.decided.NotDecided.{NotDecided}
use Rattle.coordinator.specs.declared.raising.NotRaised.{NotRaised}
use Rattle.coordinator.specs.declared.telling.Outcome as outcomes
use Rattle.coordinator.specs.declared.telling.Outcome.TheVariants.{Kept, Later, Unsure as is_unsure}
use Rattle.shard.specs.declared.replies.VoteReply.{VoteReply}
use Rattle.shard.specs.declared.replies.VoteReply.TheVariants.{Yes, Later as votes_later, No}
use Rattle.calls.specs.declared.reply.Reply.{Reply}
use Rattle.calls.specs.declared.reply.Reply.TheVariants.{Coordinator, Shard}
use Rattle.calls.specs.declared.reply.CoordinatorReply as coordinators
use Rattle.calls.specs.declared.reply.CoordinatorReply.TheVariants.{Begin, Heads, Batch, Decide, Outcome, Abort, Inquire, Raise, Flush, Checkpoint}
use Rattle.calls.specs.declared.reply.ShardReply as shards
use Rattle.calls.specs.declared.reply.ShardReply.TheVariants.{Learned, Learn, StagePrepare, Vote, DropWrite, InDoubt, Read, ReadForCheck, Settle, Collect, Flush as flush_shard, Checkpoint as checkpoint_shard}

-- the error of a result
abbrev pub error_of : {T : Type 0} → Result T Refusal → Option Refusal
error_of (Ok x) = None
error_of (Err e) = Some e

abbrev pub not_decided_error : {T : Type 0} → Result T NotDecided → Option Refusal
not_decided_error (Ok x) = None
not_decided_error (Err e) = Some e.refusal

abbrev pub not_raised_error : {T : Type 0} → Result T NotRaised → Option Refusal
not_raised_error (Ok x) = None
not_raised_error (Err e) = Some e.refusal

-- a refused vote counts as its refusal
abbrev pub vote_error : VoteReply → Option Refusal
vote_error (Yes v) = None
vote_error (votes_later t) = None
vote_error (No e) = Some e

-- an unknown outcome counts as Unsure
abbrev pub outcome_error : outcomes.Outcome → Option Refusal
outcome_error (Kept place) = None
outcome_error (Later d) = None
outcome_error is_unsure = Some Unsure

abbrev pub coordinator_error : coordinators.CoordinatorReply → Option Refusal
coordinator_error (Begin r) = error_of r
coordinator_error (Heads r) = error_of r
coordinator_error (Batch r) = error_of r
coordinator_error (Decide r) = not_decided_error r
coordinator_error (Outcome r) = outcome_error r
coordinator_error (Abort r) = error_of r
coordinator_error (Inquire r) = error_of r
coordinator_error (Raise r) = not_raised_error r
coordinator_error (Flush r) = error_of r
coordinator_error (Checkpoint r) = error_of r

abbrev pub shard_error : shards.ShardReply → Option Refusal
shard_error (Learned r) = error_of r
shard_error (Learn b r) = error_of r
shard_error (StagePrepare i r) = error_of r
shard_error (Vote r) = vote_error r
shard_error (DropWrite v r) = error_of r
shard_error (InDoubt r) = error_of r
shard_error (Read q r) = error_of r
shard_error (ReadForCheck x u r) = error_of r
shard_error (Settle r) = error_of r
shard_error (Collect h r) = error_of r
shard_error (flush_shard r) = error_of r
shard_error (checkpoint_shard r) = error_of r

-- the refusal that a reply carries
abbrev pub refused_by : Reply → Option Refusal
refused_by (Coordinator r) = coordinator_error r
refused_by (Shard r) = shard_error r

-- the mark for the number of the refusal is set
abbrev pub HasTold : List Bool → Refusal → Type 0
HasTold marks e = slice_get marks (number_of e) ≡ Some true

-- a reply adds the refusal that it carries, and no other
abbrev pub Notes : List Bool → Reply → List Bool → Type 0
Notes old reply new = (e : Refusal) → HasTold new e ↔ (HasTold old e ⊎ (refused_by reply ≡ Some e))
