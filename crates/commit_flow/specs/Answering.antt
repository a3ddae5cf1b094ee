-- What each reply makes of a write flow.
use Rattle.std.specs.Prelude.{◌≡◌, ◌≢◌, ◌⊎◌, ◌++◌, ℕ, Bool, true, false, List, [], ◌∷◌, Option, Some, None, Result, Ok, Err, IfOk}
use Rattle.tuples.specs.declared.entry.WriteId.{WriteId}
use Rattle.tuples.specs.Parts.{takes_part}
use Rattle.refusal.specs.declared.refusal.Refusal.{Refusal}
use Rattle.refusal.specs.declared.refusal.Refusal.TheVariants.{Full, Unsure}
use Rattle.decisions.specs.Coordinators.{HaveVoted}
use Rattle.decisions.specs.Standing.{DecidedValue}
use Rattle.decisions.specs.Values.{IntentValue, TicketValue, VerdictValue, VoteValue}
use Rattle.coordinator.specs.declared.decided.NotDecided.{NotDecided}
use Rattle.coordinator.specs.declared.telling.Outcome as outcomes
use Rattle.coordinator.specs.declared.telling.Outcome.TheVariants.{Kept, Later, Unsure as is_unsure}
use Rattle.coordinator.specs.declared.telling.Inquiry as inquiries
use Rattle.coordinator.specs.declared.telling.Inquiry.TheVariants.{Commit, Abort as is_aborted, Undecided}
use Rattle.shard.specs.declared.replies.VoteReply.{VoteReply}
use Rattle.shard.specs.declared.replies.VoteReply.TheVariants.{Yes, Later as votes_later, No}
use Rattle.calls.specs.declared.reply.Reply.{Reply}
use Rattle.calls.specs.declared.reply.Reply.TheVariants.{Coordinator, Shard}
use Rattle.calls.specs.declared.reply.CoordinatorReply.TheVariants as told
use Rattle.calls.specs.declared.reply.ShardReply.TheVariants as told_by
use Rattle.names.specs.declared.call_name.CallName.{CallName}
use Rattle.names.specs.declared.call_name.CallName.TheVariants as names
use Rattle.catch_up.specs.Held.{CatchUpCallValue}
use Rattle.catch_up.specs.CatchingUp as catching
use Rattle.catch_up.specs.declared.caught.Progress as progresses
use Rattle.catch_up.specs.declared.caught.Progress.TheVariants.{Next, There, Refused as is_refused}
use Rattle.commit_flow.specs.declared.end.WriteEnd.{WriteEnd}
use Rattle.commit_flow.specs.declared.end.WriteEnd.TheVariants.{Wrote, Refused, Cancelled}
use Rattle.commit_flow.specs.Participants.{ArePartsOf}
use Rattle.commit_flow.specs.WriteHolds.{Way, WriteAwaited, WriteHolds, onward, outward}
use Rattle.commit_flow.specs.WriteHolds as waits
use Rattle.commit_flow.specs.Views.{WriteView, at_rest, ticket_value, view_ended}

-- it goes on, and holds this
abbrev pub GoesOn : WriteHolds → WriteView → Type 0
GoesOn holds after = after ≡ at_rest holds

-- it goes on to the prepare of this shard, which is caught up, and holds this
abbrev pub GoesToPrepare : ℕ → WriteHolds → WriteView → Type 0
GoesToPrepare s holds after = after ≡ record (at_rest holds) { caught = Some s }

-- it goes out, with this refusal, and holds this
abbrev pub GoesOut : WriteHolds → Refusal → WriteView → Type 0
GoesOut holds e after = after ≡ at_rest (record holds { way = outward (Some e); batch = None })

-- how a write ends that went out
abbrev pub end_of : Way → WriteEnd
end_of onward = Cancelled
end_of (outward None) = Cancelled
end_of (outward (Some e)) = Refused e

-- with a verdict it goes on to drop the write at a shard that gave something, and ends if there is none
abbrev pub GoesToDrop : WriteView → WriteId → WriteView → Type 0
GoesToDrop v id after = GoesOn (record v.holds { verdict = Some id }) after ⊎ ((v.holds.tickets ≡ []) × (v.holds.votes ≡ []) × (after ≡ view_ended (end_of v.holds.way)))

abbrev pub BeginGives : WriteView → Result IntentValue Refusal → WriteView → Type 0
BeginGives v (Ok i) after = GoesOn (record v.holds { id = Some i.write.id; intent = Some i }) after
BeginGives v (Err e) after = after ≡ view_ended (Refused e)

-- what progress in the catch-up of a shard makes of it: only once that is done is the shard to prepare
abbrev pub ProgressGives : WriteView → ℕ → progresses.Progress → WriteView → Type 0
ProgressGives v s (Next c) after = GoesOn (record v.holds { batch = c.batch }) after
ProgressGives v s There after = GoesToPrepare s (record v.holds { batch = None }) after
ProgressGives v s (is_refused e) after = GoesOut v.holds e after

-- The reply belongs to the catch-up of a shard to the place that was kept when the write was begun.
pub record CatchUpGives (v : WriteView) (awaited : _) (reply : Reply) (after : WriteView) : Type 0 where
  pub call : CatchUpCallValue
  pub is_awaited : call.awaited ≡ awaited
  pub holds : call.held.batch ≡ v.holds.batch
  pub to : (i : IntentValue) → v.holds.intent ≡ Some i → call.held.to ≡ i.kept
  pub progress : progresses.Progress
  pub gives : catching.Gives call reply progress
  pub then_gives : ProgressGives v call.held.shard progress after

abbrev pub PrepareGives : WriteView → ℕ → Bool → IntentValue → Result TicketValue Refusal → WriteView → Type 0
PrepareGives v s again i (Ok t) after = GoesOn (record v.holds { intent = Some i; tickets = v.holds.tickets ++ ticket_value (s, t) ∷ [] }) after
PrepareGives v s again i (Err e) after = (e ≡ Full → again ≡ false → GoesToPrepare s (record v.holds { intent = Some i }) after)
    × ((e ≢ Full) ⊎ (again ≡ true) → GoesOut (record v.holds { intent = Some i }) e after)

-- A flush before a decision is refused as the call after it would be. If the node was full, the call after it is the last of its kind.
abbrev pub FlushGives : WriteView → Bool → Result (Unit {0}) Refusal → WriteView → Type 0
FlushGives v was_full (Ok done) after = after ≡ record (at_rest v.holds) { caught = v.caught; flushed = was_full }
FlushGives v was_full (Err e) after = GoesOut v.holds e after

abbrev pub VoteGives : WriteView → ℕ → VoteReply → WriteView → Type 0
VoteGives v s (Yes vote) after = GoesOn (record v.holds { votes = v.holds.votes ++ vote ∷ [] }) after
VoteGives v s (votes_later t) after = GoesOn (record v.holds { tickets = ticket_value (s, t) ∷ v.holds.tickets }) after
VoteGives v s (No e) after = GoesOut v.holds e after

-- what there is to do if a write was not decided
abbrev pub NotDecidedGives : WriteView → Bool → Refusal → Option IntentValue → List VoteValue → WriteView → Type 0
NotDecidedGives v again e None votes after = GoesOut (record v.holds { votes = votes }) e after
NotDecidedGives v again e (Some i) votes after = (e ≡ Full → again ≡ false → GoesOn (record v.holds { intent = Some i; votes = votes }) after)
    × ((e ≢ Full) ⊎ (again ≡ true) → GoesOut (record v.holds { intent = Some i; votes = votes }) e after)

abbrev pub DecideGives : WriteView → Bool → Result DecidedValue NotDecided → WriteView → Type 0
DecideGives v again (Ok d) after = GoesOn (record v.holds { decided = Some d }) after
DecideGives v again (Err r) after = NotDecidedGives v again r.refusal r.intent r.votes.items after

abbrev pub OutcomeGives : WriteView → outcomes.Outcome → WriteView → Type 0
OutcomeGives v (Kept place) after = after ≡ view_ended (Wrote place)
OutcomeGives v (Later d) after = GoesOn (record v.holds { decided = Some d }) after
OutcomeGives v is_unsure after = after ≡ view_ended (Refused Unsure)

abbrev pub AbortGives : WriteView → Result VerdictValue Refusal → WriteView → Type 0
AbortGives v (Ok verdict) after = GoesToDrop v verdict.id after
AbortGives v (Err e) after = after ≡ view_ended (end_of v.holds.way)

abbrev pub InquireGives : WriteView → Result inquiries.Inquiry Refusal → WriteView → Type 0
InquireGives v (Ok (is_aborted verdict)) after = GoesToDrop v verdict.id after
InquireGives v (Ok (Commit place)) after = after ≡ view_ended (end_of v.holds.way)
InquireGives v (Ok Undecided) after = after ≡ view_ended (end_of v.holds.way)
InquireGives v (Err e) after = after ≡ view_ended (end_of v.holds.way)

-- What a reply makes of a flow that waits for it.
abbrev pub GivesTo : WriteView → WriteAwaited → Reply → WriteView → Type 0
GivesTo v waits.begin (Coordinator (told.Begin r)) after = BeginGives v r after
GivesTo v (waits.catch_up awaited) reply after = CatchUpGives v awaited reply after
GivesTo v (waits.prepare s again bits) (Shard (told_by.StagePrepare i r)) after = PrepareGives v s again i r after
GivesTo v (waits.flush_to_prepare s) (Shard (told_by.Flush r)) after = FlushGives v true r after
GivesTo v (waits.vote s) (Shard (told_by.Vote r)) after = VoteGives v s r after
GivesTo v (waits.flush_to_vote s) (Shard (told_by.Flush r)) after = FlushGives v false r after
GivesTo v (waits.decide again) (Coordinator (told.Decide r)) after = DecideGives v again r after
GivesTo v waits.flush_to_decide (Coordinator (told.Flush r)) after = FlushGives v true r after
GivesTo v waits.outcome (Coordinator (told.Outcome r)) after = OutcomeGives v r after
GivesTo v waits.flush_to_outcome (Coordinator (told.Flush r)) after = GoesOn v.holds after
GivesTo v waits.abort (Coordinator (told.Abort r)) after = AbortGives v r after
GivesTo v waits.inquire (Coordinator (told.Inquire r)) after = InquireGives v r after
GivesTo v waits.drop_write (Shard (told_by.DropWrite verdict r)) after = GoesToDrop v verdict.id after
GivesTo v awaited reply after = ⊥

-- The call that comes next if a node answered that a flush has to come first, and after that flush. So nothing is asked again before it can be answered.
abbrev pub ComesNext : WriteAwaited → Reply → CallName → Type 0
ComesNext (waits.vote s) (Shard (told_by.Vote (votes_later t))) next = next ≡ names.Flush
ComesNext (waits.flush_to_vote s) (Shard (told_by.Flush (Ok done))) next = next ≡ names.Vote
ComesNext waits.outcome (Coordinator (told.Outcome (Later d))) next = next ≡ names.Flush
ComesNext waits.flush_to_outcome (Coordinator (told.Flush r)) next = next ≡ names.Outcome
ComesNext awaited reply next = Unit {0}

-- an intent that comes back is that of the flow's write
abbrev pub IfBack : Option IntentValue → (IntentValue → Type 0) → Type 0
IfBack None P = Unit {0}
IfBack (Some i) P = P i

-- an intent that comes back undecided is that of the write with this id, and all have voted for it
abbrev pub RefusedBack : ℕ → WriteId → Result DecidedValue NotDecided → Type 0
RefusedBack shards id (Ok d) = Unit {0}
RefusedBack shards id (Err r) = IfBack r.intent (λ i. (i.write.id ≡ id) × HaveVoted shards i.write r.votes.items)

-- a vote of this shard for the write of this id; or its ticket comes back
abbrev pub IsVoteOf : ℕ → WriteId → VoteReply → Type 0
IsVoteOf s id (Yes vote) = (vote.id ≡ id) × (vote.shard ≡ s)
IsVoteOf s id (votes_later t) = t.id ≡ id
IsVoteOf s id (No e) = Unit {0}

-- the reply is one to the call that is out, and gives back the intent that was handed in
abbrev pub Fits : ℕ → WriteView → WriteAwaited → Reply → Type 0
Fits shards v waits.begin (Coordinator (told.Begin r)) = Unit {0}
Fits shards v (waits.catch_up awaited) reply = catching.Fits awaited reply
Fits shards v (waits.prepare s again bits) (Shard (told_by.StagePrepare i r)) = ((id : WriteId) → v.holds.id ≡ Some id → i.write.id ≡ id) × (takes_part shards s i.write ≡ true)
    × ArePartsOf bits shards i.write × IfOk r (λ t. t.id ≡ i.write.id)
Fits shards v (waits.flush_to_prepare s) (Shard (told_by.Flush r)) = Unit {0}
Fits shards v (waits.vote s) (Shard (told_by.Vote r)) = (id : WriteId) → v.holds.id ≡ Some id → IsVoteOf s id r
Fits shards v (waits.flush_to_vote s) (Shard (told_by.Flush r)) = Unit {0}
Fits shards v (waits.decide again) (Coordinator (told.Decide r)) = (id : WriteId) → v.holds.id ≡ Some id → RefusedBack shards id r
Fits shards v waits.flush_to_decide (Coordinator (told.Flush r)) = Unit {0}
Fits shards v waits.outcome (Coordinator (told.Outcome r)) = Unit {0}
Fits shards v waits.flush_to_outcome (Coordinator (told.Flush r)) = Unit {0}
Fits shards v waits.abort (Coordinator (told.Abort r)) = Unit {0}
Fits shards v waits.inquire (Coordinator (told.Inquire r)) = Unit {0}
Fits shards v waits.drop_write (Shard (told_by.DropWrite verdict r)) = Unit {0}
Fits shards v awaited reply = ⊥
