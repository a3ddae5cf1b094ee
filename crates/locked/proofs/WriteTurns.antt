-- A write of a shared store goes on to hold what is of it, turn by turn.
use Rattle.std.proofs.Common.{◌≡◌, ◌≤◌, ℕ, Bool, List, length, Some, refl, subst, sym}
use Rattle.std.proofs.lemmas.Option.{same_Some}
use mathlib.Core.List.{IsPrefix}
use Rattle.locked.proofs.Words.{Attempt, Entry, IsKnownWriteOf, IsTried, Known, NodeCall, Progress, RefusesAsTold, Reply, Shard, Turns, WriteFlowValue, WriteValue}
use Rattle.calls.specs.declared.call.ShardCall.TheVariants as shard_calls
use Rattle.commit_flow.specs.Answering.{GivesTo}
use Rattle.commit_flow.specs.Flows.{WriteCallValue, seen_after, seen_of, seen_out}
use Rattle.commit_flow.specs.Running.{AsksWrite, GivesWrite}
use Rattle.commit_flow.specs.Views.{WriteView}
use Rattle.commit_flow.specs.WriteHolds.{WriteAwaited}
use Rattle.commit_flow.specs.Writing.{Asks}
use Rattle.commit_flow.specs.declared.end.WriteEnd.{WriteEnd}
use Rattle.flights.proofs.Landed.{still_there}
use Rattle.flow_ties.specs.Cares.{HandsOver}
use Rattle.flow_ties.specs.Writes.{unbegun}
use Rattle.flow_ties.proofs.SeenWrites.{writes_are_relinked, writes_hand_over_what_is_seen, writes_tell_what_stands}
use Rattle.flow_ties.proofs.ToldWrites.{writes_begin_untold, writes_refuse_as_told}

-- what the reply makes of it, in the words of its laws
gives_to : (out : WriteCallValue) (reply : Reply) (after : Progress WriteFlowValue WriteEnd) → GivesWrite out reply after → (awaited : WriteAwaited) → Some out.awaited ≡ Some awaited → GivesTo (seen_out out) awaited reply (seen_after after)
gives_to out reply after given awaited is = subst (λ (a : WriteAwaited). GivesTo (seen_out out) a reply (seen_after after)) (same_Some out.awaited awaited is) given.1

-- what is known of a decision is known of it later
known_later : (tried more : List Attempt) (asked : WriteValue) (above : ℕ) (seen : List Entry) (v : WriteView) → IsPrefix tried more → IsKnownWriteOf tried asked above seen v → IsKnownWriteOf more asked above seen v
known_later tried more asked above seen v pre is = writes_are_relinked (IsTried tried) (IsTried more) asked above seen v (λ d w at known. (known.0, still_there tried more known.0 _ pre known.1)) is

-- a turn
pub write_goes_on : {tried more : Known Attempt} (rests : Type 0) (asked : WriteValue) (above shards : ℕ) (old new : Known Entry) (marks later : List Bool) (v : WriteFlowValue) (after : Progress WriteFlowValue WriteEnd) → v.shards ≡ shards
    → Turns AsksWrite rests GivesWrite shards old new tried more marks later v after → above ≤ length old.seen → rests → IsKnownWriteOf tried.seen asked above old.seen (seen_of v) → IsKnownWriteOf more.seen asked above new.seen (seen_after after)
write_goes_on {tried} {more} rests asked above shards old new marks later v after of t le h is =
    writes_tell_what_stands (IsTried more.seen) asked above shards old.seen new.seen (seen_of v) (seen_after after) t.serves.later.seen (known_later tried.seen more.seen asked above old.seen (seen_of v) t.knows.seen is) (record {
      running = refl;
      call = t.call;
      out = seen_out t.out;
      reply = t.reply;
      asks = subst (λ (n : ℕ). Asks n (seen_of v) t.call (seen_out t.out)) of t.asked.2;
      belongs = t.serves.belongs;
      told = t.serves.told h;
      tells = t.tells h asked above le;
      gives = gives_to t.out t.reply after t.given;
    })

-- what is handed to a shard is of the list
pub write_hands_over : (tried : List Attempt) (asked : WriteValue) (above : ℕ) (pass : Known Entry) (v : WriteFlowValue) (call : NodeCall) (out : WriteCallValue) → IsKnownWriteOf tried asked above pass.seen (seen_of v) → AsksWrite v call out → HandsOver pass.seen pass.horizon call
write_hands_over tried asked above pass v (Shard s (shard_calls.Learn b)) out is asks = writes_hand_over_what_is_seen (IsTried tried) asked above v.shards s pass.seen (seen_of v) (seen_out out) b is asks.2
write_hands_over tried asked above pass v (Shard s (shard_calls.Collect h)) out is asks = absurd asks.2.1
write_hands_over tried asked above pass v call out is asks = tt

-- nothing has refused a write that is not begun
pub not_refused_yet : (shards : ℕ) (marks : List Bool) (write : WriteValue) (v : WriteView) → v ≡ unbegun write → RefusesAsTold shards marks v
not_refused_yet shards marks write v is = subst (RefusesAsTold shards marks) (sym is) (writes_begin_untold shards marks write)

-- what it is refused by was told, after a turn too
pub told_goes_on : {tried more : Known Attempt} (rests : Type 0) (shards : ℕ) (old new : Known Entry) (marks later : List Bool) (v : WriteFlowValue) (after : Progress WriteFlowValue WriteEnd) → v.shards ≡ shards
    → Turns AsksWrite rests GivesWrite shards old new tried more marks later v after → RefusesAsTold shards marks (seen_of v) → RefusesAsTold shards later (seen_after after)
told_goes_on rests shards old new marks later v after of t was =
    writes_refuse_as_told shards marks later (seen_of v) (seen_out t.out) (seen_after after) t.call t.reply was (subst (λ (n : ℕ). Asks n (seen_of v) t.call (seen_out t.out)) of t.asked.2) t.serves.belongs (gives_to t.out t.reply after t.given) t.notices
