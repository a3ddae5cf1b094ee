-- What a node under its lock tells serves who has called it.
use Rattle.std.proofs.Common.{◌≡◌, ◌≤◌, ◌++◌, ℕ, false, List, length, Result, Some, Ok, slice_get, refl, sym, subst, arith, length-append}
use Rattle.locked.proofs.Words.{Attempt, Entry, Known, Refusal, Reply}
use Rattle.tuples.specs.Limits.{max_batch, max_watched}
use Rattle.tuples.specs.Writes.{WriteValue}
use Rattle.tuples.proofs.Lists.{slice_get_last}
use Rattle.shard.specs.declared.replies.ReadReply.{ReadReply}
use Rattle.shard.specs.declared.replies.ReadReply.TheVariants.{Rows}
use Rattle.coordinator.specs.declared.telling.Outcome.TheVariants.{Kept, Later}
use Rattle.calls.specs.Belonging.{IsReplyTo}
use Rattle.calls.specs.Reading.{is_read, read_reply}
use Rattle.calls.specs.declared.call.NodeCall.TheVariants.{Coordinator, Shard}
use Rattle.calls.specs.declared.call.CoordinatorCall.{CoordinatorCall}
use Rattle.calls.specs.declared.call.CoordinatorCall.TheVariants.{Batch, Begin, Decide, Heads, Outcome}
use Rattle.calls.specs.declared.call.ShardCall.{ShardCall}
use Rattle.calls.specs.declared.call.ShardCall.TheVariants.{Collect, Learn, Read, ReadForCheck}
use Rattle.calls.specs.declared.reply.Reply.TheVariants.{Coordinator as from_coordinator, Shard as from_shard}
use Rattle.calls.specs.declared.reply.CoordinatorReply.TheVariants as told
use Rattle.ties.specs.DecidingLaws.{attempt}
use Rattle.sides.specs.CoordinatorSides.{IsTried, TellsOf, tried_by, write_of}
use Rattle.sides.specs.Sides.{HandsSeen, IsLater, TellsRows}
use Rattle.flow_ties.specs.Cares.{HandsOver, TellsCare}
use Rattle.flow_ties.specs.Refusing.{TellsReach}
use Rattle.flow_ties.specs.Telling.{IsTold}
use Rattle.flow_ties.specs.Watches.{TellsWatcher}
use Rattle.flow_ties.specs.Writes.{TellsWriter}
use Rattle.flights.specs.LogPlaces.{TellsWriters}
use Rattle.flights.specs.Serving.{Serves, TellsIntent}

-- what a call hands to a shard its caller has seen
pub hands_seen : (s : ℕ) (pass : Known Entry) (call : ShardCall) → HandsOver pass.seen pass.horizon (Shard s call) → HandsSeen pass call
hands_seen s pass (Learn batch) hands = hands
hands_seen s pass (Collect heads) hands = hands
hands_seen s pass call hands = tt

-- a shard tells only reads of the list
told_nothing : (shards s : ℕ) (seen : List Entry) (call : ShardCall) (reply : Reply) → is_read call ≡ false → IsTold shards seen (Shard s call) reply
told_nothing shards s seen (Read place set) reply no_read = absurd (cc no_read)
told_nothing shards s seen (ReadForCheck place x u) reply no_read = absurd (cc no_read)
told_nothing shards s seen call reply no_read = tt

pub shard_serves : (rests : Type 0) (shards s : ℕ) (old new : Known Entry) (call : ShardCall) (reply : Reply) → is_read call ≡ false → IsLater old new → IsReplyTo (Shard s call) reply → Serves rests shards old new (Shard s call) reply
shard_serves rests shards s old new call reply no_read later belongs = record {
  later = later;
  belongs = belongs;
  told = λ at. told_nothing shards s new.seen call reply no_read;
  reach = λ at. tt;
  watcher = λ at. tt;
  care = λ at. tt;
  intent = λ at. tt;
}

-- rows that are told are of the list
told_rows : (shards s : ℕ) (seen : List Entry) (call : ShardCall) (r : Result ReadReply Refusal) → TellsRows shards s seen call r → IsTold shards seen (Shard s call) (from_shard (read_reply call r))
told_rows shards s seen (Read place set) (Ok (Rows rows)) tells = tells
told_rows shards s seen (ReadForCheck place x u) (Ok (Rows rows)) tells = tells
told_rows shards s seen (Read place set) r tells = tt
told_rows shards s seen (ReadForCheck place x u) r tells = tt
told_rows shards s seen call r tells = tt

pub read_serves : (rests : Type 0) (shards s : ℕ) (old new : Known Entry) (call : ShardCall) (r : Result ReadReply Refusal) → (rests → TellsRows shards s new.seen call r) → IsLater old new
    → IsReplyTo (Shard s call) (from_shard (read_reply call r)) → Serves rests shards old new (Shard s call) (from_shard (read_reply call r))
read_serves rests shards s old new call r tells later belongs = record {
  later = later;
  belongs = belongs;
  told = λ at. told_rows shards s new.seen call r (tells at);
  reach = λ at. tt;
  watcher = λ at. tt;
  care = λ at. tt;
  intent = λ at. tt;
}

-- Given what the coordinator tells of the list
module _ (shards : ℕ) (old new : Known Entry) (tried : List Attempt) where
  to_anyone : (call : CoordinatorCall) (reply : Reply) → TellsOf new.seen new.horizon tried call reply → IsTold shards new.seen (Coordinator call) reply
  to_anyone Heads (from_coordinator (told.Heads (Ok heads))) tells = let is = tells.0 in omega (arith, is)
  to_anyone (Batch from to) (from_coordinator (told.Batch (Ok batch))) tells = tells.0
  to_anyone Heads reply tells = tt
  to_anyone (Batch from to) reply tells = tt
  to_anyone call reply tells = tt

  its_reach : (call : CoordinatorCall) (reply : Reply) → TellsOf new.seen new.horizon tried call reply → TellsReach new.seen (Coordinator call) reply
  its_reach Heads (from_coordinator (told.Heads (Ok heads))) tells = tells.2
  its_reach Heads reply tells = tt
  its_reach call reply tells = tt

  to_a_watch : (call : CoordinatorCall) (reply : Reply) → IsLater old new → TellsOf new.seen new.horizon tried call reply → TellsWatcher (length old.seen) (Coordinator call) reply
  to_a_watch Heads (from_coordinator (told.Heads (Ok heads))) later tells =
      let is = tells.0 in
      let longer : length new.seen ≡ length (old.seen ++ later.seen.0) = subst (λ (l : List Entry). length l ≡ length (old.seen ++ later.seen.0)) later.seen.1 refl in
      omega (arith, is, longer, length-append old.seen later.seen.0)
  to_a_watch (Batch from to) (from_coordinator (told.Batch (Ok batch))) later tells = (tells.1, λ within rising. let size = tells.2 in omega (arith, within, rising, size))
  to_a_watch Heads reply later tells = tt
  to_a_watch (Batch from to) reply later tells = tt
  to_a_watch call reply later tells = tt

  to_a_care : (call : CoordinatorCall) (reply : Reply) → TellsOf new.seen new.horizon tried call reply → TellsCare new.horizon (Coordinator call) reply
  to_a_care Heads (from_coordinator (told.Heads (Ok heads))) tells = let is = tells.1 in omega (arith, is)
  to_a_care Heads reply tells = tt
  to_a_care call reply tells = tt

  its_intent : (call : CoordinatorCall) (reply : Reply) → TellsOf new.seen new.horizon tried call reply → TellsIntent (Coordinator call) reply
  its_intent (Begin write) (from_coordinator (told.Begin (Ok intent))) tells = record { changes = tells.1; conditions = tells.2 }
  its_intent (Begin write) reply tells = tt
  its_intent call reply tells = tt

  pub log_serves : (rests : Type 0) (call : CoordinatorCall) (reply : Reply) → (rests → TellsOf new.seen new.horizon tried call reply) → IsLater old new → IsReplyTo (Coordinator call) reply → Serves rests shards old new (Coordinator call) reply
  log_serves rests call reply tells later belongs = record {
    later = later;
    belongs = belongs;
    told = λ at. to_anyone call reply (tells at);
    reach = λ at. its_reach call reply (tells at);
    watcher = λ at. to_a_watch call reply later (tells at);
    care = λ at. to_a_care call reply (tells at);
    intent = λ at. its_intent call reply (tells at);
  }

  -- a write is told by the decisions that its caller then knows
  to_a_write : (was : List Attempt) (asked : WriteValue) (above : ℕ) (call : CoordinatorCall) (reply : Reply) → tried ≡ was ++ tried_by (write_of call) reply → above ≤ length new.seen
      → TellsOf new.seen new.horizon tried call reply → TellsWriter (IsTried tried) asked above new.seen (Coordinator call) reply
  to_a_write was asked above (Begin write) (from_coordinator (told.Begin (Ok intent))) is le tells = record { changes = tells.1; conditions = tells.2 }
  to_a_write was asked above (Decide intent votes) (from_coordinator (told.Decide (Ok d))) is le tells =
      ((length was, subst (λ (l : List Attempt). slice_get l (length was) ≡ Some (attempt d intent.write)) (sym is) (slice_get_last was (attempt d intent.write))), omega (arith, le, tells))
  to_a_write was asked above (Outcome d) (from_coordinator (told.Outcome (Kept place))) is le tells = tells
  to_a_write was asked above (Outcome d) (from_coordinator (told.Outcome (Later back))) is le tells = tells
  to_a_write was asked above (Begin write) reply is le tells = tt
  to_a_write was asked above (Decide intent votes) reply is le tells = tt
  to_a_write was asked above (Outcome d) reply is le tells = tt
  to_a_write was asked above call reply is le tells = tt

  pub tells_writers : (was : List Attempt) (call : CoordinatorCall) (reply : Reply) → tried ≡ was ++ tried_by (write_of call) reply → IsLater old new → TellsOf new.seen new.horizon tried call reply
      → TellsWriters old.seen tried new.seen (Coordinator call) reply
  tells_writers was call reply is later tells asked above le =
      let longer : length new.seen ≡ length (old.seen ++ later.seen.0) = subst (λ (l : List Entry). length l ≡ length (old.seen ++ later.seen.0)) later.seen.1 refl in
      to_a_write was asked above call reply is (omega (arith, le, longer, length-append old.seen later.seen.0)) tells
