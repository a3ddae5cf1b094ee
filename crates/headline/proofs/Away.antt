-- A write calls no node that the store does not have, except to drop what such a node should have given: then no node is called, and the write goes on or ends.
use Rattle.std.proofs.Common.{◌≡◌, ◌≤◌, ◌<◌, ⊎_elim, ℕ, Bool, List, ◌∷◌, Option, Some, None, MatchOption, Contains, refl, sym, ◌∙◌, ap, subst}
use Rattle.std.proofs.lemmas.List.Elements.{All-contains}
use Rattle.headline.proofs.Words.{Asks, Coordinator, Damaged, GivesTo, IsCalled, KeepsMemory, Moment, NodeCall, NodeName, NodeView, Ran, Refuses, Reply, Running, Shard, Shows, SlotTurns, StandsOver, State, Store, VerdictValue, WorldView, WriteId, WriteView, alone, called, coordinator, events_of, from_shard, left, named, node_at, shard, shown_until, stops, told_of, turn}
use Rattle.decisions.specs.declared.held.Held.{Held}
use Rattle.calls.specs.Views as views
use Rattle.calls.specs.declared.call.ShardCall.TheVariants as shard_calls
use Rattle.calls.specs.declared.reply.ShardReply.TheVariants as told_by
use Rattle.commit_flow.specs.Views.{ticket_value}
use Rattle.commit_flow.specs.Writing.{AsksShard}
use Rattle.commit_flow.specs.WriteHolds.{HeldTicket}
use Rattle.stores.specs.Held.{IsRightTicket, own_write}
use Rattle.flow_turns.proofs.Made.{IsQuietlyMade, still_made}
use Rattle.flow_turns.specs.WritesSeen.{shown}
use Rattle.flow_turns.proofs.Going.{IsFlow, changes, conditions, flow_there, right}
use Rattle.flow_turns.proofs.Leaving.{dropped}
use Rattle.headline.proofs.Behind.{behind, same_at, same_devices, same_memory, shows_node, slot_turns, with_slot}
use Rattle.headline.proofs.Lifts.{Stays}
use Rattle.headline.proofs.Nodes.{node_there}

module _ {D : Type 0} (state : D → State) (honest : D → Type 0) (moment : D → ℕ) (left_since : D → ℕ → List ℕ → Type 0)
    (counts_now : (d : D) (t : ℕ) (c : List ℕ) → honest d → t ≤ moment d → left (state d) c → left_since d t c) (only_now : (d : D) (c : List ℕ) → honest d → left_since d (moment d) c → left (state d) c)
    (old new : WorldView D) (s : Store D) (shows : Shows old s) (slot : ℕ) (is_cancelled : Bool) (v mid later : WriteView) (before : s.flows slot ≡ Some (shown v is_cancelled)) where
  abbrev store_then : Store D
  store_then = behind new.nodes (with_slot slot (shown_until later.ended later is_cancelled) s.flows) s

  slots : SlotTurns slot (shown v is_cancelled) (shown_until later.ended later is_cancelled) s store_then
  slots = slot_turns s store_then slot (shown v is_cancelled) (shown_until later.ended later is_cancelled) before refl

  module _ (now : Moment) (standing : StandsOver state honest old.store old.shards s now) (number : ℕ) where
    flow : (r : Running) × IsFlow state honest moment left_since old.store old.shards s store_then now standing number slot is_cancelled v r
    flow = flow_there state honest moment left_since old.store old.shards s store_then now standing number slot is_cancelled v (shown_until later.ended later is_cancelled) slots

    -- a ticket that it holds is of a shard that the store has
    of_ticket : (id : WriteId) → v.holds.id ≡ Some id → (t : HeldTicket) (others : List HeldTicket) → v.holds.tickets ≡ t ∷ others → t.shard < old.shards
    of_ticket id has t others is =
        let held = right state honest moment left_since old.store old.shards s store_then now standing number slot is_cancelled v flow.0 flow.1 in
        (All-contains (IsRightTicket old.shards (stops state honest old.store old.shards s.devices) now
        (own_write id (changes state honest moment left_since old.store old.shards s store_then now standing number slot is_cancelled v flow.0 flow.1)
        (conditions state honest moment left_since old.store old.shards s store_then now standing number slot is_cancelled v flow.0 flow.1)))
        v.holds.tickets t (held.own id has).tickets (subst (λ (ts : List HeldTicket). Contains ts t) (sym is) (alone t others))).there

    abbrev Promised : Type 0
    Promised = Ran state honest moment left_since old.store old.shards s now number (turn slot) (events_of number (told_of is_cancelled later.ended)) store_then

    -- the coordinator, whatever it is, was not called
    module _ (nodes : new.nodes ≡ old.nodes) where
      still : (n : NodeName) → node_at new.nodes (named n) ≡ node_at old.nodes (named n)
      still n = ap (λ (ns : List (NodeView D)). node_at ns (named n)) nodes

      memory : (c : NodeView D) → KeepsMemory c s store_then
      memory c =
          let kept = same_memory old.store old.shards new.nodes (with_slot slot (shown_until later.ended later is_cancelled) s.flows) s (node_at old.nodes (named coordinator)) (still coordinator) (λ x is_x. shows.nodes coordinator x is_x) in
          by_kind c kept
        where
          by_kind : (x : NodeView D) → (store_then.open_ids ≡ s.open_ids) × (store_then.given ≡ s.given) → KeepsMemory x s store_then
          by_kind (views.coordinator x) kept = tt
          by_kind (views.shard x) kept = kept
          by_kind (views.refused e a b) kept = kept

      uncalled : (c : NodeView D) → node_at old.nodes (named coordinator) ≡ Some c → IsCalled state honest moment left_since old.store old.shards coordinator c c s store_then
      uncalled c at =
          let node = shows.nodes coordinator c at in record {
            before = node;
            after = shows_node old.store old.shards new.nodes (with_slot slot (shown_until later.ended later is_cancelled) s.flows) s coordinator c (still coordinator ∙ at) node.there node.named;
            devices = λ m ne. same_devices old.store old.shards new.nodes (with_slot slot (shown_until later.ended later is_cancelled) s.flows) s m (node_at old.nodes (named m)) (still m) (λ x is_x. shows.nodes m x is_x);
            at = λ m ne. same_at old.store old.shards new.nodes (with_slot slot (shown_until later.ended later is_cancelled) s.flows) s m (node_at old.nodes (named m)) (still m) (λ x is_x. shows.nodes m x is_x);
            memory = memory c;
            fails = λ is_down not_down. absurd (not_down is_down);
          }

      quiet : (o : Option (NodeView D)) → node_at old.nodes (named coordinator) ≡ o → IsQuietlyMade state honest moment left_since old.store old.shards s store_then now standing now.nodes now.machine
      quiet None none = absurd (node_there old.shards old.nodes coordinator shows.count tt none)
      quiet (Some c) at = still_made state honest moment left_since old.store old.shards s store_then now standing coordinator c c (uncalled c at) only_now refl

      drops : (t : ℕ) (verdict : VerdictValue) (held : Held) (reply : Reply) → AsksShard old.shards v t (shard_calls.DropWrite verdict (Some held)) mid → MatchOption mid.awaited ⊥ (λ awaited. GivesTo mid awaited reply later)
          → Refuses Damaged (Shard t (shard_calls.DropWrite verdict (Some held))) reply → Promised
      drops t verdict held (from_shard (told_by.DropWrite back r)) asks gives refuses =
          let given = subst (λ (x : WriteView). MatchOption x.awaited ⊥ (λ awaited. GivesTo x awaited (from_shard (told_by.DropWrite back r)) later)) asks.2.4 gives in
          dropped state honest moment left_since counts_now only_now old.store old.shards s store_then slot is_cancelled v later number now standing flow.0 flow.1 asks.0 t verdict held asks.2.0 asks.2.1
          asks.1 asks.2.2 asks.2.3 now.nodes now.machine (quiet (node_at old.nodes (named coordinator)) refl) back refuses.0 given slots
      drops t verdict held reply asks gives refuses = absurd refuses

    -- whichever shard it calls
    of_shard : (t : ℕ) → t < old.shards → node_at old.nodes (named (shard t)) ≡ None → Promised
    of_shard t there none = absurd (node_there old.shards old.nodes (shard t) shows.count there none)

    by_call : (call : NodeCall) (reply : Reply) → Asks old.shards v call mid → MatchOption mid.awaited ⊥ (λ awaited. GivesTo mid awaited reply later) → node_at old.nodes (named (called call)) ≡ None → new.nodes ≡ old.nodes
        → Refuses Damaged call reply → Promised
    by_call (Coordinator call) reply asks gives none nodes refuses = absurd (node_there old.shards old.nodes coordinator shows.count tt none)
    by_call (Shard t shard_calls.Learned) reply asks gives none nodes refuses = of_shard t asks.1.1.2 none
    by_call (Shard t (shard_calls.Learn batch)) reply asks gives none nodes refuses = of_shard t asks.1.1.2 none
    by_call (Shard t (shard_calls.StagePrepare intent)) reply asks gives none nodes refuses = of_shard t asks.1.2 none
    by_call (Shard t (shard_calls.Vote ticket)) reply asks gives none nodes refuses = of_shard t (of_ticket ticket.id asks.1.1 (ticket_value (t, ticket)) asks.1.2.0 asks.1.2.1) none
    by_call (Shard t (shard_calls.DropWrite verdict (Some held))) reply asks gives none nodes refuses = drops nodes t verdict held reply asks.1 gives refuses
    by_call (Shard t shard_calls.Flush) reply asks gives none nodes refuses = of_shard t
        (⊎_elim (λ one. one.0.2) (λ (ticket, others, is, waits_so). of_ticket asks.1.0.2.0.write.id asks.1.0.2.2 (ticket_value (t, ticket)) others is) asks.1.1) none
    by_call (Shard t call) reply asks gives none nodes refuses = absurd asks.1

  pub away_writes : (call : NodeCall) (reply : Reply) → Asks old.shards v call mid → MatchOption mid.awaited ⊥ (λ awaited. GivesTo mid awaited reply later)
      → Stays state honest moment left_since old s shows new slot call reply (shown_until later.ended later is_cancelled) (told_of is_cancelled later.ended)
  away_writes call reply asks gives now standing none nodes refuses number = by_call now standing number call reply asks gives none nodes refuses
