-- Small turns of a read: it asks the heads of a coordinator whose opening was refused, and ends with that refusal. And some that are not turns of it.
use Rattle.std.proofs.Common.{◌≡◌, ◌≢◌, ◌≤◌, ℕ, zero, suc, Bool, true, false, List, [], ◌∷◌, length, Option, Err, Some, None, MatchOption, if◌then◌else◌, refl, sym, ap, subst, arith}
use Rattle.std.proofs.lemmas.Option.{none-some}
use Rattle.refusal.specs.declared.refusal.Refusal.TheVariants.{Down}
use Rattle.flow_turns.proofs.AnswerWords.{Answered, GivesTo, NodeCall, NodeView, ReadView, Record, Reply, State, Store, Tupleset, at_rest, called, coordinator, ended, from_coordinator, heads, heads_call, read_tells, reading, refuses, shown_answer, waiting}
use Rattle.names.specs.declared.call_name.CallName.TheVariants as names
use Rattle.calls.specs.Views as views
use Rattle.calls.specs.declared.call.NodeCall.TheVariants.{Coordinator, Shard}
use Rattle.calls.specs.declared.call.CoordinatorCall.TheVariants as calls
use Rattle.calls.specs.declared.call.ShardCall.TheVariants as shard_calls
use Rattle.calls.specs.declared.reply.CoordinatorReply.TheVariants as told
use Rattle.answer_flow.specs.Reading.{Asks}
use Rattle.answer_flow.specs.ReadViews.{ReadAwaited, ReadEnding, ReadFlowValue, refused as ended_refused, selected}
use Rattle.laws.specs.Nodes.{down, refused, up}
use Rattle.stores.specs.Flows.{latest, nothing_read}
use Rattle.stores.specs.Stores.{FlowView}
use Rattle.flow_turns.specs.StoreCalls.{IsNode}
use Rattle.flow_turns.specs.ReadTurns.{ReadTurns, read_of}

-- a read of these tuplesets at the latest place, in a store of one shard, before its first call, and with that call out
abbrev fresh : List Tupleset → ReadFlowValue
fresh sets = record { shards = 1; fresh = latest; sets = sets; next = heads; holds = nothing_read; next_name = names.Heads }

abbrev asking : ReadView
asking = waiting heads heads_call nothing_read

abbrev shown : List Tupleset → FlowView
shown sets = shown_answer (read_of (fresh sets)) (reading nothing_read)

-- a node that is up or down is not refused
not_refused : (is_down : Bool) (durable staged : List Record) → (if is_down then down else up durable staged) ≡ refused Down → ⊥
not_refused true durable staged is = cc
not_refused false durable staged is = cc

module _ {D : Type 0} (state : D → State) (honest : D → Type 0) (moment : D → ℕ) (left_since : D → ℕ → List ℕ → Type 0) (a b : D) (set : Tupleset) where
  abbrev sets : List Tupleset
  sets = set ∷ []

  -- a store whose nodes were all refused, with the read in its first slot, and without it
  abbrev first_slot : ℕ → Option FlowView
  first_slot zero = Some (shown sets)
  first_slot (suc t) = None

  abbrev before : Store D
  before = record { devices = λ n. (a, b); at = λ n. refused Down; open_ids = []; given = 0; flows = first_slot }

  abbrev behind : Store D
  behind = record before { flows = λ t. None }

  is_out : (s : Store D) → s.devices coordinator ≡ (a, b) → s.at coordinator ≡ refused Down → IsNode 7 1 s coordinator (views.refused Down a b)
  is_out s devices at = record { there = tt; named = tt; devices = devices; at = at; memory = tt }

  others : (t : ℕ) → t ≢ 0 → behind.flows t ≡ before.flows t
  others zero ne = absurd (ne refl)
  others (suc t) ne = refl

  reads : ReadTurns state honest moment left_since 7 1 before behind 0 (fresh sets) (ended (ended_refused Down))
  reads = record {
    of_store = refl;
    asked = (tt, omega arith, omega arith);
    call = Coordinator calls.Heads;
    out = asking;
    asks = record { owed = tt; asks = (refl, refl) };
    fits = tt;
    was = views.refused Down a b;
    is = views.refused Down a b;
    called_is = record {
      before = is_out before refl refl;
      after = is_out behind refl refl;
      devices = λ m ne. refl;
      at = λ m ne. refl;
      memory = (refl, refl);
      fails = λ is not_was. absurd (not_was is);
    };
    reply = from_coordinator (told.Heads (Err Down));
    answers = (refl, refl);
    gives = refl;
    turns = record { before = refl; after = refl; others = others };
  }

  -- it tells the refusal
  tells_it : read_tells (Some (ended_refused Down)) ≡ refuses Down
  tells_it = refl

  -- a coordinator whose opening was refused answers with that refusal
  answers_down : (was is : NodeView D) (reply : Reply) → IsNode 7 1 before coordinator was → Answered state honest moment left_since was (Coordinator calls.Heads) reply is
      → reply ≡ from_coordinator (told.Heads (Err Down))
  answers_down (views.coordinator v) is reply node so = absurd (not_refused v.is_down v.durable v.staged (sym node.at))
  answers_down (views.shard v) is reply node so = absurd node.named
  answers_down (views.refused e x y) is (from_coordinator (told.Heads r)) node so = let same : refused Down ≡ refused e = node.at in let given : r ≡ Err e = so.1 in cc
  answers_down (views.refused e x y) is reply node so = absurd so.1

  -- so the read ends with it
  ends_refused : (after : ReadView) → ReadTurns state honest moment left_since 7 1 before behind 0 (fresh sets) after → after ≡ ended (ended_refused Down)
  ends_refused after turn =
      let call_is = turn.asks.asks.0 in
      let by_coordinator = subst (λ (x : NodeCall). IsNode 7 1 before (called x) turn.was) call_is turn.called_is.before in
      let answer = subst (λ (x : NodeCall). Answered state honest moment left_since turn.was x turn.reply turn.is) call_is turn.answers in
      let gives = subst (λ (x : ReadView). MatchOption x.awaited ⊥ (λ (awaited : ReadAwaited). GivesTo 1 latest sets x awaited turn.reply after)) turn.asks.asks.1 turn.gives in
      subst (λ (x : Reply). GivesTo 1 latest sets asking heads_call x after) (answers_down turn.was turn.is turn.reply by_coordinator answer) gives

  -- and with no rows
  answered_while_refused : ReadTurns state honest moment left_since 7 1 before behind 0 (fresh sets) (ended (selected 0 ([] ∷ []))) → ⊥
  answered_while_refused turn = not_both (ap (λ (v : ReadView). v.ended) (ends_refused (ended (selected 0 ([] ∷ []))) turn))
    where
      not_both : ◌≡◌ {A = Option ReadEnding} (Some (selected 0 ([] ∷ []))) (Some (ended_refused Down)) → ⊥
      not_both is = cc

  -- before it has heads it asks no shard
  asked_a_shard_first : (out : ReadView) → Asks 1 sets (at_rest heads nothing_read) (Shard 0 shard_calls.Settle) out → ⊥
  asked_a_shard_first out asks = let is : Shard 0 shard_calls.Settle ≡ Coordinator calls.Heads = asks.asks.0 in cc

  -- a turn takes no other flow out of its slot
  abbrev two_slots : ℕ → Option FlowView
  two_slots zero = Some (shown sets)
  two_slots (suc zero) = Some (shown sets)
  two_slots (suc (suc t)) = None

  took_another_flow : (after : ReadView) → ReadTurns state honest moment left_since 7 1 (record before { flows = two_slots }) behind 0 (fresh sets) after → ⊥
  took_another_flow after turn = none-some _ (turn.turns.others 1 one_is_not)
    where
      one_is_not : ◌≡◌ {A = ℕ} 1 0 → ⊥
      one_is_not is = omega (arith, is)

  -- and a read of no tupleset is not asked
  read_nothing : (old new : Store D) (slot : ℕ) (after : ReadView) → ReadTurns state honest moment left_since 7 1 old new slot (fresh []) after → ⊥
  read_nothing old new slot after turn = let some : 1 ≤ length {A = Tupleset} [] = turn.asked.1 in omega arith
