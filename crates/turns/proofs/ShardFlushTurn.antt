-- A flush of a shard is a turn of a run, which ends the flow that asked for it.
use Rattle.std.proofs.Common.{◌≡◌, ◌≢◌, inl, inr, ℕ, ◌<◌, ◌⊎◌, false, List, [], ◌∷◌, ◌++◌, Option, Some, Contains, refl, sym, ap, subst, arith}
use Rattle.std.proofs.lemmas.List.Elements.{All-nil}
use Rattle.stores.proofs.FlowEnds.{flows_end}
use Rattle.stores.proofs.ShardFlush.{shard_flushes_stand}
use Rattle.stores.proofs.ShardStages.{is_shard}
use Rattle.turns.proofs.Words.{Agrees, Asked, Calls, Down, FlushesShard, HasItsCause, IsHorizonIn, IsQuiet, IsTurned, MayRise, Moment, NodeName, Nodes, Record, Refusal, Running, Stands, Turns, Unsure, answered, coordinator, done, down, ended, is_write, refuses, shard, to_flush, up, with_nodes}
use Rattle.turns.specs.FlushTurns.{ShardFlushesAnswer}

module _ (store shards : ℕ) (left after : NodeName → List Record → Type 0) (now : Moment) (next : Nodes) (s : ℕ) (r : Running) (st : Stands store shards left now) (in_store : s < shards) (flush : FlushesShard s left after now.nodes next)
    (there : Contains now.running r) (asked : r.asked ≡ to_flush (shard s)) (goes_on : r.is_cancelled ≡ false) where
  abbrev flushed : Moment
  flushed = record now { nodes = next; running = ended r.slot now.running }

  nor_here : shard s ≢ coordinator
  nor_here same = let e : 1 ≡ 0 = ap is_shard same in omega (arith, e)

  turned : (o : Option Refusal) → (o ≡ r.met) ⊎ ((e : Refusal) × (o ≡ Some e) × HasItsCause shards (shard s) now flushed r e)
      → IsTurned shards (IsHorizonIn store shards left now.nodes) (shard s) now r [] flushed (record r { seen = r.seen ++ now.machine ∷ []; met = o })
  turned o why = record {
    slot = refl;
    asked = refl;
    same_id = λ id is. is;
    seen = refl;
    decides = inr (record { moves_are = All-nil (IsQuiet (MayRise shards (IsHorizonIn store shards left now.nodes) now)); decided = refl });
    met = why;
    cancelled = refl;
    reopened_is = refl;
  }

  done_turn : next.at (shard s) ≡ up flush.records [] → Turns shards (IsHorizonIn store shards left now.nodes) now r (answered done ∷ []) flushed
  done_turn is_up = record {
    moves = [];
    machine = refl;
    node = shard s;
    others = flush.others;
    called = inr (inr (inl (record { durable = flush.durable; staged = flush.staged; records = flush.records; was = flush.was; now = is_up; stand_for = flush.stand_for })));
    later = record r { seen = r.seen ++ now.machine ∷ [] };
    open_writes = inl (record { open_writes = flush.others.open_writes nor_here; given = flush.others.given nor_here }, refl);
    turned = turned r.met (inl refl);
    named = refl;
    tells = inl (goes_on, (answered done, refl, (subst (λ (a : Asked). Agrees (record r { seen = r.seen ++ now.machine ∷ [] }) flushed a done) (sym asked) tt, refl, refl)));
  }

  down_turn : next.at (shard s) ≡ down → Turns shards (IsHorizonIn store shards left now.nodes) now r (refuses Down ∷ []) flushed
  down_turn is_down = record {
    moves = [];
    machine = refl;
    node = shard s;
    others = flush.others;
    called = inr (inr (inr (record { durable = flush.durable; staged = flush.staged; was = flush.was; now = is_down })));
    later = record r { seen = r.seen ++ now.machine ∷ []; met = Some Down };
    open_writes = inl (record { open_writes = flush.others.open_writes nor_here; given = flush.others.given nor_here }, refl);
    turned = turned (Some Down) (inr (Down, refl, inl (subst (λ (a : Asked). Calls shards a r.holds (shard s)) (sym asked) (in_store, refl), inl is_down)));
    named = refl;
    tells = inl (goes_on, (refuses Down, refl, (record { met = refl; decided = λ none. not_unsure; undecided_write = λ other. (st.flows.quiet r there (ap is_write asked)).0 }, refl, refl)));
  }
    where
      not_unsure : Down ≢ Unsure
      not_unsure is = cc

pub shard_flushes_answer : (store shards : ℕ) (left after : NodeName → List Record → Type 0) → ShardFlushesAnswer store shards left after
shard_flushes_answer store shards left after now next s r st in_store flush image there asked goes_on = (
  flows_end store shards after (with_nodes now next) r.slot (shard_flushes_stand store shards left after now next s st flush image),
  done_turn store shards left after now next s r st in_store flush there asked goes_on,
  down_turn store shards left after now next s r st in_store flush there asked goes_on,
)
