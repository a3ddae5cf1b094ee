-- A flush of the coordinator that fails is a turn of a run, which ends the flow that asked for it with Down.
use Rattle.std.proofs.Common.{◌≡◌, ◌≢◌, inl, inr, ℕ, false, List, [], ◌∷◌, ◌++◌, None, Some, Contains, refl, sym, ◌∙◌, ap, subst}
use Rattle.std.proofs.lemmas.List.Elements.{All-nil}
use Rattle.stores.proofs.FailedFlush.{failed_flushes_stand}
use Rattle.stores.proofs.FlowEnds.{flows_end}
use Rattle.turns.proofs.Words.{Asked, Calls, Down, FailsFlush, IsDown, IsHorizonIn, IsQuiet, MayRise, Moment, NodeName, Nodes, Record, Running, SameBut, Stands, Turns, Unsure, coordinator, ended, is_write, refuses, shard, to_flush, with_nodes}
use Rattle.turns.specs.AnswerLaws.{FailedFlushesAreQuiet}
use Rattle.turns.specs.FlushTurns.{FailedFlushesAnswer}

module _ (store shards : ℕ) (left after : NodeName → List Record → Type 0) (now : Moment) (next : Nodes) (r : Running) (st : Stands store shards left now) (fails : FailsFlush left after now.nodes next)
    (there : Contains now.running r) (asked : r.asked ≡ to_flush coordinator) (goes_on : r.is_cancelled ≡ false) where
  abbrev failed : Moment
  failed = record now { nodes = next; running = ended r.slot now.running }

  abbrev later : Running
  later = record r { seen = r.seen ++ now.machine ∷ []; met = Some Down }

  same_but : SameBut coordinator now.nodes next
  same_but = record { others = λ k ne. unchanged k ne; open_writes = λ ne. absurd (ne refl); given = λ ne. absurd (ne refl) }
    where
      unchanged : (k : NodeName) → k ≢ coordinator → next.at k ≡ now.nodes.at k
      unchanged coordinator ne = absurd (ne refl)
      unchanged (shard t) ne = fails.unchanged t

  -- a flush decides nothing
  undecided : r.decided ≡ None
  undecided = (st.flows.quiet r there (ap is_write asked)).0

  calls : Calls shards (to_flush coordinator) r.holds coordinator
  calls s same = other same
    where
      other : to_flush coordinator ≡ to_flush (shard s) → ⊥
      other is = cc

  down_cause : Calls shards r.asked r.holds coordinator × IsDown next coordinator
  down_cause = (subst (λ (a : Asked). Calls shards a r.holds coordinator) (sym asked) calls, inl fails.now)

  turns : Turns shards (IsHorizonIn store shards left now.nodes) now r (refuses Down ∷ []) failed
  turns = record {
    moves = [];
    machine = refl;
    node = coordinator;
    others = same_but;
    called = inr (inr (inr (record { durable = fails.durable; staged = fails.staged; was = fails.was; now = fails.now })));
    later = later;
    open_writes = inl (record { open_writes = fails.open_writes; given = fails.given }, refl);
    turned = record {
      slot = refl;
      asked = refl;
      same_id = λ id is. is;
      seen = refl;
      decides = inr (record { moves_are = All-nil (IsQuiet (MayRise shards (IsHorizonIn store shards left now.nodes) now)); decided = refl });
      met = inr (Down, refl, inl down_cause);
      cancelled = refl;
      reopened_is = refl;
    };
    named = refl;
    tells = inl (goes_on, (refuses Down, refl, (record { met = refl; decided = λ none. not_unsure; undecided_write = λ other. undecided }, refl, refl)));
  }
    where
      not_unsure : Down ≢ Unsure
      not_unsure is = cc

pub failed_flushes_are_quiet : (store shards : ℕ) (left after : NodeName → List Record → Type 0) → FailedFlushesAreQuiet store shards left after
failed_flushes_are_quiet store shards left after now next st fails = (
  record {
    stands = failed_flushes_stand store shards left after now next st fails;
    moves = [];
    machine = refl;
    quiet = All-nil (IsQuiet (MayRise shards (IsHorizonIn store shards left now.nodes) now));
    node = coordinator;
    others = record { others = unchanged; open_writes = λ ne. absurd (ne refl); given = λ ne. absurd (ne refl) };
    called = inr (inr (inr (record { durable = fails.durable; staged = fails.staged; was = fails.was; now = fails.now })));
    open_writes = record { open_writes = fails.open_writes; given = fails.given };
  },
  λ r ran same calls. inl (calls, inl (ap (λ (n : Nodes). n.at coordinator) same ∙ fails.now)),
)
  where
    unchanged : (k : NodeName) → k ≢ coordinator → next.at k ≡ now.nodes.at k
    unchanged coordinator ne = absurd (ne refl)
    unchanged (shard t) ne = fails.unchanged t

pub failed_flushes_answer : (store shards : ℕ) (left after : NodeName → List Record → Type 0) → FailedFlushesAnswer store shards left after
failed_flushes_answer store shards left after now next r st fails there asked goes_on = (
  flows_end store shards after (with_nodes now next) r.slot (failed_flushes_stand store shards left after now next st fails),
  turns store shards left after now next r st fails there asked goes_on,
)
