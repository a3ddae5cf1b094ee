-- A flush of the coordinator is a turn of a run, which ends the flow that asked for it.
use Rattle.std.proofs.Common.{◌≡◌, ◌≢◌, inl, inr, ⊎_elim, ℕ, ◌≤◌, ◌<◌, max, false, List, [], ◌∷◌, ◌++◌, length, All, refl, sym, ap, subst, arith}
use Rattle.std.proofs.lemmas.Bool.{cases_lt}
use Rattle.std.proofs.lemmas.List.Elements.{All-cons, All-nil}
use Rattle.stores.proofs.CoordinatorFlush.{coordinator_flushes_stand}
use Rattle.stores.proofs.FlowEnds.{flows_end}
use Rattle.turns.proofs.Words.{Agrees, Asked, FlushesCoordinator, IsHorizonIn, IsQuiet, IsQuietCall, Machine, MayRise, Means, Moment, Move, Moves, NodeName, Nodes, Record, Running, SameBut, Stands, Turns, all_kept, answered, at_shards, coordinator, coordinator_state, done, ended, keep, leaves, raise, shard, staged_of, to_flush}
use Rattle.turns.specs.AnswerLaws.{CoordinatorFlushesAreQuiet}
use Rattle.turns.specs.FlushTurns.{FlushesAnswer, with_flush}

module _ (store shards : ℕ) (left after : NodeName → List Record → Type 0) (now : Moment) (next : Nodes) (st : Stands store shards left now) (flush : FlushesCoordinator left after now.nodes next) where
  abbrev records : List Record
  records = flush.durable ++ flush.staged

  abbrev m : Machine
  m = all_kept now.machine records

  whole : Means store shards now.machine.log now.machine.horizon records (at_shards (leaves left now.nodes))
  whole = st.heads.whole flush.durable flush.staged flush.was

  abbrev rises_to : ℕ → Type 0
  rises_to = MayRise shards (IsHorizonIn store shards left now.nodes) now

  kept_all : Machine
  kept_all = record now.machine { kept = length now.machine.log }

  is_max : max now.machine.kept (length now.machine.log) ≡ length now.machine.log
  is_max = omega (arith, st.rests.within)

  moved : (moves : List Move) × Moves now.machine moves m × All (IsQuiet rises_to) moves
  unfolding kept_all
  moved = ⊎_elim
      (λ (lt : now.machine.horizon < (coordinator_state records).horizon). (
        keep (length now.machine.log) ∷ raise (coordinator_state records).horizon ∷ [],
        (kept_all, (omega arith, ap (λ (k : ℕ). record now.machine { kept = k }) (sym is_max)), (m, (omega (arith, lt), whole.decided.within, refl), refl)),
        All-cons (IsQuiet rises_to) (keep (length now.machine.log)) (raise (coordinator_state records).horizon ∷ []) tt
            (All-cons (IsQuiet rises_to) (raise (coordinator_state records).horizon) [] (inr (omega (arith, lt), (records, there, refl))) (All-nil (IsQuiet rises_to))),
      ))
      (λ (le : (coordinator_state records).horizon ≤ now.machine.horizon).
      let low : now.machine.horizon ≤ (coordinator_state records).horizon = whole.decided.above in
      let same : now.machine.horizon ≡ (coordinator_state records).horizon = omega (arith, le, low) in (
        keep (length now.machine.log) ∷ [],
        (kept_all, (omega arith, ap (λ (k : ℕ). record now.machine { kept = k }) (sym is_max)), ap (λ (h : ℕ). record now.machine { kept = length now.machine.log; horizon = h }) (sym same)),
        All-cons (IsQuiet rises_to) (keep (length now.machine.log)) [] tt (All-nil (IsQuiet rises_to)),
      ))
      (cases_lt now.machine.horizon (coordinator_state records).horizon)
    where
      there : leaves left now.nodes coordinator records
      there = (flush.durable, (st.nodes.durable coordinator flush.durable flush.staged flush.durable flush.was).1 refl, inr (ap (λ (l : List Record). flush.durable ++ l) (sym (ap staged_of flush.was))))

  same_but : SameBut coordinator now.nodes next
  same_but = record { others = λ k ne. unchanged k ne; open_writes = λ ne. absurd (ne refl); given = λ ne. absurd (ne refl) }
    where
      unchanged : (k : NodeName) → k ≢ coordinator → next.at k ≡ now.nodes.at k
      unchanged coordinator ne = absurd (ne refl)
      unchanged (shard t) ne = flush.shards t

  is_quiet : IsQuietCall store shards left after now next m
  is_quiet = record {
    stands = coordinator_flushes_stand store shards left after now next st flush whole.image;
    moves = moved.0;
    machine = moved.1;
    quiet = moved.2;
    node = coordinator;
    others = same_but;
    called = inr (inr (inl (record { durable = flush.durable; staged = flush.staged; records = flush.records; was = flush.was; now = flush.now; stand_for = flush.stand_for })));
    open_writes = record { open_writes = flush.open_writes; given = flush.given };
  }

  -- if the flow was to flush the coordinator, it ends
  module _ (r : Running) (asked : r.asked ≡ to_flush coordinator) (goes_on : r.is_cancelled ≡ false) where
    abbrev flushed : Moment
    flushed = record now { nodes = next; machine = m; running = ended r.slot now.running }

    turns : Turns shards (IsHorizonIn store shards left now.nodes) now r (answered done ∷ []) flushed
    turns = record {
      moves = moved.0;
      machine = moved.1;
      node = coordinator;
      others = same_but;
      called = inr (inr (inl (record { durable = flush.durable; staged = flush.staged; records = flush.records; was = flush.was; now = flush.now; stand_for = flush.stand_for })));
      later = with_flush r m;
      open_writes = inl (record { open_writes = flush.open_writes; given = flush.given }, refl);
      turned = record {
        slot = refl;
        asked = refl;
        same_id = λ id is. is;
        seen = refl;
        decides = inr (record { moves_are = moved.2; decided = refl });
        met = inl refl;
        cancelled = refl;
        reopened_is = refl;
      };
      named = refl;
      tells = inl (goes_on, (answered done, refl, (subst (λ (a : Asked). Agrees (with_flush r m) flushed a done) (sym asked) refl, refl, refl)));
    }

pub flushes_are_quiet : (store shards : ℕ) (left after : NodeName → List Record → Type 0) → CoordinatorFlushesAreQuiet store shards left after
flushes_are_quiet store shards left after now next st flush = is_quiet store shards left after now next st flush

pub flushes_answer : (store shards : ℕ) (left after : NodeName → List Record → Type 0) → FlushesAnswer store shards left after
flushes_answer store shards left after now next r st flush image asked goes_on = (
  flows_end store shards after (record now { nodes = next; machine = all_kept now.machine (flush.durable ++ flush.staged) }) r.slot (coordinator_flushes_stand store shards left after now next st flush image),
  turns store shards left after now next st flush r asked goes_on,
)
