-- What the coordinator under its lock tells is of the list.
use Rattle.std.proofs.Common.{◌≡◌, ◌≤◌, ◌-◌, ℕ, min, List, ◌++◌, length, drop, Result, Option, Some, Ok, Err, refl, sym, ◌∙◌, subst, ap, arith, length-append}
use Rattle.std.specs.Global.{Vec}
use Rattle.std.proofs.lemmas.List.{append-nil, length-drop, length-take}
use Rattle.std.proofs.lemmas.Bool.{false_from_ne_true}
use Rattle.sides.proofs.Words.{Abort, Answered, AnsweredThere, Attempt, attempt, Batch, BatchValue, Begin, BeginAnswers, beginnings_stay_tied, Checkpoint, Coordinator, coordinator, CoordinatorAnswers, CoordinatorCall, CoordinatorReply, CoordinatorView, Decide, DecideAnswers, DecidedValue, end_of, Entry, Flush, from_coordinator, Heads, HeadsAnswers, HeadsValue, Inquire, IntentValue, IsOpenedTied, IsTied, IsTiedThere, IsTiedUp, kept_of, memory_of, NodeView, NotDecided, Outcome, Raise, Refusal, refused, Reply, State, TellsBatch, TellsDecided, TellsFound, TellsHeads, TellsKept, tried_by, VoteValue, WriteId, WriteValue}
use Rattle.tuples.specs.Limits.{max_batch}
use Rattle.coordinator.specs.declared.telling.Inquiry as inquiries
use Rattle.coordinator.specs.declared.telling.Inquiry.TheVariants.{Commit, Abort as is_aborted, Undecided}
use Rattle.coordinator.specs.declared.telling.Outcome as outcomes
use Rattle.coordinator.specs.declared.telling.Outcome.TheVariants.{Kept, Later, Unsure}
use Rattle.calls.specs.declared.reply.CoordinatorReply.TheVariants as told
use Rattle.calls.specs.CoordinatorAnswers.{BatchAnswers, InquireAnswers, OutcomeAnswers}
use Rattle.ties.specs.DecidingLaws.{StandsAt}
use Rattle.ties.proofs.Deciding.{kept_attempts_stand}
use Rattle.ties.proofs.Telling.{batches_are_seen, found_writes_stand, heads_are_seen}
use Rattle.calls.specs.Asking.{CoordinatorRefuses}
use Rattle.sides.specs.CoordinatorSides.{TellsBegun, TellsOf, write_of}
use Rattle.sides.proofs.CoordinatorCalls.{decided}

module _ {D : Type 0} (state : D → State) (honest : D → Type 0) (moment : D → ℕ) (left_since : D → ℕ → List ℕ → Type 0) (store shards : ℕ) (seen : List Entry) (low : ℕ) (tried : List Attempt) where
  -- what is decided is no less than the list
  decided_beside : (v : CoordinatorView D) → IsTiedUp state honest v seen low tried → length seen ≤ end_of (memory_of v)
  decided_beside v tied =
      let base = tied.all.base in
      let within = tied.all.within in
      let whole = length-append seen tied.more in
      let kept : length (memory_of v).log ≡ length (seen ++ tied.more) - (memory_of v).base = ap length tied.all.decisions ∙ length-drop (memory_of v).base (seen ++ tied.more) in
      omega (arith, base, within, whole, kept)

  heads_by : (v : CoordinatorView D) (r : Result HeadsValue Refusal) → IsOpenedTied state honest store shards v seen low tried → HeadsAnswers state honest v r → TellsHeads seen low (from_coordinator (told.Heads r))
  heads_by v (Ok h) tied a =
      let up = tied.up (false_from_ne_true v.is_down (λ down. cc (a.down.1 down))) in
      let is = a.ok up.running in
      let are = heads_are_seen state honest v seen low tried up in (
        ap (λ (x : HeadsValue). x.kept) is ∙ are.0,
        ap (λ (x : HeadsValue). x.horizon) is ∙ are.1,
        let more = decided_beside v up in let decided_is = ap (λ (x : HeadsValue). x.length) is in omega (arith, more, decided_is),
      )
  heads_by v (Err e) tied a = tt

  -- Given what a batch is asked for
  module _ (from to : ℕ) where
    batch_by : (v : CoordinatorView D) (r : Result BatchValue Refusal) → IsOpenedTied state honest store shards v seen low tried → BatchAnswers state honest v from to r → TellsBatch seen from to (from_coordinator (told.Batch r))
    batch_by v (Ok b) tied a =
        let up = tied.up (false_from_ne_true v.is_down (λ down. cc (a.down.1 down))) in
        let batches = a.ok up.running in
        let are = batches_are_seen state honest v from to b seen low tried up batches in
        let base = up.kept.base in
        let above = batches.above in
        let within = batches.within in
        let rest = length-drop (from - (kept_of v).base) (kept_of v).log in
        let size : length b.writes ≡ min (min (to - from) max_batch) (length (drop (from - (kept_of v).base) (kept_of v).log)) = ap length batches.writes ∙ length-take (min (to - from) max_batch) (drop (from - (kept_of v).base) (kept_of v).log) in
        (are.0, are.1, omega (arith, size, rest, base, above, within))
    batch_by v (Err e) tied a = tt

  -- Given the id of a write
  module _ (id : WriteId) where
    found_by : (v : CoordinatorView D) (r : Result inquiries.Inquiry Refusal) → IsOpenedTied state honest store shards v seen low tried → InquireAnswers state honest v id r → TellsFound seen id (from_coordinator (told.Inquire r))
    found_by v (Ok (Commit place)) tied a =
        let up = tied.up (false_from_ne_true v.is_down (λ down. cc (a.down.1 down))) in
        found_writes_stand state honest v id place seen low tried up (a.commit place up.running refl)
    found_by v (Ok (is_aborted verdict)) tied a = tt
    found_by v (Ok Undecided) tied a = tt
    found_by v (Err e) tied a = tt

  -- Given a write that is begun
  module _ (write : WriteValue) where
    begun_by : (old new : CoordinatorView D) (r : Result IntentValue Refusal) → IsOpenedTied state honest store shards old seen low tried → BeginAnswers state honest old write r new → TellsBegun write seen (from_coordinator (told.Begin r))
    begun_by old new (Ok i) tied a =
        let up = tied.up (false_from_ne_true old.is_down (λ down. cc (a.down.1 down))) in
        let begins = (a.ok up.running).0 in
        ((beginnings_stay_tied state honest old new write.changes write.conditions i seen low tried up begins).1, ap (λ (w : Entry). w.changes) begins.write, ap (λ (w : Entry). w.conditions) begins.write)
    begun_by old new (Err e) tied a = tt

  -- Given a write that is to be decided, with its votes
  module _ (intent : IntentValue) (votes : Vec VoteValue) where
    decided_by : (old new : CoordinatorView D) (r : Result DecidedValue NotDecided) → IsOpenedTied state honest store shards old seen low tried → DecideAnswers state honest old intent votes.items r new → TellsDecided seen (from_coordinator (told.Decide r))
    decided_by old new (Ok d) tied a = (decided state honest store shards old new seen low tried tied intent votes.items d a).1
    decided_by old new (Err e) tied a = tt

  -- Given a decision
  module _ (d : DecidedValue) where
    kept_by : (v : CoordinatorView D) (place : ℕ) → IsOpenedTied state honest store shards v seen low tried → OutcomeAnswers state honest v d (Kept place) → TellsKept seen tried d (from_coordinator (told.Outcome (Kept place)))
    kept_by v place tied a =
        let was_up = false_from_ne_true v.is_down (λ down. cc (a.down down)) in
        let kept = a.kept place (tied.up was_up).running refl in (
          kept.0,
          λ w known.
              subst (λ (n : ℕ). StandsAt n w seen) (sym kept.0)
              (kept_attempts_stand state honest v d (attempt d w) known.0 seen low tried (tied.up was_up) kept.1 known.1 refl refl),
        )

    outcome_by : (v : CoordinatorView D) (r : outcomes.Outcome) → IsOpenedTied state honest store shards v seen low tried → OutcomeAnswers state honest v d r → TellsKept seen tried d (from_coordinator (told.Outcome r))
    outcome_by v (Kept place) tied a = kept_by v place tied a
    outcome_by v (Later back) tied a =
        let was_up = false_from_ne_true v.is_down (λ down. cc (a.down down)) in
        (a.later back (tied.up was_up).running refl).0
    outcome_by v Unsure tied a = tt

  coordinator_tells : (call : CoordinatorCall) (old new : CoordinatorView D) (reply : CoordinatorReply) → IsOpenedTied state honest store shards old seen low tried → CoordinatorAnswers state honest moment left_since old call reply new
      → TellsOf seen low (tried ++ tried_by (write_of call) (from_coordinator reply)) call (from_coordinator reply)
  coordinator_tells (Begin write) old new (told.Begin r) tied a = begun_by write old new r tied a
  coordinator_tells Heads old new (told.Heads r) tied a = heads_by old r tied a.1
  coordinator_tells (Batch from to) old new (told.Batch r) tied a = batch_by from to old r tied a.1
  coordinator_tells (Decide intent votes) old new (told.Decide r) tied a = decided_by intent votes old new r tied a
  coordinator_tells (Outcome d) old new (told.Outcome r) tied a = subst (λ (l : List Attempt). TellsKept seen l d (from_coordinator (told.Outcome r))) (sym (append-nil tried)) (outcome_by d old r tied a.1)
  coordinator_tells (Abort intent) old new reply tied a = tt
  coordinator_tells (Inquire id) old new (told.Inquire r) tied a = found_by id old r tied a.1
  coordinator_tells (Raise place settled) old new reply tied a = tt
  coordinator_tells Flush old new reply tied a = tt
  coordinator_tells Checkpoint old new reply tied a = tt
  coordinator_tells call old new reply tied a = absurd a

  -- one whose opening was refused tells nothing of the list
  refused_tells : (e : Refusal) (more : List Attempt) (call : CoordinatorCall) (reply : CoordinatorReply) → CoordinatorRefuses e call reply → TellsOf seen low more call (from_coordinator reply)
  refused_tells e more (Begin write) (told.Begin (Ok i)) r = absurd (cc r)
  refused_tells e more (Begin write) (told.Begin (Err f)) r = tt
  refused_tells e more Heads (told.Heads (Ok h)) r = absurd (cc r)
  refused_tells e more Heads (told.Heads (Err f)) r = tt
  refused_tells e more (Batch from to) (told.Batch (Ok b)) r = absurd (cc r)
  refused_tells e more (Batch from to) (told.Batch (Err f)) r = tt
  refused_tells e more (Decide intent votes) (told.Decide (Ok d)) r = absurd r
  refused_tells e more (Decide intent votes) (told.Decide (Err f)) r = tt
  refused_tells e more (Outcome d) (told.Outcome (Kept place)) r = absurd (cc r)
  refused_tells e more (Outcome d) (told.Outcome (Later back)) r = absurd (cc r)
  refused_tells e more (Outcome d) (told.Outcome Unsure) r = tt
  refused_tells e more (Abort intent) reply r = tt
  refused_tells e more (Inquire id) (told.Inquire (Ok x)) r = absurd (cc r)
  refused_tells e more (Inquire id) (told.Inquire (Err f)) r = tt
  refused_tells e more (Raise place settled) reply r = tt
  refused_tells e more Flush reply r = tt
  refused_tells e more Checkpoint reply r = tt
  refused_tells e more call reply r = absurd r

  node_tells : (call : CoordinatorCall) (old : NodeView D) (reply : Reply) (new : NodeView D) → IsTied state honest store shards old seen low tried → Answered state honest moment left_since old (Coordinator call) reply new
      → TellsOf seen low (tried ++ tried_by (write_of call) reply) call reply
  node_tells call (coordinator old) (from_coordinator reply) (coordinator new) tied a = coordinator_tells call old new reply tied a
  node_tells call (refused e x y) (from_coordinator reply) new tied a = refused_tells e (tried ++ tried_by (write_of call) (from_coordinator reply)) call reply a.1
  node_tells call (refused e x y) reply new tied a = absurd a.1
  node_tells call old reply new tied a = absurd a

  -- what is told is of the list, and of the decisions that were once staged
  pub call_tells : (call : CoordinatorCall) (old new : Option (NodeView D)) (reply : Reply) → IsTiedThere state honest store shards old seen low tried → AnsweredThere state honest moment left_since old call reply new
      → TellsOf seen low (tried ++ tried_by (write_of call) reply) call reply
  call_tells call (Some old) (Some new) reply tied a = node_tells call old reply new tied a
  call_tells call old new reply tied a = absurd a
