-- Flows that end: their answers agree.
use Rattle.std.proofs.Common.{◌≡◌, ◌≢◌, inl, ⊎_elim, ◌≤◌, ℕ, false, List, [], ◌∷◌, ◌++◌, All, Contains, Some, None, refl, sym, ◌∙◌, ap, subst, arith}
use Rattle.std.proofs.lemmas.List.Elements.{All-cons, All-head, All-nil, All-tail}
use Rattle.stores.proofs.Batches.{watches_agree}
use Rattle.stores.proofs.CheckWalk.{checks_say_no, checks_say_yes}
use Rattle.stores.proofs.ReadAnswer.{reads_answer}
use Rattle.stores.proofs.ShardStages.{durable_in}
use Rattle.turns.proofs.Words.{Agrees, Answer, Asked, Holds, IsQuietCall, IsResolved, IsRight, IsRightRaise, IsRightResolved, IsRightVerdict, IsRightWrite, IsStaged, Machine, Means, Moment, NodeName, Nodes, Record, Refusal, Resolved, Running, Unsure, aborted, all_kept, at_shards, behind_call, committed, coordinator, coordinator_state, down, ending, is_write, leaves, raising, staged_of, told_by, undecided, up, writing}
use Rattle.turns.specs.AnswerLaws.{ChecksAnswerNo, ChecksAnswerYes, CollectsAnswer, EndsWith, LearnsAnswer, RaisesAnswer, ReadsAnswer, RefusedWritesEnd, ResolvesAnswer, WatchesAnswer, having_seen}
use Rattle.turns.specs.Runs.{aborted_ids}
use Rattle.turns.proofs.FlushTurn.{flushes_are_quiet}
use Rattle.turns.proofs.QuietTurns.{quiet_calls_answer, quiet_calls_refuse}

module _ (store shards : ℕ) (left after : NodeName → List Record → Type 0) where
  -- a flow other than a write ends with an answer that agrees
  ends_with : (now : Moment) (next : Nodes) (m : Machine) (r : Running) (asked : Asked) (answer : Answer) → IsQuietCall store shards left after now next m → Contains now.running r
      → r.asked ≡ asked → is_write asked ≡ false → Agrees (having_seen r m) (ending now next m r (told_by answer)) asked answer
      → All (IsRightVerdict shards after (behind_call now next m)) (told_by answer) → EndsWith store shards left after now next m r answer
  ends_with now next m r asked answer call running is no_write agrees told =
      quiet_calls_answer store shards left after now next m r r.holds answer call running refl (call.stands.flows.quiet r running (ap is_write is ∙ no_write)).1
      (subst (λ (a : Asked). Agrees (having_seen r m) (ending now next m r (told_by answer)) a answer) (sym is) agrees) told

  pub reads_end : ReadsAnswer store shards left after
  reads_end now next m r fresh sets h place call running asked right at all =
      ends_with now next m r _ _ call running asked refl (reads_answer store shards after (behind_call now next m) (having_seen r m) fresh sets h place right at all) (All-nil (IsRightVerdict shards after (behind_call now next m)))

  pub checks_end_yes : ChecksAnswerYes store shards left after
  checks_end_yes now next m r fresh x u h place y rows call running asked right at waits selected has =
      ends_with now next m r _ _ call running asked refl (checks_say_yes store shards after (behind_call now next m) (having_seen r m) fresh x u h place y rows right at waits selected has) (All-nil (IsRightVerdict shards after (behind_call now next m)))

  pub checks_end_no : ChecksAnswerNo store shards left after
  checks_end_no now next m r fresh x u h place call running asked right at none =
      ends_with now next m r _ _ call running asked refl (checks_say_no store shards after (behind_call now next m) (having_seen r m) fresh x u h place right at none) (All-nil (IsRightVerdict shards after (behind_call now next m)))

  pub watches_end : WatchesAnswer store shards left after
  watches_end now next m r c limit names heads b call running asked right batch low high from size =
      ends_with now next m r _ _ call running asked refl (watches_agree store shards after (behind_call now next m) (having_seen r m) c limit names heads b right batch low high from size) (All-nil (IsRightVerdict shards after (behind_call now next m)))

  pub learns_end : LearnsAnswer store shards left after
  learns_end now next m r s heads memory call running asked right knows learned =
      ends_with now next m r _ _ call running asked refl (record {
        kept = heads.kept;
        was = right.was;
        memory = memory;
        knows = record { durable = knows.durable; staged = knows.staged; is_up = knows.is_up; replayed = knows.replayed };
        learned = learned;
      }) (All-nil (IsRightVerdict shards after (behind_call now next m)))

  resolved_one : (now : Moment) (x : Resolved) → IsRightResolved shards after now x → IsResolved now.machine x
  resolved_one now (committed id place) is = is
  resolved_one now (aborted id) is = is.none
  resolved_one now (undecided id) is = tt

  all_resolved : (now : Moment) (found : List Resolved) → All (IsRightResolved shards after now) found → All (IsResolved now.machine) found
  all_resolved now [] are = All-nil (IsResolved now.machine)
  all_resolved now (x ∷ found) are = All-cons (IsResolved now.machine) x found (resolved_one now x (All-head (IsRightResolved shards after now) x found are)) (all_resolved now found (All-tail (IsRightResolved shards after now) x found are))

  all_verdicts : (now : Moment) (found : List Resolved) → All (IsRightResolved shards after now) found → All (IsRightVerdict shards after now) (aborted_ids found)
  all_verdicts now [] are = All-nil (IsRightVerdict shards after now)
  all_verdicts now (committed id place ∷ found) are = all_verdicts now found (All-tail (IsRightResolved shards after now) (committed id place) found are)
  all_verdicts now (aborted id ∷ found) are =
      All-cons (IsRightVerdict shards after now) id (aborted_ids found) (All-head (IsRightResolved shards after now) (aborted id) found are) (all_verdicts now found (All-tail (IsRightResolved shards after now) (aborted id) found are))
  all_verdicts now (undecided id ∷ found) are = all_verdicts now found (All-tail (IsRightResolved shards after now) (undecided id) found are)

  pub resolves_end : ResolvesAnswer store shards left after
  resolves_end now next m r s found call running asked are =
      ends_with now next m r _ _ call running asked refl (all_resolved (behind_call now next m) found are) (all_verdicts (behind_call now next m) found are)

  pub collects_end : CollectsAnswer store shards left after
  collects_end now next m r s call running asked = ends_with now next m r _ _ call running asked refl tt (All-nil (IsRightVerdict shards after (behind_call now next m)))

  pub raises_end : RaisesAnswer store shards left after
  raises_end now next r x h st flush running asked holds raised = ends_with now next (all_kept now.machine (flush.durable ++ flush.staged)) r _ _ (flushes_are_quiet store shards left after now next st flush) running asked refl there (All-nil (IsRightVerdict shards after (behind_call now next (all_kept now.machine (flush.durable ++ flush.staged)))))
    where
      right : IsRightRaise shards left now r x h
      right = subst (λ (a : Asked). IsRight shards left now r a (raising h)) asked (subst (λ (k : Holds). IsRight shards left now r r.asked k) holds (st.flows.held r running))

      whole : Means store shards now.machine.log now.machine.horizon (flush.durable ++ flush.staged) (at_shards (leaves left now.nodes))
      whole = st.heads.whole flush.durable flush.staged flush.was

      -- what is staged is durable then
      risen : IsStaged shards left now.nodes x → x ≤ (coordinator_state (flush.durable ++ flush.staged)).horizon
      risen is =
          let both : up is.durable is.staged ≡ up flush.durable flush.staged = sym is.is_up ∙ flush.was in
          let records : is.durable ++ is.staged ≡ flush.durable ++ flush.staged = ap (λ (l : List Record). l ++ is.staged) (ap durable_in both) ∙ ap (λ (l : List Record). flush.durable ++ l) (ap staged_of both) in
          subst (λ (l : List Record). x ≤ (coordinator_state l).horizon) records is.enough

      not_down : now.nodes.at coordinator ≡ down → ⊥
      not_down is = let both : down ≡ up flush.durable flush.staged = sym is ∙ flush.was in cc

      there : r.is_reopened ≡ false → x ≤ (coordinator_state (flush.durable ++ flush.staged)).horizon
      there same = ⊎_elim
          (λ (low : x ≤ now.machine.horizon). let up_to = whole.decided.above in omega (arith, low, up_to))
          (λ rest. ⊎_elim (λ staged. risen staged) (λ gone. absurd (not_down gone)) rest)
          (right.raised raised same)

  pub refused_writes_end : RefusedWritesEnd store shards left after
  refused_writes_end now next m r changes conditions h e call running asked holds way sure told =
      quiet_calls_refuse store shards left after now next m r e call running told (λ none. sure) (λ other. met.0) (inl (sym (met.1 e refl).0))
    where
      right : IsRightWrite shards after (behind_call now next m) r changes conditions h
      right = subst (λ (a : Asked). IsRight shards after (behind_call now next m) r a (writing h)) asked (subst (λ (k : Holds). IsRight shards after (behind_call now next m) r r.asked k) holds (call.stands.flows.held r running))

      met : (r.decided ≡ None) × ((f : Refusal) → Some e ≡ Some f → (r.met ≡ Some f) × (f ≢ Unsure))
      met = right.out (Some e) way
