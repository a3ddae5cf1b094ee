-- What a coordinator that is up answers makes turns of a run.
use Rattle.std.proofs.Common.{◌≡◌, inl, inr, ⊎_elim, ◌<◌, ℕ, List, [], Option, Some, None, Contains, refl, sym, ◌∙◌, ap, subst}
use Rattle.std.proofs.lemmas.List.Elements.{All-nil, All-push}
use Rattle.std.proofs.lemmas.Option.{same_Some}
use Rattle.stores.specs.Causes.{IsUnsure}
use Rattle.stores.proofs.Answers.{outcomes_agree}
use Rattle.turns.proofs.Words.{Agrees, AreHeldHeads, AreRightHeads, Asked, Change, Condition, CoordinatorKnows, CoordinatorState, DecidedValue, HeadsHeld, HeadsValue, Holds, IfHeld, IsRight, IsRightDecision, IsRightResolve, IsRightResolved, IsRightVerdict, IsRightWrite, Machine, Moment, NodeName, Record, Resolved, Running, Stands, Unsure, WriteHolds, WriteId, aborted, checking, collecting, committed, down, ending, flushing, heads_of, id_of, kept_of, learning, memory_of, own_write, raising, reading, refused, resolving, to_check, to_collect, to_flush, to_learn, to_raise, to_read, to_resolve, to_watch, to_write, undecided, up, watching, with_call, writing, wrote}
use Rattle.turns.specs.CoordinatorSeamLaws.{AwayIsForgotten, BatchTurns, HasDecided, HeadsTurn, IsForgotten, KeptAnswers, ResolvingTurns, StillTurns, TurnsTo, UnsureAnswers, VerdictsTurn, verdict_with, with_heads, with_resolved}
use Rattle.turns.proofs.CoordinatorCalls.{batch_right, knows, right_heads}
use Rattle.turns.proofs.QuietTurns.{nothing_changes, quiet_calls_answer, quiet_calls_keep, quiet_calls_refuse, quiet_calls_turn}
use Rattle.turns.proofs.SeesOn.{sees_on}

-- what a flow holds stays right if it has seen one more machine
pub seen_on : (shards : ℕ) (left : NodeName → List Record → Type 0) (now : Moment) (r : Running) (holds : Holds) (m : Machine) (asked : Asked) (h : Holds) → IsRight shards left now r asked h
    → IsRight shards left now (with_call r holds r.met m) asked h
seen_on shards left now r holds m (to_write changes conditions) (writing h) k = sees_on shards left now r holds m h.batch k.batch (to_write changes conditions) (writing h) k
seen_on shards left now r holds m (to_read fresh sets) (reading h) k = sees_on shards left now r holds m h.batch k.batch (to_read fresh sets) (reading h) k
seen_on shards left now r holds m (to_check fresh x u) (checking h) k = sees_on shards left now r holds m h.batch k.batch (to_check fresh x u) (checking h) k
seen_on shards left now r holds m (to_watch c limit names) (watching h) k = sees_on shards left now r holds m h.batch k.batch (to_watch c limit names) (watching h) k
seen_on shards left now r holds m (to_flush n) flushing k = k
seen_on shards left now r holds m (to_learn s) (learning h) k = sees_on shards left now r holds m h.batch k.batch (to_learn s) (learning h) k
seen_on shards left now r holds m (to_resolve s) (resolving h) k = sees_on shards left now r holds m h.batch k.batch (to_resolve s) (resolving h) k
seen_on shards left now r holds m (to_raise x) (raising h) k = sees_on shards left now r holds m h.batch k.batch (to_raise x) (raising h) k
seen_on shards left now r holds m (to_collect s) (collecting h) k = sees_on shards left now r holds m h.batch k.batch (to_collect s) (collecting h) k
seen_on shards left now r holds m asked h k = absurd k

if_some : {X : Type 0} (x : X) (P : X → Type 0) → P x → IfHeld (Some x) P
if_some x P is y same = subst P (same_Some x y same) is

module _ (shards : ℕ) (left : NodeName → List Record → Type 0) (now : Moment) (r : Running) (v : HeadsValue) (right : AreRightHeads r now.machine v) where
  held_heads : (h : HeadsHeld) → AreHeldHeads shards left now r h → AreHeldHeads shards left now r (record h { heads = Some v })
  held_heads h k = record { heads = if_some v (AreRightHeads r now.machine) right; batch = k.batch }

  -- heads that are right may be held beside all else
  heads_held : (asked : Asked) (h : Holds) → IsRight shards left now r asked h → IsRight shards left now r asked (with_heads v h)
  heads_held (to_write changes conditions) (writing h) k = k
  heads_held (to_read fresh sets) (reading h) k =
      record { heads = if_some v (AreRightHeads r now.machine) right; place = k.place; done = k.done; few = k.few; rows = k.rows; nothing = k.nothing; batch = k.batch }
  heads_held (to_check fresh x u) (checking h) k = record {
    heads = if_some v (AreRightHeads r now.machine) right;
    place = k.place;
    nothing = k.nothing;
    walk = k.walk;
    batch = k.batch;
  }
  heads_held (to_watch c limit names) (watching h) k = held_heads h k
  heads_held (to_flush n) flushing k = k
  heads_held (to_learn s) (learning h) k = held_heads h k
  heads_held (to_resolve s) (resolving h) k = k
  heads_held (to_raise x) (raising h) k = record { named = k.named; heads = if_some v (AreRightHeads r now.machine) right; settled = k.settled; batch = k.batch; raised = k.raised }
  heads_held (to_collect s) (collecting h) k = held_heads h k
  heads_held asked h k = absurd k

same_flow : (v : HeadsValue) (h : Holds) → id_of (with_heads v h) ≡ id_of h
same_flow v (writing h) = refl
same_flow v (reading h) = refl
same_flow v (checking h) = refl
same_flow v (watching h) = refl
same_flow v flushing = refl
same_flow v (learning h) = refl
same_flow v (resolving h) = refl
same_flow v (raising h) = refl
same_flow v (collecting h) = refl

-- a flow whose call changes nothing, and that holds what is right, takes its turn
module _ (store shards : ℕ) (left : NodeName → List Record → Type 0) (now : Moment) (r : Running) (st : Stands store shards left now) (running : Contains now.running r) where
  pub later_right : (holds : Holds) → IsRight shards left now (with_call r holds r.met now.machine) r.asked r.holds
  later_right holds = seen_on shards left now r holds now.machine r.asked r.holds (st.flows.held r running)

  pub turns_to : (holds : Holds) → id_of holds ≡ id_of r.holds → IsRight shards left now (with_call r holds r.met now.machine) r.asked holds → TurnsTo store shards left now r (with_call r holds r.met now.machine)
  turns_to holds same right = quiet_calls_turn store shards left left now now.nodes now.machine r holds r.met (record { call = nothing_changes store shards left now st; running = running; same_id = same; right = right }) (inl refl)

pub still_turns : (store shards : ℕ) (left : NodeName → List Record → Type 0) → StillTurns store shards left
still_turns store shards left now r st running = turns_to store shards left now r st running r.holds refl (later_right store shards left now r st running r.holds)

pub heads_turn : (store shards : ℕ) (left : NodeName → List Record → Type 0) (D : Type 0) → HeadsTurn store shards left D
heads_turn store shards left D now v r st seen running =
    let holds = with_heads (heads_of v) r.holds in
    turns_to store shards left now r st running holds (same_flow (heads_of v) r.holds)
    (heads_held shards left now (with_call r holds r.met now.machine) (heads_of v) (right_heads store shards left now v st seen r holds running) r.asked r.holds (later_right store shards left now r st running holds))

pub batch_turns : (store shards : ℕ) (left : NodeName → List Record → Type 0) (D : Type 0) → BatchTurns store shards left D
batch_turns store shards left D now v r from to b st seen running ordered batch =
    quiet_calls_keep store shards left left now now.nodes now.machine r (Some b) (nothing_changes store shards left now st) running
    (if_some b _ (batch_right store shards left now v st seen from to b ordered batch).0)

pub resolving_turns : (store shards : ℕ) (left : NodeName → List Record → Type 0) → ResolvingTurns store shards left
resolving_turns store shards left now r s h x st running asked holds is =
    let later = with_resolved x h in
    let was : IsRightResolve shards left now h = subst (λ (a : Asked). IsRight shards left now r a (resolving h)) asked (subst (λ (k : Holds). IsRight shards left now r r.asked k) holds (st.flows.held r running)) in
    turns_to store shards left now r st running later (ap id_of (sym holds)) (subst (λ (a : Asked). IsRight shards left now (with_call r later r.met now.machine) a later) (sym asked) (record {
      found = All-push (IsRightResolved shards left now) h.found x was.found is;
      verdict = verdict_right x is;
      batch = was.batch;
    }))
  where
    never : (i : WriteId) → None ≡ Some i → ⊥
    never i is = cc

    verdict_right : (y : Resolved) → IsRightResolved shards left now y → IfHeld (verdict_with y) (IsRightVerdict shards left now)
    verdict_right (committed id place) so = λ i is. absurd (never i is)
    verdict_right (aborted id) so = if_some id (IsRightVerdict shards left now) so
    verdict_right (undecided id) so = λ i is. absurd (never i is)

module _ (store shards : ℕ) (left : NodeName → List Record → Type 0) (now : Moment) (r : Running) (changes : List Change) (conditions : List Condition) (h : WriteHolds)
    (st : Stands store shards left now) (running : Contains now.running r) (asked : r.asked ≡ to_write changes conditions) (holds : r.holds ≡ writing h) where
  right_write : (k : Holds) → IsRightWrite shards left now (with_call r k r.met now.machine) changes conditions h
  right_write k =
      subst (λ (a : Asked). IsRight shards left now (with_call r k r.met now.machine) a (writing h)) asked
      (subst (λ (x : Holds). IsRight shards left now (with_call r k r.met now.machine) r.asked x) holds (later_right store shards left now r st running k))

  pub with_its_verdict : (id : WriteId) → h.id ≡ Some id → IsRightVerdict shards left now id → TurnsTo store shards left now r (with_call r (writing (record h { verdict = Some id })) r.met now.machine)
  with_its_verdict id is verdict =
      let k : Holds = writing (record h { verdict = Some id }) in
      let w = right_write k in
      turns_to store shards left now r st running k (ap id_of (sym holds)) (subst (λ (a : Asked). IsRight shards left now (with_call r k r.met now.machine) a k) (sym asked) (record {
        nothing = λ none. let both : Some id ≡ None = sym is ∙ none in absurd cc;
        own = λ i same.
            let o = w.own i same in
            record {
              undecided = o.undecided;
              intent = o.intent;
              tickets = o.tickets;
              votes = o.votes;
              decision = o.decision;
              verdict = if_some id (λ x. (x ≡ i) × IsRightVerdict shards left now x) (same_Some id i (sym is ∙ same), verdict);
              not_reopened = o.not_reopened;
              gave = o.gave;
            };
        same_decision = w.same_decision;
        batch = w.batch;
        out = w.out;
        cancelled = w.cancelled;
        refused_or_cancelled = w.refused_or_cancelled;
      }))

pub verdicts_turn : (store shards : ℕ) (left : NodeName → List Record → Type 0) → VerdictsTurn store shards left
verdicts_turn store shards left now r changes conditions h id st running asked holds is verdict = with_its_verdict store shards left now r changes conditions h st running asked holds id is verdict

-- Given a write that has decided
module _ (store shards : ℕ) (left : NodeName → List Record → Type 0) (now : Moment) (r : Running) (changes : List Change) (conditions : List Condition) (h : WriteHolds) (d : DecidedValue)
    (st : Stands store shards left now) (own : HasDecided now r changes conditions h d) where
  its_write : IsRightWrite shards left now r changes conditions h
  its_write = subst (λ (a : Asked). IsRight shards left now r a (writing h)) own.asked (subst (λ (x : Holds). IsRight shards left now r r.asked x) own.holds (st.flows.held r own.running))

  pub it_decided : r.decided ≡ Some d
  it_decided = sym its_write.same_decision ∙ own.decided

  -- the coordinator was opened since
  opened_since : IsForgotten now.nodes d → (kept memory : CoordinatorState) → CoordinatorKnows now.nodes kept memory → d.epoch < memory.epoch
  opened_since forgotten kept memory k = by_id h.id refl
    where
      by_id : (o : Option WriteId) → h.id ≡ o → d.epoch < memory.epoch
      by_id None none = let both : Some d ≡ None = sym own.decided ∙ (its_write.nothing none).decided in absurd cc
      by_id (Some id) is =
          let decision : IsRightDecision shards left now (own_write id changes conditions) d = (its_write.own id is).decision d own.decided in
          ⊎_elim
          (λ (earlier : id.epoch < memory.epoch). subst (λ (n : ℕ). n < memory.epoch) (sym decision.epoch) earlier)
          (λ of_now. absurd (forgotten kept memory k (decision.epoch ∙ of_now.0)))
          (decision.given.now kept memory k)

  pub is_unsure : IsForgotten now.nodes d → IsUnsure now.nodes r
  is_unsure forgotten = (d, it_decided, opened_since forgotten)

pub unsure_answers : (store shards : ℕ) (left : NodeName → List Record → Type 0) → UnsureAnswers store shards left
unsure_answers store shards left now r changes conditions h d st own forgotten told =
    quiet_calls_refuse store shards left left now now.nodes now.machine r Unsure (nothing_changes store shards left now st) own.running told
    (λ none. let both : Some d ≡ None = sym (it_decided store shards left now r changes conditions h d st own) ∙ none in absurd cc)
    (λ other. absurd (other refl))
    (inr (Unsure, refl, inl (is_unsure store shards left now r changes conditions h d st own forgotten)))

pub kept_answers : (store shards : ℕ) (left : NodeName → List Record → Type 0) (D : Type 0) → KeptAnswers store shards left D
kept_answers store shards left D now v r changes conditions h d holds st seen own kept same told =
    let later = with_call r holds r.met now.machine in
    quiet_calls_answer store shards left left now now.nodes now.machine r holds (wrote d.place) (nothing_changes store shards left now st) own.running same told
    (subst (λ (a : Asked). Agrees later (ending now now.nodes now.machine r []) a (wrote d.place)) (sym own.asked) (outcomes_agree store shards left now r later h changes conditions d st (record {
      running = own.running;
      asked = own.asked;
      holds = own.holds;
      decided = own.decided;
      kept = kept_of v;
      memory = memory_of v;
      knows = knows store shards left now v st seen;
      epoch = sym kept.now.epoch;
      reached = kept.reached;
    }) refl same))
    (All-nil (IsRightVerdict shards left now))

pub away_is_forgotten : AwayIsForgotten
away_is_forgotten nodes d e away kept memory k same = ⊎_elim
    (λ gone. let both : down ≡ up k.durable k.staged = sym gone.0 ∙ k.is_up in absurd cc)
    (λ is. let both : refused e ≡ up k.durable k.staged = sym is ∙ k.is_up in absurd cc)
    away
