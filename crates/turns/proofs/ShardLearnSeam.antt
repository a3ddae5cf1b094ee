-- What a shard's own contracts of learning, of a drop and of a collection say makes turns of a run.
use Rattle.std.proofs.Common.{◌≡◌, ◌≢◌, ◌⊎◌, inl, inr, ⊎_elim, ℕ, ◌≤◌, ◌<◌, ◌+◌, ◌-◌, Bool, List, [], ◌++◌, length, drop, take, Option, Some, None, refl, sym, ◌∙◌, ap, subst, arith}
use Rattle.std.proofs.lemmas.Bool.{cases_lt}
use Rattle.std.proofs.lemmas.List.{drop-drop, drop-take}
use Rattle.turns.proofs.Words.{AreOfLog, Asked, BatchValue, CallsShard, Decision, Dropped, Entry, Epoch, Full, HasItsCause, Holds, Horizon, Identity, IfHeld, IsFull, IsQuietCall, IsRecord, IsRight, IsRightBatch, IsRightResolve, IsRightVerdict, IsRightWrite, IsShardImage, IsToLearn, IsUp, Learned, LetsLearn, Machine, MayCome, Moment, NoMemory, NodeName, Prepare, Record, Refusal, Running, ShardIsSeen, ShardState, ShardView, Stages, Stands, State, Unsure, WriteId, behind_shard, checking, collecting, find_in_doubt, flushing, id_of, learns, memory, placed_ids_from, raising, reading, resolving, shard, shard_node, to_check, to_collect, to_flush, to_learn, to_raise, to_read, to_resolve, to_watch, to_write, watching, with_call, with_nodes, writing}
use Rattle.refusal.specs.declared.refusal.Refusal.TheVariants.{Damaged}
use Rattle.records.specs.Replays.{greatest_number, shard_state, shard_step}
use Rattle.records.specs.declared.record.Record.TheVariants.{Checkpoint}
use Rattle.records.specs.Replays.{MayComeInside}
use Rattle.records.specs.declared.mark.Inside.{Inside}
use Rattle.replay.proofs.States.{image_keeps}
use Rattle.shard.specs.Calls.{CollectsAt, DropsAt, LearnRefused, LearnsAt}
use Rattle.shard.specs.Shards.{AreLearnable, learning, unlearned}
use Rattle.shard.proofs.Given.{given_image}
use Rattle.shard.proofs.Parts.{all_prepared, learned_spelled}
use Rattle.stores.specs.Causes.{HasFullBatch, Stages as MayStage}
use Rattle.turns.specs.QuietTurns.{batch_of}
use Rattle.turns.specs.ShardSeamLaws.{CollectTurns, DropTurns, LearnTurns, RefusedCollectsHaveCause, RefusedLearnsHaveCause, ResolvedDropTurns}
use Rattle.turns.proofs.AnswerTurns.{collects_end}
use Rattle.stores.proofs.Batches.{batches_meet_prepares}
use Rattle.turns.proofs.QuietTurns.{lets_take_memory, quiet_calls_keep, quiet_calls_turn, writes_spend}
use Rattle.turns.proofs.ShardSeam.{knows, seen_after, staged_quietly, staging, unchanged}
use Rattle.stores.proofs.ShardStagesSteps.{collects_stand, drops_stand, learns_stand}
use Rattle.tuples.proofs.Options.{none_or_some}
use Rattle.journal.proofs.Staged.{room_or_none}

-- decisions on their way that a flow holds are right
batch_right : (shards : ℕ) (left : NodeName → List Record → Type 0) (now : Moment) (r : Running) (asked : Asked) (h : Holds) → IsRight shards left now r asked h → IfHeld (batch_of h) (IsRightBatch now.machine)
batch_right shards left now r (to_write changes conditions) (writing h) k = k.batch
batch_right shards left now r (to_read fresh sets) (reading h) k = k.batch
batch_right shards left now r (to_check fresh x u) (checking h) k = k.batch
batch_right shards left now r (to_watch c limit names) (watching h) k = k.batch
batch_right shards left now r (to_flush n) flushing k = λ b is. let both : None ≡ Some b = is in absurd cc
batch_right shards left now r (to_learn s) (learns h) k = k.batch
batch_right shards left now r (to_resolve s) (resolving h) k = k.batch
batch_right shards left now r (to_raise x) (raising h) k = k.batch
batch_right shards left now r (to_collect s) (collecting h) k = k.batch
batch_right shards left now r asked h k = absurd k

-- a batch that has no room is the cause of Full, whatever was asked
full_of : (shards : ℕ) (n : NodeName) (now : Moment) (r : Running) (asked : Asked) → HasFullBatch shards n now r → IsFull shards n now r asked
full_of shards n now r (to_write changes conditions) full = inl full
full_of shards n now r (to_read fresh sets) full = full
full_of shards n now r (to_check fresh x u) full = inl full
full_of shards n now r (to_watch c limit names) full = full
full_of shards n now r (to_flush k) full = inl full
full_of shards n now r (to_learn s) full = full
full_of shards n now r (to_resolve s) full = full
full_of shards n now r (to_raise x) full = full
full_of shards n now r (to_collect s) full = full

-- what a batch has after a place is what the log has there, up to the batch's end
behind_place : (log writes : List Entry) (from p : ℕ) → AreOfLog log from writes → from ≤ p → p ≤ from + length writes → drop (p - from) writes ≡ take (from + length writes - p) (drop p log)
behind_place log writes from p are low high =
    let k = p - from in
    let m = from + length writes - p in
    let cut : length writes ≡ k + m = omega (arith, low, high) in
    let place : from + k ≡ p = omega (arith, low) in
    ap (drop k) are
    ∙ ap (λ (l : ℕ). drop k (take l (drop from log))) cut
    ∙ drop-take k m (drop from log)
    ∙ ap (take m) (drop-drop k from log ∙ ap (λ (q : ℕ). drop q log) place)

-- what a batch that is right has for a shard is to be learned there
is_to_learn : (shards s : ℕ) (m : Machine) (known : List Record) (b : BatchValue) → IsRightBatch m b → b.from ≤ (shard_state known).learned → (shard_state known).learned < b.from + length b.writes
    → IsToLearn shards s m known (b.from + length b.writes) (placed_ids_from shards s ((shard_state known).learned + 1) (unlearned (shard_state known) b.from b.writes))
is_to_learn shards s m known b right low high = record {
  more = high;
  kept = (let kept = right.kept in let within = right.within in omega (arith, kept, within));
  placed = ap (placed_ids_from shards s ((shard_state known).learned + 1)) (behind_place m.log b.writes b.from (shard_state known).learned right.writes low (omega (arith, high)));
}

module _ (store shards : ℕ) (left : NodeName → List Record → Type 0) {D : Type 0} (state : D → State) (honest : D → Type 0) (now : Moment) (old : ShardView D) (s : ℕ) (r : Running)
    (st : Stands store shards left now) (seen : ShardIsSeen store shards s now.nodes old) where
  module _ (b : BatchValue) (right : IsRightBatch now.machine b) where
    -- all that it has not learned is in doubt there with its part
    learnable : b.from ≤ (memory old).learned → AreLearnable (shard_node store shards s) (memory old) (unlearned (memory old) b.from b.writes)
    learnable low = let met = batches_meet_prepares store shards left now s (memory old) b st seen.there (knows store shards left now old s seen) right low in record { new = met.1; prepared = met.0 }

    module _ (new : ShardView D) (all : Bool) (call : LearnsAt state honest old b all new) where
      is_learned : learning old.me (memory old) b.from b.writes ≡ learning (shard_node store shards s) (memory old) b.from b.writes
      is_learned = ap (λ (me : Identity). learning me (memory old) b.from b.writes) seen.me

      more : b.from ≤ (memory old).learned → (memory old).learned < b.from + length b.writes
          → ShardIsSeen store shards s (behind_shard s now.nodes new) new × IsQuietCall store shards left left now (behind_shard s now.nodes new) now.machine
      more low high =
          let ok = call.more (record { from = low; to = high }) in (
            seen_after store shards left now old s seen new (learning old.me (memory old) b.from b.writes) ok.1,
            staged_quietly store shards left now old s seen new (learning old.me (memory old) b.from b.writes) ok.1 (λ e a c d is. absurd cc)
                (learns_stand store shards left now (behind_shard s now.nodes new) s (learning old.me (memory old) b.from b.writes) b
                (staging store shards left now old s seen new (learning old.me (memory old) b.from b.writes) ok.1 st (ok.2).image) is_learned right low (omega (arith, high))),
          )

      pub learns_quietly : ShardIsSeen store shards s (behind_shard s now.nodes new) new × IsQuietCall store shards left left now (behind_shard s now.nodes new) now.machine
      learns_quietly = ⊎_elim
          (λ high. ⊎_elim
          (λ ahead. unchanged store shards left now old s seen new st (call.ahead ahead).1)
          (λ low. more low high)
          (cases_lt (memory old).learned b.from))
          (λ known. unchanged store shards left now old s seen new st (call.known known).1)
          (cases_lt (memory old).learned (b.from + length b.writes))

    module _ (e : Refusal) (behind : Moment) (calls : CallsShard shards r.asked r.holds s) (lets : LetsLearn r.asked) (is_up : IsUp state honest old) (few : length b.writes ≤ 256) (fits : b.from + length b.writes ≤ greatest_number)
        (given_up : LearnRefused old b e) where
      low : b.from ≤ (memory old).learned
      low = ⊎_elim (λ ahead. absurd (given_up.not_ahead ahead)) (λ le. le) (cases_lt (memory old).learned b.from)

      high : (memory old).learned < b.from + length b.writes
      high = ⊎_elim (λ lt. lt) (λ known. absurd (given_up.unknown known)) (cases_lt (memory old).learned (b.from + length b.writes))

      learnable_here : AreLearnable old.me (memory old) (unlearned (memory old) b.from b.writes)
      learnable_here = subst (λ (me : Identity). AreLearnable me (memory old) (unlearned (memory old) b.from b.writes)) (sym seen.me) (learnable low)

      spelled : IsRecord (learning old.me (memory old) b.from b.writes)
      spelled = learned_spelled old.me.shards old.me.node (memory old) b.from b.writes low high fits
          (placed_ids_from old.me.shards old.me.node ((memory old).learned + 1) (unlearned (memory old) b.from b.writes)) refl
          (all_prepared old.me (memory old) ((memory old).learned + 1) (unlearned (memory old) b.from b.writes) learnable_here)
          (omega (arith, few)) (given_image old.me (old.durable ++ old.staged) is_up.image)

      refused_cause : (e ≡ NoMemory) ⊎ ((e ≡ Full) ⊎ (e ≡ Damaged)) → HasItsCause shards (shard s) now behind r e × (e ≢ Unsure)
      refused_cause is_of = ⊎_elim
          (λ is. (subst (HasItsCause shards (shard s) now behind r) (sym is) (inl (lets_take_memory r.asked lets)), λ same. let both : NoMemory ≡ Unsure = sym is ∙ same in cc))
          (λ rest. ⊎_elim
          (λ is. (subst (HasItsCause shards (shard s) now behind r) (sym is) (inl (full_of shards (shard s) now r r.asked (full is))), λ same. let both : Full ≡ Unsure = sym is ∙ same in cc))
          (λ is. absurd ((given_up.damaged (record { from = low; to = high })).0 is learnable_here))
          rest)
          is_of
        where
          staged_there : MayStage shards now.machine (old.durable ++ old.staged) r.asked (id_of r.holds) (shard s) (learning old.me (memory old) b.from b.writes)
          staged_there = subst (λ (me : Identity). MayStage shards now.machine (old.durable ++ old.staged) r.asked (id_of r.holds) (shard s) (learning me (memory old) b.from b.writes)) (sym seen.me)
              (lets, is_to_learn shards s now.machine (old.durable ++ old.staged) b right low high)

          full : e ≡ Full → HasFullBatch shards (shard s) now r
          full is = record {
            durable = old.durable;
            staged = old.staged;
            next = learning old.me (memory old) b.from b.writes;
            calls = (seen.there, calls);
            is_up = seen.at;
            stages = staged_there;
            is_record = spelled;
            no_room = given_up.full is;
          }

  -- a drop by a verdict that is right is quiet
  pub drops_quietly : (new : ShardView D) (id : WriteId) → IsRightVerdict shards left now id → DropsAt state honest old id new
      → ShardIsSeen store shards s (behind_shard s now.nodes new) new × IsQuietCall store shards left left now (behind_shard s now.nodes new) now.machine
  drops_quietly new id verdict call = ⊎_elim
      (λ none. unchanged store shards left now old s seen new st (call.not_here none))
      (λ there. ⊎_elim
      (λ full. unchanged store shards left now old s seen new st (call.full full))
      (λ room. dropped (call.dropped there room))
      (room_or_none old.staged (Dropped id)))
      (none_or_some (find_in_doubt id (memory old).in_doubt))
    where
      dropped : Stages old (Dropped id) new × IsUp state honest new → ShardIsSeen store shards s (behind_shard s now.nodes new) new × IsQuietCall store shards left left now (behind_shard s now.nodes new) now.machine
      dropped ok = (
        seen_after store shards left now old s seen new (Dropped id) ok.0,
        staged_quietly store shards left now old s seen new (Dropped id) ok.0 (λ e a c d is. absurd cc)
            (drops_stand store shards left now (behind_shard s now.nodes new) s id (staging store shards left now old s seen new (Dropped id) ok.0 st (ok.1).image) verdict),
      )

  -- a collection up to a place that is not above the horizon is quiet
  pub collects_quietly : (new : ShardView D) (place : ℕ) → place ≤ now.machine.horizon → CollectsAt state honest old place new
      → ShardIsSeen store shards s (behind_shard s now.nodes new) new × IsQuietCall store shards left left now (behind_shard s now.nodes new) now.machine
  collects_quietly new place low call = ⊎_elim
      (λ above. unchanged store shards left now old s seen new st (call.nothing (inl above)))
      (λ within. ⊎_elim
      (λ raised. collected (call.raised raised within))
      (λ lower. unchanged store shards left now old s seen new st (call.nothing (inr lower)))
      (cases_lt (memory old).horizon place))
      (cases_lt (memory old).learned place)
    where
      collected : Stages old (Horizon place) new × IsUp state honest new → ShardIsSeen store shards s (behind_shard s now.nodes new) new × IsQuietCall store shards left left now (behind_shard s now.nodes new) now.machine
      collected ok = (
        seen_after store shards left now old s seen new (Horizon place) ok.0,
        staged_quietly store shards left now old s seen new (Horizon place) ok.0 (λ e a c d is. absurd cc)
            (collects_stand store shards left now (behind_shard s now.nodes new) s place (staging store shards left now old s seen new (Horizon place) ok.0 st (ok.1).image) low),
      )

pub learn_turns : (store shards : ℕ) (left : NodeName → List Record → Type 0) {D : Type 0} (state : D → State) (honest : D → Type 0) → LearnTurns store shards left state honest
learn_turns store shards left state honest now old new s b all kept r st seen running has call right_kept =
    let right : IsRightBatch now.machine b = batch_right shards left now r r.asked r.holds (st.flows.held r running) b has in
    let quiet = learns_quietly store shards left state honest now old s r st seen b right new all call in
    (quiet.0, quiet_calls_keep store shards left left now (behind_shard s now.nodes new) now.machine r kept quiet.1 running right_kept)

pub refused_learns_have_cause : (store shards : ℕ) (left : NodeName → List Record → Type 0) {D : Type 0} (state : D → State) (honest : D → Type 0) → RefusedLearnsHaveCause store shards left state honest
refused_learns_have_cause store shards left state honest now behind old s b e r st seen running has is_up few fits calls lets given_up is_of =
    refused_cause store shards left state honest now old s r st seen b (batch_right shards left now r r.asked r.holds (st.flows.held r running) b has) e behind calls lets is_up few fits given_up is_of

pub drop_turns : (store shards : ℕ) (left : NodeName → List Record → Type 0) {D : Type 0} (state : D → State) (honest : D → Type 0) → DropTurns store shards left state honest
drop_turns store shards left state honest now old new s id changes conditions r h k st seen running asked holds has less same_way call =
    let quiet = drops_quietly store shards left state honest now old s r st seen new id (verdict_of h.id refl) call in
    (quiet.0, writes_spend store shards left left now (behind_shard s now.nodes new) now.machine r h k changes conditions quiet.1 running asked holds less same_way)
  where
    right : IsRightWrite shards left now r changes conditions h
    right = subst (λ (a : Asked). IsRight shards left now r a (writing h)) asked (subst (λ (x : Holds). IsRight shards left now r r.asked x) holds (st.flows.held r running))

    verdict_of : (own : Option WriteId) → h.id ≡ own → IsRightVerdict shards left now id
    verdict_of None none = let both : None ≡ Some id = sym (right.nothing none).verdict ∙ has in absurd cc
    verdict_of (Some own) is = ((right.own own is).verdict id has).1

pub resolved_drop_turns : (store shards : ℕ) (left : NodeName → List Record → Type 0) {D : Type 0} (state : D → State) (honest : D → Type 0) → ResolvedDropTurns store shards left state honest
resolved_drop_turns store shards left state honest now old new s t id r h st seen running asked holds has call =
    let quiet = drops_quietly store shards left state honest now old s r st seen new id (right.verdict id has) call in (
      quiet.0,
      quiet_calls_turn store shards left left now (behind_shard s now.nodes new) now.machine r (resolving (record h { verdict = None })) r.met
          (record { call = quiet.1; running = running; same_id = sym (ap id_of holds); right = later_right (quiet.1).stands })
          (inl refl),
    )
  where
    right : IsRightResolve shards left now h
    right = subst (λ (a : Asked). IsRight shards left now r a (resolving h)) asked (subst (λ (x : Holds). IsRight shards left now r r.asked x) holds (st.flows.held r running))

    later_right : Stands store shards left (with_nodes now (behind_shard s now.nodes new))
        → IsRight shards left (with_nodes now (behind_shard s now.nodes new)) (with_call r (resolving (record h { verdict = None })) r.met now.machine) r.asked (resolving (record h { verdict = None }))
    later_right stands =
        let k : IsRightResolve shards left (with_nodes now (behind_shard s now.nodes new)) h =
        subst (λ (a : Asked). IsRight shards left (with_nodes now (behind_shard s now.nodes new)) r a (resolving h)) asked
        (subst (λ (x : Holds). IsRight shards left (with_nodes now (behind_shard s now.nodes new)) r r.asked x) holds (stands.flows.held r running)) in
        subst (λ (a : Asked). IsRight shards left (with_nodes now (behind_shard s now.nodes new)) (with_call r (resolving (record h { verdict = None })) r.met now.machine) a (resolving (record h { verdict = None }))) (sym asked)
        (record { found = k.found; verdict = λ x is. let both : None ≡ Some x = is in absurd cc; batch = k.batch })

pub collect_turns : (store shards : ℕ) (left : NodeName → List Record → Type 0) {D : Type 0} (state : D → State) (honest : D → Type 0) → CollectTurns store shards left state honest
collect_turns store shards left state honest now old new s t heads r st seen running asked right call =
    let quiet = collects_quietly store shards left state honest now old s r st seen new heads.horizon right.horizon call in
    let turn = collects_end store shards left left now (behind_shard s now.nodes new) now.machine r t quiet.1 running asked in
    (quiet.0, turn.0, turn.1)

-- a shard learns no place above the greatest number
step_learned : (me : Identity) (m : ShardState) (r : Record) → m.learned ≤ greatest_number → MayCome me m r → (shard_step m r).learned ≤ greatest_number
unfolding shard_step
step_learned me m (Prepare w) le may = le
step_learned me m (Learned to ids) le may = may.place
step_learned me m (Dropped id) le may = le
step_learned me m (Epoch e a b c) le may = le
step_learned me m (Decision place w) le may = le
step_learned me m (Horizon place) le may = le
step_learned me m (Checkpoint mark) le may = le

inside_learned : (me : Identity) (i : Inside) (m : ShardState) (r : Record) → m.learned ≤ greatest_number → MayComeInside me i m r → (shard_step m r).learned ≤ greatest_number
unfolding shard_step
inside_learned me i m (Prepare w) le may = le
inside_learned me i m (Learned to ids) le may = may.may.place
inside_learned me i m (Dropped id) le may = le
inside_learned me i m (Epoch e a b c) le may = le
inside_learned me i m (Decision place w) le may = le
inside_learned me i m (Horizon place) le may = le
inside_learned me i m (Checkpoint mark) le may = le

least_learned : (me : Identity) (rs : List Record) → IsShardImage me rs → (shard_state rs).learned ≤ greatest_number
unfolding shard_state shard_step
least_learned me rs image =
    image_keeps me (λ (s : ShardState). s.learned ≤ greatest_number) (λ s r le may. step_learned me s r le may) (λ i s r le may. inside_learned me i s r le may) (λ s mark le. le) [] rs image.each (omega arith)

pub refused_collects_have_cause : (store shards : ℕ) (left : NodeName → List Record → Type 0) {D : Type 0} (state : D → State) (honest : D → Type 0) → RefusedCollectsHaveCause store shards left state honest
refused_collects_have_cause store shards left state honest now behind old s heads r st seen asked is_up low no_room = inl (full_of shards (shard s) now r r.asked (record {
  durable = old.durable;
  staged = old.staged;
  next = Horizon heads.horizon;
  calls = (seen.there, subst (λ (a : Asked). CallsShard shards a r.holds s) (sym asked) refl);
  is_up = seen.at;
  stages = asked;
  is_record = (let most = least_learned old.me (old.durable ++ old.staged) is_up.image in omega (arith, most, low));
  no_room = no_room;
}))
