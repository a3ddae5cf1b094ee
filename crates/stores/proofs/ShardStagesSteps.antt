-- Each record that a shard stages leaves the store standing for the same machine.
use Rattle.std.proofs.Common.{◌≡◌, ◌≢◌, inl, inr, ⊎_elim, ℕ, ◌+◌, ◌-◌, ◌≤◌, true, List, [], ◌∷◌, ◌++◌, length, take, drop, Some, None, Contains, sym, ◌∙◌, ap, subst, arith, slice_get, refl, false}
use Rattle.std.proofs.lemmas.List.{take_all}
use Rattle.std.proofs.lemmas.Option.{same_Some}
use Rattle.stores.proofs.Words.{Asked, BatchValue, Dropped, Entry, Epoch, HeldTicket, HoldAfter, Holds, Horizon, IsOpen, IsRight, IsRightBatch, IsRightOwn, IsRightTicket, IsRightVerdict, IsRightWrite, IsStaging, IsUndecided, IsUnlisted, Learned, Moment, NodeName, Nodes, PlacedId, Prepare, Record, Rests, Running, ShardMeans, ShardState, Stands, WasGiven, WriteHolds, WriteId, at_shards, find_in_doubt, find_put_same, id_of, image_last, leaves, of_without, own_write, placed_ids_from, replaced, shard_node, shard_push, shard_state, slice_get_drop, slice_get_taken, takes_part, to_write, with_nodes, without, writing}
use Rattle.tuples.specs.Parts.{part}
use Rattle.records.specs.Replays.{MayPrepare, put, shard_step, without_placed_ids}
use Rattle.holds.proofs.Put.{put_or_there}
use Rattle.replay.proofs.Doubts.{HasPlacedId, cases_id, find_not_learned, find_put, find_without_other, find_without_same}
use Rattle.shard.specs.Shards.{learning}
use Rattle.shard.proofs.Waiting.{still_placed_ids}
use Rattle.laws.specs.ShardLaws.{IsShardStep}
use Rattle.stores.specs.StagingLaws.{IsFlowOf, with_ticket}
use Rattle.laws.proofs.LearnStep.{part_is_from}
use Rattle.laws.proofs.ShardSteps.{collects_rest, drops_rest, learns_rest, prepares_rest, unlearned_of_log, collected_means, batch_means, dropped_unlisted}
use Rattle.stores.proofs.ShardStages.{epoch_given, left_now, memory, memory_left}
use Rattle.stores.proofs.FlowGoesOn.{flows_turn, sees_more}
use Rattle.stores.proofs.ShardStagesFlows.{StagesDoubts, kept_flow, kept_with_ticket}
use Rattle.stores.proofs.ShardStagesStands.{contained_at, contained_from, stands_kept, stands_with}
use Rattle.laws.proofs.PrepareStep.{dropped_means, prepared_means}

module _ (store shards : ℕ) (left : NodeName → List Record → Type 0) (now : Moment) (next : Nodes) (s : ℕ) where
  step_of : (r : Record) (st : IsStaging store shards left now next s r) (stops : List Record → Type 0) (kept : ℕ)
      → Rests store shards now.machine.log kept now.machine.horizon stops (at_shards (leaves left now.nodes))
      → IsShardStep store shards now.machine.log kept now.machine.horizon stops (at_shards (leaves left now.nodes)) s (memory store shards left now next s r st) r (at_shards (leaves left next))
  step_of r st stops kept rests = record {
    rests = rests;
    here = memory_left store shards left now next s r st;
    image = st.image;
    adds = left_now store shards left now next s r st;
  }

  -- a horizon leaves the writes in doubt as they are
  pub collects_stand : (place : ℕ) → IsStaging store shards left now next s (Horizon place) → place ≤ now.machine.horizon → Stands store shards left (with_nodes now next)
  unfolding shard_step
  collects_stand place st low = stands_kept store shards left now next s (Horizon place) st (record {
    no_epoch = λ a b c d is. absurd cc;
    rests = λ stops kept le of_coordinator rests. collects_rest stops (at_shards (leaves left now.nodes)) (at_shards (leaves left next)) store shards now.machine.log kept now.machine.horizon s was place (step_of (Horizon place) st stops kept rests) low;
    given = λ w has. inl (subst (λ (m : ShardState). Contains m.in_doubt w) after has);
    means = λ m. subst (ShardMeans shards s now.machine.log now.machine.horizon now.machine.horizon) (sym after)
        (collected_means (shard_node store shards s) shards s now.machine.log now.machine.horizon now.machine.horizon was place st.image low m);
  }) (λ f there w is_id. record {
    found = λ p has. inl (ap (λ (m : ShardState). find_in_doubt w.id m.in_doubt) (sym after) ∙ has);
    promised = λ here has. ap (λ (m : ShardState). find_in_doubt w.id m.in_doubt) after ∙ has;
    epoch = ap (λ (m : ShardState). m.epoch) after;
  })
    where
      was : List Record
      was = st.step.durable ++ st.step.staged

      after : shard_state (was ++ Horizon place ∷ []) ≡ shard_step (shard_state was) (Horizon place)
      after = shard_push was (Horizon place)

  pub drops_stand : (id : WriteId) → IsStaging store shards left now next s (Dropped id) → IsRightVerdict shards left now id → Stands store shards left (with_nodes now next)
  unfolding shard_step
  drops_stand id st verdict = stands_kept store shards left now next s (Dropped id) st (record {
    no_epoch = λ a b c d is. absurd cc;
    rests = λ stops kept le of_coordinator rests. drops_rest stops (at_shards (leaves left now.nodes)) (at_shards (leaves left next)) store shards now.machine.log kept now.machine.horizon s was id (step_of (Dropped id) st stops kept rests) verdict.none;
    given = λ w has.
        let at = contained_at (without id (shard_state was).in_doubt) w (subst (λ (m : ShardState). Contains m.in_doubt w) after has) in
        let old = of_without id (shard_state was).in_doubt at.0 w at.1 in
        inl (contained_from (shard_state was).in_doubt old.0 w old.1);
    means = λ m. subst (ShardMeans shards s now.machine.log now.machine.horizon now.machine.horizon) (sym after)
        (dropped_means shards s now.machine.log now.machine.horizon now.machine.horizon (shard_state was) id
        (dropped_unlisted (shard_node store shards s) shards s now.machine.log now.machine.horizon now.machine.horizon was id st.image m verdict.none) m);
  }) (λ f there own is_id. record {
    found = λ p has.
        let has_after : find_in_doubt own.id (without id (shard_state was).in_doubt) ≡ Some p = ap (λ (m : ShardState). find_in_doubt own.id m.in_doubt) (sym after) ∙ has in
        inl (⊎_elim
        (λ (same : own.id ≡ id). let gone : None ≡ Some p = sym (find_without_same own.id (shard_state was).in_doubt) ∙ ap (λ (i : WriteId). find_in_doubt own.id (without i (shard_state was).in_doubt)) same ∙ has_after in absurd cc)
        (λ ne. sym (find_without_other own.id id (shard_state was).in_doubt ne) ∙ has_after)
        (cases_id own.id id));
    promised = λ here has. ap (λ (m : ShardState). find_in_doubt own.id m.in_doubt) after ∙ find_without_other own.id id (shard_state was).in_doubt (verdict.closed own here) ∙ has;
    epoch = ap (λ (m : ShardState). m.epoch) after;
  })
    where
      was : List Record
      was = st.step.durable ++ st.step.staged

      after : shard_state (was ++ Dropped id ∷ []) ≡ shard_step (shard_state was) (Dropped id)
      after = shard_push was (Dropped id)

  -- a prepare adds no doubt of another flow's write
  of_others : (w : Entry) (st : IsStaging store shards left now next s (Prepare (part shards s w))) (v : Entry) → w.id ≢ v.id
      → StagesDoubts store shards left now next s (Prepare (part shards s w)) st false v
  unfolding shard_step part
  of_others w st v ne = record {
    found = λ p has. inl (sym (find_put v.id (shard_state was).in_doubt (part shards s w) ne) ∙ ap (λ (m : ShardState). find_in_doubt v.id m.in_doubt) (sym after) ∙ has);
    promised = λ here has. ap (λ (m : ShardState). find_in_doubt v.id m.in_doubt) after ∙ find_put v.id (shard_state was).in_doubt (part shards s w) ne ∙ has;
    epoch = ap (λ (m : ShardState). m.epoch) after;
  }
    where
      was : List Record
      was = st.step.durable ++ st.step.staged

      after : shard_state (was ++ Prepare (part shards s w) ∷ []) ≡ shard_step (shard_state was) (Prepare (part shards s w))
      after = shard_push was (Prepare (part shards s w))

  -- it adds its own part, whose conditions hold
  of_own : (w : Entry) (st : IsStaging store shards left now next s (Prepare (part shards s w))) → takes_part shards s w ≡ true → (IsOpen now.nodes w → HoldAfter now.machine.log (part shards s w).conditions)
      → StagesDoubts store shards left now next s (Prepare (part shards s w)) st true w
  unfolding shard_step part
  of_own w st takes hold = record {
    found = λ p has.
        let part_is : Some (part shards s w) ≡ Some p = sym (find_put_same (shard_state was).in_doubt (part shards s w)) ∙ ap (λ (m : ShardState). find_in_doubt w.id m.in_doubt) (sym after) ∙ has in
        let is : part shards s w ≡ p = cc in
        inr (refl, takes, sym is, λ here. subst (λ (q : Entry). HoldAfter now.machine.log q.conditions) is (hold here));
    promised = λ here has. let gone : None ≡ Some (part shards s w) = sym may.new ∙ has in absurd cc;
    epoch = ap (λ (m : ShardState). m.epoch) after;
  }
    where
      was : List Record
      was = st.step.durable ++ st.step.staged

      after : shard_state (was ++ Prepare (part shards s w) ∷ []) ≡ shard_step (shard_state was) (Prepare (part shards s w))
      after = shard_push was (Prepare (part shards s w))

      may : MayPrepare (shard_node store shards s) (shard_state was) (part shards s w)
      may = image_last (shard_node store shards s) was (Prepare (part shards s w)) st.image

  pub prepares_stand : (w : Entry) (r : Running) (h : WriteHolds) (t : HeldTicket) → (st : IsStaging store shards left now next s (Prepare (part shards s w))) → IsFlowOf now r w → r.holds ≡ writing h → takes_part shards s w ≡ true
      → (IsOpen now.nodes w → HoldAfter now.machine.log (part shards s w).conditions) → t.shard ≡ s → IsRightTicket shards left (with_nodes now next) w t
      → Stands store shards left (record (with_nodes now next) { running = replaced (with_ticket now r h t) now.running })
  unfolding shard_step part
  prepares_stand w r h t st flow holds takes hold of_shard ticket = stands_with store shards left now next s (Prepare (part shards s w)) st (record {
    no_epoch = λ a b c d is. absurd cc;
    rests = λ stops kept le of_coordinator rests. prepares_rest stops (at_shards (leaves left now.nodes)) (at_shards (leaves left next)) store shards now.machine.log kept now.machine.horizon s was (part shards s w)
        (step_of (Prepare (part shards s w)) st stops kept rests) own.unlisted
        (λ c is. epoch_given store shards left now next s (Prepare (part shards s w)) st w.id own.given c (of_coordinator c is));
    given = λ x has.
        let at = contained_at (put (part shards s w) (shard_state was).in_doubt) x (subst (λ (m : ShardState). Contains m.in_doubt x) after has) in
        ⊎_elim
        (λ new. inr (subst (λ (y : Entry). WasGiven shards left now.nodes y.id) (sym new) own.given))
        (λ old. inl (contained_from (shard_state was).in_doubt old.0 x old.1))
        (put_or_there (part shards s w) (shard_state was).in_doubt at.0 x at.1);
    means = λ m. subst (ShardMeans shards s now.machine.log now.machine.horizon now.machine.horizon) (sym after)
        (prepared_means shards s now.machine.log now.machine.horizon now.machine.horizon (shard_state was) w.id own.unlisted m (part shards s w) refl);
  }) (replaced later now.running) (flows_turn store shards left left now (with_nodes now next) r later st.stands.flows flow.there refl (inl (sym (ap id_of holds))) (omega arith) (omega arith)
      (sees_more now.machine now.machine now.machine r later refl (omega arith) (omega arith) (omega arith) (omega arith) (st.stands.flows.seen r flow.there))
      (st.stands.flows.quiet r flow.there) others right)
    where
      was : List Record
      was = st.step.durable ++ st.step.staged

      after : shard_state (was ++ Prepare (part shards s w) ∷ []) ≡ shard_step (shard_state was) (Prepare (part shards s w))
      after = shard_push was (Prepare (part shards s w))

      later : Running
      later = with_ticket now r h t

      old : IsRightWrite shards left now r w.changes w.conditions h
      old = subst (λ (x : Holds). IsRight shards left now r (to_write w.changes w.conditions) x) holds (subst (λ (a : Asked). IsRight shards left now r a r.holds) flow.asked (st.stands.flows.held r flow.there))

      has_id : h.id ≡ Some w.id
      has_id = sym (ap id_of holds) ∙ flow.id

      own : IsUndecided shards left now w
      own = (old.own w.id has_id).undecided flow.undecided

      same_flow : (f : Running) → Contains now.running f → (id : WriteId) → id_of f.holds ≡ Some id → w.id ≡ id → f ≡ r
      same_flow f there id is_id same =
          let at_f = contained_at now.running f there in
          let at_r = contained_at now.running r flow.there in
          let index : at_f.0 ≡ at_r.0 = st.stands.flows.ids at_f.0 at_r.0 f r id at_f.1 at_r.1 is_id (flow.id ∙ ap (λ (i : WriteId). Some i) same) in
          let both : Some f ≡ Some r = sym at_f.1 ∙ ap (slice_get now.running) index ∙ at_r.1 in
          cc

      -- each other flow has another write
      others : (f : Running) → Contains now.running f → f.slot ≢ r.slot → IsRight shards left (with_nodes now next) f f.asked f.holds
      others f there ne = kept_flow store shards left now next s (Prepare (part shards s w)) st f
          (λ v is_id. of_others w st v (λ same. ne (ap (λ (x : Running). x.slot) (same_flow f there v.id is_id same))))
          (st.stands.flows.held f there)

      own_right : IsRightOwn shards left (with_nodes now next) r w (record h { tickets = h.tickets ++ t ∷ [] })
      own_right = kept_with_ticket store shards left now next s (Prepare (part shards s w)) st true w (of_own w st takes hold) r h t of_shard ticket own (old.own w.id has_id)

      own_later : (id : WriteId) → h.id ≡ Some id → IsRightOwn shards left (with_nodes now next) later (own_write id w.changes w.conditions) (record h { tickets = h.tickets ++ t ∷ [] })
      own_later id is =
          let k = subst (λ (i : WriteId). IsRightOwn shards left (with_nodes now next) r (own_write i w.changes w.conditions) (record h { tickets = h.tickets ++ t ∷ [] })) (same_Some w.id id (sym has_id ∙ is)) own_right in
          record { undecided = k.undecided; intent = k.intent; tickets = k.tickets; votes = k.votes; decision = k.decision; verdict = k.verdict; not_reopened = k.not_reopened; gave = k.gave }

      right : IsRight shards left (with_nodes now next) later later.asked later.holds
      right = subst (λ (a : Asked). IsRight shards left (with_nodes now next) later a later.holds) (sym flow.asked) (record {
        nothing = λ none. let both : Some w.id ≡ None = sym has_id ∙ none in absurd cc;
        own = own_later;
        same_decision = old.same_decision;
        batch = old.batch;
        out = old.out;
        cancelled = old.cancelled;
        refused_or_cancelled = old.refused_or_cancelled;
      })

  -- what is left without placed_ids was there
  of_placed_ids : (placed_ids : List PlacedId) (ws : List Entry) (w : Entry) → Contains (without_placed_ids placed_ids ws) w → Contains ws w
  of_placed_ids [] ws w has = has
  of_placed_ids (p ∷ placed_ids) ws w has =
      let at = contained_at (without p.id ws) w (of_placed_ids placed_ids (without p.id ws) w has) in
      let old = of_without p.id ws at.0 w at.1 in
      contained_from ws old.0 w old.1

  pub learns_stand : (r : Record) (b : BatchValue) → (st : IsStaging store shards left now next s r)
      → r ≡ learning (shard_node store shards s) (shard_state (st.step.durable ++ st.step.staged)) b.from b.writes
      → IsRightBatch now.machine b → b.from ≤ (shard_state (st.step.durable ++ st.step.staged)).learned → (shard_state (st.step.durable ++ st.step.staged)).learned ≤ b.from + length b.writes
      → Stands store shards left (with_nodes now next)
  unfolding shard_step
  learns_stand r b st is_learning batch low high = stands_kept store shards left now next s r st (record {
    no_epoch = λ x y z u is. let bad : Learned (b.from + length b.writes) placed_ids ≡ Epoch x y z u = sym is_learning ∙ is in absurd cc;
    rests = λ stops kept le of_coordinator rests. learns_rest stops (at_shards (leaves left now.nodes)) (at_shards (leaves left next)) store shards now.machine.log kept now.machine.horizon s was b.from b.writes
        (subst (λ (q : Record). IsShardStep store shards now.machine.log kept now.machine.horizon stops (at_shards (leaves left now.nodes)) s was q (at_shards (leaves left next))) is_learning (step_of r st stops kept rests))
        batch.writes (omega (arith, batch.kept, batch.within, le)) low high;
    means = λ m.
        let log = now.machine.log in
        let all : take (length log) log ≡ log = take_all (length log) log (omega arith) in
        let fits : b.from + length b.writes ≤ length log = omega (arith, batch.kept, batch.within, st.stands.rests.within) in
        subst (ShardMeans shards s log now.machine.horizon now.machine.horizon) (sym after)
        (subst (λ (l : List Entry). ShardMeans shards s l now.machine.horizon now.machine.horizon (shard_step (shard_state was) (Learned (b.from + length b.writes) placed_ids))) all
        (batch_means store shards s log now.machine.horizon now.machine.horizon (shard_state was) b.from b.writes (length log) st.stands.rests.is_log.new batch.writes fits (omega arith) low high (omega arith)
        (subst (λ (l : List Entry). ShardMeans shards s l now.machine.horizon now.machine.horizon (shard_state was)) (sym all) m)));
    given = λ w has. inl (of_placed_ids placed_ids (shard_state was).in_doubt w (subst (λ (m : ShardState). Contains m.in_doubt w) after has));
  }) (λ f there own is_id. record {
    found = λ p has. inl (still_placed_ids own.id placed_ids (shard_state was).in_doubt p (ap (λ (m : ShardState). find_in_doubt own.id m.in_doubt) (sym after) ∙ has));
    promised = λ here has. ap (λ (m : ShardState). find_in_doubt own.id m.in_doubt) after
        ∙ find_not_learned own.id placed_ids (shard_state was).in_doubt (not_listed own.id (st.stands.ids.unlisted own here)) ∙ has;
    epoch = ap (λ (m : ShardState). m.epoch) after;
  })
    where
      was : List Record
      was = st.step.durable ++ st.step.staged

      placed_ids : List PlacedId
      placed_ids = placed_ids_from shards s ((shard_state (st.step.durable ++ st.step.staged)).learned + 1) (drop ((shard_state (st.step.durable ++ st.step.staged)).learned - b.from) b.writes)

      after : shard_state (was ++ r ∷ []) ≡ shard_step (shard_state was) (Learned (b.from + length b.writes) placed_ids)
      after = shard_push was r ∙ ap (shard_step (shard_state was)) is_learning

      not_listed : (own : WriteId) → IsUnlisted own now.machine.log → HasPlacedId own placed_ids → ⊥
      not_listed own unlisted has =
          let log = now.machine.log in
          let p = (shard_state was).learned in
          let m = b.from + length b.writes - p in
          let fits : b.from + length b.writes ≤ length log = omega (arith, batch.kept, batch.within, st.stands.rests.within) in
          let all : take (length log) log ≡ log = take_all (length log) log (omega arith) in
          let of_log : drop (p - b.from) b.writes ≡ take m (drop p log) = unlearned_of_log log b.writes b.from p (length log) batch.writes low high fits ∙ ap (λ (l : List Entry). take m (drop p l)) all in
          let at = part_is_from shards s (p + 1) (drop (p - b.from) b.writes) own has in
          let there : slice_get (take m (drop p log)) at.0 ≡ Some at.1 = ap (λ (l : List Entry). slice_get l at.0) (sym of_log) ∙ at.2 in
          let in_log : slice_get log (p + at.0) ≡ Some at.1 = sym (slice_get_drop p log at.0) ∙ slice_get_taken m (drop p log) at.0 at.1 there in
          unlisted (p + at.0) at.1 in_log (sym at.3)
