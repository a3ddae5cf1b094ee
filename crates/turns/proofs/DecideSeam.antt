-- What the coordinator's own contract of decide says makes a turn of a run.
use Rattle.std.proofs.Common.{◌≡◌, ⊎_elim, ℕ, ◌+◌, ◌≤◌, ◌<◌, List, [], ◌∷◌, ◌++◌, map, Some, All, slice_get, refl, sym, ◌∙◌, ap, subst, drop}
use Rattle.std.proofs.lemmas.Bool.{cases_Bool}
use Rattle.turns.proofs.Words.{Condition, CoordinatorKnows, CoordinatorView, DecidedValue, Decision, Entry, IntentValue, IsDecider, IsDeciding, IsOpen, IsPreparedInAll, IsRight, IsRightIntent, IsRightOwn, IsRightWrite, IsSeen, MayDecide, Means, Moment, NodeName, Nodes, Record, Running, Stands, WriteHolds, WriteId, at_shards, behind, coordinator_image_push, coordinator_node, coordinator_state, leaves, memory_of, same_id, shard, slice_get_drop, up, without, without_id, writing}
use Rattle.tuples.specs.Log.{HoldAfter}
use Rattle.records.specs.Coordinators.{HoldsKnown, IsNotDecided}
use Rattle.decisions.specs.Coordinators.{DecidesAt, HaveVoted}
use Rattle.laws.proofs.WriteConditions.{conditions_hold_as_known}
use Rattle.stores.proofs.DecisionFlows.{votes_prepare}
use Rattle.turns.specs.SeamLaws.{DecideTurns}
use Rattle.turns.proofs.DecisionTurn.{deciders_turn}

pub ids_without : (id : WriteId) (ws : List Entry) → map (λ (w : Entry). w.id) (without id ws) ≡ without_id id (map (λ (w : Entry). w.id) ws)
ids_without id [] = refl
ids_without id (x ∷ ws) = ⊎_elim
    (λ out. rw out (ids_without id ws))
    (λ stays. rw stays (ap (λ (l : List WriteId). x.id ∷ l) (ids_without id ws)))
    (cases_Bool (same_id x.id id))

module _ (store shards : ℕ) (left : NodeName → List Record → Type 0) {D : Type 0} (now : Moment) (old new : CoordinatorView D) (w : Entry) (d : DecidedValue) (r : Running) (h : WriteHolds) (intent : IntentValue)
    (st : Stands store shards left now) (some : 1 ≤ shards) (lefts : (s : ℕ) → s < shards → (found : List Record) × left (shard s) found)
    (seen : IsSeen now.nodes old) (decides : DecidesAt old w d new) (own : IsDecider store shards left now r h w) (has : h.intent ≡ Some intent) (voted : HaveVoted shards w h.votes) where
  knows : CoordinatorKnows now.nodes (coordinator_state old.durable) (memory_of old)
  knows = record { durable = old.durable; staged = old.staged; is_up = seen.at; durable_state = refl; replayed = refl }

  right : IsRightWrite shards left now r w.changes w.conditions h
  right = subst (λ a. IsRight shards left now r a (writing h)) own.asked (subst (λ x. IsRight shards left now r r.asked x) own.holds (st.flows.held r own.running))

  own_right : IsRightOwn shards left now r w h
  own_right = right.own w.id own.id

  intent_right : IsRightIntent shards left now w intent
  intent_right = (own_right.intent intent has).1

  is_open : IsOpen now.nodes w
  is_open = intent_right.opened _ _ knows (sym decides.own_epoch)

  prepared : IsPreparedInAll shards (at_shards (leaves left now.nodes)) w × HoldAfter now.machine.log w.conditions
  prepared = votes_prepare store shards left now w intent h.votes is_open some lefts (own_right.undecided (own_right.intent intent has).0) intent_right own_right.votes (λ s lt takes. let v = voted.each s lt takes in (v.0, v.1, v.2))

  means : Means store shards now.machine.log now.machine.horizon (old.durable ++ old.staged) (at_shards (leaves left now.nodes))
  means = st.heads.whole old.durable old.staged seen.at

  not_decided : IsNotDecided w.id (memory_of old)
  not_decided j v is same =
      let at : slice_get (drop (memory_of old).base now.machine.log) j ≡ Some v = ap (λ (l : List Entry). slice_get l j) (sym means.decided.decisions) ∙ is in
      st.ids.unlisted w is_open ((memory_of old).base + j) v (sym (slice_get_drop (memory_of old).base now.machine.log j) ∙ at) (sym same)

  known : All (HoldsKnown (memory_of old)) w.conditions
  unfolding HoldAfter
  known = all_known w.conditions prepared.1
    where
      all_known : (cs : List Condition) → HoldAfter now.machine.log cs → All (HoldsKnown (memory_of old)) cs
      all_known cs hold j c lt = conditions_hold_as_known now.machine.log now.machine.horizon (memory_of old) _ means.decided (hold j c lt)

  may : MayDecide (memory_of old) d.place w
  may = record {
    opened = subst (λ (e : ℕ). 1 ≤ e) decides.own_epoch decides.whole.id.begun.epoch;
    next = decides.place;
    place_fits = decides.place_fits;
    new = not_decided;
    conditions = known;
    some_epoch = decides.whole.id.begun.epoch;
    epoch = decides.whole.id.epoch;
    some_number = decides.whole.id.begun.number;
    number = decides.whole.id.number;
    places = decides.whole.places;
  }

  abbrev next : Nodes
  next = behind now.nodes new (without w.id now.nodes.open_writes)

  deciding : IsDeciding store shards left now next d.place w
  deciding = record {
    stands = st;
    step = record {
      durable = old.durable;
      staged = old.staged;
      was = seen.at;
      now = ap (λ (v : CoordinatorView D). up v.durable v.staged) decides.new_is;
      shards = λ s. refl;
      open_writes = refl;
      given = ap (λ (v : CoordinatorView D). v.given) decides.new_is ∙ sym seen.given;
    };
    image = coordinator_image_push (coordinator_node store shards) (old.durable ++ old.staged) (Decision d.place w) means.image may;
    is_open = is_open;
    whole = decides.whole.whole;
    prepared = prepared.0;
    conditions = prepared.1;
  }

  seen_after : IsSeen next new
  seen_after = record {
    at = refl;
    open_writes = ids_without w.id now.nodes.open_writes ∙ ap (without_id w.id) seen.open_writes ∙ ap (λ (v : CoordinatorView D). v.open_ids) (sym decides.new_is);
    given = refl;
  }

pub decide_turns : (store shards : ℕ) (left : NodeName → List Record → Type 0) (D : Type 0) → DecideTurns store shards left D
decide_turns store shards left D now old new w d r h intent st some lefts seen decides own has voted =
    let t = deciders_turn store shards left now (next store shards left now old new w d r h intent st some lefts seen decides own has voted) d.place w r h (deciding store shards left now old new w d r h intent st some lefts seen decides own has voted) own in
    (seen_after store shards left now old new w d r h intent st some lefts seen decides own has voted, t.0, t.1)
