-- What is carried over rests at the list of the old store.
use Rattle.std.proofs.Common.{◌≡◌, ◌≤◌, ◌<◌, ◌+◌, ◌*◌, ◌++◌, ℕ, List, All, Contains, Some, length, refl, sym, ◌∙◌, ap, subst, arith}
use Rattle.std.proofs.lemmas.List.Elements.{All-contains, All-contains_itself, All-weaker}
use Rattle.calls.specs.Views as views
use Rattle.reshard_laws.proofs.Words.{AreHonest, BegunView, Coordinator, coordinator, coordinator_node, CoordinatorView, devices_at, devices_of, flow_count, HasAt, HasRecords, Identity, IsRunning, IsSeen, kept_of, left, memory_of, Moment, node_at, NodeName, Record, shard, shard_first, shard_node, Shows, StandsOver, State, steps_keep, stops, Store, WorldView, WriteId}
use Rattle.decisions.specs.Checkpoints.{coordinator_of}
use Rattle.decisions.specs.Standing.{IsGivenOut}
use Rattle.device.specs.declared.tear.Tear.{Tear}
use Rattle.headline.proofs.ManyLives.{many}
use Rattle.headline.proofs.Whole.{openings_keep}
use Rattle.laws.proofs.MachineMoves.{snapshots_stay}
use Rattle.records.specs.Checkpoints.{coordinator_checkpoint}
use Rattle.records.specs.Coordinators.{coordinator_state}
use Rattle.reshard.specs.Made.{IsCarriedOver, shard_of_store}
use Rattle.stores.specs.Stores.{IsToldOver}
use Rattle.turns.proofs.ClosedStoreRests.{closed_stores_rest}
use Rattle.reshard_laws.specs.Carried.{CarriesOn, ClosedStoresAreCarriedOver, KeepsAndCarries, TokensReadTheSame, WhatIsCarriedOverRests}
use Rattle.reshard_laws.proofs.Flushed.{keeps_all}
use Rattle.reshard_laws.proofs.Known as known
use Rattle.reshard_laws.proofs.Meaning.{KnowTogether, epoch_same, has_made, honest_made, log_records, made_count, rests_over, shard_records}

module _ {D : Type 0} (state : D → State) (honest : D → Type 0) (moment : D → ℕ) (left_since : D → ℕ → List ℕ → Type 0) where
  -- ---- over a store that stands, all of whose list is kept

  module _ (store old_shards : ℕ) (w : WorldView D) (s : Store D) (now : Moment) (shows : Shows w s) (stands : StandsOver state honest store old_shards s now) (store_is : w.store ≡ store)
      (shards_is : w.shards ≡ old_shards) (all_kept : now.machine.kept ≡ length now.machine.log) (any : D) (shards : ℕ) (given made : List D) (carried : IsCarriedOver state honest w shards given made) (fine : All honest given) where
    abbrev v : CoordinatorView D
    v = known.c state honest moment left_since store old_shards w s now shows stands store_is shards_is carried.reach carried.reached

    old_some : 1 ≤ old_shards
    old_some = subst (λ (n : ℕ). 1 ≤ n) shards_is shows.some

    together : KnowTogether store old_shards now.machine carried.reach carried.rows (v.durable ++ v.staged)
    together = record {
      is_log = stands.stands.rests.is_log;
      low = (let a = stands.stands.rests.horizon in omega (arith, a, all_kept));
      place = known.place_reached state honest moment left_since store old_shards w s now shows stands store_is shards_is carried.reach carried.reached all_kept;
      horizon = known.horizon_reached state honest moment left_since store old_shards w s now shows stands store_is shards_is carried.reach carried.reached;
      alike = known.gathered_alike state honest moment left_since store old_shards w s now shows stands store_is shards_is carried.reach carried.reached all_kept carried.rows old_some carried.gathered;
      image = known.image state honest moment left_since store old_shards w s now shows stands store_is shards_is carried.reach carried.reached;
      decided = known.decided state honest moment left_since store old_shards w s now shows stands store_is shards_is carried.reach carried.reached;
      opened = known.opened_now state honest moment left_since store old_shards w s now shows stands store_is shards_is carried.reach carried.reached;
    }

    abbrev nodes : List (BegunView D)
    nodes = carried.are_made.nodes

    abbrev all_honest : AreHonest honest nodes
    all_honest = carried.are_made.still_honest fine

    runs_here : IsRunning state honest v
    runs_here = known.runs state honest moment left_since store old_shards w s now shows stands store_is shards_is carried.reach carried.reached

    at_place : node_at w.nodes Coordinator ≡ Some (views.coordinator v)
    at_place = (known.the_log state honest moment left_since store old_shards w s now shows stands store_is shards_is carried.reach carried.reached).at

    me_store : v.me.store ≡ store
    me_store = ap (λ (i : Identity). i.store) (known.me_is state honest moment left_since store old_shards w s now shows stands store_is shards_is carried.reach carried.reached)

    seen_here : IsSeen now.nodes v
    seen_here = known.seen state honest moment left_since store old_shards w s now shows stands store_is shards_is carried.reach carried.reached

    -- the new devices
    abbrev new : NodeName → D × D
    new = devices_at any (devices_of nodes)

    has_log : HasRecords (state (new coordinator).0) (state (new coordinator).1) (log_records store old_shards shards now.machine carried.reach carried.rows (v.durable ++ v.staged) together)
    has_log = has_made state honest any shards nodes carried.are_made.count all_honest coordinator (coordinator_checkpoint (coordinator_node store shards) 1 (memory_of v)) tt
        (subst (λ (n : ℕ). HasAt state nodes 0 (coordinator_checkpoint (coordinator_of n shards) 1 (memory_of v))) me_store (carried.are_made.log fine v at_place runs_here))

    has_rows : (i : ℕ) → i < shards → HasRecords (state (new (shard i)).0) (state (new (shard i)).1) (shard_records store old_shards shards now.machine carried.reach carried.rows (v.durable ++ v.staged) together i)
    has_rows i lt = has_made state honest any shards nodes carried.are_made.count all_honest (shard i) (shard_first (shard_node store shards i) carried.reach carried.rows) lt
        (subst (λ (n : ℕ). HasAt state nodes (i + 1) (shard_first (shard_of_store n shards i) carried.reach carried.rows)) store_is (carried.are_made.each fine i lt))

    -- what a stop leaves of the old coordinator is durable
    was_durable : (was : List Record) → stops state honest store old_shards s.devices coordinator was → (coordinator_state was).epoch ≡ (kept_of v).epoch
    was_durable was left_of = ap (λ (rs : List Record). (coordinator_state rs).epoch) ((stands.stands.nodes.durable coordinator v.durable v.staged was seen_here.at).0 left_of)

    now_same : (is : List Record) → stops state honest store shards new coordinator is → (coordinator_state is).epoch ≡ (kept_of v).epoch
    now_same is left_of =
        epoch_same store old_shards shards now.machine carried.reach carried.rows (v.durable ++ v.staged) together state honest any (devices_of nodes) (honest_made state honest any shards nodes carried.are_made.count all_honest) has_log has_rows is left_of
        ∙ known.epoch_is state honest moment left_since store old_shards w s now shows stands store_is shards_is carried.reach carried.reached

    still_given : (id : WriteId) → IsGivenOut (stops state honest store old_shards s.devices coordinator) id → IsGivenOut (stops state honest store shards new coordinator) id
    still_given id given is left_of =
        let durable = given v.durable ((stands.stands.nodes.durable coordinator v.durable v.staged v.durable seen_here.at).1 refl) in
        let same = now_same is left_of in
        omega (arith, durable, same)

    carries_new : CarriesOn state honest moment left_since store old_shards shards s.devices new now.machine
    carries_new = record {
      all_kept = all_kept;
      rests = rests_over store old_shards shards now.machine carried.reach carried.rows (v.durable ++ v.staged) together state honest any (devices_of nodes) (honest_made state honest any shards nodes carried.are_made.count all_honest)
          has_log has_rows all_kept;
      epoch = λ was is left_was left_is. now_same is left_is ∙ sym (was_durable was left_was);
      told = λ id told. record { given = still_given id told.given; none = told.none };
      past = λ id past. record { given = still_given id past.given; unlisted = past.unlisted };
    }

    pub carries_on : CarriesOn state honest moment left_since store old_shards shards s.devices (devices_at any made) now.machine
    carries_on = subst (λ (l : List D). CarriesOn state honest moment left_since store old_shards shards s.devices (devices_at any l) now.machine) (sym carried.are_made.made_is) carries_new

    pub as_many : length made ≡ 2 * (shards + 1)
    as_many = ap (λ (l : List D). length l) carried.are_made.made_is ∙ made_count state honest any shards nodes carried.are_made.count all_honest

  -- ---- the laws

  module _ (counts_now : (d : D) (t : ℕ) (c : List ℕ) → honest d → t ≤ moment d → left (state d) c → left_since d t c) (only_now : (d : D) (c : List ℕ) → honest d → left_since d (moment d) c → left (state d) c) where
    pub what_is_carried_over_rests : WhatIsCarriedOverRests state honest moment left_since
    what_is_carried_over_rests any old new s now shards given made some few shows quiet stands cared carried fine =
        let k = keeps_all state honest moment left_since (steps_keep state honest moment left_since counts_now only_now) old new s now shows quiet stands cared in
        record {
          keeps = k.0;
          count = as_many old.store old.shards new k.0.later k.0.after k.0.shows k.0.stands k.0.store_is k.0.shards_is k.1 any shards given made carried fine;
          carries = carries_on old.store old.shards new k.0.later k.0.after k.0.shows k.0.stands k.0.store_is k.0.shards_is k.1 any shards given made carried fine;
        }

    pub closed_stores_are_carried_over : ClosedStoresAreCarriedOver state honest moment left_since
    closed_stores_are_carried_over any store old_shards shards old opened cared given made m ids some few count some_new few_new rests told is_opened cared_for carried fine =
        let k = openings_keep state honest moment left_since counts_now only_now any old store old_shards opened some few count is_opened in
        let kept = k.reopens m ids rests told in
        let now = kept.0.after in
        let stands : StandsOver state honest opened.store opened.shards k.later now =
        subst (λ (n : ℕ). StandsOver state honest n opened.shards k.later now) (sym is_opened.store_is)
        (subst (λ (n : ℕ). StandsOver state honest store n k.later now) (sym is_opened.shards_is) kept.0.stands) in
        let carries = what_is_carried_over_rests any opened cared k.later now shards given made some_new few_new k.shows (ap flow_count is_opened.flows) stands cared_for carried fine in
        let rest : KeepsAndCarries state honest moment left_since store old_shards shards any k.later now cared made =
        subst (λ (n : ℕ). KeepsAndCarries state honest moment left_since n old_shards shards any k.later now cared made) is_opened.store_is
        (subst (λ (n : ℕ). KeepsAndCarries state honest moment left_since opened.store n shards any k.later now cared made) is_opened.shards_is carries) in
        let closed = closed_stores_rest state honest moment left_since store old_shards rest.keeps.later rest.keeps.after rest.keeps.stands in
        record {
          first = k.later;
          reopened = kept.0;
          inside = kept.1;
          rest = rest;
          told_stays = All-weaker (Contains ids) (IsToldOver state honest store shards (devices_at any made) rest.keeps.after.machine)
              (λ id has. rest.carries.told id (All-contains (IsToldOver state honest store old_shards rest.keeps.later.devices rest.keeps.after.machine) rest.keeps.after.told id closed.1
              (rest.keeps.told id (subst (λ (l : List WriteId). Contains l id) (sym kept.0.told_before) has))))
              ids (All-contains_itself ids);
        }

    pub tokens_read_the_same : (set : D → ℕ → Tear → Type 0) → TokensReadTheSame state honest moment left_since set
    tokens_read_the_same set any store old_shards shards old made new m ids lives some few count on told lived =
        let l = many set state honest moment left_since counts_now only_now store shards any made new lives m ids some few count on.rests
        (All-weaker (IsToldOver state honest store old_shards old m) (IsToldOver state honest store shards (devices_at any made) m) on.told ids told) lived in (
          l,
          λ place t le. snapshots_stay m l.after l.moves place t (let a = on.all_kept in omega (arith, a)) (let a = on.all_kept in omega (arith, a, le)) l.moved,
        )
