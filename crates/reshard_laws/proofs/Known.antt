-- What the nodes of a store that stands told, at a moment at which all of its list is kept: together they know the list.
use Rattle.std.proofs.Common.{◌≡◌, ⊎_elim, ◌≤◌, ◌<◌, ℕ, zero, suc, false, List, ◌++◌, length, Option, None, Some, MatchOption, Ok, Err, refl, sym, ◌∙◌, subst, arith}
use Rattle.std.specs.List.Sorted.{IsPermutation}
use Rattle.std.proofs.lemmas.Bool.{cases_Bool}
use Rattle.std.proofs.lemmas.List.Sorted.{IsPermutation-append, IsPermutation-refl, IsPermutation-sym, IsPermutation-trans}
use Rattle.flow_turns.proofs.Standing.{is_seen, runs_now, shard_is_seen, shard_is_up}
use Rattle.flow_turns.specs.StoreCalls.{IsNode}
use Rattle.calls.specs.Carrying.{Reaches}
use Rattle.calls.specs.Rows.{KnownOf}
use Rattle.calls.specs.Views as views
use Rattle.calls.specs.Views.{NodeView}
use Rattle.reshard_laws.proofs.Words.{AreAlike, Coordinator, coordinator, coordinator_node, CoordinatorMeans, CoordinatorView, IsCoordinatorImage, IsRunning, IsSeen, kept_of, memory_of, Moment, node_at, of_shard, Reach, shard, Shows, slice_get_taken, StandsOver, State, stops, Store, Version, WorldView}
use Rattle.names.specs.declared.node_name.NodeName.TheVariants.{Shard}
use Rattle.reshard.specs.Caring.{HaveReached}
use Rattle.reshard.specs.Gathering.{AreGathered, TellAll, TellsShard}
use Rattle.shard.specs.Shards.{IsUp, ShardView, memory}
use Rattle.tuples.specs.Versions.{versions}
use Rattle.turns.proofs.CoordinatorCalls.{horizon_is, kept_is, same_epoch, whole}
use Rattle.turns.proofs.ShardSeam.{known_left}
use Rattle.reshard_laws.proofs.Rows.{all_first, first_shards, none_first, one_more, strict_versions, told_same}
use Rattle.reshard_laws.proofs.Sorted.{sorted_alike}

module _ {D : Type 0} (state : D → State) (honest : D → Type 0) (moment : D → ℕ) (left_since : D → ℕ → List ℕ → Type 0) (store shards : ℕ) (w : WorldView D) (s : Store D) (now : Moment)
    (shows : Shows w s) (stands : StandsOver state honest store shards s now) (store_is : w.store ≡ store) (shards_is : w.shards ≡ shards) (reach : Reach) (reached : HaveReached state honest w.nodes w.shards reach) where
  -- a coordinator that is up, and reaches this far
  pub record HasLog : Type 0 where
    pub v : CoordinatorView D
    pub at : node_at w.nodes Coordinator ≡ Some (views.coordinator v)
    pub node : IsNode store shards s coordinator (views.coordinator v)
    pub is_up : v.is_down ≡ false
    pub reaches : Reaches state honest (views.coordinator v) (Ok reach)

  -- and a shard
  pub record HasRows (i : ℕ) : Type 0 where
    pub v : ShardView D
    pub at : node_at w.nodes (Shard i) ≡ Some (views.shard v)
    pub node : IsNode store shards s (shard i) (views.shard v)
    pub is_up : v.is_down ≡ false
    pub reaches : Reaches state honest (views.shard v) (Ok reach)

  the_coordinator : (o : Option (NodeView D)) → node_at w.nodes Coordinator ≡ o → MatchOption o ⊥ (λ node. Reaches state honest node (Ok reach)) → HasLog
  the_coordinator None at is = absurd is
  the_coordinator (Some (views.coordinator v)) at is = record {
    v = v;
    at = at;
    node = subst (λ (n : ℕ). IsNode n shards s coordinator (views.coordinator v)) store_is (subst (λ (n : ℕ). IsNode w.store n s coordinator (views.coordinator v)) shards_is (shows.nodes coordinator (views.coordinator v) at));
    is_up = ⊎_elim (λ gone. let bad = is.down.1 gone in absurd cc) (λ up. up) (cases_Bool v.is_down);
    reaches = is;
  }
  the_coordinator (Some (views.shard v)) at is = absurd (shows.nodes coordinator (views.shard v) at).named
  the_coordinator (Some (views.refused e a b)) at is = absurd (let bad : Ok reach ≡ Err e = is in cc)

  pub the_log : HasLog
  the_log = the_coordinator (node_at w.nodes Coordinator) refl reached.log

  the_shard : (i : ℕ) (o : Option (NodeView D)) → node_at w.nodes (Shard i) ≡ o → MatchOption o ⊥ (λ node. Reaches state honest node (Ok reach)) → HasRows i
  the_shard i None at is = absurd is
  the_shard i (Some (views.coordinator v)) at is = absurd (shows.nodes (shard i) (views.coordinator v) at).named
  the_shard i (Some (views.shard v)) at is = record {
    v = v;
    at = at;
    node = subst (λ (n : ℕ). IsNode n shards s (shard i) (views.shard v)) store_is (subst (λ (n : ℕ). IsNode w.store n s (shard i) (views.shard v)) shards_is (shows.nodes (shard i) (views.shard v) at));
    is_up = ⊎_elim (λ gone. let bad = is.down.1 gone in absurd cc) (λ up. up) (cases_Bool v.is_down);
    reaches = is;
  }
  the_shard i (Some (views.refused e a b)) at is = absurd (let bad : Ok reach ≡ Err e = is in cc)

  the_rows : (i : ℕ) → i < shards → HasRows i
  the_rows i lt = the_shard i (node_at w.nodes (Shard i)) refl (reached.each i (subst (λ (n : ℕ). i < n) (sym shards_is) lt))

  -- ---- the coordinator's

  abbrev pub c : CoordinatorView D
  c = the_log.v

  pub runs : IsRunning state honest c
  runs = runs_now state honest store shards s now stands c the_log.node the_log.is_up

  pub seen : IsSeen now.nodes c
  seen = is_seen state honest store shards s now stands c the_log.node the_log.is_up

  pub me_is : c.me ≡ coordinator_node store shards
  me_is = the_log.node.named

  pub image : IsCoordinatorImage (coordinator_node store shards) (c.durable ++ c.staged)
  image = (whole store shards (stops state honest store shards s.devices) now c stands.stands seen).image

  pub decided : CoordinatorMeans now.machine.log now.machine.horizon (memory_of c)
  decided = (whole store shards (stops state honest store shards s.devices) now c stands.stands seen).decided

  pub epoch_is : (memory_of c).epoch ≡ (kept_of c).epoch
  epoch_is = same_epoch store shards (stops state honest store shards s.devices) now c stands.stands seen

  opened : 1 ≤ (kept_of c).epoch
  opened = stands.stands.nodes.coordinator_opened (kept_of c) (memory_of c) (record { durable = c.durable; staged = c.staged; is_up = seen.at; durable_state = refl; replayed = refl })

  pub opened_now : 1 ≤ (memory_of c).epoch
  opened_now = subst (λ (n : ℕ). 1 ≤ n) (sym epoch_is) opened

  pub horizon_reached : reach.horizon ≡ now.machine.horizon
  horizon_reached = (the_log.reaches.ok runs).1 ∙ horizon_is store shards (stops state honest store shards s.devices) now c stands.stands seen

  module _ (all_kept : now.machine.kept ≡ length now.machine.log) where
    pub place_reached : reach.place ≡ length now.machine.log
    place_reached = (the_log.reaches.ok runs).0 ∙ kept_is store shards (stops state honest store shards s.devices) now c stands.stands seen ∙ all_kept

    -- ---- the shards'

    abbrev pub all : List Version
    all = versions now.machine.log reach.place reach.horizon

    module _ (i : ℕ) (lt : i < shards) where
      abbrev h : HasRows i
      h = the_rows i lt

      up : IsUp state honest h.v
      up = shard_is_up state honest store shards s now stands i h.v h.node h.is_up

      alike : AreAlike (memory h.v).rows (of_shard shards i all)
      alike =
          let seen_here = shard_is_seen state honest store shards s now stands i h.v h.node h.is_up in
          let means = stands.stands.listed i (h.v.durable ++ h.v.staged) lt (known_left store shards (stops state honest store shards s.devices) now h.v i seen_here stands.stands) in
          let reaches = h.reaches.ok up in
          subst (λ (p : ℕ). AreAlike (memory h.v).rows (of_shard shards i (versions now.machine.log p reach.horizon))) (sym reaches.0)
          (subst (λ (x : ℕ). AreAlike (memory h.v).rows (of_shard shards i (versions now.machine.log (memory h.v).learned x))) (sym reaches.1) means.rows)

      tells : (told : List Version) → TellsShard state honest w.nodes i told → IsPermutation (of_shard shards i all) told
      tells told t =
          let shown : KnownOf state honest (views.shard h.v) (Ok t.known) = subst (λ (o : Option (NodeView D)). MatchOption o ⊥ (λ node. KnownOf state honest node (Ok t.known))) h.at t.tells in
          subst (IsPermutation (of_shard shards i all)) t.rows_are (told_same shards i all (memory h.v).rows t.known.now.rows alike (shown.ok up))

    tell_all : (i : ℕ) (told : List Version) → i ≤ shards → TellAll state honest w.nodes i told → IsPermutation (first_shards shards i all) told
    tell_all zero told le is = subst (IsPermutation (first_shards shards zero all)) (none_first shards all ∙ sym is) (IsPermutation-refl (first_shards shards zero all))
    tell_all (suc i) told le (before, more, first, one, is) =
        subst (IsPermutation (first_shards shards (suc i) all)) (sym is)
        (IsPermutation-trans _ _ _ (IsPermutation-sym _ _ (one_more shards i all)) (IsPermutation-append _ _ _ _ (tell_all i before (omega (arith, le)) first) (tells i (omega (arith, le)) more one)))

    -- all rows together are the versions of the list
    pub gathered_alike : (rows : List Version) → 1 ≤ shards → AreGathered state honest w.nodes w.shards rows → AreAlike rows all
    gathered_alike rows some g =
        let told : IsPermutation (first_shards shards shards all) g.told = tell_all shards g.told (omega arith) (subst (λ (n : ℕ). TellAll state honest w.nodes n g.told) shards_is g.tell) in
        sorted_alike all rows (IsPermutation-trans _ _ _ (subst (λ (l : List Version). IsPermutation l g.told) (all_first shards some all) told) g.same) g.in_order
        (λ t. strict_versions t now.machine.log reach.place reach.horizon (λ j x at. stands.stands.rests.is_log.whole j x (slice_get_taken reach.place now.machine.log j x at)))
