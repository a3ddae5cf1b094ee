-- A node of a store that stands: up, it keeps its contract's premises; away, it answers one refusal.
use Rattle.std.proofs.Common.{◌≡◌, inl, ℕ, ◌++◌, true, false, List, Some, refl, sym, ◌∙◌, ap, subst, if◌then◌else◌}
use Rattle.flow_turns.proofs.CallWords.{CoordinatorView, Down, IsAway, IsNode, IsRunning, IsSeen, IsUp, Moment, Record, ShardIsSeen, ShardView, StandsOver, State, Store, coordinator, down, shard, shard_node, stops, up}
use Rattle.journal.specs.Records.{HasRecords}
use Rattle.records.specs.Replays.{Identity, IsShardImage}
use Rattle.calls.specs.Views as views
use Rattle.turns.proofs.ShardPrepareSeam.{last_sync}
use Rattle.turns.proofs.ShardSeam.{known_left}

module _ {D : Type 0} (state : D → State) (honest : D → Type 0) (store shards : ℕ) (old : Store D) (now : Moment) (standing : StandsOver state honest store shards old now) where
  -- a stop leaves some records of the coordinator
  pub some_coordinator : (rs : List Record) × stops state honest store shards old.devices coordinator rs
  some_coordinator =
      let d = old.devices coordinator in
      let rs = standing.sound.readable coordinator (state d.0).durable (state d.1).durable tt (last_sync (state d.0)) (last_sync (state d.1)) in
      (rs.0, ((state d.0).durable, (state d.1).durable, last_sync (state d.0), last_sync (state d.1), rs.1))

  -- a coordinator
  module _ (v : CoordinatorView D) (node : IsNode store shards old coordinator (views.coordinator v)) where
    pub coordinator_is_away : v.is_down ≡ true → IsAway now.nodes coordinator Down
    coordinator_is_away is = inl (standing.nodes.at coordinator ∙ node.at ∙ ap (λ b. if b then down else up v.durable v.staged) is, refl)

    module _ (is_up : v.is_down ≡ false) where
      pub is_seen : IsSeen now.nodes v
      is_seen = record {
        at = standing.nodes.at coordinator ∙ node.at ∙ ap (λ b. if b then down else up v.durable v.staged) is_up;
        open_writes = standing.nodes.open_ids ∙ node.memory.0;
        given = standing.nodes.given ∙ node.memory.1;
      }

      pub runs_now : IsRunning state honest v
      runs_now = record {
        honest_a = subst (λ (p : D × D). honest p.0) node.devices (standing.sound.honest_a coordinator tt);
        honest_b = subst (λ (p : D × D). honest p.1) node.devices (standing.sound.honest_b coordinator tt);
        up = is_up;
        rest = subst (λ (p : D × D). HasRecords (state p.0) (state p.1) v.durable) node.devices (λ a b in_a in_b.
            let rs = standing.sound.readable coordinator a b tt in_a in_b in
            rs.1 ∙ ap (λ (l : List Record). Some l) ((standing.stands.nodes.durable coordinator v.durable v.staged rs.0 is_seen.at).0 (a, b, in_a, in_b, rs.1)));
      }

  -- a shard
  module _ (s : ℕ) (v : ShardView D) (node : IsNode store shards old (shard s) (views.shard v)) where
    pub shard_is_away : v.is_down ≡ true → IsAway now.nodes (shard s) Down
    shard_is_away is = inl (standing.nodes.at (shard s) ∙ node.at ∙ ap (λ b. if b then down else up v.durable v.staged) is, refl)

    module _ (is_up : v.is_down ≡ false) where
      pub shard_is_seen : ShardIsSeen store shards s now.nodes v
      shard_is_seen = record {
        there = node.there;
        me = node.named;
        at = standing.nodes.at (shard s) ∙ node.at ∙ ap (λ b. if b then down else up v.durable v.staged) is_up;
      }

      image : IsShardImage (shard_node store shards s) (v.durable ++ v.staged)
      image =
          let c = some_coordinator in
          let means = standing.stands.rests.each c.0 (c.0, c.1, inl refl) in
          (means.3.each_shard s (v.durable ++ v.staged) node.there (known_left store shards (stops state honest store shards old.devices) now v s shard_is_seen standing.stands)).image

      pub shard_is_up : IsUp state honest v
      shard_is_up = record {
        honest_a = subst (λ (p : D × D). honest p.0) node.devices (standing.sound.honest_a (shard s) node.there);
        honest_b = subst (λ (p : D × D). honest p.1) node.devices (standing.sound.honest_b (shard s) node.there);
        up = is_up;
        rest = subst (λ (p : D × D). HasRecords (state p.0) (state p.1) v.durable) node.devices (λ a b in_a in_b.
            let rs = standing.sound.readable (shard s) a b node.there in_a in_b in
            rs.1 ∙ ap (λ (l : List Record). Some l) ((standing.stands.nodes.durable (shard s) v.durable v.staged rs.0 shard_is_seen.at).0 (a, b, in_a, in_b, rs.1)));
        image = subst (λ (i : Identity). IsShardImage i (v.durable ++ v.staged)) (sym node.named) image;
      }
