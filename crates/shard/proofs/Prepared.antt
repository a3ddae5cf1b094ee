-- A write was prepared: what the shard keeps then, and what its ticket tells.
use Rattle.std.proofs.Common.{◌≡◌, ◌≤◌, ◌++◌, ℕ, List, [], ◌∷◌, Some, true, false, sym, ap, ◌∙◌, subst}
use Rattle.std.specs.Option.{is_some}
use Rattle.tuples.specs.declared.entry.Entry.{Entry}
use Rattle.tuples.specs.declared.entry.WriteId.{WriteId}
use Rattle.tuples.specs.Parts.{part}
use Rattle.records.specs.declared.record.Record.{Record}
use Rattle.records.specs.declared.record.Record.TheVariants.{Prepare}
use Rattle.records.specs.Replays.{Identity, ShardState, find_in_doubt, shard_state, shard_step}
use Rattle.replay.specs.Alike.{IsAlike}
use Rattle.replay.proofs.Alike.{alike_same}
use Rattle.replay.proofs.Doubts.{find_put_same}
use Rattle.device.specs.Device.{State}
use Rattle.journal.specs.Records.{View}
use Rattle.decisions.specs.Values.{IsIntent}
use Rattle.shard.specs.Keeping.{IsKept}
use Rattle.shard.specs.Shards.{AreFree, IsPreparable}
use Rattle.shard.proofs.Kept.{kept_push, prepare_epoch}
use Rattle.shard.proofs.Tested.{part_may_come, same_part_id}

held_now : (m : ShardState) (p : Entry) → AreFree m p → find_in_doubt p.id (shard_step m (Prepare p)).in_doubt ≡ Some p
unfolding shard_step
held_now m p free = find_put_same m.in_doubt p

module _ {D : Type 0} (state : D → State) (honest : D → Type 0) (j k : View D) (me : Identity) (m n : ShardState) (ids more : List WriteId) (settled : ℕ) (w : Entry)
    (kept : IsKept state honest j me m ids settled) (whole : IsIntent w) (able : IsPreparable m (part me.shards me.node w))
    (staged : k ≡ record j { staged = j.staged ++ Prepare (part me.shards me.node w) ∷ [] }) (stepped : n ≡ shard_step m (Prepare (part me.shards me.node w))) (waits : more ≡ ids ++ w.id ∷ []) where
  pub kept_after : IsKept state honest k me n more settled
  kept_after =
      let id : more ≡ ids ++ (part me.shards me.node w).id ∷ [] = waits ∙ ap (λ (i : WriteId). ids ++ i ∷ []) (sym (same_part_id me.shards me.node w)) in
      kept_push state honest j k me m n ids more settled (Prepare (part me.shards me.node w)) kept (part_may_come me m w kept.opened whole able.free) staged (alike_same _ _ stepped)
      (subst (λ (s : ShardState). 1 ≤ s.epoch) (sym stepped) (prepare_epoch m (part me.shards me.node w) kept.opened)) id

  module _ (up : k.is_down ≡ false) (ha : honest k.a) (hb : honest k.b) where
    now : IsAlike n (shard_state (k.durable ++ k.staged))
    now = subst (λ (l : List Record). IsAlike n (shard_state l)) (kept_after.backed up ha hb).whole kept_after.replayed

    pub held_after : is_some (find_in_doubt w.id (shard_state (k.durable ++ k.staged)).in_doubt) ≡ true
    held_after =
        let there : find_in_doubt (part me.shards me.node w).id n.in_doubt ≡ Some (part me.shards me.node w) =
        ap (λ (s : ShardState). find_in_doubt (part me.shards me.node w).id s.in_doubt) stepped ∙ held_now m (part me.shards me.node w) able.free in
        let found : find_in_doubt w.id (shard_state (k.durable ++ k.staged)).in_doubt ≡ Some (part me.shards me.node w) =
        ap (λ (i : WriteId). find_in_doubt i (shard_state (k.durable ++ k.staged)).in_doubt) (sym (same_part_id me.shards me.node w))
        ∙ ap (find_in_doubt (part me.shards me.node w).id) (sym now.in_doubt) ∙ there in
        ap (λ o. is_some o) found

    pub epoch_after : n.epoch ≡ (shard_state (k.durable ++ k.staged)).epoch
    epoch_after = now.epoch
