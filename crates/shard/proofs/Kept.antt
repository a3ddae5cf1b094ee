-- What a shard keeps in memory is what its records stand for.
use Rattle.std.proofs.Common.{◌≡◌, ◌≤◌, ◌++◌, ℕ, List, [], ◌∷◌, false, refl, sym, ap, ◌∙◌, subst, append_assoc}
use Rattle.std.proofs.lemmas.List.{append-nil}
use Rattle.tuples.specs.declared.entry.Entry.{Entry}
use Rattle.tuples.specs.declared.entry.WriteId.{WriteId}
use Rattle.records.specs.declared.record.PlacedId.{PlacedId}
use Rattle.records.specs.declared.record.Record.{Record}
use Rattle.records.specs.declared.record.Record.TheVariants.{Prepare, Learned, Dropped, Epoch, Decision, Horizon, Checkpoint}
use Rattle.records.specs.Replays.{Identity, IsShardImage, MayCome, ShardState, shard_state, shard_step}
use Rattle.replay.specs.Alike.{IsAlike}
use Rattle.replay.proofs.Alike.{alike_step, alike_trans, may_come_alike}
use Rattle.replay.proofs.States.{image_push, shard_push}
use Rattle.device.specs.Device.{State}
use Rattle.journal.specs.Records.{View}
use Rattle.decisions.specs.Values.{NamesNode}
use Rattle.shard.specs.Keeping.{IsBacked, IsKept, prepared_ids}
use Rattle.shard.specs.Shards.{IsUp, ShardView, Stages, memory}

pub prepared_append : (rs more : List Record) → prepared_ids (rs ++ more) ≡ prepared_ids rs ++ prepared_ids more
prepared_append [] more = refl
prepared_append (Prepare w ∷ rs) more = ap (λ (l : List WriteId). w.id ∷ l) (prepared_append rs more)
prepared_append (Learned to placed_ids ∷ rs) more = prepared_append rs more
prepared_append (Dropped id ∷ rs) more = prepared_append rs more
prepared_append (Epoch epoch store shards node ∷ rs) more = prepared_append rs more
prepared_append (Decision place w ∷ rs) more = prepared_append rs more
prepared_append (Checkpoint mark ∷ rs) more = prepared_append rs more
prepared_append (Horizon place ∷ rs) more = prepared_append rs more

abbrev pub view_of : {D : Type 0} → View D → Identity → ShardView D
view_of j me = record { a = j.a; b = j.b; end = j.end; durable = j.durable; staged = j.staged; is_down = j.is_down; me = me }

pub memory_is : {D : Type 0} (state : D → State) (honest : D → Type 0) (j : View D) (me : Identity) (m : ShardState) (ids : List WriteId) (settled : ℕ) → IsKept state honest j me m ids settled
    → (v : ShardView D) → view_of j me ≡ v → IsUp state honest v → IsAlike m (memory v)
memory_is {D} state honest j me m ids settled kept v is up =
    subst (λ (w : ShardView D). IsUp state honest w → IsAlike m (memory w)) is (λ here. subst (λ (l : List Record). IsAlike m (shard_state l)) (kept.backed here.up here.honest_a here.honest_b).whole kept.replayed) up

-- a record that prepares nothing has no id
pub no_more : (ids : List WriteId) → ids ≡ ids ++ []
no_more ids = sym (append-nil ids)

-- one record more is staged, and applied in memory
pub kept_push : {D : Type 0} (state : D → State) (honest : D → Type 0) (j k : View D) (me : Identity) (m n : ShardState) (ids more : List WriteId) (settled : ℕ) (r : Record) → IsKept state honest j me m ids settled
    → MayCome me m r → k ≡ record j { staged = j.staged ++ r ∷ [] } → IsAlike n (shard_step m r) → 1 ≤ n.epoch → more ≡ ids ++ prepared_ids (r ∷ []) → IsKept state honest k me n more settled
kept_push {D} state honest j k me m n ids more settled r kept may staged stepped opened pushed = record {
  rs = kept.rs ++ r ∷ [];
  replayed = alike_trans stepped (subst (IsAlike (shard_step m r)) (sym (shard_push kept.rs r)) (alike_step kept.replayed r));
  image = image_push me kept.rs r kept.image (may_come_alike kept.replayed me r may);
  opened = opened;
  some = kept.some;
  few = kept.few;
  node = kept.node;
  backed = subst (λ (i : View D). i.is_down ≡ false → honest i.a → honest i.b → IsBacked state i (kept.rs ++ r ∷ [])) (sym staged)
      (λ up ha hb. let b = kept.backed up ha hb in record {
        rest = b.rest;
        whole = ap (λ (l : List Record). l ++ r ∷ []) b.whole ∙ append_assoc j.durable j.staged (r ∷ []);
      });
  named = subst (λ (i : View D). i.is_down ≡ false → honest i.a → honest i.b → NamesNode i.durable me.node) (sym staged) kept.named;
  unflushed_are = subst (λ (i : View D). i.is_down ≡ false → more ≡ prepared_ids i.staged) (sym staged)
      (λ up. pushed ∙ ap (λ (l : List WriteId). l ++ prepared_ids (r ∷ [])) (kept.unflushed_are up) ∙ sym (prepared_append j.staged (r ∷ [])));
  settled_is = subst (λ (i : View D). i.is_down ≡ false → honest i.a → honest i.b → settled ≡ (shard_state i.durable).learned) (sym staged) kept.settled_is;
}

-- what is seen of the shard then
pub stages : {D : Type 0} (j k : View D) (me : Identity) (r : Record) → k ≡ record j { staged = j.staged ++ r ∷ [] } → (v : ShardView D) → view_of j me ≡ v → Stages v r (view_of k me)
stages {D} j k me r staged v is =
    subst (λ (w : ShardView D). Stages w r (view_of k me)) is (ap (λ (i : View D). view_of i me) staged)

pub still_up : {D : Type 0} (state : D → State) (honest : D → Type 0) (v w : ShardView D) (r : Record) → IsUp state honest v → MayCome v.me (memory v) r → Stages v r w → IsUp state honest w
still_up {D} state honest v w r up may staged = subst (IsUp state honest) (sym staged) (record {
  honest_a = up.honest_a;
  honest_b = up.honest_b;
  up = up.up;
  rest = up.rest;
  image = subst (IsShardImage v.me) (append_assoc v.durable v.staged (r ∷ [])) (image_push v.me (v.durable ++ v.staged) r up.image may);
})

-- and the shard stays up
pub staged_up : {D : Type 0} (state : D → State) (honest : D → Type 0) (j k : View D) (me : Identity) (m : ShardState) (ids : List WriteId) (settled : ℕ) (r : Record) → IsKept state honest j me m ids settled
    → MayCome me m r → k ≡ record j { staged = j.staged ++ r ∷ [] } → (v : ShardView D) → view_of j me ≡ v → IsUp state honest v → Stages v r (view_of k me) × IsUp state honest (view_of k me)
staged_up {D} state honest j k me m ids settled r kept may staged v is up =
    let now : IsAlike m (memory v) = memory_is state honest j me m ids settled kept v is up in
    let may_now : MayCome v.me (memory v) r = subst (λ (w : ShardView D). MayCome w.me (memory v) r) is (may_come_alike now me r may) in
    let more = stages j k me r staged v is in
    (more, still_up state honest v (view_of k me) r up may_now more)

pub prepare_same_epoch : (m : ShardState) (w : Entry) → (shard_step m (Prepare w)).epoch ≡ m.epoch
unfolding shard_step
prepare_same_epoch m w = refl

pub prepare_epoch : (m : ShardState) (w : Entry) → 1 ≤ m.epoch → 1 ≤ (shard_step m (Prepare w)).epoch
unfolding shard_step
prepare_epoch m w opened = opened

pub dropped_epoch : (m : ShardState) (id : WriteId) → 1 ≤ m.epoch → 1 ≤ (shard_step m (Dropped id)).epoch
unfolding shard_step
dropped_epoch m id opened = opened

pub horizon_epoch : (m : ShardState) (place : ℕ) → 1 ≤ m.epoch → 1 ≤ (shard_step m (Horizon place)).epoch
unfolding shard_step
horizon_epoch m place opened = opened

pub learned_epoch : (m : ShardState) (to : ℕ) (placed_ids : List PlacedId) → 1 ≤ m.epoch → 1 ≤ (shard_step m (Learned to placed_ids)).epoch
unfolding shard_step
learned_epoch m to placed_ids opened = opened
