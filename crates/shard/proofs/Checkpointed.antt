-- A checkpoint of what the memory has: it is one of what the shard knows, and the memory is what it stands for.
use Rattle.std.proofs.Common.{◌≡◌, ◌≤◌, ◌<◌, ◌+◌, ◌⊎◌, inl, inr, ⊎_elim, ◌++◌, ◌∷◌, [], ℕ, List, map, min, false, refl, sym, ◌∙◌, ap, subst, arith, append_assoc}
use Rattle.std.proofs.lemmas.List.{append-nil}
use Rattle.tuples.specs.declared.entry.Entry.{Entry}
use Rattle.tuples.specs.declared.entry.WriteId.{WriteId}
use Rattle.tuples.specs.declared.version.Version.{Version}
use Rattle.records.specs.declared.mark.Mark.TheVariants.{Begins, Ends}
use Rattle.records.specs.declared.record.Record.{Record}
use Rattle.records.specs.declared.record.Record.TheVariants.{Checkpoint, Epoch, Horizon, Learned}
use Rattle.records.specs.Checkpoints.{generation_of}
use Rattle.records.specs.Replays.{Identity, IsShardImage, ShardState, greatest_number, shard_state}
use Rattle.versions.specs.Alike.{of_tuple}
use Rattle.versions.specs.Walks.{IsInOrder, Rise}
use Rattle.versions.proofs.Alike.{alike_sym}
use Rattle.replay.specs.Alike.{IsAlike}
use Rattle.replay.specs.Checkpoints.{StandsForShard, prepare_of, row_of, shard_checkpoint}
use Rattle.replay.proofs.Alike as states
use Rattle.replay.proofs.Checkpoints.{checkpoints_stand}
use Rattle.replay.proofs.Fit.{image_fit}
use Rattle.replay.proofs.Rising.{RisesFrom}
use Rattle.device.specs.Device.{State}
use Rattle.journal.specs.Ahead.{HasOldOrNewOr, checkpoint_of}
use Rattle.journal.specs.Records.{HasRecords, LeavesEach, View}
use Rattle.decisions.specs.Values.{NamesNode}
use Rattle.shard.specs.Checkpoints.{ChecksPointAt, HasOldNewOrPoint, IsNextCheckpoint, told_by}
use Rattle.shard.specs.Keeping.{IsKept, prepared_ids}
use Rattle.shard.specs.Shards.{IsUp, ShardView, memory}
use Rattle.shard.proofs.Kept.{memory_is, view_of}

-- ---- what is told is a checkpoint

told_checkpoint : (me : Identity) (g : ℕ) (m : ShardState) → checkpoint_of g (told_by me m) ≡ shard_checkpoint me g m m.rows
told_checkpoint me g m =
    ap (λ (l : List Record). Checkpoint (Begins g) ∷ Epoch m.epoch me.store me.shards me.node ∷ Horizon m.horizon ∷ Learned m.learned [] ∷ l)
    (append_assoc (map row_of m.rows) (map prepare_of m.in_doubt) (Checkpoint (Ends g) ∷ []))

same_checkpoint : (me : Identity) (g : ℕ) (m s : ShardState) (listed : List Version) → IsAlike m s → shard_checkpoint me g m listed ≡ shard_checkpoint me g s listed
same_checkpoint me g m s listed alike =
    ap (λ (n : ℕ). told n m.horizon m.learned m.in_doubt) alike.epoch
    ∙ ap (λ (n : ℕ). told s.epoch n m.learned m.in_doubt) alike.horizon
    ∙ ap (λ (n : ℕ). told s.epoch s.horizon n m.in_doubt) alike.learned
    ∙ ap (λ (ws : List Entry). told s.epoch s.horizon s.learned ws) alike.in_doubt
  where
    told : ℕ → ℕ → ℕ → List Entry → List Record
    told epoch horizon learned ws =
        Checkpoint (Begins g) ∷ Epoch epoch me.store me.shards me.node ∷ Horizon horizon ∷ Learned learned [] ∷ map row_of listed ++ (map prepare_of ws ++ Checkpoint (Ends g) ∷ [])

told_is : (me : Identity) (g : ℕ) (m s : ShardState) → IsAlike m s → checkpoint_of g (told_by me m) ≡ shard_checkpoint me g s m.rows
told_is me g m s alike = told_checkpoint me g m ∙ same_checkpoint me g m s m.rows alike

-- ---- it stands for what the records stood for

stands : (me : Identity) (g : ℕ) (m : ShardState) (rs : List Record) → IsShardImage me rs → IsAlike m (shard_state rs) → 1 ≤ m.epoch → 1 ≤ g → g ≤ greatest_number
    → StandsForShard me rs (checkpoint_of g (told_by me m))
stands me g m rs image alike opened some fits =
    subst (StandsForShard me rs) (sym (told_is me g m (shard_state rs) alike))
    (checkpoints_stand me rs g m.rows image (omega (arith, opened, alike.epoch)) some fits (alike_sym alike.rows))

-- ---- its versions stand in order

pub rise_of : (n : ℕ) (vs : List Version) → RisesFrom n vs → Rise vs
rise_of n [] rises = tt
rise_of n (v ∷ []) rises = tt
rise_of n (v ∷ u ∷ vs) rises = (rises.1.0, rise_of v.place (u ∷ vs) rises.1)

-- ---- the shard after it

module _ {D : Type 0} (state : D → State) (honest : D → Type 0) (j k : View D) (me : Identity) (m : ShardState) (ids : List WriteId) (settled : ℕ) (kept : IsKept state honest j me m ids settled) where
  -- the generation, as it is over honest devices
  abbrev g : ℕ
  g = min (generation_of j.durable + 1) greatest_number

  abbrev cs : List Record
  cs = checkpoint_of g (told_by me m)

  standing : StandsForShard me kept.rs cs
  standing = stands me g m kept.rs kept.image kept.replayed kept.opened (omega arith) (omega arith)

  module _ (was_up : j.is_down ≡ false) (back_a : honest k.a → honest j.a) (back_b : honest k.b → honest j.b) (fresh : k.staged ≡ [])
      (below : honest j.a → honest j.b → generation_of j.durable < greatest_number)
      (written : honest j.a → honest j.b → (k.durable ≡ checkpoint_of (generation_of j.durable + 1) (told_by me m)) × HasRecords (state k.a) (state k.b) k.durable) where
    has_cs : honest k.a → honest k.b → k.durable ≡ cs
    has_cs ha hb =
        let b = below (back_a ha) (back_b hb) in
        let same : generation_of j.durable + 1 ≡ g = omega (arith, b) in
        (written (back_a ha) (back_b hb)).0 ∙ ap (λ (n : ℕ). checkpoint_of n (told_by me m)) same

    pub kept_checkpointed : IsKept state honest k me m [] m.learned
    kept_checkpointed = record {
      rs = cs;
      replayed = states.alike_trans kept.replayed standing.alike;
      image = standing.image;
      opened = kept.opened;
      some = kept.some;
      few = kept.few;
      node = kept.node;
      backed = λ up ha hb. record {
        rest = (written (back_a ha) (back_b hb)).1;
        whole = sym (ap (λ (l : List Record). k.durable ++ l) fresh ∙ append-nil k.durable ∙ has_cs ha hb);
      };
      named = λ up ha hb. subst (λ (l : List Record). NamesNode l me.node) (sym (has_cs ha hb)) (m.epoch, me.store, me.shards, (1, omega arith, refl));
      unflushed_are = λ up. ap prepared_ids (sym fresh);
      settled_is = λ up ha hb. (states.alike_trans kept.replayed standing.alike).learned ∙ ap (λ (l : List Record). (shard_state l).learned) (sym (has_cs ha hb));
    }

  -- what is told of the shard
  module _ (order : IsInOrder m.rows) where
    point_here : IsUp state honest (view_of j me) → IsNextCheckpoint (view_of j me) (checkpoint_of (generation_of j.durable + 1) (told_by me m))
    point_here up =
        let alike : IsAlike m (memory (view_of j me)) = memory_is state honest j me m ids settled kept (view_of j me) refl up in
        record {
          listed = m.rows;
          alike = alike_sym alike.rows;
          in_order = order (λ t. subst Rise (sym (alike.rows.each t)) (rise_of 1 (of_tuple t (memory (view_of j me)).rows) ((image_fit me (j.durable ++ j.staged) up.image).rows.rise t)));
          is = told_is me (generation_of j.durable + 1) m (memory (view_of j me)) alike;
        }

    -- at every moment
    pub point_moments : (moment : D → ℕ) (left_since : D → ℕ → List ℕ → Type 0) (v : ShardView D) → view_of j me ≡ v
        → (honest j.a → honest j.b → j.is_down ≡ false → LeavesEach moment left_since j.a j.b k.a k.b (HasOldOrNewOr j.durable j.staged (checkpoint_of (generation_of j.durable + 1) (told_by me m))))
        → IsUp state honest v → LeavesEach moment left_since v.a v.b k.a k.b (HasOldNewOrPoint v)
    point_moments moment left_since v is leaves =
        subst (λ (w : ShardView D). IsUp state honest w → LeavesEach moment left_since w.a w.b k.a k.b (HasOldNewOrPoint w)) is
        (λ up.
        let l = leaves up.honest_a up.honest_b up.up in
        record {
          later_a = l.later_a;
          later_b = l.later_b;
          each = λ x y in_x in_y. ⊎_elim (λ old. inl old) (λ new. inr (_, new, point_here up)) (l.each x y in_x in_y);
        })

    -- and after it
    pub point_checked : (v : ShardView D) → view_of j me ≡ v → (honest j.a → honest k.a) → (honest j.b → honest k.b) → (honest k.a → honest j.a) → (honest k.b → honest j.b)
        → k.is_down ≡ false → k.staged ≡ [] → (honest j.a → honest j.b → generation_of j.durable < greatest_number)
        → (honest j.a → honest j.b → (k.durable ≡ checkpoint_of (generation_of j.durable + 1) (told_by me m)) × HasRecords (state k.a) (state k.b) k.durable)
        → IsUp state honest v → ChecksPointAt state honest v (view_of k me)
    point_checked v is on_a on_b back_a back_b now_up fresh below written =
        subst (λ (w : ShardView D). IsUp state honest w → ChecksPointAt state honest w (view_of k me)) is
        (λ up.
        let ha = on_a up.honest_a in
        let hb = on_b up.honest_b in
        let new = written up.honest_a up.honest_b in
        record {
          up = record {
            honest_a = ha;
            honest_b = hb;
            up = now_up;
            rest = new.1;
            image = subst (IsShardImage me) (sym (ap (λ (l : List Record). k.durable ++ l) fresh ∙ append-nil k.durable ∙ has_cs up.up back_a back_b fresh below written ha hb)) standing.image;
          };
          durable = subst (IsNextCheckpoint (view_of j me)) (sym new.0) (point_here up);
          staged = fresh;
        })
