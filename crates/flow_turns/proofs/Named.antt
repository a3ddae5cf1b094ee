-- Records that open a node name it: they are no other node's.
use Rattle.std.proofs.Common.{◌≡◌, inl, inr, ℕ, ◌≤◌, List, [], ◌∷◌, ◌++◌, Option, Some, None, refl, sym, ◌∙◌, ap, arith}
use Rattle.records.specs.Coordinators.{CoordinatorState, IsCoordinatorImage, MayFollowNext, coordinator_from, coordinator_state, coordinator_step, empty_coordinator}
use Rattle.records.specs.Identity.{Identity}
use Rattle.records.specs.Inside.{inside_of}
use Rattle.records.specs.Replays.{IsShardImage, MayFollow, ShardState, empty_shard, shard_from, shard_state, shard_step}
use Rattle.records.specs.declared.mark.Inside.{Inside}
use Rattle.records.specs.declared.record.Record.{Record}
use Rattle.records.specs.declared.record.Record.TheVariants.{Prepare, Learned, Dropped, Epoch, Decision, Horizon, Checkpoint}

-- an opening is among these records
record HasOpening (rs : List Record) : Type 0 where
  before : List Record
  after : List Record
  epoch : ℕ
  me : Identity
  is : rs ≡ before ++ Epoch epoch me.store me.shards me.node ∷ after

opened_first : (epoch store shards node : ℕ) (rs : List Record) → HasOpening (Epoch epoch store shards node ∷ rs)
opened_first epoch store shards node rs = record { before = []; after = rs; epoch = epoch; me = record { store = store; shards = shards; node = node }; is = refl }

opened_later : (r : Record) (rs : List Record) → HasOpening rs → HasOpening (r ∷ rs)
opened_later r rs h = record { before = r ∷ h.before; after = h.after; epoch = h.epoch; me = h.me; is = ap (λ (l : List Record). r ∷ l) h.is }

-- no other record raises the epoch
shard_opened : (s : ShardState) (rs : List Record) → s.epoch ≡ 0 → 1 ≤ (shard_from s rs).epoch → HasOpening rs
unfolding shard_step
shard_opened s [] none some = absurd (omega (arith, none, some))
shard_opened s (Prepare w ∷ rs) none some = opened_later (Prepare w) rs (shard_opened (shard_step s (Prepare w)) rs none some)
shard_opened s (Learned to placed_ids ∷ rs) none some = opened_later (Learned to placed_ids) rs (shard_opened (shard_step s (Learned to placed_ids)) rs none some)
shard_opened s (Dropped id ∷ rs) none some = opened_later (Dropped id) rs (shard_opened (shard_step s (Dropped id)) rs none some)
shard_opened s (Epoch epoch store shards node ∷ rs) none some = opened_first epoch store shards node rs
shard_opened s (Decision place w ∷ rs) none some = opened_later (Decision place w) rs (shard_opened (shard_step s (Decision place w)) rs none some)
shard_opened s (Horizon place ∷ rs) none some = opened_later (Horizon place) rs (shard_opened (shard_step s (Horizon place)) rs none some)
shard_opened s (Checkpoint mark ∷ rs) none some = opened_later (Checkpoint mark) rs (shard_opened (shard_step s (Checkpoint mark)) rs none some)

coordinator_opened : (s : CoordinatorState) (rs : List Record) → s.epoch ≡ 0 → 1 ≤ (coordinator_from s rs).epoch → HasOpening rs
unfolding coordinator_step
coordinator_opened s [] none some = absurd (omega (arith, none, some))
coordinator_opened s (Prepare w ∷ rs) none some = opened_later (Prepare w) rs (coordinator_opened (coordinator_step s (Prepare w)) rs none some)
coordinator_opened s (Learned to placed_ids ∷ rs) none some = opened_later (Learned to placed_ids) rs (coordinator_opened (coordinator_step s (Learned to placed_ids)) rs none some)
coordinator_opened s (Dropped id ∷ rs) none some = opened_later (Dropped id) rs (coordinator_opened (coordinator_step s (Dropped id)) rs none some)
coordinator_opened s (Epoch epoch store shards node ∷ rs) none some = opened_first epoch store shards node rs
coordinator_opened s (Decision place w ∷ rs) none some = opened_later (Decision place w) rs (coordinator_opened (coordinator_step s (Decision place w)) rs none some)
coordinator_opened s (Horizon place ∷ rs) none some = opened_later (Horizon place) rs (coordinator_opened (coordinator_step s (Horizon place)) rs none some)
coordinator_opened s (Checkpoint mark ∷ rs) none some = opened_later (Checkpoint mark) rs (coordinator_opened (coordinator_step s (Checkpoint mark)) rs none some)

same_identity : (x y : Identity) → x.store ≡ y.store → x.shards ≡ y.shards → x.node ≡ y.node → x ≡ y
same_identity x y store shards node =
    ap (λ (n : ℕ). record x { store = n }) store
    ∙ ap (λ (n : ℕ). record x { store = y.store; shards = n }) shards
    ∙ ap (λ (n : ℕ). record y { node = n }) node

shard_named : (me it : Identity) (epoch : ℕ) (i : Option Inside) (s : ShardState) → MayFollow me i s (Epoch epoch it.store it.shards it.node) → it ≡ me
shard_named me it epoch None s (inl may) = same_identity it me may.same_store may.same_shards may.same_node
shard_named me it epoch None s (inr never) = absurd never
shard_named me it epoch (Some i) s may = same_identity it me may.same_store may.same_shards may.same_node

coordinator_named : (me it : Identity) (epoch : ℕ) (i : Option Inside) (s : CoordinatorState) → MayFollowNext me i s (Epoch epoch it.store it.shards it.node) → it ≡ me
coordinator_named me it epoch None s (inl may) = same_identity it me may.same_store may.same_shards may.same_node
coordinator_named me it epoch None s (inr never) = absurd never
coordinator_named me it epoch (Some i) s may = same_identity it me may.may.same_store may.may.same_shards may.may.same_node

-- the records of a shard that was opened are no other shard's
pub one_shard : (me other : Identity) (rs : List Record) → 1 ≤ (shard_state rs).epoch → IsShardImage me rs → IsShardImage other rs → me ≡ other
unfolding shard_state
one_shard me other rs some image another =
    let h = shard_opened empty_shard rs refl some in
    sym (shard_named me h.me h.epoch (inside_of h.before) (shard_state h.before) (image.each h.before h.after (Epoch h.epoch h.me.store h.me.shards h.me.node) h.is))
    ∙ shard_named other h.me h.epoch (inside_of h.before) (shard_state h.before) (another.each h.before h.after (Epoch h.epoch h.me.store h.me.shards h.me.node) h.is)

-- nor those of a coordinator another's
pub one_coordinator : (me other : Identity) (rs : List Record) → 1 ≤ (coordinator_state rs).epoch → IsCoordinatorImage me rs → IsCoordinatorImage other rs → me ≡ other
unfolding coordinator_state
one_coordinator me other rs some image another =
    let h = coordinator_opened empty_coordinator rs refl some in
    sym (coordinator_named me h.me h.epoch (inside_of h.before) (coordinator_state h.before) (image.each h.before h.after (Epoch h.epoch h.me.store h.me.shards h.me.node) h.is))
    ∙ coordinator_named other h.me h.epoch (inside_of h.before) (coordinator_state h.before) (another.each h.before h.after (Epoch h.epoch h.me.store h.me.shards h.me.node) h.is)
