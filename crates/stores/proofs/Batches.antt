-- What shards and watches make of batches and heads, and what shards have settled.
use Rattle.std.proofs.Common.{◌≡◌, inr, ⊎_elim, ℕ, ◌+◌, ◌-◌, ◌≤◌, ◌<◌, min, true, List, ◌++◌, length, take, drop, Some, slice_get, refl, sym, ◌∙◌, ap, subst, arith}
use Rattle.stores.proofs.Words.{AreOfLog, Entry, IsRightSettled, IsShardImage, Moment, NodeName, Record, ShardKnows, ShardMeans, ShardState, Stands, leaves, part, shard, shard_node, shard_state, slice_get_drop, slice_get_taken, staged_of, takes_part}
use Rattle.tuples.specs.Parts.{expected}
use Rattle.tuples.specs.Watching.{events, events_from}
use Rattle.stores.specs.HeadsLaws.{BatchesMeetPrepares, SettledIsLearned, ShardsSettle, WatchesAgree}
use Rattle.stores.proofs.ShardFlush.{learned_more}
use Rattle.std.proofs.lemmas.List.Elements.{All-contains}

-- what a shard that is up knows means the whole log
pub known_means : (store shards : ℕ) (left : NodeName → List Record → Type 0) (now : Moment) (s : ℕ) (memory : ShardState) → Stands store shards left now → s < shards → ShardKnows now.nodes s memory
    → ShardMeans shards s now.machine.log now.machine.horizon now.machine.horizon memory
known_means store shards left now s memory stands there k =
    let durable : left (shard s) k.durable = (stands.nodes.durable (shard s) k.durable k.staged k.durable k.is_up).1 refl in
    let here : leaves left now.nodes (shard s) (k.durable ++ k.staged) = (k.durable, durable, inr (ap (λ (l : List Record). k.durable ++ l) (sym (ap staged_of k.is_up)))) in
    subst (ShardMeans shards s now.machine.log now.machine.horizon now.machine.horizon) (sym k.replayed) (stands.listed s (k.durable ++ k.staged) there here)

-- a write of a batch stands in the log at its place
batch_place : (log : List Entry) (from : ℕ) (writes : List Entry) → AreOfLog log from writes → (j : ℕ) (w : Entry) → slice_get writes j ≡ Some w → slice_get log (from + j) ≡ Some w
batch_place log from writes are j w is =
    sym (slice_get_drop from log j) ∙ slice_get_taken (length writes) (drop from log) j w (ap (λ (l : List Entry). slice_get l j) (sym are) ∙ is)

takes_all : (shards s : ℕ) (w : Entry) → takes_part shards s w ≡ true → expected shards s w ≡ Some (part shards s w)
unfolding expected
takes_all shards s w takes = rw takes refl

pub batches_meet_prepares : (store shards : ℕ) (left : NodeName → List Record → Type 0) → BatchesMeetPrepares store shards left
batches_meet_prepares store shards left now s memory b stands there k right low =
    let means = known_means store shards left now s memory stands there k in
    let log = now.machine.log in
    let skip = memory.learned - b.from in
    let at = λ (j : ℕ) (w : Entry) (is : slice_get (drop skip b.writes) j ≡ Some w). batch_place log b.from b.writes right.writes (skip + j) w (sym (slice_get_drop skip b.writes j) ∙ is) in (
      λ j w is takes. means.in_doubt.above (b.from + (skip + j)) w (at j w is) (omega (arith, low)) ∙ takes_all shards s w takes,
      λ i j v w is_v is_w same. let one = stands.rests.is_log.new (b.from + (skip + i)) (b.from + (skip + j)) v w (at i v is_v) (at j w is_w) same in omega (arith, one),
    )

pub shards_settle : (store shards : ℕ) (left : NodeName → List Record → Type 0) → ShardsSettle store shards left
shards_settle store shards left now s place durable staged stands is_up is found stop =
    let same = (stands.nodes.durable (shard s) durable staged found is_up).0 stop in
    subst (λ (l : List Record). place ≤ (shard_state l).learned) (sym same) (omega (arith, is))

pub settled_is_learned : (store shards : ℕ) (left : NodeName → List Record → Type 0) → SettledIsLearned store shards left
settled_is_learned store shards left now place settled kept memory stands knows all voted s found lt is =
    let v = voted s lt in
    let right = All-contains (IsRightSettled shards left place) settled v.0 all v.1 in
    let whole = stands.heads.whole knows.durable knows.staged knows.is_up in
    let low : place ≤ (shard_state is.0).learned =
    let old = right.learned is.0 (subst (λ (k : ℕ). left (shard k) is.0) (sym v.2) is.1) in omega (arith, old, right.enough) in
    ⊎_elim
    (λ plain. subst (λ (l : List Record). place ≤ (shard_state l).learned) (sym plain) low)
    (λ more.
    let image = (whole.each_shard s found lt is).image in
    let longer = learned_more (shard_node store shards s) is.0 (staged_of (now.nodes.at (shard s))) (subst (IsShardImage (shard_node store shards s)) more image) in
    subst (λ (l : List Record). place ≤ (shard_state l).learned) (sym more) (omega (arith, low, longer)))
    is.2

pub watches_agree : (store shards : ℕ) (left : NodeName → List Record → Type 0) → WatchesAgree store shards left
unfolding events
watches_agree store shards left now r c limit names heads b right batch above low from size = record {
  kept = heads.kept;
  was = right.was;
  cursor = low;
  heartbeat = refl;
  still_kept = omega (arith, right.kept);
  all =
      let of_log : b.writes ≡ take (min (c + limit) heads.kept - c) (drop c now.machine.log) =
      batch.writes ∙ ap (λ (n : ℕ). take n (drop b.from now.machine.log)) size ∙ ap (λ (n : ℕ). take (min (c + limit) heads.kept - c) (drop n now.machine.log)) from in
      ap (events_from (c + 1) names) of_log;
  above = λ first is. let saw = right.above first is in omega (arith, saw, above);
}
