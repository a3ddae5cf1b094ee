-- What a shard is to learn of the list it has prepared.
use Rattle.std.proofs.Common.{◌≡◌, inr, ℕ, ◌+◌, ◌-◌, Bool, List, length, drop, Some, None, slice_get, refl, sym, ◌∙◌, ap, cond, arith}
use Rattle.tuples.specs.declared.entry.Entry.{Entry}
use Rattle.tuples.specs.Parts.{expected, part}
use Rattle.tuples.proofs.Lists.{slice_get_drop}
use Rattle.records.specs.Replays.{shard_state}
use Rattle.laws.specs.ShardLaws.{AreOfLog}
use Rattle.laws.specs.Shards.{ShardMeans}
use Rattle.laws.proofs.Lists.{slice_get_taken}
use Rattle.shard.specs.Shards.{unlearned}
use Rattle.accord.specs.Shards.{BatchesAreLearnable}

-- a write of a stretch of a list stands in it
of_log : (log writes : List Entry) (from i : ℕ) (w : Entry) → AreOfLog log from writes → slice_get writes i ≡ Some w → slice_get log (from + i) ≡ Some w
of_log log writes from i w are is = sym (slice_get_drop from log i) ∙ slice_get_taken (length writes) (drop from log) i w (ap (λ (l : List Entry). slice_get l i) (sym are) ∙ is)

pub batches_are_learnable : BatchesAreLearnable
unfolding expected
batches_are_learnable store shards n s from writes a lt up are low = record {
  new = λ i j v w is_v is_w same. let e = a.rests.is_log.new (from + (p - from + i)) (from + (p - from + j)) v w (there i v is_v) (there j w is_w) same in omega (arith, e);
  prepared = λ j w is takes.
      let at : slice_get n.coordinator.log (p + j) ≡ Some w = ap (slice_get n.coordinator.log) (let e : p + j ≡ from + (p - from + j) = omega (arith, low) in e) ∙ there j w is in
      means.in_doubt.above (p + j) w at (omega arith) ∙ ap (λ (b : Bool). cond b (Some (part shards s w)) None) takes;
}
  where
    p : ℕ
    p = (shard_state (n.shard s).known).learned

    means : ShardMeans shards s n.coordinator.log n.coordinator.horizon n.coordinator.horizon (shard_state (n.shard s).known)
    means = (a.listed s (n.shard s).known lt (inr (up, refl))).1

    there : (j : ℕ) (w : Entry) → slice_get (unlearned (shard_state (n.shard s).known) from writes) j ≡ Some w → slice_get n.coordinator.log (from + (p - from + j)) ≡ Some w
    there j w is = of_log n.coordinator.log writes from (p - from + j) w are (sym (slice_get_drop (p - from) writes j) ∙ is)
