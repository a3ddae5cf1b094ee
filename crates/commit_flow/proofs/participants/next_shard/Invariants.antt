-- no shard below takes part
use Rattle.std.proofs.Common.{◌≡◌, ◌≤◌, ◌<◌, ℕ, true}
use Rattle.tuples.specs.Parts.{takes_part}
use Rattle.commit_flow.proofs.participants.next_shard.Given as goal

abbrev pub invariant-loop-shard : goal.invariant-loop-shard
invariant-loop-shard l = (t : ℕ) → l.from ≤ t → t < l.shard → takes_part l.fn.shards t l.intent.write ≡ true → ⊥
