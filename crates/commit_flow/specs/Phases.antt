-- The values of phases.
use Rattle.std.specs.Prelude.{ℕ, List}
use Rattle.decisions.specs.Values.{IntentValue, VoteValue}

-- an intent with all votes for it
pub record BallotValue : Type 0 where
  pub shards : ℕ
  pub intent : IntentValue
  pub votes : List VoteValue
