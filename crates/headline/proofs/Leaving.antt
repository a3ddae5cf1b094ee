-- After a turn the other slots are as before.
use Rattle.std.proofs.Common.{◌≡◌, ◌≢◌, ℕ, List, Option}
use Rattle.headline.proofs.Words.{Flow, What, flow_at}
use Rattle.calls.specs.declared.progress.Progress.{Progress}
use Rattle.calls.specs.declared.progress.Progress.TheVariants.{Next, Ended}
use Rattle.cluster.specs.Steps.{LeavesSlot}

pub others_after : (old : List (Option Flow)) (slot : ℕ) (after : Progress Flow (Option What)) (told : Option What) (new : List (Option Flow)) → LeavesSlot old slot after told new → (k : ℕ) → k ≢ slot → flow_at new k ≡ flow_at old k
others_after old slot (Next later) told new on = on.puts.others
others_after old slot (Ended end) told new gone = gone.0.others
