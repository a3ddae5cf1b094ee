-- What a cancel makes of a flow.
use Rattle.std.specs.Prelude.{◌≡◌, true, Option, Some, None}
use Rattle.commit_flow.specs.Cancelling as writes
use Rattle.commit_flow.specs.Flows.{seen_of}
use Rattle.commit_flow.specs.Views.{view_ended}
use Rattle.commit_flow.specs.declared.end.WriteEnd.{WriteEnd}
use Rattle.cluster.specs.declared.flow.Flow.{Flow}
use Rattle.cluster.specs.declared.flow.Flow.TheVariants.{Write, Read, Check, Watch, Care}
use Rattle.cluster.specs.declared.flow.Writing.{Writing}

-- A write goes out by its flow, or on to its end if it is decided, and nothing more is reported of it. A cancel makes no call.
pub record CancelsWrite (old new : Writing) : Type 0 where
  pub marked : new.is_cancelled ≡ true
  pub shards : new.flow.shards ≡ old.flow.shards
  pub cancels : writes.Cancels (seen_of old.flow) (seen_of new.flow)

-- A cancelled write stays unless that ends it; every other flow is gone at once.
abbrev pub Cancels : Flow → Option Flow → Type 0
Cancels (Write old) (Some (Write new)) = CancelsWrite old new
Cancels (Write old) (Some new) = ⊥
Cancels (Write old) None = (end : WriteEnd) × writes.Cancels (seen_of old.flow) (view_ended end)
Cancels (Read old) new = new ≡ None
Cancels (Check old) new = new ≡ None
Cancels (Watch old) new = new ≡ None
Cancels (Care old) new = new ≡ None
