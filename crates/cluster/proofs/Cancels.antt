-- A flow that stays after a cancel is one of the same store.
use Rattle.std.proofs.Common.{◌≡◌, ◌∙◌, ℕ, Some, None}
use Rattle.cluster.specs.declared.flow.Flow.{Flow}
use Rattle.cluster.specs.declared.flow.Flow.TheVariants.{Write, Read, Check, Watch, Care}
use Rattle.cluster.specs.Cancels.{Cancels}
use Rattle.cluster.specs.Flows.{IsOf}

none_later : (later : Flow) → Some later ≡ None → ⊥
none_later later is = cc

pub still_of : (shards : ℕ) (flow later : Flow) → Cancels flow (Some later) → IsOf shards flow → IsOf shards later
still_of shards (Write old) (Write new) c of = c.shards ∙ of
still_of shards (Write old) later c of = absurd c
still_of shards (Read old) later c of = absurd (none_later later c)
still_of shards (Check old) later c of = absurd (none_later later c)
still_of shards (Watch old) later c of = absurd (none_later later c)
still_of shards (Care old) later c of = absurd (none_later later c)
