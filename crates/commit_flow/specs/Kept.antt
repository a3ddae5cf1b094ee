-- What a flow of a store of this many shards keeps in each phase, beside what its values keep themselves.
use Rattle.std.specs.Prelude.{◌≡◌, ℕ, []}
use Rattle.std.specs.Vec.{vec_len}
use Rattle.commit_flow.specs.declared.load.Load.{Load}
use Rattle.commit_flow.specs.declared.phase.Ready.{Ready}
use Rattle.commit_flow.specs.declared.phase.Ready.TheVariants as ready
use Rattle.commit_flow.specs.declared.phase.Out.{Out}
use Rattle.commit_flow.specs.declared.phase.Out.TheVariants as out

-- of a store of this many shards, and with nothing in it
abbrev pub IsFresh : ℕ → Load → Type 0
IsFresh n load = (load.shards ≡ n) × (load.tickets.items ≡ []) × (load.votes.items ≡ []) × (vec_len load.tickets ≡ 0) × (vec_len load.votes ≡ 0)

-- of a store of this many shards
abbrev pub IsReadyOf : ℕ → Ready → Type 0
IsReadyOf n (ready.Begin write load) = IsFresh n load
IsReadyOf n (ready.CatchUp p c) = (p.load.shards ≡ n) × (c.shard ≡ p.shard) × (c.to ≡ p.intent.kept)
IsReadyOf n (ready.Prepare p again) = p.load.shards ≡ n
IsReadyOf n (ready.FlushToPrepare p) = p.load.shards ≡ n
IsReadyOf n (ready.Vote v t) = (v.load.shards ≡ n) × (t.id ≡ v.intent.write.id)
IsReadyOf n (ready.FlushToVote v t) = (v.load.shards ≡ n) × (t.id ≡ v.intent.write.id)
IsReadyOf n (ready.Decide b again) = b.shards ≡ n
IsReadyOf n (ready.FlushToDecide b) = b.shards ≡ n
IsReadyOf n r = Unit {0}

abbrev pub IsOutOf : ℕ → Out → Type 0
IsOutOf n (out.Begin load) = IsFresh n load
IsOutOf n (out.CatchUp p c) = (p.load.shards ≡ n) × (c.held.shard ≡ p.shard) × (c.held.to ≡ p.intent.kept)
IsOutOf n (out.Prepare p again) = p.load.shards ≡ n
IsOutOf n (out.FlushToPrepare p) = p.load.shards ≡ n
IsOutOf n (out.Vote v) = v.load.shards ≡ n
IsOutOf n (out.FlushToVote v t) = (v.load.shards ≡ n) × (t.id ≡ v.intent.write.id)
IsOutOf n (out.FlushToDecide b) = b.shards ≡ n
IsOutOf n o = Unit {0}
