-- What is seen of the phases of a raise, and what each keeps.
use Rattle.std.specs.Prelude.{◌≡◌, ◌<◌, ℕ, true, false, Option, Some, None}
use Rattle.decisions.specs.Values.{BatchValue, HeadsValue}
use Rattle.decisions.specs.Flows.{RaiseHolds, nothing_raised}
use Rattle.names.specs.declared.call_name.CallName.{CallName}
use Rattle.names.specs.declared.call_name.CallName.TheVariants as names
use Rattle.calls.specs.declared.progress.Progress.{Progress}
use Rattle.calls.specs.declared.progress.Progress.TheVariants.{Next, Ended}
use Rattle.care_flow.specs.Gatherings.{GatheredValue, GatheringValue}
use Rattle.care_flow.specs.declared.raise_phase.Ready.{Ready}
use Rattle.care_flow.specs.declared.raise_phase.Ready.TheVariants as readies
use Rattle.care_flow.specs.declared.raise_phase.Out.{Out}
use Rattle.care_flow.specs.declared.raise_phase.Out.TheVariants as outs
use Rattle.care_flow.specs.declared.end.CareEnd.{CareEnd}
use Rattle.care_flow.specs.Raising.{RaiseStep, RaiseView, ask, catch_up, flush, flush_raised, flush_to_ask, flush_to_raise, raise, settle}
use Rattle.care_flow.specs.Views.{out, over, ready}

-- the heads, what the shards have settled so far, and decisions on their way
abbrev pub gathering : GatheringValue → Option BatchValue → RaiseHolds
gathering g batch = record { heads = Some g.heads; settled = g.settled; batch = batch; is_raised = false }

-- what all shards have settled
abbrev pub gathered : GatheredValue → RaiseHolds
gathered g = record { heads = Some g.heads; settled = g.settled; batch = None; is_raised = false }

-- the heads, while the coordinator raises the horizon, and after that
abbrev pub handed_in : HeadsValue → RaiseHolds
handed_in heads = record nothing_raised { heads = Some heads }

abbrev pub raised : HeadsValue → RaiseHolds
raised heads = record nothing_raised { heads = Some heads; is_raised = true }

-- the call that comes next, and what is held for it
abbrev pub step_ready : Ready → RaiseStep
step_ready readies.Ask = ask
step_ready readies.FlushToAsk = flush_to_ask
step_ready (readies.CatchUp g c) = catch_up g.next None
step_ready (readies.Flush g) = flush g.next
step_ready (readies.Settle g) = settle g.next
step_ready (readies.Raise g again) = raise again
step_ready (readies.FlushToRaise g) = flush_to_raise
step_ready (readies.FlushRaised heads) = flush_raised

abbrev pub held_ready : Ready → RaiseHolds
held_ready readies.Ask = nothing_raised
held_ready readies.FlushToAsk = nothing_raised
held_ready (readies.CatchUp g c) = gathering g c.batch
held_ready (readies.Flush g) = gathering g None
held_ready (readies.Settle g) = gathering g None
held_ready (readies.Raise g again) = gathered g
held_ready (readies.FlushToRaise g) = gathered g
held_ready (readies.FlushRaised heads) = raised heads

abbrev pub view_ready : Ready → RaiseView
view_ready r = ready (held_ready r) (step_ready r)

-- the call that is out, and what is held then
abbrev pub step_out : Out → RaiseStep
step_out outs.Ask = ask
step_out outs.FlushToAsk = flush_to_ask
step_out (outs.CatchUp g c) = catch_up g.next (Some c.awaited)
step_out (outs.Flush g) = flush g.next
step_out (outs.Settle g) = settle g.next
step_out (outs.Raise heads again) = raise again
step_out (outs.FlushToRaise g) = flush_to_raise
step_out (outs.FlushRaised heads) = flush_raised

abbrev pub held_out : Out → RaiseHolds
held_out outs.Ask = nothing_raised
held_out outs.FlushToAsk = nothing_raised
held_out (outs.CatchUp g c) = gathering g c.held.batch
held_out (outs.Flush g) = gathering g None
held_out (outs.Settle g) = gathering g None
held_out (outs.Raise heads again) = handed_in heads
held_out (outs.FlushToRaise g) = gathered g
held_out (outs.FlushRaised heads) = raised heads

abbrev pub view_out : Out → RaiseView
view_out o = out (held_out o) (step_out o)

-- what a reply made of it
abbrev pub view_of : Progress Ready CareEnd → RaiseView
view_of (Next r) = view_ready r
view_of (Ended end) = over nothing_raised end

-- the name of the next call
abbrev pub name_ready : Ready → CallName
name_ready readies.Ask = names.Heads
name_ready readies.FlushToAsk = names.Flush
name_ready (readies.CatchUp g c) = c.next
name_ready (readies.Flush g) = names.Flush
name_ready (readies.Settle g) = names.Settle
name_ready (readies.Raise g again) = names.Raise
name_ready (readies.FlushToRaise g) = names.Flush
name_ready (readies.FlushRaised heads) = names.Flush

-- it is this shard's turn, in a store of this many, for a raise to the place
pub record IsRoundOf (shards place : ℕ) (g : GatheringValue) : Type 0 where
  pub shards_are : g.shards ≡ shards
  pub place_is : g.place ≡ place
  pub there : g.next < shards

abbrev pub IsReadyOf : ℕ → ℕ → Ready → Type 0
IsReadyOf shards place readies.Ask = Unit {0}
IsReadyOf shards place readies.FlushToAsk = Unit {0}
IsReadyOf shards place (readies.CatchUp g c) = IsRoundOf shards place g × (c.shard ≡ g.next) × (c.to ≡ g.heads.kept)
IsReadyOf shards place (readies.Flush g) = IsRoundOf shards place g
IsReadyOf shards place (readies.Settle g) = IsRoundOf shards place g
IsReadyOf shards place (readies.Raise g again) = (g.shards ≡ shards) × (g.place ≡ place)
IsReadyOf shards place (readies.FlushToRaise g) = (g.shards ≡ shards) × (g.place ≡ place)
IsReadyOf shards place (readies.FlushRaised heads) = Unit {0}

abbrev pub IsOutOf : ℕ → ℕ → Out → Type 0
IsOutOf shards place outs.Ask = Unit {0}
IsOutOf shards place outs.FlushToAsk = Unit {0}
IsOutOf shards place (outs.CatchUp g c) = IsRoundOf shards place g × (c.held.shard ≡ g.next) × (c.held.to ≡ g.heads.kept)
IsOutOf shards place (outs.Flush g) = IsRoundOf shards place g
IsOutOf shards place (outs.Settle g) = IsRoundOf shards place g
IsOutOf shards place (outs.Raise heads again) = Unit {0}
IsOutOf shards place (outs.FlushToRaise g) = (g.shards ≡ shards) × (g.place ≡ place)
IsOutOf shards place (outs.FlushRaised heads) = Unit {0}
