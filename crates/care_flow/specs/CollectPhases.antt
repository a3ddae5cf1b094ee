-- What is seen of the phases of a collection.
use Rattle.std.specs.Prelude.{Some, None}
use Rattle.decisions.specs.Values.{HeadsValue}
use Rattle.decisions.specs.Flows.{HeadsHeld, no_heads}
use Rattle.calls.specs.declared.progress.Progress.{Progress}
use Rattle.calls.specs.declared.progress.Progress.TheVariants.{Next, Ended}
use Rattle.care_flow.specs.declared.collecting.Ready.{Ready}
use Rattle.care_flow.specs.declared.collecting.Ready.TheVariants as readies
use Rattle.care_flow.specs.declared.collecting.Out.{Out}
use Rattle.care_flow.specs.declared.collecting.Out.TheVariants as outs
use Rattle.care_flow.specs.declared.end.CareEnd.{CareEnd}
use Rattle.care_flow.specs.Collecting.{CollectStep, CollectView, ask, collect, flush, flush_to_collect}
use Rattle.care_flow.specs.Views.{out, over, ready}

abbrev pub having : HeadsValue → HeadsHeld
having heads = record { heads = Some heads; batch = None }

-- the call that comes next, and what is held for it
abbrev pub step_ready : Ready → CollectStep
step_ready readies.Ask = ask
step_ready (readies.Collect heads again) = collect again
step_ready (readies.FlushToCollect heads) = flush_to_collect
step_ready readies.Flush = flush

abbrev pub held_ready : Ready → HeadsHeld
held_ready readies.Ask = no_heads
held_ready (readies.Collect heads again) = having heads
held_ready (readies.FlushToCollect heads) = having heads
held_ready readies.Flush = no_heads

abbrev pub view_ready : Ready → CollectView
view_ready r = ready (held_ready r) (step_ready r)

-- the call that is out, and what is held then
abbrev pub step_out : Out → CollectStep
step_out outs.Ask = ask
step_out (outs.Collect again) = collect again
step_out (outs.FlushToCollect heads) = flush_to_collect
step_out outs.Flush = flush

abbrev pub held_out : Out → HeadsHeld
held_out outs.Ask = no_heads
held_out (outs.Collect again) = no_heads
held_out (outs.FlushToCollect heads) = having heads
held_out outs.Flush = no_heads

abbrev pub view_out : Out → CollectView
view_out o = out (held_out o) (step_out o)

-- what a reply made of it
abbrev pub view_of : Progress Ready CareEnd → CollectView
view_of (Next r) = view_ready r
view_of (Ended end) = over no_heads end
