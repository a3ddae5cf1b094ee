-- What is seen of the phases of a learning, and what each keeps.
use Rattle.std.specs.Prelude.{◌≡◌, ℕ, Some, None}
use Rattle.decisions.specs.Flows.{HeadsHeld, no_heads}
use Rattle.names.specs.declared.call_name.CallName.{CallName}
use Rattle.names.specs.declared.call_name.CallName.TheVariants as names
use Rattle.calls.specs.declared.progress.Progress.{Progress}
use Rattle.calls.specs.declared.progress.Progress.TheVariants.{Next, Ended}
use Rattle.care_flow.specs.declared.learning.Ready.{Ready}
use Rattle.care_flow.specs.declared.learning.Ready.TheVariants as readies
use Rattle.care_flow.specs.declared.learning.Out.{Out}
use Rattle.care_flow.specs.declared.learning.Out.TheVariants as outs
use Rattle.care_flow.specs.declared.end.CareEnd.{CareEnd}
use Rattle.care_flow.specs.Learning.{LearnStep, LearnView, ask, catch_up}
use Rattle.care_flow.specs.Views.{out, over, ready}

-- the call that comes next, and what is held for it
abbrev pub step_ready : Ready → LearnStep
step_ready readies.Ask = ask
step_ready (readies.CatchUp heads c) = catch_up None

abbrev pub held_ready : Ready → HeadsHeld
held_ready readies.Ask = no_heads
held_ready (readies.CatchUp heads c) = record { heads = Some heads; batch = c.batch }

abbrev pub view_ready : Ready → LearnView
view_ready r = ready (held_ready r) (step_ready r)

-- the call that is out, and what is held then
abbrev pub step_out : Out → LearnStep
step_out outs.Ask = ask
step_out (outs.CatchUp heads c) = catch_up (Some c.awaited)

abbrev pub held_out : Out → HeadsHeld
held_out outs.Ask = no_heads
held_out (outs.CatchUp heads c) = record { heads = Some heads; batch = c.held.batch }

abbrev pub view_out : Out → LearnView
view_out o = out (held_out o) (step_out o)

-- what a reply made of it
abbrev pub view_of : Progress Ready CareEnd → LearnView
view_of (Next r) = view_ready r
view_of (Ended end) = over no_heads end

-- the name of the next call
abbrev pub name_ready : Ready → CallName
name_ready readies.Ask = names.Heads
name_ready (readies.CatchUp heads c) = c.next

-- the shard is on its way to the kept place of the heads
abbrev pub IsReadyOf : ℕ → Ready → Type 0
IsReadyOf s readies.Ask = Unit {0}
IsReadyOf s (readies.CatchUp heads c) = (c.shard ≡ s) × (c.to ≡ heads.kept)

abbrev pub IsOutOf : ℕ → Out → Type 0
IsOutOf s outs.Ask = Unit {0}
IsOutOf s (outs.CatchUp heads c) = (c.held.shard ≡ s) × (c.held.to ≡ heads.kept)
