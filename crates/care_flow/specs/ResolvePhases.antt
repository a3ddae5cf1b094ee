-- What is seen of the phases of a resolution, and what each keeps.
use Rattle.std.specs.Prelude.{◌≡◌, ℕ, map, [], Option, Some, None, Result, Ok, Err}
use Rattle.tuples.specs.declared.entry.WriteId.{WriteId}
use Rattle.refusal.specs.declared.refusal.Refusal.{Refusal}
use Rattle.decisions.specs.Values.{BatchValue}
use Rattle.decisions.specs.Flows.{ResolveHolds}
use Rattle.names.specs.declared.call_name.CallName.{CallName}
use Rattle.names.specs.declared.call_name.CallName.TheVariants as names
use Rattle.calls.specs.declared.progress.Progress.{Progress}
use Rattle.calls.specs.declared.progress.Progress.TheVariants.{Next, Ended}
use Rattle.care_flow.specs.declared.end.CareEnd.{CareEnd}
use Rattle.care_flow.specs.declared.end.CareEnd.TheVariants.{Refused, Resolved as all_resolved}
use Rattle.care_flow.specs.declared.findings.Findings.{Findings}
use Rattle.care_flow.specs.declared.resolving.Ready.{Ready}
use Rattle.care_flow.specs.declared.resolving.Ready.TheVariants as readies
use Rattle.care_flow.specs.declared.resolving.Out.{Out}
use Rattle.care_flow.specs.declared.resolving.Out.TheVariants as outs
use Rattle.care_flow.specs.Ends.{next_of, resolved_value}
use Rattle.care_flow.specs.Resolving.{HasCommitted, ResolveStep, ResolveView, catch_up, drop_write, in_doubt, inquire}
use Rattle.care_flow.specs.Views.{out, over, ready}

-- what was found, with a verdict and decisions on their way
abbrev pub holding : Findings → Option WriteId → Option BatchValue → ResolveHolds
holding f verdict batch = record { found = map resolved_value f.found.items; verdict = verdict; batch = batch }

-- the call that comes next, and what is held for it
abbrev pub step_ready : Ready → ResolveStep
step_ready readies.AskDoubts = in_doubt
step_ready (readies.Inquire id) = inquire id
step_ready (readies.CatchUp c) = catch_up c.to None
step_ready (readies.Drop verdict) = drop_write

abbrev pub held_ready : Findings → Ready → ResolveHolds
held_ready f readies.AskDoubts = holding f None None
held_ready f (readies.Inquire id) = holding f None None
held_ready f (readies.CatchUp c) = holding f None c.batch
held_ready f (readies.Drop verdict) = holding f (Some verdict.id) None

abbrev pub view_ready : Findings → Ready → ResolveView
view_ready f r = ready (held_ready f r) (step_ready r)

-- the call that is out, and what is held then
abbrev pub step_out : Out → ResolveStep
step_out outs.AskDoubts = in_doubt
step_out (outs.Inquire id) = inquire id
step_out (outs.CatchUp c) = catch_up c.held.to (Some c.awaited)
step_out outs.Drop = drop_write

abbrev pub held_out : Findings → Out → ResolveHolds
held_out f outs.AskDoubts = holding f None None
held_out f (outs.Inquire id) = holding f None None
held_out f (outs.CatchUp c) = holding f None c.held.batch
held_out f outs.Drop = holding f None None

abbrev pub view_out : Findings → Out → ResolveView
view_out f o = out (held_out f o) (step_out o)

-- with all that was found, or with a refusal
abbrev pub end_of : Findings → Result (Unit {0}) Refusal → CareEnd
end_of f (Ok done) = all_resolved f.found
end_of f (Err e) = Refused e

-- what a reply made of it
abbrev pub view_of : Findings → Progress Ready (Result (Unit {0}) Refusal) → ResolveView
view_of f (Next r) = view_ready f r
view_of f (Ended end) = over (holding f None None) (end_of f end)

-- the name of the next call
abbrev pub name_ready : Ready → CallName
name_ready readies.AskDoubts = names.InDoubt
name_ready (readies.Inquire id) = names.Inquire
name_ready (readies.CatchUp c) = c.next
name_ready (readies.Drop verdict) = names.DropWrite

-- the coordinator is asked for the next write; the shard that is caught up is the flow's, and goes to the place of a write that
-- was found to be decided; and it is done if no write comes next
abbrev pub IsReadyOf : ℕ → Findings → Ready → Type 0
IsReadyOf s f readies.AskDoubts = f.found.items ≡ []
IsReadyOf s f (readies.Inquire id) = next_of f.doubts.items f.found.items ≡ Some id
IsReadyOf s f (readies.CatchUp c) = (c.shard ≡ s) × HasCommitted (map resolved_value f.found.items) c.to
IsReadyOf s f (readies.Drop verdict) = Unit {0}

abbrev pub IsOutOf : ℕ → Findings → Out → Type 0
IsOutOf s f outs.AskDoubts = f.found.items ≡ []
IsOutOf s f (outs.Inquire id) = next_of f.doubts.items f.found.items ≡ Some id
IsOutOf s f (outs.CatchUp c) = (c.held.shard ≡ s) × HasCommitted (map resolved_value f.found.items) c.held.to
IsOutOf s f outs.Drop = Unit {0}

abbrev pub IsLeftOf : ℕ → Findings → Progress Ready (Result (Unit {0}) Refusal) → Type 0
IsLeftOf s f (Next r) = IsReadyOf s f r
IsLeftOf s f (Ended (Ok done)) = next_of f.doubts.items f.found.items ≡ None
IsLeftOf s f (Ended (Err e)) = Unit {0}
