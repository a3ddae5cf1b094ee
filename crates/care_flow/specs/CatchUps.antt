-- A care that brings a shard up to a place: its calls are those of the catch-up.
use Rattle.std.specs.Prelude.{ℕ, Bool, false, Option, None}
use Rattle.decisions.specs.Values.{BatchValue}
use Rattle.catch_up.specs.Held.{Awaited, CatchUpCallValue, CatchUpValue}
use Rattle.catch_up.specs.CatchingUp as catching
use Rattle.catch_up.specs.declared.caught.Progress.{Progress}
use Rattle.calls.specs.Names.{name_of}
use Rattle.calls.specs.declared.call.NodeCall.{NodeCall}
use Rattle.names.specs.declared.call_name.CallName.TheVariants.{Learned}
use Rattle.calls.specs.declared.reply.Reply.{Reply}

-- a shard on its way to a place, with these decisions; which of its calls comes next, and what it carries, is said only if that matters
abbrev pub on_its_way : ℕ → ℕ → Option BatchValue → CatchUpValue
on_its_way shard to batch = record { shard = shard; to = to; batch = batch; next = Learned; from = None; flushed = false }

-- the call is one of the catch-up, whichever comes next; so is what is held while it is out, and which call it is
abbrev pub AsksToCatchUp : CatchUpValue → NodeCall → (Option BatchValue → Awaited → Type 0) → Type 0
AsksToCatchUp v call P = (then : CatchUpCallValue)
    × ((from : Option ℕ) × (flushed : Bool) × catching.Asks (record v { next = name_of call; from = from; flushed = flushed }) call then) × P then.held.batch then.awaited

-- the reply belongs to the catch-up, and makes this progress of it
abbrev pub CatchUpGives : CatchUpValue → Awaited → Reply → (Progress → Type 0) → Type 0
CatchUpGives v awaited reply P = (progress : Progress) × catching.Gives (record { held = v; awaited = awaited }) reply progress × P progress
