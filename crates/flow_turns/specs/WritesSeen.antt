-- A write flow as the store shows it, and what a turn of it tells.
use Rattle.std.specs.Prelude.{Bool, true, false, List, [], ◌∷◌, Option, Some, None}
use Rattle.tuples.specs.Writes.{WriteValue}
use Rattle.commit_flow.specs.Views.{WriteView}
use Rattle.commit_flow.specs.declared.end.WriteEnd.{WriteEnd}
use Rattle.commit_flow.specs.declared.end.WriteEnd.TheVariants.{Wrote, Refused, Cancelled}
use Rattle.stores.specs.Flows.{Asked, to_write, writing}
use Rattle.stores.specs.Replies.{wrote}
use Rattle.stores.specs.Stores.{FlowView}
use Rattle.turns.specs.Runs.{Told, answered, refuses}
use Rattle.turns.specs.SeamLaws.{told_unless}

-- what it is asked: its write, until a call takes it
abbrev pub asked_of : Option WriteValue → Option Asked
asked_of None = None
asked_of (Some w) = Some (to_write w.changes w.conditions)

-- it is shown so; whether it was cancelled is known beside the flow
abbrev pub shown : WriteView → Bool → FlowView
shown v is_cancelled = record { asked = asked_of v.write; holds = writing v.holds; is_cancelled = is_cancelled }

-- one that has ended has left its slot
abbrev pub shown_until : Option WriteEnd → WriteView → Bool → Option FlowView
shown_until None v is_cancelled = Some (shown v is_cancelled)
shown_until (Some end) v is_cancelled = None

-- A turn tells that the flow goes on, or how it ended; nothing if it was cancelled.
abbrev pub told_end : Bool → WriteEnd → List Told
told_end true end = []
told_end false (Wrote place) = answered (wrote place) ∷ []
told_end false (Refused e) = refuses e ∷ []
told_end false Cancelled = []

abbrev pub told_of : Bool → Option WriteEnd → List Told
told_of is_cancelled None = told_unless is_cancelled
told_of is_cancelled (Some end) = told_end is_cancelled end
