-- How a care ends.
use Rattle.std.specs.Prelude.{Result, Ok, Err, List, Option, length, slice_get}
use Rattle.tuples.specs.declared.entry.WriteId.{WriteId}
use Rattle.refusal.specs.declared.refusal.Refusal.{Refusal}
use Rattle.decisions.specs.Flows as flows
use Rattle.decisions.specs.Flows.{aborted, committed, undecided}
use Rattle.care_flow.specs.declared.end.CareEnd.{CareEnd}
use Rattle.care_flow.specs.declared.end.CareEnd.TheVariants.{Done, Refused}
use Rattle.care_flow.specs.declared.end.Resolved.{Resolved}
use Rattle.care_flow.specs.declared.end.Resolved.TheVariants.{Committed, Aborted, Undecided}

-- by the answer to its last call
abbrev pub ended_by : Result (Unit {0}) Refusal → CareEnd
ended_by (Ok done) = Done
ended_by (Err e) = Refused e

-- what became of a write, as the laws say it
abbrev pub resolved_value : Resolved → flows.Resolved
resolved_value (Committed id place) = committed id place
resolved_value (Aborted id) = aborted id
resolved_value (Undecided id) = undecided id

-- the write that the finding is about
abbrev pub id_of : Resolved → WriteId
id_of (Committed id place) = id
id_of (Aborted id) = id
id_of (Undecided id) = id

-- the first write without a finding, if there is one
abbrev pub next_of : List WriteId → List Resolved → Option WriteId
next_of doubts found = slice_get doubts (length found)
