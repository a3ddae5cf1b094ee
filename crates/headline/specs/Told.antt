-- The steps of a world and what they tell, as the laws of runs say them.
use Rattle.std.specs.Prelude.{List, [], ◌∷◌, map, Option, Some, None}
use Rattle.tuples.specs.Changes.{IsWrite}
use Rattle.tuples.specs.Checking.{userset_of}
use Rattle.answer_flow.specs.ReadViews.{rows_of}
use Rattle.care_flow.specs.Ends.{resolved_value}
use Rattle.names.specs.declared.care.Care.{Care}
use Rattle.names.specs.declared.care.Care.TheVariants as cares
use Rattle.stores.specs.Flows.{Asked, to_check, to_collect, to_flush, to_learn, to_raise, to_read, to_resolve, to_watch, to_write}
use Rattle.stores.specs.Replies as replies
use Rattle.turns.specs.Runs as runs
use Rattle.turns.specs.Runs.{Told, answered, began, came_up, goes_on, refuses}
use Rattle.flow_turns.specs.StoreCalls.{name_of}
use Rattle.cluster.specs.declared.event.Answer.{Answer}
use Rattle.cluster.specs.declared.event.Answer.TheVariants.{Checked, Done, Listed, Resolved, Selected, Wrote}
use Rattle.cluster.specs.declared.event.Event.{Event}
use Rattle.cluster.specs.declared.event.What.{What}
use Rattle.cluster.specs.declared.event.What.TheVariants.{Began, Ended, Next, Refused, Up}
use Rattle.tuples.specs.declared.request.Request.{Request}
use Rattle.tuples.specs.declared.request.Request.TheVariants as requests
use Rattle.cluster.specs.declared.step.Step.{Step}
use Rattle.cluster.specs.declared.step.Step.TheVariants.{Cancel, Care as care_for, Restart, Start, Turn}

-- what a request asks
abbrev pub asked_by : Request → Asked
asked_by (requests.Write write) = to_write write.changes write.conditions
asked_by (requests.Read fresh sets) = to_read fresh sets.items
asked_by (requests.Check fresh tuple) = to_check fresh (userset_of tuple) tuple.user
asked_by (requests.Watch cursor limit names) = to_watch cursor limit names.items

-- and what a care asks: a checkpoint is a flush of its node
abbrev pub asked_for : Care → Asked
asked_for (cares.Flush node) = to_flush (name_of node)
asked_for (cares.Checkpoint node) = to_flush (name_of node)
asked_for (cares.Learn s) = to_learn s
asked_for (cares.Resolve s) = to_resolve s
asked_for (cares.Raise place) = to_raise place
asked_for (cares.Collect s) = to_collect s

abbrev pub step_of : Step → runs.Step
step_of (Start request) = runs.start (asked_by request)
step_of (Turn slot) = runs.turn slot
step_of (Cancel slot) = runs.cancel slot
step_of (care_for care) = runs.start (asked_for care)
step_of (Restart name) = runs.restart (name_of name)

-- a write that a step asks for is whole, which its type keeps
abbrev pub IsWholeStep : Step → Type 0
IsWholeStep (Start (requests.Write write)) = IsWrite write.changes write.conditions
IsWholeStep step = Unit {0}

abbrev pub answer_of : Answer → replies.Answer
answer_of (Wrote place) = replies.wrote place
answer_of (Selected place sets) = replies.selected place (rows_of sets.items)
answer_of (Checked place is_member) = replies.checked place is_member
answer_of (Listed place all) = replies.listed place all.items
answer_of (Resolved found) = replies.resolved (map resolved_value found.items)
answer_of Done = replies.done

abbrev pub told_of : What → Told
told_of (Began slot) = began slot
told_of (Next name) = goes_on
told_of (Ended answer) = answered (answer_of answer)
told_of Up = came_up
told_of (Refused e) = refuses e

abbrev pub all_told : Option What → List Told
all_told None = []
all_told (Some what) = told_of what ∷ []

abbrev pub event_of : Event → runs.Event
event_of e = record { step = e.step; told = told_of e.what }
