-- What is reported of a flow that has ended.
use Rattle.std.specs.Prelude.{◌≡◌, Option, Some, None}
use Rattle.commit_flow.specs.declared.end.WriteEnd.{WriteEnd}
use Rattle.commit_flow.specs.declared.end.WriteEnd.TheVariants as write_ends
use Rattle.answer_flow.specs.ReadViews.{ReadEnding, rows_of, selected}
use Rattle.answer_flow.specs.ReadViews as read_views
use Rattle.answer_flow.specs.CheckViews.{CheckEnding, checked}
use Rattle.answer_flow.specs.CheckViews as check_views
use Rattle.answer_flow.specs.WatchViews.{WatchEnding, listed}
use Rattle.answer_flow.specs.WatchViews as watch_views
use Rattle.care_flow.specs.declared.end.CareEnd.{CareEnd}
use Rattle.care_flow.specs.declared.end.CareEnd.TheVariants as care_ends
use Rattle.cluster.specs.declared.event.Answer.TheVariants as answers
use Rattle.cluster.specs.declared.event.What.{What}
use Rattle.cluster.specs.declared.event.What.TheVariants.{Ended, Refused}

-- a write has a place, or was refused; nothing is reported of one that was cancelled
abbrev pub TellsWrite : WriteEnd → Option What → Type 0
TellsWrite (write_ends.Wrote place) told = told ≡ Some (Ended (answers.Wrote place))
TellsWrite (write_ends.Refused e) told = told ≡ Some (Refused e)
TellsWrite write_ends.Cancelled told = told ≡ None

-- a read has its place, and the rows of each tupleset; or was refused
abbrev pub TellsRead : ReadEnding → Option What → Type 0
TellsRead (selected place rows) (Some (Ended (answers.Selected at sets))) = (at ≡ place) × (rows_of sets.items ≡ rows)
TellsRead (read_views.refused e) told = told ≡ Some (Refused e)
TellsRead end told = ⊥

-- a check has its place, and whether the user is a member; or was refused
abbrev pub TellsCheck : CheckEnding → Option What → Type 0
TellsCheck (checked place is_member) told = told ≡ Some (Ended (answers.Checked place is_member))
TellsCheck (check_views.refused e) told = told ≡ Some (Refused e)

-- a watch has the place of its heartbeat, and the changes up to it; or was refused
abbrev pub TellsWatch : WatchEnding → Option What → Type 0
TellsWatch (listed place events) (Some (Ended (answers.Listed at all))) = (at ≡ place) × (all.items ≡ events)
TellsWatch (watch_views.refused e) told = told ≡ Some (Refused e)
TellsWatch end told = ⊥

-- a care is done, or reports what became of each write; or was refused
abbrev pub TellsCare : CareEnd → Option What → Type 0
TellsCare care_ends.Done told = told ≡ Some (Ended answers.Done)
TellsCare (care_ends.Resolved found) told = told ≡ Some (Ended (answers.Resolved found))
TellsCare (care_ends.Refused e) told = told ≡ Some (Refused e)
