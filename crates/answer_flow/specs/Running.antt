-- Reads, checks and watches as they run: the call that each asks for, the reply that it waits for, and what that makes of it.
use Rattle.std.specs.Prelude.{◌≡◌}
use Rattle.calls.specs.Names.{name_of}
use Rattle.calls.specs.declared.call.NodeCall.{NodeCall}
use Rattle.calls.specs.declared.progress.Progress.{Progress}
use Rattle.calls.specs.declared.reply.Reply.{Reply}
use Rattle.answer_flow.specs.Reading as reads
use Rattle.answer_flow.specs.ReadViews as read_views
use Rattle.answer_flow.specs.ReadViews.{ReadCallValue, ReadFlowValue}
use Rattle.answer_flow.specs.Checking as checks
use Rattle.answer_flow.specs.CheckViews as check_views
use Rattle.answer_flow.specs.CheckViews.{CheckCallValue, CheckFlowValue}
use Rattle.answer_flow.specs.Watching as watches
use Rattle.answer_flow.specs.WatchViews as watch_views
use Rattle.answer_flow.specs.WatchViews.{WatchCallValue, WatchFlowValue}
use Rattle.answer_flow.specs.declared.check_phase.CheckDone.{CheckDone}
use Rattle.answer_flow.specs.declared.read_phase.ReadDone.{ReadDone}
use Rattle.answer_flow.specs.declared.watch_phase.WatchEnd.{WatchEnd}

-- Which call each makes, the one that is told as its next, and what it is while that is out.
abbrev pub AsksRead : ReadFlowValue → NodeCall → ReadCallValue → Type 0
AsksRead v call out = (name_of call ≡ v.next_name) × (out ≡ record { shards = v.shards; fresh = v.fresh; sets = v.sets; step = out.step; awaited = out.awaited; holds = out.holds })
    × reads.Asks v.shards v.sets (read_views.seen_of v) call (read_views.seen_out out)

abbrev pub AsksCheck : CheckFlowValue → NodeCall → CheckCallValue → Type 0
AsksCheck v call out = (name_of call ≡ v.next_name) × (out ≡ record { shards = v.shards; fresh = v.fresh; user = v.user; step = out.step; awaited = out.awaited; holds = out.holds })
    × checks.Asks v.shards v.user (check_views.seen_of v) call (check_views.seen_out out)

abbrev pub AsksWatch : WatchFlowValue → NodeCall → WatchCallValue → Type 0
AsksWatch v call out = (name_of call ≡ watch_views.name_of v.next) × (out ≡ record { cursor = v.cursor; limit = v.limit; namespaces = v.namespaces; awaited = out.awaited; holds = out.holds })
    × watches.Asks v.cursor v.limit (watch_views.seen_of v) call (watch_views.seen_out out)

-- this may be the reply to the call that is out
abbrev pub AwaitsRead : ReadCallValue → Reply → Type 0
AwaitsRead out reply = reads.Fits out.sets (read_views.seen_out out) out.awaited reply

abbrev pub AwaitsCheck : CheckCallValue → Reply → Type 0
AwaitsCheck out reply = checks.Fits out.awaited reply

abbrev pub AwaitsWatch : WatchCallValue → Reply → Type 0
AwaitsWatch out reply = watches.Fits out.awaited reply

-- What the reply to the call that is out makes of each.
abbrev pub GivesRead : ReadCallValue → Reply → Progress ReadFlowValue ReadDone → Type 0
GivesRead out reply after = read_views.IsAsked out.shards out.fresh out.sets after × reads.GivesTo out.shards out.fresh out.sets (read_views.seen_out out) out.awaited reply (read_views.seen_after after)

abbrev pub GivesCheck : CheckCallValue → Reply → Progress CheckFlowValue CheckDone → Type 0
GivesCheck out reply after = check_views.IsAsked out.shards out.fresh out.user after × checks.GivesTo out.fresh out.user (check_views.seen_out out) out.awaited reply (check_views.seen_after after)

abbrev pub GivesWatch : WatchCallValue → Reply → Progress WatchFlowValue WatchEnd → Type 0
GivesWatch out reply after = watch_views.IsAsked out.cursor out.limit out.namespaces after × watches.GivesTo out.cursor out.limit out.namespaces (watch_views.seen_out out) out.awaited reply (watch_views.seen_after after)
