-- What a session of a shared store answers to a request, of the list that its caller has then seen, and why it refuses one.
use Rattle.std.specs.Prelude.{◌≡◌, ◌<◌, ◌⊎◌, Bool, List, length, MatchResult, Result}
use Rattle.refusal.specs.declared.refusal.Refusal.{Refusal}
use Rattle.refusal.specs.declared.refusal.Refusal.TheVariants.{Collected, TooLarge}
use Rattle.tuples.specs.declared.entry.Entry.{Entry}
use Rattle.tuples.specs.declared.request.Request.{Request}
use Rattle.tuples.specs.declared.request.Request.TheVariants as requests
use Rattle.tuples.specs.Checking.{userset_of}
use Rattle.tuples.specs.Limits.{max_watched}
use Rattle.published.specs.Known.{Known}
use Rattle.commit_flow.specs.declared.end.WriteEnd.TheVariants.{Refused, Wrote}
use Rattle.answer_flow.specs.CheckViews.{checked, refused as check_refused}
use Rattle.answer_flow.specs.ReadViews.{refused as read_refused, rows_of, selected}
use Rattle.answer_flow.specs.WatchViews.{listed, refused as watch_refused}
use Rattle.json_lines.specs.declared.answer.Answer.{Answer}
use Rattle.json_lines.specs.declared.answer.Answer.TheVariants as answer
use Rattle.sides.specs.Sides.{IsLater}
use Rattle.locked.specs.Answering.{CheckEnds, CheckIsKept, CheckRefuses, IsJustOne, ReadEnds, ReadIsKept, ReadRefuses, WatchEnds, WatchIsKept, WatchRefuses}
use Rattle.locked.specs.Writing.{WriteEnds, WriteRefuses}

-- a session: what its caller knows, and which refusals nodes have told in its last request
pub record SessionValue : Type 0 where
  pub known : Known Entry
  pub told : List Bool

-- Given what its caller knew, and the session after the request
module _ (old : Known Entry) (new : SessionValue) where
  -- The write stands at its place, above all that had been seen; rows, membership and events are those of the place that is told, which is as fresh as asked,
  -- and not below the horizon.
  abbrev pub IsAnswerTo : Request → Answer → Type 0
  IsAnswerTo (requests.Write write) (answer.Written a) = WriteEnds write (length old.seen) new.known.seen (Wrote a.place)
  IsAnswerTo (requests.Read fresh sets) (answer.Rows a) =
      ReadEnds new.known.seen fresh (length old.seen) sets.items (selected a.place (rows_of a.sets.items)) × ReadIsKept old.horizon (selected a.place (rows_of a.sets.items))
  IsAnswerTo (requests.Check fresh tuple) (answer.Membership a) =
      CheckEnds new.known.seen fresh (length old.seen) (userset_of tuple) tuple.user (checked a.place a.is_member) × CheckIsKept old.horizon (checked a.place a.is_member)
  IsAnswerTo (requests.Watch from limit names) (answer.Events a) =
      WatchEnds from limit names.items (length old.seen) new.known.seen (listed a.heartbeat a.events.items) × WatchIsKept old.horizon (listed a.heartbeat a.events.items)
  IsAnswerTo request a = ⊥

  -- a node told it in this request; or memory was refused, the place is not there, or more is asked for than an answer may have
  abbrev pub IsRefusalTo : Request → Refusal → Type 0
  IsRefusalTo (requests.Write write) e = WriteRefuses old new.known new.told (Refused e)
  IsRefusalTo (requests.Read fresh sets) e =
      ReadRefuses new.told new.known.seen new.known.horizon fresh (length old.seen) (read_refused e) × (e ≡ Collected → IsJustOne fresh)
  IsRefusalTo (requests.Check fresh tuple) e =
      CheckRefuses new.told new.known.seen new.known.horizon fresh (length old.seen) (userset_of tuple) (check_refused e) × (e ≡ Collected → IsJustOne fresh)
  IsRefusalTo (requests.Watch from limit names) e =
      ((max_watched < limit) × (e ≡ TooLarge)) ⊎ WatchRefuses new.told new.known.seen new.known.horizon from (watch_refused e)

-- The caller knows what it knew. If the store's devices rested when it was opened, an answer is one to the request, of the list that the caller has then
-- seen, and a refusal has its reason.
pub record Answered (rests : Type 0) (old new : SessionValue) (request : Request) (result : Result Answer Refusal) : Type 0 where
  pub later : IsLater old.known new.known
  pub replies : rests → MatchResult result (IsAnswerTo old.known new request) (IsRefusalTo old.known new request)
