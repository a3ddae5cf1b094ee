-- The texts of answers: compact JSON with the keys in byte order.
use Rattle.std.specs.Prelude.{ℕ, List, codes, map}
use Rattle.serde_json.specs.Data.{Data, unsigned, number, string, boolean, array, object, member, no_members}
use Rattle.serde_json.specs.View.{items_of}
use Rattle.serde_json.specs.Written.{compact_text}
use Rattle.std.specs.declared.alloc.Global.{Global}
use Rattle.std.specs.declared.vec.Vec.{Vec}
use Rattle.refusal.specs.declared.refusal.Refusal.{Refusal}
use Rattle.refusal.specs.Refusals.{name_of, number_of}
use Rattle.tuples.specs.declared.change.Change.{Change}
use Rattle.tuples.specs.declared.change.Change.TheVariants.{Touch, Delete}
use Rattle.tuples.specs.declared.tuple.Tuple.{Tuple}
use Rattle.tuples.specs.declared.version.Version.{Version}
use Rattle.tuples.specs.Changes.{tuple_of}
use Rattle.tuples.specs.Texts.{tuple_text}
use Rattle.zookie.specs.Zookies.{zookie_text}
use Rattle.json_lines.specs.declared.answer.Answer.{Answer}
use Rattle.json_lines.specs.declared.answer.Answer.TheVariants as answer
use Rattle.json_lines.specs.declared.answer.Written.{Written}
use Rattle.json_lines.specs.declared.answer.Rows.{Rows}
use Rattle.json_lines.specs.declared.answer.Membership.{Membership}
use Rattle.json_lines.specs.declared.answer.Events.{Events}

-- {"error":N,"name":"Name"}
abbrev pub refusal_json : Refusal → Data
refusal_json refusal = object (member (codes "error") (number (unsigned (number_of refusal))) (member (codes "name") (string (name_of refusal)) no_members))

abbrev pub refusal_line : Refusal → List ℕ
refusal_line refusal = compact_text (refusal_json refusal)

abbrev pub zookie_json : ℕ → ℕ → Data
zookie_json store place = string (zookie_text store place)

abbrev pub tuple_json : Tuple → Data
tuple_json tuple = string (tuple_text tuple)

-- the tuples of one tupleset
abbrev pub tuples_json : List Tuple → Data
tuples_json tuples = array (items_of (map tuple_json tuples))

abbrev pub set_json : Vec Tuple Global → Data
set_json tuples = tuples_json tuples.items

abbrev pub sets_json : List (Vec Tuple Global) → Data
sets_json sets = array (items_of (map set_json sets))

abbrev pub change_name : Change → List ℕ
change_name (Touch tuple) = codes "touch"
change_name (Delete tuple) = codes "delete"

-- {"change":"touch","place":N,"tuple":T}
abbrev pub event_json : Version → Data
event_json event = object (member (codes "change") (string (change_name event.change)) (member (codes "place") (number (unsigned event.place)) (member (codes "tuple") (tuple_json (tuple_of event.change)) no_members)))

abbrev pub events_json : List Version → Data
events_json events = array (items_of (map event_json events))

-- {"zookie":Z}; places are written as the zookies of this store
abbrev pub written_json : ℕ → Written → Data
written_json store w = object (member (codes "zookie") (zookie_json store w.place) no_members)

-- {"sets":[[T,..],..],"zookie":Z}
abbrev pub rows_json : ℕ → Rows → Data
rows_json store r = object (member (codes "sets") (sets_json r.sets.items) (member (codes "zookie") (zookie_json store r.place) no_members))

-- {"member":true,"zookie":Z}
abbrev pub membership_json : ℕ → Membership → Data
membership_json store m = object (member (codes "member") (boolean m.is_member) (member (codes "zookie") (zookie_json store m.place) no_members))

-- {"events":[..],"heartbeat":Z}
abbrev pub watched_json : ℕ → Events → Data
watched_json store e = object (member (codes "events") (events_json e.events.items) (member (codes "heartbeat") (zookie_json store e.heartbeat) no_members))

abbrev pub answer_json : ℕ → Answer → Data
answer_json store (answer.Written w) = written_json store w
answer_json store (answer.Rows r) = rows_json store r
answer_json store (answer.Membership m) = membership_json store m
answer_json store (answer.Events e) = watched_json store e

abbrev pub answer_line : ℕ → Answer → List ℕ
answer_line store answer = compact_text (answer_json store answer)
