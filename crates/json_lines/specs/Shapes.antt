-- The JSON of each request, whose texts may be of no tuple and of no token. The members of an object come in the order of their keys.
use Rattle.std.specs.Prelude.{◌≡◌, ◌≤◌, ◌⊎◌, ℕ, List, [], ◌∷◌, ◌++◌, length, map, codes, Option, Some, None, option_map, Result, Ok, Err, String, string_bytes}
use Rattle.std.specs.Borrow.{Bor}
use Rattle.tuples.specs.Limits.{max_watched}
use Rattle.serde_json.specs.Data.{Data, unsigned, number, string, array, object, Members, no_members, member}
use Rattle.std.specs.declared.alloc.Global.{Global}
use Rattle.serde_json.specs.View.{items_of, view}
use Rattle.serde_json.specs.declared.value.Value.{Value}
use Rattle.refusal.specs.declared.refusal.Refusal.{Refusal}
use Rattle.refusal.specs.declared.refusal.Refusal.TheVariants.{BadRequest, NoMemory}
use Rattle.json_lines.specs.declared.member.Member.{Member}
use Rattle.json_lines.specs.declared.shape.ChangeShape.{ChangeShape}
use Rattle.json_lines.specs.declared.shape.ChangeShape.TheVariants.{Touch, Delete}
use Rattle.json_lines.specs.declared.shape.ConditionShape.{ConditionShape}
use Rattle.json_lines.specs.declared.shape.WantShape.{WantShape}
use Rattle.json_lines.specs.declared.shape.WantShape.TheVariants.{Since, Exists, Absent}
use Rattle.json_lines.specs.declared.shape.FreshnessShape.{FreshnessShape}
use Rattle.json_lines.specs.declared.shape.FreshnessShape.TheVariants.{Latest, AtLeast, Exact}
use Rattle.json_lines.specs.declared.shape.Shape.{Shape}
use Rattle.json_lines.specs.declared.shape.Shape.TheVariants.{Write, Read, Check, Watch}

-- a key and its value
abbrev pub Field : Type 0
Field = List ℕ × Data

abbrev pub members_with : List Field → Members
members_with [] = no_members
members_with (f ∷ fs) = member f.0 f.1 (members_with fs)

abbrev pub object_with : List Field → Data
object_with fs = object (members_with fs)

abbrev pub list_with : List Data → Data
list_with ds = array (items_of ds)

abbrev pub fields_of : List Member → List Field
fields_of = map (λ (m : Member). (m.key.now, view m.value.now))

-- a list of texts
abbrev pub texts_json : List (List ℕ) → Data
texts_json texts = list_with (map string texts)

-- {"op":"touch","tuple":T}
abbrev pub change_with : List ℕ → List ℕ → Data
change_with op tuple = object_with ((codes "op", string op) ∷ (codes "tuple", string tuple) ∷ [])

abbrev pub change_json : ChangeShape → Data
change_json (Touch t) = change_with (codes "touch") t.now
change_json (Delete t) = change_with (codes "delete") t.now

-- {"since":Z,"tuple":T}
abbrev pub since_with : List ℕ → List ℕ → Data
since_with zookie tuple = object_with ((codes "since", string zookie) ∷ (codes "tuple", string tuple) ∷ [])

-- {"tuple":T,"want":"exists"}
abbrev pub want_with : List ℕ → List ℕ → Data
want_with want tuple = object_with ((codes "tuple", string tuple) ∷ (codes "want", string want) ∷ [])

abbrev pub wanted_json : WantShape → List ℕ → Data
wanted_json (Since z) tuple = since_with z.now tuple
wanted_json Exists tuple = want_with (codes "exists") tuple
wanted_json Absent tuple = want_with (codes "absent") tuple

abbrev pub condition_json : ConditionShape → Data
condition_json c = wanted_json c.want c.tuple.now

-- {"changes":[..],"op":"write"}, with "conditions":[..] if there are any; an empty list of them may be left out
abbrev pub write_with : List Data → Option (List Data) → List Field
write_with changes None = (codes "changes", list_with changes) ∷ (codes "op", string (codes "write")) ∷ []
write_with changes (Some conditions) = (codes "changes", list_with changes) ∷ (codes "conditions", list_with conditions) ∷ (codes "op", string (codes "write")) ∷ []

-- the member that names the freshness; none for the latest
abbrev pub freshness_fields : FreshnessShape → List Field
freshness_fields Latest = []
freshness_fields (AtLeast z) = (codes "at_least", string z.now) ∷ []
freshness_fields (Exact z) = (codes "exact", string z.now) ∷ []

-- a question of this freshness
abbrev pub question_with : List Field → List ℕ → Field → List Field
question_with freshness op asked = freshness ++ (codes "op", string op) ∷ asked ∷ []

-- what a read and a check ask for
abbrev pub asks_sets : List (List ℕ) → Field
asks_sets sets = (codes "sets", texts_json sets)

abbrev pub asks_tuple : List ℕ → Field
asks_tuple tuple = (codes "tuple", string tuple)

-- the members of a watch after its limit, and after its cursor
abbrev pub watch_end : Data → List Field
watch_end namespaces = (codes "namespaces", namespaces) ∷ (codes "op", string (codes "watch")) ∷ []

abbrev pub watch_rest : ℕ → Data → List Field
watch_rest limit namespaces = (codes "limit", number (unsigned limit)) ∷ watch_end namespaces

-- {"from":Z,"limit":N,"namespaces":[..],"op":"watch"}
abbrev pub watch_with : List ℕ → ℕ → Data → List Field
watch_with from limit namespaces = (codes "from", string from) ∷ watch_rest limit namespaces

-- a request with its lists as lists
pub data Form : Type 0 where
  Writes : List ChangeShape → Option (List ConditionShape) → Form
  Reads : FreshnessShape → List (Bor (List ℕ)) → Form
  Checks : FreshnessShape → Bor (List ℕ) → Form
  Watches : Bor (List ℕ) → ℕ → List (Bor (List ℕ)) → Form

abbrev pub form_of : Shape → Form
form_of (Write changes conditions) = Writes changes.items (option_map (λ v. v.items) conditions)
form_of (Read freshness sets) = Reads freshness sets.items
form_of (Check freshness tuple) = Checks freshness tuple
form_of (Watch from limit namespaces) = Watches from limit namespaces.items

-- the members of a whole request
abbrev pub form_fields : Form → List Field
form_fields (Writes changes conditions) = write_with (map change_json changes) (option_map (λ cs. map condition_json cs) conditions)
form_fields (Reads freshness sets) = question_with (freshness_fields freshness) (codes "read") (asks_sets (map (λ t. t.now) sets))
form_fields (Checks freshness tuple) = question_with (freshness_fields freshness) (codes "check") (asks_tuple tuple.now)
form_fields (Watches from limit namespaces) = watch_with from.now limit (texts_json (map (λ t. t.now) namespaces))

-- no list of changes, tuplesets or namespaces is empty, and a limit is from 1 to 256
abbrev pub IsFormed : Form → Type 0
IsFormed (Writes changes conditions) = 1 ≤ length changes
IsFormed (Reads freshness sets) = 1 ≤ length sets
IsFormed (Checks freshness tuple) = Unit {0}
IsFormed (Watches from limit namespaces) = (1 ≤ limit) × (limit ≤ max_watched) × (1 ≤ length namespaces)

-- the members as a map has them
abbrev pub entry_fields : List (String Global × Value) → List Field
entry_fields = map (λ e. (string_bytes e.0, view e.1))

-- why a value is not read: it is not in such a shape, or there is no memory
abbrev pub IsMisshapen : {A : Type 0} → (A → Type 0) → Refusal → Type 0
IsMisshapen {A} IsRead e = ((e ≡ BadRequest) × ((a : A) → IsRead a → ⊥)) ⊎ (e ≡ NoMemory)

-- the members are those of the request
abbrev pub HasForm : List Field → Form → Type 0
HasForm fields form = (fields ≡ form_fields form) × IsFormed form

abbrev pub ReadsShape : List Field → Result Shape Refusal → Type 0
ReadsShape fields (Ok shape) = HasForm fields (form_of shape)
ReadsShape fields (Err e) = IsMisshapen (HasForm fields) e

-- a freshness and then the op
abbrev pub OpensWith : List Field → FreshnessShape → Data → List Field → Type 0
OpensWith fields freshness op asked = fields ≡ freshness_fields freshness ++ (codes "op", op) ∷ asked

-- what stands after the freshness; the op does, wherever the members are those of a question
pub record IsBehind (fields : List Field) (freshness : FreshnessShape) (rest : List Field) : Type 0 where
  pub whole : fields ≡ freshness_fields freshness ++ rest
  pub only : (other : FreshnessShape) (op : Data) (asked : List Field) → OpensWith fields other op asked → rest ≡ (codes "op", op) ∷ asked
