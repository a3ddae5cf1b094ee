-- What answers say, and how a watch goes on.
use Rattle.std.specs.Prelude.{◌≡◌, ◌≤◌, ℕ, List, Option, Some, None, codes, true, option_and_then, option_map, string_bytes}
use Rattle.serde_json.specs.Data.{Data, depth, object, put, string}
use Rattle.serde_json.specs.Find.{as_bool, as_number, as_str, as_u64, get}
use Rattle.serde_json.specs.Read.{max_depth, read}
use Rattle.refusal.specs.declared.refusal.Refusal.{Refusal}
use Rattle.refusal.specs.Refusals.{number_of}
use Rattle.line_io.specs.Lines.{HasNoFeed}
use Rattle.client.specs.Kinds.{has_answer}
use Rattle.client.specs.declared.answer.Answered.{Answered}
use Rattle.client.specs.declared.kind.Kind.{Kind}

-- the number that a refusal is told by
abbrev pub told_number : Data → Option ℕ
told_number d = option_and_then as_u64 (option_and_then as_number (get (codes "error") d))

-- the refusal has this number; there is none if no refusal has it
abbrev pub IsRefusal : Option ℕ → Option Refusal → Type 0
IsRefusal told (Some r) = told ≡ Some (number_of r)
IsRefusal told None = (r : Refusal) → told ≡ Some (number_of r) → ⊥

-- whether it answers such a request, and what it says of how to go on
pub record Says (kind : Kind) (d : Data) (a : Answered) : Type 0 where
  pub answers : a.is_answer ≡ has_answer kind d
  pub refusal : IsRefusal (told_number d) a.refusal
  pub heartbeat : option_map string_bytes a.heartbeat ≡ option_and_then as_str (get (codes "heartbeat") d)
  pub member : a.member ≡ option_and_then as_bool (get (codes "member") d)

-- it is one line, a refusal or an answer to such a request, and what that says
pub record IsAnswer (kind : Kind) (a : Answered) : Type 0 where
  pub no_feed : HasNoFeed (string_bytes a.line)
  pub json : Data
  pub reads : read (string_bytes a.line) ≡ Some json
  pub says : Says kind json a
  pub fits : a.refusal ≡ None → has_answer kind json ≡ true

-- the members of an object, with the heartbeat as their cursor
abbrev pub onward : List ℕ → Data → Data
onward heartbeat (object ms) = object (put (codes "from") (string heartbeat) ms)
onward heartbeat d = d

-- the same request, but for its cursor, which is the heartbeat; no request of the grammar nests so deep that it can't be read
abbrev pub GoesOn : List ℕ → List ℕ → List ℕ → Type 0
GoesOn request heartbeat line = (d : Data) × (read request ≡ Some d) × (depth (onward heartbeat d) ≤ max_depth → read line ≡ Some (onward heartbeat d))
