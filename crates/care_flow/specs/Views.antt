-- A care flow as its callers see it.
use Rattle.std.specs.Prelude.{◌≡◌, Bool, true, false, Option, Some, None, is_some}
use Rattle.care_flow.specs.declared.end.CareEnd.{CareEnd}

-- What it holds; and one of three: the call that it makes next, the call that is out, or how it ended.
pub record CareView (H S : Type 0) : Type 0 where
  pub holds : H
  pub next : Option S
  pub awaited : Option S
  pub ended : Option CareEnd

-- this call comes next
abbrev pub ready : {H S : Type 0} → H → S → CareView H S
ready holds step = record { holds = holds; next = Some step; awaited = None; ended = None }

-- this call is out
abbrev pub out : {H S : Type 0} → H → S → CareView H S
out holds step = record { holds = holds; next = None; awaited = Some step; ended = None }

-- it has ended, and holds nothing
abbrev pub over : {H S : Type 0} → H → CareEnd → CareView H S
over nothing end = record { holds = nothing; next = None; awaited = None; ended = Some end }

-- a call comes next, or it has ended
abbrev pub GoesOrEnds : Bool → Option CareEnd → Type 0
GoesOrEnds true end = end ≡ None
GoesOrEnds false end = (e : CareEnd) × (end ≡ Some e)

-- after a reply it waits for no other
abbrev pub IsBehind : {H S : Type 0} → CareView H S → Type 0
IsBehind v = GoesOrEnds (is_some v.next) v.ended
