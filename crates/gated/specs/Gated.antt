-- The list of records that a content has.
use Rattle.std.specs.Prelude.{◌≡◌, ◌⊎◌, ◌≤◌, ◌+◌, ◌-◌, ◌<◌, ◌^◌, ◌≢◌, ℕ, zero, suc, Bool, false, not, ◌&&◌, ◌==◌, nat_le, nat_lt, List, [], ◌∷◌, ◌++◌, length, take, drop, get_or, Option, Some, None, if◌then◌else◌}
use Rattle.std.specs.Int.{w32, to_be_bytes, from_be_bytes}
use Rattle.device.specs.Device.{State, left, patched}

-- a gate with this byte is open
abbrev pub open_gate : ℕ
open_gate = 165

-- the byte that closes a gate
abbrev pub closed_gate : ℕ
closed_gate = 0

-- the number of bytes of a record before its body: the gate and the length
abbrev pub record_head : ℕ
record_head = 5

-- the most bytes of one body
abbrev pub max_body : ℕ
max_body = 1048576

-- the most bytes of a device
abbrev pub max_device : ℕ
max_device = 2 ^ 40

abbrev pub gate_is_open : List ℕ → Bool
gate_is_open content = nat_lt 1 (length content) && (get_or content 0 0 == open_gate)

abbrev pub body_length : List ℕ → ℕ
body_length content = from_be_bytes w32 (take 4 (drop 1 content))

abbrev pub behind : List ℕ → List ℕ
behind content = drop (record_head + body_length content) content

abbrev pub is_whole : List ℕ → Bool
is_whole content =
    nat_le 1 (body_length content) && (nat_le (body_length content) max_body
    && (nat_lt (record_head + body_length content) (length content) && not ((length (behind content) == 1) && (get_or (behind content) 0 0 == open_gate))))

abbrev pub with_front : List ℕ → Option (List (List ℕ)) → Option (List (List ℕ))
with_front body None = None
with_front body (Some bodies) = Some (body ∷ bodies)

-- with at most this many records
abbrev pub gated_within : ℕ → List ℕ → Option (List (List ℕ))
gated_within zero content = Some []
gated_within (suc most) content =
    if gate_is_open content
    then if is_whole content then with_front (take (body_length content) (drop record_head content)) (gated_within most (behind content)) else None
    else Some []

-- The bodies behind open gates, up to the first gate that is closed. None if an open gate has no whole record after it.
unfoldable pub gated : List ℕ → Option (List (List ℕ))
gated content = gated_within (length content) content

-- every content that a stop may leave has this list
abbrev pub HasList : State → List (List ℕ) → Type 0
HasList s bodies = (c : List ℕ) → left s c → gated c ≡ Some bodies

-- a log as its callers see it: its device, the offset of the gate that ends the list, and where the bodies end that are ahead of it
pub record LogView (D : Type 0) : Type 0 where
  pub device : D
  pub end : ℕ
  -- the same offset, if none is ahead
  pub at : ℕ

-- the list, or the longer one
abbrev pub IsOldOrNew : List (List ℕ) → List ℕ → List ℕ → Type 0
IsOldOrNew bodies body content = (gated content ≡ Some bodies) ⊎ (gated content ≡ Some (bodies ++ body ∷ []))

-- records of these bodies, and then the rest
abbrev pub spelled : List (List ℕ) → List ℕ → List ℕ
spelled [] rest = rest
spelled (b ∷ bs) rest = open_gate ∷ to_be_bytes w32 (length b) ++ b ++ spelled bs rest

abbrev pub Fits : List ℕ → Type 0
Fits body = (1 ≤ length body) × (length body ≤ max_body)

abbrev pub AllFit : List (List ℕ) → Type 0
AllFit [] = Unit {0}
AllFit (b ∷ bs) = Fits b × AllFit bs

-- what is read is durable, and nothing was written since
pub record IsAllDurable (s : State) : Type 0 where
  pub durable : s.durable ≡ s.seen
  pub written : s.written ≡ []

-- each of the ranges begins after this offset
abbrev pub AreBehind : ℕ → List (ℕ × ℕ) → Type 0
AreBehind end [] = Unit {0}
AreBehind end (range ∷ ranges) = (end < range.0) × AreBehind end ranges

-- A closed gate stands at the end of the records, and is durable with them. What was written since the last sync lies behind it, where nothing counts.
pub record IsReady (s : State) (end : ℕ) : Type 0 where
  pub bodies : List (List ℕ)
  pub gate : ℕ
  pub rest : List ℕ
  -- what is durable behind the gate
  pub kept : List ℕ
  pub fit : AllFit bodies
  pub closed : gate ≢ open_gate
  pub seen : s.seen ≡ spelled bodies (gate ∷ rest)
  pub durable : s.durable ≡ spelled bodies (gate ∷ kept)
  pub end_is : end ≡ length (spelled bodies [])
  pub written : AreBehind end s.written

-- records of these bodies stand in front of a closed gate
pub record IsSpelled (content : List ℕ) (bodies : List (List ℕ)) (end : ℕ) : Type 0 where
  pub gate : ℕ
  pub rest : List ℕ
  pub fit : AllFit bodies
  pub closed : gate ≢ open_gate
  pub content_is : content ≡ spelled bodies (gate ∷ rest)
  pub end_is : end ≡ length (spelled bodies [])

-- the body in a buffer of four bytes, the body and one byte
abbrev pub body_of : List ℕ → List ℕ
body_of buf = take (length buf - record_head) (drop 4 buf)

-- an opening returned this list: it is the one that the device had as it read, and from now on every stop leaves it; the device reads as it did, or was
-- initialized
pub record IsFoundList (old : State) (bodies : List (List ℕ)) (new : State) : Type 0 where
  pub was : gated old.seen ≡ Some bodies
  pub has : HasList new bodies
  pub up : new.stopped ≡ false
  pub reads : (new.seen ≡ old.seen) ⊎ (length new.seen ≤ 1)

-- These bodies are read ahead of the list: behind its closed gate at `end`, where none of them counts. After the last of them, at `at`, stands an open
-- gate; if there are none, `at` is the offset of the closed one. The list and its gate are durable. What is behind the gate need not be: a stop may leave
-- any bytes there.
pub record IsAhead (s : State) (end at : ℕ) (ahead : List (List ℕ)) : Type 0 where
  pub bodies : List (List ℕ)
  pub gate : ℕ
  pub rest : List ℕ
  -- what is durable behind the list's gate
  pub kept : List ℕ
  pub fit : AllFit bodies
  pub fit_ahead : AllFit ahead
  pub closed : gate ≢ open_gate
  pub seen : s.seen ≡ spelled bodies (gate ∷ drop 1 (spelled ahead (open_gate ∷ rest)))
  pub durable : s.durable ≡ spelled bodies (gate ∷ kept)
  pub end_is : end ≡ length (spelled bodies [])
  pub at_is : at ≡ end + length (spelled ahead [])
  pub written : AreBehind end s.written

-- some bodies stand ahead of the list, or none
pub record HasAhead (s : State) (end at : ℕ) : Type 0 where
  pub ahead : List (List ℕ)
  pub is : IsAhead s end at ahead

-- the list, or the one with these bodies after it
abbrev pub IsOldOrLonger : List (List ℕ) → List (List ℕ) → List ℕ → Type 0
IsOldOrLonger bodies ahead content = (gated content ≡ Some bodies) ⊎ (gated content ≡ Some (bodies ++ ahead))

-- the list, or the empty one
abbrev pub IsOldOrNone : List (List ℕ) → List ℕ → Type 0
IsOldOrNone bodies content = (gated content ≡ Some bodies) ⊎ (gated content ≡ Some [])

-- these bytes were written at this offset, and are durable with all the others
pub record WasPut (old : State) (at : ℕ) (bytes : List ℕ) (new : State) : Type 0 where
  pub seen : new.seen ≡ patched old.seen at bytes
  pub durable : new.durable ≡ new.seen
  pub written : new.written ≡ []
  pub stopped : new.stopped ≡ false
