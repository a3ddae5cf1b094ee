-- Decisions after a place, and where a write stands among them.
use Rattle.std.specs.Prelude.{◌≡◌, ◌≢◌, ◌≤◌, ◌<◌, ◌+◌, ℕ, List, [], ◌∷◌, ◌++◌, length, map, Option, Some, None, slice_get, if◌then◌else◌}
use Rattle.std.specs.Ordering.{nat_cmp, ordering_then}
use Rattle.std.specs.declared.cmp.Ordering.{Ordering}
use Rattle.tuples.specs.declared.entry.Entry.{Entry}
use Rattle.tuples.specs.declared.entry.WriteId.{WriteId}
use Rattle.tuples.specs.Log.{same_id}
use Rattle.records.specs.Format.{IsDecision}
use Rattle.records.specs.Replays.{greatest_number}

-- the decisions after a place, and the id of the one for which there is room
pub record LedgerValue : Type 0 where
  pub base : ℕ
  pub log : List Entry
  pub awaited : Option WriteId

-- a write that may be decided, whatever its place
abbrev pub IsDecided : Entry → Type 0
IsDecided w = IsDecision 0 w

-- none of these writes has the id
abbrev pub IsOther : WriteId → List Entry → Type 0
IsOther id log = (j : ℕ) (w : Entry) → slice_get log j ≡ Some w → w.id ≢ id

-- a write with the id stands at the place, among writes after a base, and no other of them has the id
pub record IsPlaceOf (id : WriteId) (base : ℕ) (log : List Entry) (place : ℕ) : Type 0 where
  pub index : ℕ
  pub write : Entry
  pub there : slice_get log index ≡ Some write
  pub same : write.id ≡ id
  pub is : place ≡ base + index + 1
  pub only : (j : ℕ) (w : Entry) → slice_get log j ≡ Some w → w.id ≡ id → j ≡ index

abbrev pub id_of : Entry → WriteId
id_of w = w.id

-- the ids that the map of places knows: those of the decisions, and the one for which there is room
abbrev pub known_ids : List Entry → Option WriteId → List WriteId
known_ids log None = map id_of log
known_ids log (Some id) = map id_of log ++ id ∷ []

-- the place of an id among ids after a base
abbrev pub place_of : WriteId → ℕ → List WriteId → Option ℕ
place_of id base [] = None
place_of id base (i ∷ ids) = if same_id i id then Some (base + 1) else place_of id (base + 1) ids

abbrev pub id_cmp : WriteId → WriteId → Ordering
id_cmp a b = ordering_then (nat_cmp a.epoch b.epoch) (nat_cmp a.number b.number)

-- no id stands twice
abbrev pub AreApart : List WriteId → Type 0
AreApart [] = Unit {0}
AreApart (i ∷ ids) = ((base : ℕ) → place_of i base ids ≡ None) × AreApart ids

-- there is room for the awaited one
abbrev pub HasRoomFor : Option WriteId → ℕ → ℕ → Type 0
HasRoomFor None len capacity = Unit {0}
HasRoomFor (Some id) len capacity = len < capacity

-- the map has the place of each known id, no id stands twice, and places end at the greatest number
pub record IsIndexed (at : WriteId → Option ℕ) (base : ℕ) (ids : List WriteId) : Type 0 where
  pub places : (id : WriteId) → at id ≡ place_of id base ids
  pub apart : AreApart ids
  pub fits : base + length ids ≤ greatest_number
