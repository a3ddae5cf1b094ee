-- The last change of each tuple in a log, as an index keeps it.
use Rattle.std.specs.Prelude.{◌≡◌, ◌≤◌, ◌+◌, ◌||◌, not, ℕ, Bool, false, List, [], ◌∷◌, length, Option, Some, None, IfSome, if◌then◌else◌}
use Rattle.tuples.specs.declared.tuple.Tuple.{Tuple}
use Rattle.tuples.specs.declared.change.Change.{Change}
use Rattle.tuples.specs.declared.change.Want.{Want}
use Rattle.tuples.specs.declared.entry.Entry.{Entry}
use Rattle.tuples.specs.Changes.{tuple_of}
use Rattle.tuples.specs.Log.{meets_want}
use Rattle.tuples.specs.Order.{tuple_eq}
use Rattle.tuples.specs.Versions.{is_touch}
use Rattle.records.specs.Replays.{greatest_number}
use Rattle.ledger.specs.Ledgers.{LedgerValue}
use Rattle.recovery.specs.declared.latest.LastChange.{LastChange}

-- the last change of the tuple among these at a place, or the one before
abbrev pub last_change : ℕ → List Change → Tuple → Option LastChange → Option LastChange
last_change place [] t before = before
last_change place (c ∷ changes) t before = last_change place changes t (if tuple_eq t (tuple_of c) then Some (record { place = place; is_there = is_touch c }) else before)

-- the last change of the tuple by the writes from a place on, or the one before
abbrev pub latest_from : ℕ → List Entry → Tuple → Option LastChange → Option LastChange
latest_from place [] t before = before
latest_from place (w ∷ log) t before = latest_from (place + 1) log t (last_change place w.changes t before)

-- its place, 0 if there is none
abbrev pub last_of : Option LastChange → ℕ
last_of None = 0
last_of (Some c) = c.place

-- whether the tuple is there
abbrev pub there_of : Option LastChange → Bool
there_of None = false
there_of (Some c) = c.is_there

-- the index has the last change of each tuple by the writes from a place on
abbrev pub AreLatestFrom : ℕ → (Tuple → Option LastChange) → List Entry → Type 0
AreLatestFrom place at log = (t : Tuple) → at t ≡ latest_from place log t None

-- what is wanted of a tuple, by its last change; if none is known, and the known changes are not all, nothing speaks against it
abbrev pub holds_after : Bool → Want → Option LastChange → Bool
holds_after are_all want None = not are_all || meets_want want 0 false
holds_after are_all want (Some c) = meets_want want c.place c.is_there

-- what a recovery keeps: every decision after the base, the last change of each tuple by them if it keeps an index of these, and numbers within their bounds
pub record IsRecovered (ledger : LedgerValue) (at : Option (Tuple → Option LastChange)) (horizon epoch : ℕ) : Type 0 where
  pub settled : ledger.awaited ≡ None
  pub latest : IfSome at (λ f. AreLatestFrom (ledger.base + 1) f ledger.log)
  pub horizon_behind : ledger.base ≤ horizon
  pub horizon_within : horizon ≤ ledger.base + length ledger.log
  pub epoch_fits : epoch ≤ greatest_number
