-- The one premise of a server over files: what was found in them is what one store left there.
use Rattle.std.specs.Prelude.{◌≡◌, ℕ, List, [], ◌∷◌, drop}
use Rattle.device.specs.Device.{State}
use Rattle.records.specs.Coordinators.{CoordinatorState, coordinator_state, empty_coordinator}
use Rattle.journal.specs.Records.{found, or_none}
use Rattle.locked.specs.Opening.{RestAt}
use Rattle.tuples.specs.declared.entry.Entry.{Entry}

-- what the coordinator knows by the records of its two devices, the first two of a store's, as they read
abbrev pub found_coordinator : {D : Type 0} → (D → State) → List D → CoordinatorState
found_coordinator state [] = empty_coordinator
found_coordinator state (a ∷ []) = empty_coordinator
found_coordinator state (a ∷ b ∷ rest) = coordinator_state (or_none (found (state a).seen (state b).seen))

-- The devices of a coordinator that knows this rest at the list, of which it knows what comes after its base: a stop leaves of the coordinator's that list, and
-- perhaps more, and of each shard's its rows of it.
pub record RestsWith {D : Type 0} (state : D → State) (honest : D → Type 0) (shards : ℕ) (first : List Entry) (devices : List D) (known : CoordinatorState) : Type 0 where
  pub decisions : known.log ≡ drop known.base first
  pub rests : RestAt state honest shards first known.horizon devices

-- The devices rest at the list, as they read. If the coordinator has forgotten nothing, as before its first checkpoint, that is the list of its decisions.
abbrev pub IsAtRest : {D : Type 0} → (D → State) → (D → Type 0) → ℕ → List Entry → List D → Type 0
IsAtRest state honest shards first devices = RestsWith state honest shards first devices (found_coordinator state devices)
