use Rattle.std.proofs.Common.{ℕ, List}
use Rattle.device.specs.Device.{State}
use Rattle.records.specs.Coordinators.{CoordinatorState}
use Rattle.files.specs.Life.{life_state}
use Rattle.tuples.specs.declared.entry.Entry.{Entry}
use Rattle.locked.specs.AtRest.{IsAtRest, found_coordinator}
use Rattle.server.proofs.opening.serve_files.Given as goal

-- (the devices first, which say what they are)
abbrev found_in : {D : Type 0} → List D → (D → State) → CoordinatorState
found_in devices state = found_coordinator state devices

abbrev rests_in : {D : Type 0} → ℕ → List Entry → List D → (D → State) → Type 0
rests_in shards first devices state = IsAtRest state (λ d. Unit {0}) shards first devices

-- What is said is said of the list, if the devices rest at it as they were found.
abbrev pub ghosts-serve_over : goal.ghosts-serve_over
ghosts-serve_over g a = record {
  log = a.parts.words;
  attempts = a.parts.attempts;
  launches = a.parts.launches;
  store = a.settings.now.store;
  shards = a.settings.now.shards;
  rests = rests_in a.settings.now.shards g.first a.devices.items (λ d. life_state d.history.events d.is_stopped d.failures);
  first = g.first;
  low = (found_in a.devices.items (λ d. life_state d.history.events d.is_stopped d.failures)).horizon;
}
