-- The stand-in for a device that is elsewhere.
use Rattle.std.specs.Prelude.{◌≡◌, ◌||◌, ℕ, Bool, true, false}
use Rattle.away.specs.declared.away.Away.{Away}
use Rattle.device.specs.Device.{State}

-- as the device was, with failures of its own
abbrev pub away_state : State → Bool → ℕ → State
away_state s stopped failures = record s { stopped = s.stopped || stopped; failures = failures }

-- what stands there, by what devices are
abbrev pub lent_state : {D : Type 0} → (D → State) → Away D → State
lent_state state d = away_state (state d.was.value) d.is_stopped d.failures

-- it is honest if the device was
abbrev pub lent_honest : {D : Type 0} → (D → Type 0) → Away D → Type 0
lent_honest honest d = honest d.was.value
