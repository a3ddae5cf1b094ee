-- When the script of a disk in memory strikes, and what is found then.
use Rattle.std.specs.Prelude.{◌≡◌, ◌≤◌, ◌<◌, ◌-◌, ℕ, Option, Some, None}
use Rattle.device.specs.declared.tear.Tear.{Tear}
use Rattle.device.specs.declared.tear.Tear.TheVariants.{Old}

-- the script names this call, and this is found after it
abbrev pub IsDue : Option (ℕ × Tear) → Tear → Type 0
IsDue None tear = ⊥
IsDue (Some script) tear = (script.0 ≤ 1) × (script.1 ≡ tear)

-- the script names no call, or a later one
abbrev pub IsLater : Option (ℕ × Tear) → Type 0
IsLater None = Unit {0}
IsLater (Some script) = 1 < script.0

-- the same script, one call later
abbrev pub nearer : Option (ℕ × Tear) → Option (ℕ × Tear)
nearer None = None
nearer (Some script) = Some (script.0 - 1, script.1)

-- what is found if no script says it
abbrev pub or_old : Option Tear → Tear
or_old None = Old
or_old (Some tear) = tear
