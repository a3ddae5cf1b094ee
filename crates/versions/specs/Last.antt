-- What the newest version of a tuple says of the log.
use Rattle.std.specs.Prelude.{◌≡◌, ◌<◌, ◌≤◌, ℕ, List, take}
use Rattle.tuples.specs.declared.entry.Entry.{Entry}
use Rattle.tuples.specs.declared.tuple.Tuple.{Tuple}
use Rattle.tuples.specs.Log.{last_place}
use Rattle.tuples.specs.Versions.{last_version, versions}

-- of the versions of the first p writes under the horizon h: if the tuple's last place among those writes lies above the horizon,
-- its newest version lies there, and if it does not, no version of it lies above the horizon
pub record IsLastAbove (log : List Entry) (p h : ℕ) (t : Tuple) : Type 0 where
  pub above : h < last_place (take p log) t → last_version (versions log p h) t ≡ last_place (take p log) t
  pub below : last_place (take p log) t ≤ h → last_version (versions log p h) t ≤ h

abbrev pub NewestIsLast : Type 0
NewestIsLast = (log : List Entry) (p h : ℕ) (t : Tuple) → IsLastAbove log p h t
