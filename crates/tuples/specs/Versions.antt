-- The versions of tuples: each change with its place, under a horizon.
use Rattle.std.specs.Prelude.{◌+◌, ℕ, Bool, true, false, not, ◌&&◌, ◌||◌, ◌==◌, nat_lt, nat_le, max, List, [], ◌∷◌, ◌++◌, map, filter, take, if◌then◌else◌}
use Rattle.tuples.specs.declared.tuple.Tuple.{Tuple}
use Rattle.tuples.specs.declared.change.Change.{Change}
use Rattle.tuples.specs.declared.change.Change.TheVariants.{Touch, Delete}
use Rattle.tuples.specs.declared.entry.Entry.{Entry}
use Rattle.tuples.specs.declared.version.Version.{Version}
use Rattle.tuples.specs.Order.{tuple_eq}
use Rattle.tuples.specs.Changes.{tuple_of}
use Rattle.tuples.specs.Log.{there_after}
use Rattle.tuples.specs.Parts.{shard_of}

abbrev pub is_touch : Change → Bool
is_touch (Touch t) = true
is_touch (Delete t) = false

-- a later version of its tuple stands at or below the horizon
abbrev pub superseded : ℕ → Version → List Version → Bool
superseded h v [] = false
superseded h v (u ∷ rows) = (tuple_eq (tuple_of v.change) (tuple_of u.change) && nat_lt v.place u.place && nat_le u.place h) || superseded h v rows

-- what is kept under a horizon: each version above it, and the newest at or below it if that is a touch
unfoldable pub collected : ℕ → List Version → List Version
collected h rows = filter (λ v. nat_lt h v.place || (is_touch v.change && not (superseded h v rows))) rows

-- changes at a place
abbrev pub placed : ℕ → List Change → List Version
placed place = map (λ c. record { place = place; change = c })

-- the changes of a log from a place on, each with its place
abbrev pub changes_from : ℕ → List Entry → List Version
changes_from place [] = []
changes_from place (w ∷ log) = placed place w.changes ++ changes_from (place + 1) log

-- the versions of the first p writes under the horizon h
unfoldable pub versions : List Entry → ℕ → ℕ → List Version
versions log p h = collected h (changes_from 1 (take p log))

-- those of the tuples of one shard
abbrev pub of_shard : ℕ → ℕ → List Version → List Version
of_shard shards s rows = filter (λ (v : Version). shard_of shards (tuple_of v.change).object == s) rows

-- whether the tuple is there at a place, by versions in the order of their places
unfoldable pub there_at : List Version → ℕ → Tuple → Bool
there_at rows s t = there_after t false (map (λ (v : Version). v.change) (filter (λ (v : Version). nat_le v.place s) rows))

-- the greatest place of a version of the tuple, 0 if none
unfoldable pub last_version : List Version → Tuple → ℕ
last_version [] t = 0
last_version (v ∷ rows) t = if tuple_eq t (tuple_of v.change) then max v.place (last_version rows t) else last_version rows t
