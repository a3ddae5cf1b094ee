-- What a watch lists between two places of the log.
use Rattle.std.specs.Prelude.{◌≡◌, ◌≤◌, ◌+◌, ◌-◌, ℕ, Bool, List, [], ◌∷◌, ◌++◌, length, take, drop, filter}
use Rattle.std.specs.List.{list_any}
use Rattle.tuples.specs.declared.change.Change.{Change}
use Rattle.tuples.specs.declared.entry.Entry.{Entry}
use Rattle.tuples.specs.declared.version.Version.{Version}
use Rattle.tuples.specs.Changes.{tuple_of}
use Rattle.tuples.specs.Reads.{same_name}
use Rattle.tuples.specs.Versions.{placed}

-- an event: a change with its place
abbrev pub Placed : Type 0
Placed = Version

-- the namespace of the change's tuple is one of these
abbrev pub is_among : List (List ℕ) → Change → Bool
is_among names c = list_any (same_name (tuple_of c).object.namespace) names

-- the changes in these namespaces of a log whose first write has this place
abbrev pub events_from : ℕ → List (List ℕ) → List Entry → List Placed
events_from place names [] = []
events_from place names (w ∷ log) = placed place (filter (is_among names) w.changes) ++ events_from (place + 1) names log

-- the changes in these namespaces at the places from c + 1 to e, by rising place, and within a place in the write's order
unfoldable pub events : List Entry → ℕ → ℕ → List (List ℕ) → List Placed
events log c e names = events_from (c + 1) names (take (e - c) (drop c log))

-- what is listed up to a place and then from it on is what is listed at once
abbrev pub EventsJoin : Type 0
EventsJoin = (log : List Entry) (c e f : ℕ) (names : List (List ℕ)) → c ≤ e → e ≤ f → f ≤ length log
    → events log c e names ++ events log e f names ≡ events log c f names
