-- The changes of several writes, each at its place.
use Rattle.std.specs.Prelude.{List}
use Rattle.std.specs.List.{flat_map}
use Rattle.tuples.specs.declared.version.Version.{Version}
use Rattle.tuples.specs.Versions.{placed}
use Rattle.versions.specs.declared.decided.PlacedChanges.{PlacedChanges}

-- the versions that they make, one write after the other
abbrev pub all_placed : List PlacedChanges → List Version
all_placed = flat_map (λ (w : PlacedChanges). placed w.place w.changes.now)
