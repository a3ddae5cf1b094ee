-- A walk over versions, by tuple.
use Rattle.std.specs.Prelude.{◌≤◌, List, [], ◌∷◌, Option, Some, None}
use Rattle.std.specs.List.Sorted.{IsSorted}
use Rattle.tuples.specs.declared.tuple.Tuple.{Tuple}
use Rattle.tuples.specs.declared.version.Version.{Version}
use Rattle.versions.specs.Alike.{of_tuple}
use Rattle.versions.specs.Rows.{version_cmp, versions_of}
use Rattle.versions.specs.declared.history.Row.{Row}
use Rattle.versions.specs.declared.walk.Own.{Own}

-- the one that lies apart, and the others
abbrev pub with_one : Option Row → List Row → List Row
with_one None rows = rows
with_one (Some row) rows = row ∷ rows

abbrev pub told_rows : Own → List Version
told_rows own = versions_of own.tuple.now (with_one own.one own.rest.now)

-- the versions that are left of a tuple
abbrev pub own_left : Option Own → List Version
own_left None = []
own_left (Some own) = told_rows own

-- each place is no lower than the one before
abbrev pub Rise : List Version → Type 0
Rise [] = Unit {0}
Rise (v ∷ []) = Unit {0}
Rise (v ∷ u ∷ vs) = (v.place ≤ u.place) × Rise (u ∷ vs)

-- if the places of each tuple rise, the versions are listed by tuple and then by place
abbrev pub IsInOrder : List Version → Type 0
IsInOrder vs = ((t : Tuple) → Rise (of_tuple t vs)) → IsSorted version_cmp vs
