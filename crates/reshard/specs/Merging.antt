-- Lists of versions, each by tuple and then by place, and all of them together.
use Rattle.std.specs.Prelude.{Bool, true, false, List, [], ◌∷◌, ◌++◌, Option, Some, None, if◌then◌else◌}
use Rattle.std.specs.Ordering.{is_lt}
use Rattle.tuples.specs.declared.version.Version.{Version}
use Rattle.versions.specs.Rows.{version_cmp, version_of}
use Rattle.reshard.specs.declared.own.Head.{Head}

-- by tuple, and then by place
abbrev pub is_below : Version → Version → Bool
is_below v u = is_lt (version_cmp v u)

-- the version, after the first ones of a list that are below it, and then the rest merged with the others
abbrev pub into : Version → (List Version → List Version) → List Version → List Version
into v others [] = v ∷ others []
into v others (u ∷ us) = if is_below u v then u ∷ into v others us else v ∷ others (u ∷ us)

-- two lists in one: if both have a version left the lower one comes first, and that of the first list if neither is below the other
abbrev pub merge : List Version → List Version → List Version
merge [] us = us
merge (v ∷ vs) us = into v (merge vs) us

abbrev pub merged : List (List Version) → List Version
merged [] = []
merged (l ∷ lists) = merge l (merged lists)

-- one list after the other
abbrev pub all_of : List (List Version) → List Version
all_of [] = []
all_of (l ∷ lists) = l ++ all_of lists

-- a version, named by where it lies
abbrev pub version_at : Head → Version
version_at h = version_of h.tuple.now h.row

-- one that is at hand, and those that are left after it
abbrev pub left_of : Option Head → List Version → List Version
left_of None behind = []
left_of (Some h) behind = version_at h ∷ behind

-- The first version of the one list is below that of the other. A list without any counts as above all others.
abbrev pub is_lower : List Version → List Version → Bool
is_lower [] us = false
is_lower (v ∷ vs) [] = true
is_lower (v ∷ vs) (u ∷ us) = is_below v u
