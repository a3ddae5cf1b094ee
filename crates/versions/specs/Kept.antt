-- The rows of a tuple as a shard has them: one in its own words, or a list elsewhere.
use Rattle.std.specs.Prelude.{List, [], ◌∷◌, true, false}
use Rattle.versions.specs.declared.history.Row.{Row}
use Rattle.versions.specs.declared.rows.Kept.{Kept}
use Rattle.versions.specs.declared.rows.Kept.TheVariants.{Empty, Touch, Delete, More}
use Rattle.versions.specs.declared.rows.RowsRef.{RowsRef}
use Rattle.versions.specs.declared.rows.RowsRef.TheVariants as refs

-- that list
abbrev pub kept_rows : Kept → List Row
kept_rows Empty = []
kept_rows (Touch place) = record { place = place; is_touch = true } ∷ []
kept_rows (Delete place) = record { place = place; is_touch = false } ∷ []
kept_rows (More rows) = rows.value.items

-- the rows that are lent
abbrev pub lent_rows : RowsRef → List Row
lent_rows (refs.One rows) = rows
lent_rows (refs.List rows) = rows.now
