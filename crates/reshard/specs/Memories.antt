-- The versions of several memories.
use Rattle.std.specs.Prelude.{List, map}
use denote.Ref.{Bor}
use Rattle.records.specs.Replays.{ShardState}
use Rattle.tuples.specs.declared.version.Version.{Version}

abbrev pub lists_of : List (Bor ShardState) → List (List Version)
lists_of = map (λ (m : Bor ShardState). m.now.rows)
