-- What is seen of a node, of its one field.
use Rattle.std.specs.Prelude.{◌≡◌}
use Rattle.records.specs.Identity.{Identity}
use Rattle.calls.specs.declared.node.Opened.{Opened}
use Rattle.calls.specs.declared.node.Opened.TheVariants.{Coordinator, Shard, Refused}
use Rattle.calls.specs.Views.{NodeView, coordinator, shard, refused}

abbrev pub seen : {D : Type 0} → Opened D → NodeView D
seen (Coordinator v) = coordinator v
seen (Shard v) = shard v
seen (Refused r) = refused r.refusal r.a r.b

-- the identity with which it was opened is kept beside a shard
abbrev pub IsKeptBeside : {D : Type 0} → Identity → Opened D → Type 0
IsKeptBeside me (Coordinator v) = Unit {0}
IsKeptBeside me (Shard v) = v.me ≡ me
IsKeptBeside me (Refused r) = Unit {0}
