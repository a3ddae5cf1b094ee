use Rattle.std.proofs.Common.{◌≡◌, ◌≤◌, ◌<◌, List, Option, length, vec_capacity}
use Rattle.cluster.specs.declared.event.What.{What}
use Rattle.scripts.specs.Going.{Turns, last_told}
use Rattle.scripts.proofs.going.go.Given as goal

abbrev pub invariant-loop : goal.invariant-loop
invariant-loop g l = (l.out.items ≡ l.fn.out.items) × (vec_capacity l.fn.out ≤ vec_capacity l.out) × (0 < l.room → 0 < l.each)
    × ((all : List (Option What)) × Turns g.S.Store.takes g.S.Store.nexts l.slot l.until all l.fn.store l.store × (l.told ≡ last_told all) × (length all ≡ l.counter))
