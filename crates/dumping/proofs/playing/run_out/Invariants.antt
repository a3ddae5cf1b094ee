use Rattle.std.proofs.Common.{◌≡◌, List, None, Option}
use Rattle.cluster.specs.declared.event.What.{What}
use Rattle.scripts.specs.Going.{Turns, last_told}
use Rattle.dumping.proofs.playing.run_out.Given as goal

-- the turns so far, and what the last of them told
abbrev pub invariant-loop : goal.invariant-loop
invariant-loop g l = (all : List (Option What)) × Turns g.S.Store.takes g.S.Store.nexts l.slot None all l.fn.store l.store × (l.told ≡ last_told all)
