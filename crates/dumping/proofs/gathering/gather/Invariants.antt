use Rattle.std.proofs.Common.{List}
use Rattle.tuples.specs.declared.version.Version.{Version}
use Rattle.dumping.specs.Gathering.{AllTell, HasAll}
use Rattle.dumping.proofs.gathering.gather.Given as goal

-- the shards so far have told these, and the set has the tuples of all
abbrev pub invariant-loop-shard : goal.invariant-loop-shard
invariant-loop-shard g l = (told : List Version) × AllTell g.S.Store.takes g.S.Store.nexts g.S.Store.shows l.shard l.fn.store told l.store × HasAll l.found.keys told
