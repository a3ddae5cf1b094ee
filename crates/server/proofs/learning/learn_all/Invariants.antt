use Rattle.locked.specs.Opening.{HasFound}
use Rattle.server.proofs.learning.learn_all.Given as goal

abbrev pub invariant-loop-shard : goal.invariant-loop-shard
invariant-loop-shard g l = record { found : g.B.Room.rests → HasFound g.B.Room.first g.B.Room.low l.first.pass }
