use Rattle.std.proofs.Common.{◌≡◌, vec_len}
use Rattle.locked.specs.Opening.{HasFound}
use Rattle.server.proofs.running.forks.Given as goal

abbrev pub invariant-loop : goal.invariant-loop
invariant-loop g l = record {
  count : vec_len l.forks ≡ l.counter;
  found : g.B.Room.rests → HasFound g.B.Room.first g.B.Room.low l.first.pass;
}
