use Rattle.std.proofs.Common.{◌≡◌, ◌*◌, length}
use Rattle.published.proofs.tests.add_all.Given as goal

abbrev pub invariant-loop-round : goal.invariant-loop-round
invariant-loop-round l = record {
  log : l.log.table ≡ l.words;
  writer : l.writer.table ≡ l.words;
  length : length l.log.seen ≡ 2 * l.round;
}
