use Rattle.reshard.proofs.Owned.{OwnSoFar}
use Rattle.reshard.proofs.rows.Rows.own.Given as goal

-- those of the memories so far
abbrev pub invariant-loop-index : goal.invariant-loop-index
invariant-loop-index l = OwnSoFar l.me l.self-inside.memories l.index l.owns
