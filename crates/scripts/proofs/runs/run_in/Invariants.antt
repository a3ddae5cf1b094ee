use Rattle.line_io.specs.Blocks.{unread}
use Rattle.scripts.specs.Runs.{BetweenLines}
use Rattle.scripts.proofs.runs.run_in.Given as goal

abbrev pub invariant-loop : goal.invariant-loop
invariant-loop g l = BetweenLines g.S.Store.takes g.S.Store.nexts g.S.Store.shows g.S.Store.sets g.S.Store.reshards g.S.Store.shards_of (g.R.Read.remaining l.fn.input) (g.R.Read.remaining l.input) (g.W.Write.contents l.fn.output) (g.W.Write.contents l.output) l.fn.script l.script (unread l.room.block)
