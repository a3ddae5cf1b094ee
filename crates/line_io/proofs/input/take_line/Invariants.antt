use Rattle.line_io.specs.Blocks.{Gathers, unread}
use Rattle.line_io.proofs.input.take_line.Given as goal

abbrev pub invariant-loop : goal.invariant-loop
invariant-loop g l = Gathers (g.R.Read.remaining l.initial.input) (g.R.Read.remaining l.input) (unread l.initial.block) (unread l.block) l.line
