use Rattle.std.proofs.Common.{sym, ◌∙◌}
use Rattle.reshard.proofs.Picked.{picks_goes, picks_stays}
use Rattle.reshard.proofs.least.least.Goals as goal

pub loop-index-preserved-then-not-is_lower_at : goal.loop-index-preserved-then-not-is_lower_at
loop-index-preserved-then-not-is_lower_at c = picks_goes c.args.owns.now c.loop-index.index c.loop-index.least c.loop-index.invariant c.loop-index-test.true (sym c.is_lower_at.ensures ∙ c.if-not-is_lower_at.true)

pub loop-index-preserved : goal.loop-index-preserved
loop-index-preserved c = picks_stays c.args.owns.now c.loop-index.index c.loop-index.least c.loop-index.invariant c.loop-index-test.true (sym c.is_lower_at.ensures ∙ c.if-not-is_lower_at.false)
