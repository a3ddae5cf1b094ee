-- All shards are asked for a tupleset, or that of its object.
use Rattle.std.proofs.Common.{None, refl}
use Rattle.answer_flow.specs.ReadViews.{holding, view_of}
use Rattle.answer_flow.proofs.RowsGiven.{of_all, of_one}
use Rattle.answer_flow.proofs.reading.gather.Goals as goal

pub returns-then-asks_all-clause-goes : goal.returns-then-asks_all-clause-goes
returns-then-asks_all-clause-goes c =
    of_all c.args.asked.now.shards c.args.asked.now.sets.items c.args.gathered.place (holding c.args.gathered None) c.args.set c.args.more.items (view_of c.gather_more.result)
    (c.asks_all.ensures.0 c.if-asks_all.true) c.gather_more.ensures.goes

pub returns-clause-goes : goal.returns-clause-goes
returns-clause-goes c =
    of_one c.args.asked.now.shards c.args.asked.now.sets.items c.args.gathered.place (holding c.args.gathered None) c.args.set c.args.more.items (view_of c.finish_one.result)
    (λ all. absurd (let wrong = c.asks_all.ensures.1 all in cc (wrong, c.if-asks_all.false))) (c.finish_one.ensures.goes (holding c.args.gathered None) refl)
