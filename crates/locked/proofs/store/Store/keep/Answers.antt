use Rattle.locked.proofs.Passes.{later_on}
use Rattle.locked.proofs.store.Store.keep.Goals as goal

pub returns-then-make_round : goal.returns-then-make_round
returns-then-make_round g c =
    record { caller = later_on c.args.caller.now.pass c.loop.caller.pass c.make_round.new.caller.pass c.loop.invariant.later c.make_round.ensures.caller }

pub loop-preserved : goal.loop-preserved
loop-preserved g c =
    record {
      runs = (tt, tt);
      later = later_on c.args.caller.now.pass c.loop.caller.pass c.make_round.new.caller.pass c.loop.invariant.later c.make_round.ensures.caller;
    }
