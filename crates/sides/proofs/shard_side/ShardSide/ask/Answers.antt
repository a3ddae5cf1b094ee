use Rattle.std.proofs.Common.{sym, subst}
use Rattle.sides.specs.Sides.{IsLater, hands_over}
use Rattle.sides.proofs.ShardCalls.{met_later, seen_then}
use Rattle.sides.proofs.shard_side.ShardSide.ask.Goals as goal

pub make-requires-clause-hands : goal.make-requires-clause-hands
make-requires-clause-hands g c = λ rests. seen_then c.args.self.now.pass c.args.pass.now c.meet.new.self.pass c.meet.new.pass c.args.call c.meet.ensures.passes (c.requires.hands rests)

pub returns-clause-own : goal.returns-clause-own
returns-clause-own g c = subst (IsLater c.args.self.now.pass) (sym c.make.ensures.pass) (met_later (hands_over c.args.call) c.args.self.now.pass c.args.pass.now c.meet.new.self.pass c.meet.new.pass c.meet.ensures.passes).0

pub returns-clause-caller : goal.returns-clause-caller
returns-clause-caller g c = (met_later (hands_over c.args.call) c.args.self.now.pass c.args.pass.now c.meet.new.self.pass c.meet.new.pass c.meet.ensures.passes).1
