use Rattle.holds.proofs.Named.{taken_out}
use Rattle.holds.proofs.held.let_tuple_go.Goals as goal

pub returns : goal.returns
returns c t = taken_out c.args.held.now.keys c.remove.new.self.keys c.args.tuple.now t (c.remove.ensures.updates.0 t)
