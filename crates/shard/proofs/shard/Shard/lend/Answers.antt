use Rattle.std.proofs.Common.{◌∙◌}
use Rattle.shard.proofs.Landed.{kept_lent, learned_all}
use Rattle.shard.proofs.shard.Shard.lend.Goals as goal

pub invariant_of-lent : goal.invariant_of-lent
invariant_of-lent g c =
    let s = c.self.inside in
    kept_lent g.D.Device.state g.D.Device.honest s.journal _ s.me s.memory s.unflushed s.settled c.lend-without.ensures.stays c.self.invariant

pub returns-clause-learned : goal.returns-clause-learned
returns-clause-learned g c = λ up ha hb.
    let s = c.self.inside in
    c.learned-learned.ensures ∙ learned_all g.D.Device.state g.D.Device.honest s.journal s.me s.memory s.unflushed s.settled c.self.invariant c.args.self c.self.view_is up ha hb
