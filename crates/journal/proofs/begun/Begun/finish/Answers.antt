use Rattle.std.proofs.Common.{◌≡◌, true, rules}
use Rattle.std.proofs.lemmas.Result.{on_ok_weaker}
use Rattle.journal.proofs.Beginnings.{each_finished, stays_none, whole_has}
use Rattle.journal.proofs.begun.Begun.finish.Goals as goal

pub returns-clause-ok : goal.returns-clause-ok
returns-clause-ok g c =
    let is_open : c.self.inside.is_open ≡ true = search rules in
    rw (← c.self.view_is)
    (λ hon_a hon_b. on_ok_weaker c.finish_in.result
    (λ has. whole_has (g.D.Device.state c.finish_in.new.log.device) (g.D.Device.state c.self.inside.b.device) (g.S.Source.records c.args.source.now) has ((c.self.invariant is_open).2 hon_b))
    (c.finish_in.ensures.ok hon_a))

pub returns-clause-any_moment : goal.returns-clause-any_moment
returns-clause-any_moment g c =
    let state = g.D.Device.state in
    let b = c.self.inside.b.device in
    rw (← c.self.view_is)
    (λ is_open hon_a hon_b. each_finished state g.D.Device.moment g.D.Device.left_since (g.S.Source.records c.args.source.now) c.self.inside.a.device b c.finish_in.new.log.device b (c.finish_in.ensures.any_moment hon_a)
    (stays_none state g.D.Device.moment g.D.Device.left_since b ((c.self.invariant is_open).2 hon_b) (λ x is. g.met.D.Device.only_now b x hon_b is)))
