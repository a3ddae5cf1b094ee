use Rattle.std.proofs.Common.{◌∙◌, sym}
use Rattle.shard.proofs.Landed.{kept_as_it_was, kept_up, up_again}
use Rattle.shard.proofs.lending.Shard+Away+D.land.Goals as goal
use Rattle.shard.proofs.lending.Shard+Away+D.land.Goals.{then-not-is_down, else-not-is_down}

pub invariant_of-back : goal.invariant_of-back
invariant_of-back g c =
    let s = c.self.inside in
    let n = c.if-not-is_down in
    elim c.if-not-is_down.branch [
      | then-not-is_down w ↦ kept_up g.D.Device.state g.D.Device.honest s.journal c.args.flown c.land-journal.result.0 s.me s.memory s.unflushed s.settled c.args.flying c.args.self c.self.invariant c.self.view_is
          c.land-journal.ensures c.requires.prepares c.requires.flown n.unflushed n.settled (sym c.is_down.ensures ∙ w.if-not-is_down.true) (w.unflushed-is ∙ w.forget_first.ensures) w.settled-is
      | else-not-is_down w ↦ kept_as_it_was g.D.Device.state g.D.Device.honest s.journal c.args.flown c.land-journal.result.0 s.me s.memory s.unflushed s.settled c.args.flying c.args.self c.self.invariant c.self.view_is
          c.land-journal.ensures n.unflushed n.settled (sym c.is_down.ensures ∙ w.if-not-is_down.false) w.unflushed-is w.settled-is
    ]

pub returns-clause-up : goal.returns-clause-up
returns-clause-up g c =
    let s = c.self.inside in
    up_again g.D.Device.state g.D.Device.honest s.journal c.args.flown c.land-journal.result.0 s.me s.memory s.unflushed s.settled c.args.flying c.args.self c.self.invariant c.self.view_is
    c.land-journal.ensures c.requires.prepares c.requires.flown
