use Rattle.std.proofs.Common.{◌∙◌, sym}
use Rattle.coordinator.proofs.Landed.{goes_from, goes_to, has_room, kept_as_it_was, kept_up, running_again}
use Rattle.coordinator.proofs.lending.Coordinator+Away+D.land.Goals as goal
use Rattle.coordinator.proofs.lending.Coordinator+Away+D.land.Goals.{then-not-is_down, else-not-is_down}

pub kept_after-kept-requires : goal.kept_after-kept-requires
kept_after-kept-requires g c =
    let s = c.self.inside in
    has_room g.D.Device.state g.D.Device.honest s.journal c.args.flown c.land-journal.result.0 s.me s.ledger s.epoch s.kept s.horizon s.rising s.open_numbers.items s.given c.args.flying c.args.self c.self.invariant c.self.view_is
    c.land-journal.ensures c.requires.told (sym c.is_down.ensures ∙ c.if-not-is_down.true)

pub rise-requires-clause-rises : goal.rise-requires-clause-rises
rise-requires-clause-rises g c =
    let s = c.self.inside in
    goes_from g.D.Device.state g.D.Device.honest s.journal c.args.flown c.land-journal.result.0 s.me s.ledger s.epoch s.kept s.horizon s.rising s.open_numbers.items s.given c.args.flying c.args.self c.self.invariant c.self.view_is
    c.land-journal.ensures c.requires.told (sym c.is_down.ensures ∙ c.if-not-is_down.true)

pub rise-requires-clause-within : goal.rise-requires-clause-within
rise-requires-clause-within g c =
    let s = c.self.inside in
    goes_to g.D.Device.state g.D.Device.honest s.journal c.args.flown c.land-journal.result.0 s.me s.ledger s.epoch s.kept s.horizon s.rising s.open_numbers.items s.given c.args.flying c.args.self c.self.invariant c.self.view_is
    c.land-journal.ensures c.requires.told (sym c.is_down.ensures ∙ c.if-not-is_down.true)

pub invariant_of-back : goal.invariant_of-back
invariant_of-back g c =
    let s = c.self.inside in
    let n = c.if-not-is_down in
    elim c.if-not-is_down.branch [
      | then-not-is_down w ↦ kept_up g.D.Device.state g.D.Device.honest s.journal c.args.flown c.land-journal.result.0 s.me s.ledger s.epoch s.kept s.horizon s.rising s.open_numbers.items s.given c.args.flying c.args.self
          c.self.invariant c.self.view_is c.land-journal.ensures c.requires.told (sym c.is_down.ensures ∙ w.if-not-is_down.true)
          w.rise.new.ledger n.ledger n.kept n.horizon w.left_rising-rising.result n.rising w.kept_after-kept.result w.left_rising-rising.ensures.none w.left_rising-rising.ensures.some w.rise.ensures.ledger
          w.kept_after-kept.ensures.value w.kept_after-kept.ensures.fits c.requires.flown w.ledger-is w.kept-is (w.horizon-is ∙ w.rise.ensures.horizon) w.rising-is
      | else-not-is_down w ↦ kept_as_it_was g.D.Device.state g.D.Device.honest s.journal c.args.flown c.land-journal.result.0 s.me s.ledger s.epoch s.kept s.horizon s.rising s.open_numbers.items s.given c.args.flying c.args.self
          c.self.invariant c.self.view_is c.land-journal.ensures c.requires.told n.ledger n.kept n.horizon n.rising (sym c.is_down.ensures ∙ w.if-not-is_down.false) w.ledger-is w.kept-is w.horizon-is w.rising-is
    ]

pub returns-clause-running : goal.returns-clause-running
returns-clause-running g c =
    let s = c.self.inside in
    running_again g.D.Device.state g.D.Device.honest s.journal c.args.flown c.land-journal.result.0 s.me s.ledger s.epoch s.kept s.horizon s.rising s.open_numbers.items s.given c.args.flying c.args.self c.self.invariant c.self.view_is
    c.land-journal.ensures c.requires.told c.requires.flown
