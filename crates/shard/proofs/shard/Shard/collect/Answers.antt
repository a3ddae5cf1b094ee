use Rattle.std.proofs.Common.{◌≤◌, ℕ, sym, subst, arith}
use Rattle.records.specs.Replays.{Identity, MayCollect}
use Rattle.records.specs.declared.record.Record.TheVariants.{Horizon as horizon_record}
use Rattle.shard.specs.Shards.{Stages}
use Rattle.shard.proofs.Kept.{horizon_epoch, kept_push, no_more, staged_up, view_of}
use Rattle.shard.proofs.shard.Shard.collect.Goals as goal

pub invariant_of-self-2 : goal.invariant_of-self-2
invariant_of-self-2 g c =
    let s = c.self.inside in
    let me : Identity = s.me in
    let place = c.horizon-place.result in
    let may : MayCollect s.memory place = record {
      opened = c.self.invariant.opened;
      on = omega (arith, c.if-place-horizon.false, c.horizon.ensures);
      within = omega (arith, c.if-place-learned.false, c.learned.ensures);
    } in
    let opened : 1 ≤ c.collect.new.self.epoch = subst (λ (n : ℕ). 1 ≤ n) (sym c.collect.ensures.epoch) (horizon_epoch s.memory place c.self.invariant.opened) in
    kept_push g.D.Device.state g.D.Device.honest s.journal c.stage_horizon.new.journal me s.memory c.collect.new.self s.unflushed s.unflushed s.settled (horizon_record place)
    c.self.invariant may c.in_ok-stage_horizon.ensures.ok c.collect.ensures opened (no_more s.unflushed)

pub returns-clause-ok : goal.returns-clause-ok
returns-clause-ok g c = λ up above within.
    let s = c.self.inside in
    let me : Identity = s.me in
    let place = c.horizon-place.result in
    let v = c.args.self.now in
    let k = view_of c.stage_horizon.new.journal me in
    let may : MayCollect s.memory place = record {
      opened = c.self.invariant.opened;
      on = omega (arith, c.if-place-horizon.false, c.horizon.ensures);
      within = omega (arith, c.if-place-learned.false, c.learned.ensures);
    } in
    let both = staged_up g.D.Device.state g.D.Device.honest s.journal c.stage_horizon.new.journal me s.memory s.unflushed s.settled (horizon_record place) c.self.invariant may c.in_ok-stage_horizon.ensures.ok v c.self.view_is up in
    (subst (λ n. Stages v (horizon_record n) k) c.horizon-place.ensures both.0, both.1)
