use Rattle.std.proofs.Common.{◌≤◌, sym, subst}
use Rattle.tuples.specs.declared.entry.WriteId.{WriteId}
use Rattle.records.specs.Replays.{Identity, MayDrop, ShardState}
use Rattle.records.specs.declared.record.Record.TheVariants.{Dropped as dropped_record}
use Rattle.replay.proofs.Alike.{alike_same}
use Rattle.shard.specs.Shards.{Stages}
use Rattle.shard.proofs.Given.{AllGiven, given_image}
use Rattle.shard.proofs.Kept.{dropped_epoch, kept_push, no_more, staged_up, view_of}
use Rattle.shard.proofs.Waiting.{found_one}
use Rattle.shard.proofs.shard.Shard.drop_write.Goals as goal

pub stage_dropped-requires : goal.stage_dropped-requires
stage_dropped-requires g c =
    let s = c.self.inside in
    let me : Identity = s.me in
    let id = c.id-id.result in
    let one = found_one id s.memory.in_doubt c.find.result c.find.ensures c.is_none.ensures c.if-is_none.false in
    let given : AllGiven s.memory.in_doubt = subst AllGiven (sym c.self.invariant.replayed.in_doubt) (given_image me c.self.invariant.rs c.self.invariant.image) in
    given id one.0 one.1

pub invariant_of-self : goal.invariant_of-self
invariant_of-self g c =
    let s = c.self.inside in
    let me : Identity = s.me in
    let id = c.id-id.result in
    let one = found_one id s.memory.in_doubt c.find.result c.find.ensures c.is_none.ensures c.if-is_none.false in
    let may : MayDrop s.memory id = record { opened = c.self.invariant.opened; prepared = one } in
    let opened : 1 ≤ c.drop_write.new.self.epoch = subst (λ (n : ShardState). 1 ≤ n.epoch) (sym c.drop_write.ensures) (dropped_epoch s.memory id c.self.invariant.opened) in
    kept_push g.D.Device.state g.D.Device.honest s.journal c.stage_dropped.new.journal me s.memory c.drop_write.new.self s.unflushed s.unflushed s.settled (dropped_record id)
    c.self.invariant may c.in-Ok.ensures.ok (alike_same _ _ c.drop_write.ensures) opened (no_more s.unflushed)

pub returns-in-Ok-clause-dropped : goal.returns-in-Ok-clause-dropped
returns-in-Ok-clause-dropped g c = λ up there room.
    let s = c.self.inside in
    let me : Identity = s.me in
    let id = c.id-id.result in
    let one = found_one id s.memory.in_doubt c.find.result c.find.ensures c.is_none.ensures c.if-is_none.false in
    let may : MayDrop s.memory id = record { opened = c.self.invariant.opened; prepared = one } in
    let v = c.args.self.now in
    let k = view_of c.stage_dropped.new.journal me in
    let both = staged_up g.D.Device.state g.D.Device.honest s.journal c.stage_dropped.new.journal me s.memory s.unflushed s.settled (dropped_record id) c.self.invariant may c.in-Ok.ensures.ok v c.self.view_is up in
    (subst (λ (i : WriteId). Stages v (dropped_record i) k) c.id-id.ensures both.0, both.1)
