use Rattle.std.proofs.Common.{◌∙◌, Some}
use Rattle.cluster.specs.declared.event.What.TheVariants.{Began}
use Rattle.reshard.proofs.Caring.{begins_not, serves_not, serves_well}
use Rattle.reshard.proofs.Turning.{begin_shards, begun_holds, not_begun_shards, plays_shards}
use Rattle.reshard.proofs.playing.serve.Goals as goal

pub returns-in-Ok-clause-ok : goal.returns-in-Ok-clause-ok
returns-in-Ok-clause-ok g c =
    serves_well g.D.Device.state g.D.Device.honest g.D.Device.moment g.D.Device.left_since c.args.care c.in-Ok.slot c.args.world.now c.begin.new.world c.run_out.new.world c.requires.of_closing c.in-Ok.ensures c.run_out.result c.run_out.ensures

pub returns-in-Ok-clause-err : goal.returns-in-Ok-clause-err
returns-in-Ok-clause-err g c =
    serves_not g.D.Device.state g.D.Device.honest g.D.Device.moment g.D.Device.left_since c.args.care c.in-Ok.slot c.args.world.now c.begin.new.world c.run_out.new.world c.requires.of_closing c.in-Ok.ensures c.run_out.result c.run_out.ensures

pub returns-in-Err-clause-err : goal.returns-in-Err-clause-err
returns-in-Err-clause-err g c = begins_not g.D.Device.state g.D.Device.honest g.D.Device.moment g.D.Device.left_since c.args.care c.args.world.now c.begin.new.world c.in-Err.refusal c.requires.of_closing c.in-Err.ensures

pub run_out-requires : goal.run_out-requires
run_out-requires g c =
    begun_holds g.D.Device.state g.D.Device.honest g.D.Device.moment g.D.Device.left_since c.args.care c.in-Ok.slot c.args.world.now c.begin.new.world c.requires.may c.in-Ok.ensures

pub returns-in-Ok-clause-shards : goal.returns-in-Ok-clause-shards
returns-in-Ok-clause-shards g c =
    plays_shards g.D.Device.state g.D.Device.honest g.D.Device.moment g.D.Device.left_since c.in-Ok.slot c.begin.new.world c.run_out.new.world c.run_out.result c.run_out.ensures
    ∙ begin_shards g.D.Device.state g.D.Device.honest g.D.Device.moment g.D.Device.left_since c.args.care c.args.world.now c.begin.new.world (Some (Began c.in-Ok.slot)) c.in-Ok.ensures

pub returns-in-Err-clause-shards : goal.returns-in-Err-clause-shards
returns-in-Err-clause-shards g c = not_begun_shards g.D.Device.state g.D.Device.honest g.D.Device.moment g.D.Device.left_since c.args.care c.args.world.now c.begin.new.world c.in-Err.refusal c.in-Err.ensures
