use Rattle.reshard.proofs.Turning.{IsPlaying}
use Rattle.reshard.proofs.playing.run_out.Given as goal

abbrev pub invariant-loop : goal.invariant-loop
invariant-loop g l = IsPlaying g.D.Device.state g.D.Device.honest g.D.Device.moment g.D.Device.left_since l.slot l.made l.fn.world l.world
