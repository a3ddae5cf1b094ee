use Rattle.flow_turns.proofs.Told.{still_calls_are_quiet}
use Rattle.flow_turns.proofs.call_laws.still_calls_are_quiet.Goals as goal

pub returns : goal.returns
returns g c = λ store shards. still_calls_are_quiet g.D.Device.state g.D.Device.honest g.D.Device.moment g.D.Device.left_since g.met.D.Device.only_now store shards
