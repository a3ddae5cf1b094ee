use Rattle.flow_turns.proofs.Fails.{failed_calls_have_cause}
use Rattle.flow_turns.proofs.call_laws.failed_calls_have_cause.Goals as goal

pub returns : goal.returns
returns g c = λ store shards. failed_calls_have_cause g.D.Device.state g.D.Device.honest g.D.Device.moment g.D.Device.left_since store shards
