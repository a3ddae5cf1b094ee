use Rattle.flow_turns.proofs.Told.{quiet_turns_answer, quiet_turns_go_on, quiet_turns_refuse}
use Rattle.flow_turns.proofs.call_laws.quiet_turns_run.Goals as goal

pub returns : goal.returns
returns g c = record {
  goes_on = λ store shards. quiet_turns_go_on g.D.Device.state g.D.Device.honest g.D.Device.moment g.D.Device.left_since store shards;
  answers = λ store shards. quiet_turns_answer g.D.Device.state g.D.Device.honest g.D.Device.moment g.D.Device.left_since store shards;
  refuses = λ store shards. quiet_turns_refuse g.D.Device.state g.D.Device.honest g.D.Device.moment g.D.Device.left_since store shards;
}
