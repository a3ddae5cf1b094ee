use Rattle.headline.proofs.EndedWrites.{cancelled_writes_are_past, refused_writes_are_past}
use Rattle.headline.proofs.PastWrites.{past_writes_are_never_listed, past_writes_stay}
use Rattle.headline.proofs.headline_laws.refused_writes_are_never_listed.Goals as goal

pub returns : goal.returns
returns g c = record {
  refused = λ store shards. refused_writes_are_past g.D.Device.state g.D.Device.honest g.D.Device.moment g.D.Device.left_since store shards;
  cancelled = λ store shards. cancelled_writes_are_past g.D.Device.state g.D.Device.honest g.D.Device.moment g.D.Device.left_since store shards;
  stay = λ store shards. past_writes_stay g.D.Device.state g.D.Device.honest g.D.Device.moment g.D.Device.left_since store shards;
  ever = λ store shards. past_writes_are_never_listed g.D.Device.state g.D.Device.honest g.D.Device.moment g.D.Device.left_since store shards;
}
