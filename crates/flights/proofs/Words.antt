-- The words that the proofs of this crate name, each from its home.
pub use Rattle.away.specs.Aways.{lent_honest, lent_state}
pub use Rattle.away.specs.declared.away.Away.{Away}
pub use Rattle.calls.specs.Asking.{Answered, ShardAnswers}
pub use Rattle.calls.specs.Views.{coordinator, NodeView, refused, shard}
pub use Rattle.calls.specs.declared.call.ShardCall.TheVariants.{Checkpoint}
pub use Rattle.calls.specs.declared.lending.Flying.{Flying}
pub use Rattle.calls.specs.declared.lending.Flying.TheVariants.{Coordinator, Shard}
pub use Rattle.calls.specs.declared.reply.Reply.{Reply}
pub use Rattle.calls.specs.declared.reply.Reply.TheVariants.{Shard as from_shard}
pub use Rattle.calls.specs.declared.reply.ShardReply.{ShardReply}
pub use Rattle.coordinator.specs.declared.lending.Flying.{Flying as OfCoordinator}
pub use Rattle.decisions.specs.Coordinators.{CoordinatorView}
pub use Rattle.decisions.specs.Values.{IntentValue, VerdictValue}
pub use Rattle.device.specs.Device.{State}
pub use Rattle.flights.specs.Flights.{AreRowsAround, FlightView, HasFlown, IsReady, launch_of, LogStaysIn, StaysIn}
pub use Rattle.sides.specs.declared.launch.Launch.{Launch}
pub use Rattle.journal.specs.Records.{batch_size, View}
pub use Rattle.published.proofs.Prefixes.{prefix_trans}
pub use Rattle.published.specs.Known.{Known}
pub use Rattle.records.specs.Replays.{shard_state}
pub use Rattle.records.specs.declared.record.Record.{Record}
pub use Rattle.refusal.specs.declared.refusal.Refusal.{Refusal}
pub use Rattle.shard.specs.Shards.{ShardView}
pub use Rattle.shard.specs.declared.lending.Flying.{Flying as OfShard}
pub use Rattle.sides.specs.CoordinatorSides.{IsSound, IsSoundThere}
pub use Rattle.sides.specs.Lending.{IsSoundIn, IsSoundShard, LendsIn, MayLandIn, refusal_in}
pub use Rattle.sides.specs.Sides.{AnsweredIn}
pub use Rattle.ties.specs.ShardTies.{AreRowsOf}
pub use Rattle.ties.specs.Ties.{Attempt}
pub use Rattle.tuples.specs.declared.entry.Entry.{Entry}
