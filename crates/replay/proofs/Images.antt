-- The writes in doubt of a shard are apart, whatever its records.
use Rattle.std.proofs.Common.{List, []}
use Rattle.records.specs.declared.mark.Inside.{Inside}
use Rattle.records.specs.declared.record.Record.{Record}
use Rattle.records.specs.declared.record.Record.TheVariants.{Prepare, Learned, Dropped, Epoch, Decision, Horizon, Checkpoint}
use Rattle.records.specs.Replays.{Identity, IsShardImage, MayCome, MayComeInside, ShardState, shard_state, shard_step}
use Rattle.holds.specs.Holds.{AreApart}
use Rattle.holds.proofs.Apart.{apart_none, apart_taken, apart_without, apart_without_placed_ids}
use Rattle.replay.proofs.States.{image_keeps}

pub apart_step : (me : Identity) (s : ShardState) (r : Record) → AreApart s.in_doubt → MayCome me s r → AreApart (shard_step s r).in_doubt
unfolding shard_step
apart_step me s (Prepare w) apart may = apart_taken s.in_doubt w apart (record { new = may.new; tuples = may.free })
apart_step me s (Learned to placed_ids) apart may = apart_without_placed_ids placed_ids s.in_doubt apart
apart_step me s (Dropped id) apart may = apart_without id s.in_doubt apart
apart_step me s (Epoch epoch store shards node) apart may = apart
apart_step me s (Decision place w) apart may = absurd may
apart_step me s (Horizon place) apart may = apart
apart_step me s (Checkpoint mark) apart may = absurd may

apart_inside : (me : Identity) (i : Inside) (s : ShardState) (r : Record) → AreApart s.in_doubt → MayComeInside me i s r → AreApart (shard_step s r).in_doubt
unfolding shard_step
apart_inside me i s (Prepare w) apart may = apart_step me s (Prepare w) apart may.may
apart_inside me i s (Learned to placed_ids) apart may = apart_without_placed_ids placed_ids s.in_doubt apart
apart_inside me i s (Dropped id) apart may = absurd may
apart_inside me i s (Epoch epoch store shards node) apart may = apart
apart_inside me i s (Decision place w) apart may = absurd may
apart_inside me i s (Horizon place) apart may = apart
apart_inside me i s (Checkpoint mark) apart may = apart

pub image_apart : (me : Identity) (rs : List Record) → IsShardImage me rs → AreApart (shard_state rs).in_doubt
unfolding shard_state shard_step
image_apart me rs image = image_keeps me (λ (s : ShardState). AreApart s.in_doubt) (λ s r apart may. apart_step me s r apart may) (λ i s r apart may. apart_inside me i s r apart may) (λ s mark apart. apart) [] rs image.each apart_none
