-- A shard whose devices were lent, what of it flies with them, and what it is once they are back.
use Rattle.std.specs.Prelude.{◌≡◌, ◌||◌, ◌++◌, drop, take}
use Rattle.away.specs.Aways.{lent_honest}
use Rattle.away.specs.declared.away.Away.{Away}
use Rattle.records.specs.Replays.{shard_state}
use Rattle.device.specs.Device.{State}
use Rattle.journal.specs.Lending.{IsLentDevice}
use Rattle.journal.specs.Records.{HasRecords, View}
use Rattle.journal.specs.declared.lending.Sent.{Sent}
use Rattle.shard.specs.Shards.{ShardView}
use Rattle.shard.specs.declared.lending.Flying.{Flying}

-- It has all that the shard had, in the place of whose devices others stand.
pub record IsLentShard {D : Type 0} (state : D → State) (old : ShardView D) (away : ShardView (Away D)) : Type 0 where
  pub a : IsLentDevice state old.a away.a
  pub b : IsLentDevice state old.b away.b
  pub end : away.end ≡ old.end
  pub durable : away.durable ≡ old.durable
  pub staged : away.staged ≡ old.staged
  pub is_down : away.is_down ≡ old.is_down
  pub me : away.me ≡ old.me

-- The flight was of the devices that this shard stands without, and has made the first of what it has staged durable: each stop leaves that. It had
-- learned so far.
pub record HasFlown {D : Type 0} (state : D → State) (honest : D → Type 0) (v : ShardView (Away D)) (flown : View D) (flying : Flying) : Type 0 where
  pub honest_a : lent_honest honest v.a
  pub honest_b : lent_honest honest v.b
  pub durable : flown.durable ≡ v.durable ++ take flying.sent.count v.staged
  pub rest : HasRecords (state flown.a) (state flown.b) flown.durable
  pub learned : flying.learned ≡ (shard_state flown.durable).learned

-- The devices are back with what they have now. What flew is staged no more, whatever came of it; all else is as it was.
abbrev pub landed_shard : {D : Type 0} → ShardView (Away D) → View D → Sent → ShardView D
landed_shard v flown sent = record {
  a = flown.a;
  b = flown.b;
  end = flown.end;
  durable = flown.durable;
  staged = drop sent.count v.staged;
  is_down = v.is_down || flown.is_down;
  me = v.me;
}
