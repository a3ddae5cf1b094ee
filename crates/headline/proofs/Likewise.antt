-- Devices rest likewise if they are sound, and if a stop leaves no records of a node that it could not leave of the others.
use Rattle.std.proofs.Common.{ℕ, List}
use Rattle.records.specs.declared.record.Record.{Record}
use Rattle.device.specs.Device.{State}
use Rattle.laws.specs.Machines.{Machine}
use Rattle.laws.specs.Nodes.{IsThere, NodeName, coordinator, shard}
use Rattle.stores.specs.Stores.{AreSound, RestsOver, stops}
use Rattle.headline.specs.Found.{RestLikewise}

module _ {D : Type 0} (state : D → State) (honest : D → Type 0) (moment : D → ℕ) (left_since : D → ℕ → List ℕ → Type 0) (store shards : ℕ) (old new : NodeName → D × D)
    (sound : AreSound state honest store shards old → AreSound state honest store shards new)
    (less : (n : NodeName) (found : List Record) → IsThere shards n → stops state honest store shards new n found → stops state honest store shards old n found) where
  pub rest_likewise : (m : Machine) → RestsOver state honest store shards old m → RestLikewise state honest moment left_since store shards old new m
  rest_likewise m r = record {
    rests = record {
      sound = sound r.sound;
      rests = record {
        is_log = r.rests.is_log;
        horizon = r.rests.horizon;
        within = r.rests.within;
        each = λ found is.
            let e = r.rests.each found (less coordinator found tt is) in
            (e.0, e.1, e.2, record { image = e.3.image; decided = e.3.decided; each_shard = λ s rs lt in_s. e.3.each_shard s rs lt (less (shard s) rs lt in_s) });
      };
      listed = λ s found lt is. r.listed s found lt (less (shard s) found lt is);
      given = λ w has found is. r.given w has found (less coordinator found tt is);
    };
    told = λ id was. record { given = λ found is. was.given found (less coordinator found tt is); none = was.none };
    past = λ id was. record { given = λ found is. was.given found (less coordinator found tt is); unlisted = was.unlisted };
  }
