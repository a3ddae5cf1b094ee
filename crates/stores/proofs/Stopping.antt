-- Devices that find what is left while all nodes agree rest at the list.
use Rattle.std.proofs.Common.{◌≡◌, inl, ℕ, ◌≤◌, List, length, take, sym, ◌∙◌, subst, arith}
use Rattle.std.proofs.lemmas.List.{length-take-le, take-take}
use Rattle.device.specs.Device.{State}
use Rattle.tuples.specs.declared.entry.Entry.{Entry}
use Rattle.tuples.proofs.Lists.{contained_at}
use Rattle.records.specs.declared.record.Record.{Record}
use Rattle.records.specs.Coordinators.{coordinator_state, end_of}
use Rattle.laws.specs.Nodes.{NodeName, coordinator}
use Rattle.laws.specs.Worlds.{Means, Rests}
use Rattle.laws.proofs.CoordinatorStates.{end_is_length}
use Rattle.laws.proofs.LessLeft.{raised_means}
use Rattle.laws.proofs.Logs.{log_taken}
use Rattle.accord.specs.declared.parts.LogPart.{LogPart}
use Rattle.accord.specs.Agreeing.{Agree, AllNodes, shard_leaves}
use Rattle.stores.specs.Stands.{at_shards}
use Rattle.stores.specs.Stores.{RestsOver, stops}
use Rattle.stores.specs.StoppingLaws.{AreFoundOf, WhatIsLeftRests, machine_of}

module _ {D : Type 0} (state : D → State) (honest : D → Type 0) (store shards : ℕ) (n : AllNodes) (devices : NodeName → D × D) (found : List Record) (a : Agree store shards n) (d : AreFoundOf state honest store shards n devices found) where
  abbrev c : LogPart
  c = n.coordinator

  abbrev end : ℕ
  end = end_of (coordinator_state found)

  abbrev horizon : ℕ
  horizon = (coordinator_state found).horizon

  abbrev left_of : NodeName → List Record → Type 0
  left_of = stops state honest store shards devices

  was : (m : ℕ) × (c.kept ≤ m) × (m ≤ length c.log) × Means store shards (take m c.log) c.horizon found (shard_leaves n.shard)
  was = a.rests.each found (inl d.coordinator_left)

  is_end : end ≡ was.0
  is_end = end_is_length (take was.0 c.log) c.horizon (coordinator_state found) was.3.decided ∙ length-take-le was.0 c.log was.2

  within : end ≤ length c.log
  within = let le = was.2 in omega (arith, is_end, le)

  -- what is found means so much of the list, with the horizon that it has itself
  means : Means store shards (take end c.log) horizon found (at_shards left_of)
  means =
      let m = subst (λ (k : ℕ). Means store shards (take k c.log) c.horizon found (shard_leaves n.shard)) (sym is_end) was.3 in
      let fewer : Means store shards (take end c.log) c.horizon found (at_shards left_of) = record { image = m.image; decided = m.decided; each_shard = λ s rs lt stop. m.each_shard s rs lt (inl (d.each_shard s rs lt stop)) } in
      raised_means (left_of coordinator) (left_of coordinator) (at_shards left_of) (at_shards left_of) store shards (take end c.log) c.horizon horizon found fewer.decided.above (omega arith) fewer

  low : horizon ≤ end
  low = let long = length-take-le end c.log within in let le = means.decided.within in omega (arith, long, le)

  rests : Rests store shards (take end c.log) end horizon (left_of coordinator) (at_shards left_of)
  rests = record {
    is_log = log_taken end c.log within a.rests.is_log;
    horizon = low;
    within = (let long = length-take-le end c.log within in omega (arith, long));
    each = λ rs stop.
        let long = length-take-le end c.log within in (
          end,
          omega arith,
          omega (arith, long),
          subst (λ (l : List Record). Means store shards (take end (take end c.log)) horizon l (at_shards left_of)) (sym (d.only rs stop))
              (subst (λ (l : List Entry). Means store shards l horizon found (at_shards left_of)) (sym (take-take end end c.log (omega arith))) means),
        );
  }

  rests_over : RestsOver state honest store shards devices (machine_of n found)
  rests_over = record {
    sound = d.sound;
    rests = rests;
    listed = λ s rs lt stop. (means.each_shard s rs lt stop).means;
    given = λ w has rs stop.
        let at = contained_at (take end c.log) w has in
        subst (λ (l : List Record). w.id.epoch ≤ (coordinator_state l).epoch) (sym (d.only rs stop)) (means.decided.given at.0 w at.1);
  }

  kept_on : c.kept ≤ end
  kept_on = let le = was.1 in omega (arith, is_end, le)

pub what_is_left_rests : {D : Type 0} (state : D → State) (honest : D → Type 0) → WhatIsLeftRests state honest
what_is_left_rests state honest store shards n devices found a d = (
  rests_over state honest store shards n devices found a d,
  kept_on state honest store shards n devices found a d,
  (was state honest store shards n devices found a d).3.decided.above,
)
