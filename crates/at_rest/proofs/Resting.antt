-- Devices that were just opened are at rest, if one store rests over them.
use Rattle.std.proofs.Common.{◌≡◌, ◌≤◌, ◌<◌, ◌+◌, ◌*◌, ℕ, List, [], length, take, Some, All, slice_index_or, sym, ◌∙◌, ap, subst, arith}
use Rattle.std.proofs.lemmas.List.{append-nil}
use Rattle.device.specs.Device.{State, left}
use Rattle.device.specs.Disk.{IsFresh}
use Rattle.headline.specs.Promised.{devices_at}
use Rattle.journal.specs.Records.{Finds, found, or_none}
use Rattle.laws.specs.Machines.{Machine}
use Rattle.laws.specs.Nodes.{coordinator, shard}
use Rattle.laws.specs.Worlds.{Means}
use Rattle.laws.proofs.Lists.{new_taken, slice_get_taken}
use Rattle.records.specs.declared.record.Record.{Record}
use Rattle.records.specs.Coordinators.{CoordinatorState, coordinator_state}
use Rattle.records.specs.Replays.{shard_state}
use Rattle.ties.specs.ShardTies.{AreRowsOf, RowsAnywhere}
use Rattle.ties.specs.Ties.{AreListed, AreOf, IsLonger}
use Rattle.tuples.specs.declared.entry.Entry.{Entry}
use Rattle.stores.specs.Stands.{at_shards}
use Rattle.stores.specs.Stores.{RestsOver, stops}
use Rattle.locked.specs.AtRest.{IsAtRest, found_coordinator}
use Rattle.at_rest.specs.RestingLaws.{IsJustOpened, WhatRestsIsAtRest}
use Rattle.at_rest.proofs.Found.{at_rest_with, found_is, leaves_seen}

module _ {D : Type 0} (state : D → State) (honest : D → Type 0) (store shards : ℕ) (any : D) (devices : List D) (m : Machine)
    (count : length devices ≡ 2 * (shards + 1)) (fresh : All (IsJustOpened state honest) devices) (rests : RestsOver state honest store shards (devices_at any devices) m) where
  abbrev first_a : D
  first_a = slice_index_or devices 0 any

  abbrev first_b : D
  first_b = slice_index_or devices 1 any

  fresh_a : IsFresh (state first_a).seen (state first_a)
  fresh_a = fresh 0 any (omega (arith, count))

  fresh_b : IsFresh (state first_b).seen (state first_b)
  fresh_b = fresh 1 any (omega (arith, count))

  abbrev read : (rs : List Record) × (found (state first_a).seen (state first_b).seen ≡ Some rs)
  read = rests.sound.readable coordinator (state first_a).seen (state first_b).seen tt (leaves_seen (state first_a) fresh_a) (leaves_seen (state first_b) fresh_b)

  abbrev is_left : Finds (left (state first_a)) (left (state first_b)) read.0
  is_left = ((state first_a).seen, (state first_b).seen, leaves_seen (state first_a) fresh_a, leaves_seen (state first_b) fresh_b, read.1)

  abbrev n : ℕ
  n = (rests.rests.each read.0 is_left).0

  abbrev whole : List Entry
  whole = take n m.log

  abbrev s : CoordinatorState
  s = coordinator_state read.0

  abbrev means : Means store shards whole m.horizon read.0 (at_shards (stops state honest store shards (devices_at any devices)))
  means = (rests.rests.each read.0 is_left).3

  longer : IsLonger whole s.horizon [] s
  longer = record {
    more = [];
    are = subst (λ (l : List Entry). AreOf l s) (sym (append-nil whole)) (record { decisions = means.decided.decisions; base = means.decided.base; within = means.decided.within });
    listed = subst (AreListed s.epoch) (sym (append-nil whole)) (record {
      whole = λ j w at. rests.rests.is_log.whole j w (slice_get_taken n m.log j w at);
      new = new_taken n m.log rests.rests.is_log.new;
      given = means.decided.given;
    });
    raised = omega arith;
    within = means.decided.within;
    past = λ j x none. absurd cc;
  }

  rows_of : (k : ℕ) (found : List Record) → k < shards → Finds (left (state (devices_at any devices (shard k)).0)) (left (state (devices_at any devices (shard k)).1)) found
      → AreRowsOf shards k whole s.horizon (shard_state found)
  rows_of k found lt is =
      let rows = (means.each_shard k found lt is).means in
      let below = rows.horizon in
      let above = means.decided.above in
      let settled = rows.settled in
      record {
        learned = rows.learned;
        horizon = omega (arith, below, above);
        within = omega (arith, below, above, settled);
        whole = λ j w at. rests.rests.is_log.whole j w (slice_get_taken n m.log j w (slice_get_taken (shard_state found).learned whole j w at));
        rows = rows.rows;
      }

  rows : (k : ℕ) → k < shards → RowsAnywhere state honest shards k (slice_index_or devices (2 * k + 2) any) (slice_index_or devices (2 * k + 3) any) whole s.horizon
  rows k lt =
      let here : RowsAnywhere state honest shards k (slice_index_or devices (2 * (k + 1)) any) (slice_index_or devices (2 * (k + 1) + 1) any) whole s.horizon =
      record { honest_a = rests.sound.honest_a (shard k) lt; honest_b = rests.sound.honest_b (shard k) lt; each = λ found is. rows_of k found lt is } in
      let one : 2 * (k + 1) ≡ 2 * k + 2 = omega arith in
      let other : 2 * (k + 1) + 1 ≡ 2 * k + 3 = omega arith in
      subst (λ (i : ℕ). RowsAnywhere state honest shards k (slice_index_or devices (2 * k + 2) any) (slice_index_or devices i any) whole s.horizon) other
      (subst (λ (i : ℕ). RowsAnywhere state honest shards k (slice_index_or devices i any) (slice_index_or devices (2 * (k + 1) + 1) any) whole s.horizon) one here)

  known : found_coordinator state devices ≡ s
  known = found_is state devices any (omega (arith, count)) ∙ ap (λ o. coordinator_state (or_none o)) read.1

  rested : (n : ℕ) × (m.kept ≤ n) × (n ≤ length m.log) × IsAtRest state honest shards (take n m.log) devices × (m.horizon ≤ (found_coordinator state devices).horizon)
  rested = (
    n,
    (rests.rests.each read.0 is_left).1,
    (rests.rests.each read.0 is_left).2,
    at_rest_with state honest shards devices any count read.0 whole fresh_a fresh_b read.1 (rests.sound.honest_a coordinator tt) (rests.sound.honest_b coordinator tt)
        means.decided.decisions longer rows,
    subst (λ (c : CoordinatorState). m.horizon ≤ c.horizon) (sym known) means.decided.above,
  )

pub what_rests_is_at_rest : {D : Type 0} (state : D → State) (honest : D → Type 0) → WhatRestsIsAtRest state honest
what_rests_is_at_rest state honest store shards any devices m count fresh rests = rested state honest store shards any devices m count fresh rests
