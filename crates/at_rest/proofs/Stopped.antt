-- What a stop left is at rest once it is found, whichever calls the nodes were within.
use Rattle.std.proofs.Common.{◌≡◌, ◌≤◌, ◌<◌, ◌+◌, ◌*◌, inl, ℕ, List, [], ◌++◌, length, All, Some, slice_index_or, sym, ◌∙◌, ap, subst, append_assoc, arith}
use Rattle.std.proofs.lemmas.List.{append-nil}
use mathlib.Core.List.{IsPrefix}
use Rattle.calls.specs.Views.{refused}
use Rattle.device.specs.Device.{State, left}
use Rattle.device.specs.Disk.{IsFresh}
use Rattle.headline.specs.Found.{AreFoundOf}
use Rattle.headline.proofs.Found.{same_records}
use Rattle.journal.specs.Records.{found, or_none}
use Rattle.locked.specs.Opening.{RestAt}
use Rattle.records.specs.declared.record.Record.{Record}
use Rattle.records.specs.Coordinators.{CoordinatorState, coordinator_state}
use Rattle.refusal.specs.declared.refusal.Refusal.TheVariants.{Damaged}
use Rattle.ties.specs.ShardTies.{RowsAnywhere}
use Rattle.ties.specs.Ties.{AreListed, AreOf, IsLonger}
use Rattle.ties.proofs.ShardOpening.{longer_lists_stay_tied}
use Rattle.tuples.specs.declared.entry.Entry.{Entry}
use Rattle.locked.specs.AtRest.{IsAtRest, found_coordinator}
use Rattle.at_rest.specs.RestingLaws.{AreReadable, IsJustOpened, WhatIsFoundIsAtRest}
use Rattle.at_rest.specs.Stopped.{AreFoundOfStopped, FindsLeft, IsFoundOfLog, IsFoundOfShard, WhatAStopLeavesIsAtRest}
use Rattle.at_rest.proofs.Found.{at_rest_with, found_is, leaves_only, leaves_seen}
use Rattle.at_rest.proofs.Moments.{log_is_longer, log_reads, shard_has_rows}

module _ {D : Type 0} (state : D → State) (honest : D → Type 0) (moment : D → ℕ) (left_since : D → ℕ → List ℕ → Type 0)
    (counts_now : (d : D) (t : ℕ) (c : List ℕ) → honest d → t ≤ moment d → left (state d) c → left_since d t c) (store shards : ℕ) where
  module _ (any : D) (first : List Entry) (low : ℕ) (devices : List D) (count : length devices ≡ 2 * (shards + 1)) (opened : All (IsJustOpened state honest) devices)
      (stopped : AreFoundOfStopped state honest moment left_since store shards any first low devices) where
    abbrev log : IsFoundOfLog state honest moment left_since store shards first low (slice_index_or devices 0 any) (slice_index_or devices 1 any)
    log = stopped.coordinator

    opened_a : IsFresh (state (slice_index_or devices 0 any)).seen (state (slice_index_or devices 0 any))
    opened_a = opened 0 any (omega (arith, count))

    opened_b : IsFresh (state (slice_index_or devices 1 any)).seen (state (slice_index_or devices 1 any))
    opened_b = opened 1 any (omega (arith, count))

    reads : (rs : List Record) × (found log.x log.y ≡ Some rs)
    reads = log_reads state honest moment left_since store shards log.x log.y first low log.tried log.was_left

    abbrev rs : List Record
    rs = reads.0

    read : found (state (slice_index_or devices 0 any)).seen (state (slice_index_or devices 1 any)).seen ≡ Some rs
    read = same_records log.x log.y (state (slice_index_or devices 0 any)).seen (state (slice_index_or devices 1 any)).seen log.finds_a.found_in log.finds_b.found_in ∙ reads.1

    abbrev now : CoordinatorState
    now = coordinator_state rs

    was_longer : IsLonger first low log.tried now
    was_longer = log_is_longer state honest moment left_since counts_now store shards log.x log.y rs reads.1 first low log.tried log.was_left

    abbrev all : List Entry
    all = first ++ was_longer.more

    no_longer : IsLonger all now.horizon [] now
    no_longer = record {
      more = [];
      are = subst (λ (l : List Entry). AreOf l now) (sym (append-nil all)) was_longer.are;
      listed = subst (AreListed now.epoch) (sym (append-nil all)) was_longer.listed;
      raised = omega arith;
      within = was_longer.are.within;
      past = λ j x none. absurd cc;
    }

    rows_found : (k : ℕ) → k < shards → RowsAnywhere state honest shards k (slice_index_or devices (2 * k + 2) any) (slice_index_or devices (2 * k + 3) any) all now.horizon
    rows_found k lt =
        let c = slice_index_or devices (2 * k + 2) any in
        let d = slice_index_or devices (2 * k + 3) any in
        let of_shard : IsFoundOfShard state honest moment left_since store shards k first low c d = stopped.each_shard k lt in
        let here : RowsAnywhere state honest shards k c d of_shard.seen of_shard.horizon = record {
          honest_a = of_shard.finds_a.is_honest;
          honest_b = of_shard.finds_b.is_honest;
          each = λ found_rs is.
              let first_is : found (state c).seen is.1 ≡ Some found_rs = subst (λ (x : List ℕ). found x is.1 ≡ Some found_rs)
              (leaves_only (state c) (opened (2 * k + 2) any (omega (arith, count, lt))) is.0 is.2) is.4 in
              let both_are : found (state c).seen (state d).seen ≡ Some found_rs = subst (λ (y : List ℕ). found (state c).seen y ≡ Some found_rs)
              (leaves_only (state d) (opened (2 * k + 3) any (omega (arith, count, lt))) is.1 is.3) first_is in
              shard_has_rows state honest moment left_since counts_now store shards of_shard.x of_shard.y found_rs
              (sym (same_records of_shard.x of_shard.y (state c).seen (state d).seen of_shard.finds_a.found_in of_shard.finds_b.found_in) ∙ both_are)
              of_shard.seen of_shard.horizon k of_shard.was_left;
        } in
        let begins : IsPrefix of_shard.seen all = (of_shard.begins.0 ++ was_longer.more, sym (append_assoc of_shard.seen of_shard.begins.0 was_longer.more) ∙ ap (λ (l : List Entry). l ++ was_longer.more) of_shard.begins.1) in
        longer_lists_stay_tied state honest store shards k (refused Damaged c d) of_shard.seen all of_shard.horizon now.horizon here begins
        (let le = of_shard.no_higher in let raised = was_longer.raised in omega (arith, le, raised))

    knows_now : found_coordinator state devices ≡ now
    knows_now = found_is state devices any (omega (arith, count)) ∙ ap (λ o. coordinator_state (or_none o)) read

    pub found_at_rest : (more : List Entry) × IsAtRest state honest shards (first ++ more) devices × (low ≤ (found_coordinator state devices).horizon)
    found_at_rest = (
      was_longer.more,
      at_rest_with state honest shards devices any count rs all opened_a opened_b read log.finds_a.is_honest log.finds_b.is_honest was_longer.are.decisions no_longer rows_found,
      subst (λ (c : CoordinatorState). low ≤ c.horizon) (sym knows_now) was_longer.raised,
    )

  pub what_a_stop_leaves_is_at_rest : WhatAStopLeavesIsAtRest state honest moment left_since store shards
  what_a_stop_leaves_is_at_rest any first low devices count opened stopped = found_at_rest any first low devices count opened stopped

-- Devices that rest at the list are those of nodes that are within no call.
module _ {D : Type 0} (state : D → State) (honest : D → Type 0) (shards : ℕ) (any : D) (first : List Entry) (low : ℕ) (olds news : List D) (count : length olds ≡ 2 * (shards + 1))
    (rests : RestAt state honest shards first low olds) (readable : AreReadable state honest (slice_index_or olds 0 any) (slice_index_or olds 1 any))
    (found_of : AreFoundOf state honest olds news) (opened : All (IsJustOpened state honest) news) where
  -- no moment of them is told from any other
  abbrev at_once : D → ℕ
  at_once d = 0

  abbrev left_now : D → ℕ → List ℕ → Type 0
  left_now d t c = left (state d) c

  abbrev old_at : ℕ → D
  old_at i = slice_index_or olds i any

  abbrev new_at : ℕ → D
  new_at i = slice_index_or news i any

  finds : (i : ℕ) → i < length olds → (x : List ℕ) × left (state (old_at i)) x × FindsLeft state honest at_once left_now 0 shards (new_at i) x
  finds i lt =
      let same = found_of.count in
      let e = (found_of.each i any lt).each (state (new_at i)).seen (leaves_seen (state (new_at i)) (opened i any (omega (arith, lt, same)))) in
      (e.0, e.1, record { is_honest = (found_of.each i any lt).is_honest; found_in = e.2 })

  of_log : IsFoundOfLog state honest at_once left_now 0 shards first low (new_at 0) (new_at 1)
  of_log =
      let a = finds 0 (omega (arith, count)) in
      let b = finds 1 (omega (arith, count)) in
      record {
        tried = [];
        x = a.0;
        y = b.0;
        was_left = inl (record { a = old_at 0; b = old_at 1; tied = (rests.coordinator any, readable); left_a = a.1; left_b = b.1 });
        finds_a = a.2;
        finds_b = b.2;
      }

  of_shard : (k : ℕ) → k < shards → IsFoundOfShard state honest at_once left_now 0 shards k first low (new_at (2 * k + 2)) (new_at (2 * k + 3))
  of_shard k lt =
      let a = finds (2 * k + 2) (omega (arith, count, lt)) in
      let b = finds (2 * k + 3) (omega (arith, count, lt)) in
      record {
        seen = first;
        horizon = low;
        begins = ([], append-nil first);
        no_higher = omega arith;
        x = a.0;
        y = b.0;
        was_left = inl (record { a = old_at (2 * k + 2); b = old_at (2 * k + 3); tied = rests.each_shard k any lt; left_a = a.1; left_b = b.1 });
        finds_a = a.2;
        finds_b = b.2;
      }

  pub rest_again : (more : List Entry) × IsAtRest state honest shards (first ++ more) news × (low ≤ (found_coordinator state news).horizon)
  rest_again = found_at_rest state honest at_once left_now (λ d t c is_honest le is. is) 0 shards any first low news (found_of.count ∙ count) opened
      (record { coordinator = of_log; each_shard = of_shard })

pub what_is_found_is_at_rest : {D : Type 0} (state : D → State) (honest : D → Type 0) → WhatIsFoundIsAtRest state honest
what_is_found_is_at_rest state honest shards any first low olds news count rests readable found_of opened = rest_again state honest shards any first low olds news count rests readable found_of opened
