-- What a stop leaves of a store at a list, and what none does.
use Rattle.std.proofs.Common.{◌≡◌, ◌≤◌, ◌<◌, ℕ, List, [], ◌++◌, length, Some, ap, length-append, arith}
use Rattle.device.specs.Device.{State, left}
use Rattle.journal.specs.Records.{found}
use Rattle.records.specs.declared.record.Record.{Record}
use Rattle.records.specs.Replays.{shard_state}
use Rattle.decisions.specs.Coordinators.{CoordinatorView}
use Rattle.ties.specs.Ties.{Attempt, IsTiedUp}
use Rattle.ties.proofs.Opening.{anywhere}
use Rattle.tuples.specs.declared.entry.Entry.{Entry}
use Rattle.at_rest.specs.Stopped.{AreReadOfLog, IsFoundOfShard}
use Rattle.at_rest.proofs.Moments.{shard_has_rows}

module _ {D : Type 0} (state : D → State) (honest : D → Type 0) (moment : D → ℕ) (left_since : D → ℕ → List ℕ → Type 0)
    (counts_now : (d : D) (t : ℕ) (c : List ℕ) → honest d → t ≤ moment d → left (state d) c → left_since d t c) (store shards : ℕ) where
  -- if a coordinator is up and tied to the list, whatever a stop leaves can be read
  up_is_read : (v : CoordinatorView D) (seen : List Entry) (low : ℕ) (tried : List Attempt) → IsTiedUp state honest v seen low tried
      → AreReadOfLog state honest moment left_since store shards seen low tried v.a v.b
  up_is_read v seen low tried tied = (anywhere state honest v seen low tried tied, λ x y in_x in_y. (v.durable, tied.running.rest x y in_x in_y))

  -- a shard that has learned a write is not of a store whose list is empty, whichever call it was within
  ahead_of_the_list : (s low : ℕ) (a b : D) (of : IsFoundOfShard state honest moment left_since store shards s [] low a b) (rs : List Record) → found of.x of.y ≡ Some rs → 0 < (shard_state rs).learned → ⊥
  ahead_of_the_list s low a b of rs is more =
      let rows = shard_has_rows state honest moment left_since counts_now store shards of.x of.y rs is of.seen of.horizon s of.was_left in
      let none : length (of.seen ++ of.begins.0) ≡ 0 = ap length of.begins.1 in
      let few = rows.learned in
      absurd (omega (arith, more, few, none, length-append of.seen of.begins.0))
