-- What is found in devices that were just opened.
use Rattle.std.proofs.Common.{◌≡◌, ◌≤◌, ◌<◌, ◌+◌, ◌*◌, ℕ, List, [], ◌∷◌, length, Some, drop, slice_index_or, refl, sym, ◌∙◌, ap, subst, arith}
use Rattle.std.proofs.lemmas.List.{get_or_default}
use Rattle.std.proofs.lemmas.Option.{same_Some}
use Rattle.device.specs.Device.{Leaves, State, left}
use Rattle.device.specs.Disk.{IsFresh}
use Rattle.device.proofs.Moments.{leaves_itself, leaves_nothing_else}
use Rattle.journal.specs.Records.{Finds, found, or_none}
use Rattle.locked.specs.Opening.{RestAt}
use Rattle.records.specs.declared.record.Record.{Record}
use Rattle.records.specs.Coordinators.{CoordinatorState, coordinator_state}
use Rattle.ties.specs.ShardTies.{RowsAnywhere}
use Rattle.ties.specs.Ties.{Anywhere, IsLonger}
use Rattle.tuples.specs.declared.entry.Entry.{Entry}
use Rattle.locked.specs.AtRest.{IsAtRest, RestsWith, found_coordinator}

-- a stop leaves what was found, and nothing else
pub leaves_seen : (s : State) → IsFresh s.seen s → left s s.seen
leaves_seen s fresh = subst (λ (d : List ℕ). Leaves d s.written s.seen) (sym fresh.durable)
    (subst (λ (w : List (ℕ × ℕ)). Leaves s.seen w s.seen) (sym fresh.written) (leaves_itself s.seen))

pub leaves_only : (s : State) → IsFresh s.seen s → (c : List ℕ) → left s c → c ≡ s.seen
leaves_only s fresh c is = leaves_nothing_else s.seen c
    (subst (λ (w : List (ℕ × ℕ)). Leaves s.seen w c) fresh.written (subst (λ (d : List ℕ). Leaves d s.written c) fresh.durable is))

pub found_is : {D : Type 0} (state : D → State) (devices : List D) (any : D) → 2 ≤ length devices
    → found_coordinator state devices ≡ coordinator_state (or_none (found (state (slice_index_or devices 0 any)).seen (state (slice_index_or devices 1 any)).seen))
found_is state [] any le = absurd (omega (arith, le))
found_is state (a ∷ []) any le = absurd (omega (arith, le))
found_is state (a ∷ b ∷ rest) any le = refl

-- No records are found of two devices that were just opened but those that they read.
pub found_again : {D : Type 0} (state : D → State) (a b : D) (rs : List Record) → IsFresh (state a).seen (state a) → IsFresh (state b).seen (state b)
    → found (state a).seen (state b).seen ≡ Some rs → (other : List Record) → Finds (left (state a)) (left (state b)) other → rs ≡ other
found_again state a b rs fresh_a fresh_b is other finds =
    let first : finds.0 ≡ (state a).seen = leaves_only (state a) fresh_a finds.0 finds.2 in
    let second : finds.1 ≡ (state b).seen = leaves_only (state b) fresh_b finds.1 finds.3 in
    let one : found (state a).seen finds.1 ≡ Some other = subst (λ (c : List ℕ). found c finds.1 ≡ Some other) first finds.4 in
    let both : found (state a).seen (state b).seen ≡ Some other = subst (λ (d : List ℕ). found (state a).seen d ≡ Some other) second one in
    same_Some rs other (sym is ∙ both)

module _ {D : Type 0} (state : D → State) (honest : D → Type 0) (shards : ℕ) (devices : List D) (any : D) (count : length devices ≡ 2 * (shards + 1)) where
  abbrev pub coordinator_a : D
  coordinator_a = slice_index_or devices 0 any

  abbrev pub coordinator_b : D
  coordinator_b = slice_index_or devices 1 any

  -- the device stands there whatever would stand there if it were not
  same_device : (i : ℕ) (other : D) → i < length devices → slice_index_or devices i any ≡ slice_index_or devices i other
  same_device i other lt = get_or_default devices i any other lt

  -- Whoever finds the list in the coordinator's devices, and each shard's rows of it in the others, has found devices at rest.
  pub at_rest_with : (rs : List Record) (whole : List Entry) → IsFresh (state coordinator_a).seen (state coordinator_a) → IsFresh (state coordinator_b).seen (state coordinator_b)
      → found (state coordinator_a).seen (state coordinator_b).seen ≡ Some rs → honest coordinator_a → honest coordinator_b
      → (coordinator_state rs).log ≡ drop (coordinator_state rs).base whole → IsLonger whole (coordinator_state rs).horizon [] (coordinator_state rs)
      → ((k : ℕ) → k < shards → RowsAnywhere state honest shards k (slice_index_or devices (2 * k + 2) any) (slice_index_or devices (2 * k + 3) any) whole (coordinator_state rs).horizon)
      → IsAtRest state honest shards whole devices
  at_rest_with rs whole fresh_a fresh_b is honest_a honest_b log_is longer rows =
      let low : ℕ = (coordinator_state rs).horizon in
      let here : Anywhere state honest coordinator_a coordinator_b whole low [] = record {
        honest_a = honest_a;
        honest_b = honest_b;
        each = λ other finds. subst (λ (l : List Record). IsLonger whole low [] (coordinator_state l)) (found_again state coordinator_a coordinator_b rs fresh_a fresh_b is other finds) longer;
      } in
      let rest : RestAt state honest shards whole low devices = record {
        coordinator = λ other.
            subst (λ (x : D). Anywhere state honest x (slice_index_or devices 1 other) whole low []) (same_device 0 other (omega (arith, count)))
            (subst (λ (y : D). Anywhere state honest coordinator_a y whole low []) (same_device 1 other (omega (arith, count))) here);
        each_shard = λ k other lt.
            subst (λ (x : D). RowsAnywhere state honest shards k x (slice_index_or devices (2 * k + 3) other) whole low) (same_device (2 * k + 2) other (omega (arith, count, lt)))
            (subst (λ (y : D). RowsAnywhere state honest shards k (slice_index_or devices (2 * k + 2) any) y whole low) (same_device (2 * k + 3) other (omega (arith, count, lt))) (rows k lt));
      } in
      let read : found_coordinator state devices ≡ coordinator_state rs = found_is state devices any (omega (arith, count)) ∙ ap (λ o. coordinator_state (or_none o)) is in
      subst (λ (c : CoordinatorState). RestsWith state honest shards whole devices c) (sym read) (record { decisions = log_is; rests = rest })
