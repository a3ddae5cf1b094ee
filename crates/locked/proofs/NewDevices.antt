-- Of the devices of a store, node by node.
use Rattle.std.proofs.Common.{All, ◌≡◌, ◌≤◌, ◌<◌, ◌+◌, ◌*◌, suc, ℕ, List, ◌∷◌, [], slice_index_or, Result, Ok, Err, IfErr, sym, subst, arith}
use mathlib.Core.List.{IsPrefix}
use Rattle.device.specs.Device.{State}
use Rattle.locked.proofs.Words.{coordinator_number, Damaged, Entry, Identity, Refusal, RowsAnywhere, ShardsRest}
use Rattle.calls.specs.Views.{refused}
use Rattle.ties.specs.Ties.{Anywhere}
use Rattle.ties.proofs.ShardOpening.{longer_lists_stay_tied}
use Rattle.ties.proofs.Unmade.{unmade_nodes_are_tied}
use Rattle.sides.specs.Reopening.{LogReopens}
use Rattle.locked.specs.Opening.{NewDevicesRest, RefusesCoordinator, RestAt}

-- the first two are honest, and so are those after them
pub two_honest : {D : Type 0} (honest : D → Type 0) (all : List D) (a b : D) (rest : List D) → all ≡ a ∷ b ∷ rest → All honest all → honest a × honest b
two_honest {D} honest all a b rest is hon =
    let here : All honest (a ∷ b ∷ rest) = subst (λ (l : List D). All honest l) is hon in
    (here 0 a (omega arith), here 1 b (omega arith))

pub others_honest : {D : Type 0} (honest : D → Type 0) (all : List D) (a b : D) (rest : List D) → all ≡ a ∷ b ∷ rest → All honest all → All honest rest
others_honest {D} honest all a b rest is hon k any lt =
    let here : All honest (a ∷ b ∷ rest) = subst (λ (l : List D). All honest l) is hon in
    here (suc (suc k)) any (omega (arith, lt))

-- what refused the coordinator over the two that were taken refused it over the first two of all
pub first_two_refused : {D S : Type 0} (state : D → State) (honest : D → Type 0) (moment : D → ℕ) (left_since : D → ℕ → List ℕ → Type 0) (store shards : ℕ) (me : Identity) (all : List D) (a b : D) (rest : List D) (result : Result S Refusal)
    → all ≡ a ∷ b ∷ rest → me ≡ record { store = store; shards = shards; node = coordinator_number } → IfErr result (λ e. (x : D) × (y : D) × LogReopens state honest moment left_since me a b (refused e x y))
    → IfErr result (RefusesCoordinator state honest moment left_since store shards all)
first_two_refused {D} {S} state honest moment left_since store shards me all a b rest (Ok side) is same why = tt
first_two_refused {D} {S} state honest moment left_since store shards me all a b rest (Err e) is same why =
    let own : (x : D) × (y : D) × LogReopens state honest moment left_since (record { store = store; shards = shards; node = coordinator_number }) a b (refused e x y) =
    subst (λ (me : Identity). (x : D) × (y : D) × LogReopens state honest moment left_since me a b (refused e x y)) same why in
    subst (λ (l : List D). RefusesCoordinator state honest moment left_since store shards l e) (sym is) (λ any. own)

module _ {D : Type 0} (state : D → State) (honest : D → Type 0) (shards : ℕ) where
  module _ (first : List Entry) (low : ℕ) (all : List D) (a b : D) (rest : List D) (is : all ≡ a ∷ b ∷ rest) where
    -- the first two are the coordinator's
    pub coordinator_rests : RestAt state honest shards first low all → Anywhere state honest a b first low []
    coordinator_rests at = let here : RestAt state honest shards first low (a ∷ b ∷ rest) = subst (RestAt state honest shards first low) is at in here.coordinator a

    -- and after them those of the shards
    pub shards_rest : RestAt state honest shards first low all → ShardsRest state honest shards first low 0 rest
    shards_rest at k any lt =
        let here : RestAt state honest shards first low (a ∷ b ∷ rest) = subst (RestAt state honest shards first low) is at in
        let one : 2 * k + 2 ≡ suc (suc (2 * k)) = omega arith in
        let other : 2 * k + 3 ≡ suc (suc (2 * k + 1)) = omega arith in
        let moved = subst (λ (i : ℕ). RowsAnywhere state honest shards k (slice_index_or (a ∷ b ∷ rest) i any) (slice_index_or (a ∷ b ∷ rest) (2 * k + 3) any) first low) one (here.each_shard k any (omega (arith, lt))) in
        let both = subst (λ (i : ℕ). RowsAnywhere state honest shards k (slice_index_or rest (2 * k) any) (slice_index_or (a ∷ b ∷ rest) i any) first low) other moved in
        subst (λ (t : ℕ). RowsAnywhere state honest shards t (slice_index_or rest (2 * k) any) (slice_index_or rest (2 * k + 1) any) first low) (let same : k ≡ 0 + k = omega arith in same) both

    -- the next two are those of the next shard, which rests at each longer list
    pub next_shard_rests : (store s : ℕ) (seen : List Entry) (later : ℕ) → s < shards → ShardsRest state honest shards first low s all → IsPrefix first seen → low ≤ later → RowsAnywhere state honest shards s a b seen later
    next_shard_rests store s seen later lt rests pre le =
        let here : ShardsRest state honest shards first low s (a ∷ b ∷ rest) = subst (ShardsRest state honest shards first low s) is rests in
        let rows : RowsAnywhere state honest shards s a b first low = subst (λ (t : ℕ). RowsAnywhere state honest shards t a b first low) (let same : s + 0 ≡ s = omega arith in same) (here 0 a (omega (arith, lt))) in
        longer_lists_stay_tied state honest store shards s (refused Damaged a b) first seen low later rows pre le

    -- and after them those of the others
    pub others_rest : (s : ℕ) → ShardsRest state honest shards first low s all → ShardsRest state honest shards first low (s + 1) rest
    others_rest s rests k any lt =
        let here : ShardsRest state honest shards first low s (a ∷ b ∷ rest) = subst (ShardsRest state honest shards first low s) is rests in
        let one : 2 * (k + 1) ≡ suc (suc (2 * k)) = omega arith in
        let other : 2 * (k + 1) + 1 ≡ suc (suc (2 * k + 1)) = omega arith in
        let number : s + (k + 1) ≡ s + 1 + k = omega arith in
        let rows = here (k + 1) any (omega (arith, lt)) in
        let moved = subst (λ (i : ℕ). RowsAnywhere state honest shards (s + (k + 1)) (slice_index_or (a ∷ b ∷ rest) i any) (slice_index_or (a ∷ b ∷ rest) (2 * (k + 1) + 1) any) first low) one rows in
        let both = subst (λ (i : ℕ). RowsAnywhere state honest shards (s + (k + 1)) (slice_index_or rest (2 * k) any) (slice_index_or (a ∷ b ∷ rest) i any) first low) other moved in
        subst (λ (t : ℕ). RowsAnywhere state honest shards t (slice_index_or rest (2 * k) any) (slice_index_or rest (2 * k + 1) any) first low) number both

  pub new_devices_rest : NewDevicesRest state honest shards
  new_devices_rest devices count new = record {
    coordinator = λ any.
        let a = new 0 any (omega (arith, count)) in
        let b = new 1 any (omega (arith, count)) in
        (unmade_nodes_are_tied state honest (slice_index_or devices 0 any) (slice_index_or devices 1 any) a.is_honest b.is_honest a.unmade b.unmade).0;
    each_shard = λ k any lt.
        let a = new (2 * k + 2) any (omega (arith, count, lt)) in
        let b = new (2 * k + 3) any (omega (arith, count, lt)) in
        (unmade_nodes_are_tied state honest (slice_index_or devices (2 * k + 2) any) (slice_index_or devices (2 * k + 3) any) a.is_honest b.is_honest a.unmade b.unmade).1 shards k;
  }
