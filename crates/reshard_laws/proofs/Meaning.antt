-- What the new devices have means the list that the old store knew.
use Rattle.std.proofs.Common.{◌≡◌, ◌≤◌, ◌<◌, ◌+◌, ◌-◌, ◌*◌, ℕ, zero, suc, false, List, [], ◌∷◌, Contains, length, drop, drop-drop, get_or, slice_get, take_all, Some, refl, sym, ◌∙◌, ap, subst, arith}
use Rattle.std.proofs.lemmas.Option.{same_Some, slice_get-get_or, slice_get_within}
use Rattle.reshard_laws.proofs.Words.{AreAlike, AreHonest, AreKept, BegunView, checkpoint_state, coordinator, coordinator_node, CoordinatorMeans, CoordinatorState, devices_at, devices_of, Entry, greatest_number, HasAt, HasRecords, IsCoordinatorImage, IsLog, IsShardImage, left, Machine, NodeName, of_shard, Reach, Record, RestsOver, shard, shard_first, shard_node, slice_get_taken, State, stops, Version}
use Rattle.journal.specs.Records.{found as journal_found}
use Rattle.laws.specs.Nodes.{IsThere}
use Rattle.laws.specs.Shards.{ShardMeans}
use Rattle.laws.specs.Worlds.{AreGivenInDoubt, IsMeaning, Means}
use Rattle.laws.proofs.CoordinatorStates.{end_is_length}
use Rattle.records.specs.Checkpoints.{coordinator_checkpoint}
use Rattle.records.specs.Coordinators.{coordinator_state}
use Rattle.records.specs.Replays.{shard_state}
use Rattle.recovery.proofs.Checkpoints.{checkpoints_stand}
use Rattle.recovery.proofs.Known.{image_known}
use Rattle.recovery.specs.Checkpoints.{above_horizon}
use Rattle.replay.proofs.Rising.{kept_alike}
use Rattle.tuples.specs.Versions.{versions}
use Rattle.stores.specs.Stands.{at_shards}
use Rattle.versions.proofs.Alike.{alike_sym}
use Rattle.reshard_laws.proofs.FirstLog.{first_log}
use Rattle.reshard_laws.proofs.FirstShard.{first_image, first_is}
use Rattle.reshard_laws.proofs.Rows.{own_alike, versions_kept}

-- ---- the devices of nodes, one after another

two_each : {D : Type 0} (nodes : List (BegunView D)) → length (devices_of nodes) ≡ 2 * length nodes
two_each [] = refl
two_each (n ∷ nodes) = let rest = two_each nodes in omega (arith, rest)

first_of : {D : Type 0} (any : D) (none : BegunView D) (nodes : List (BegunView D)) (i : ℕ) → i < length nodes → get_or (devices_of nodes) (2 * i) any ≡ (get_or nodes i none).a
first_of any none [] i lt = absurd (omega (arith, lt))
first_of any none (n ∷ nodes) zero lt = refl
first_of any none (n ∷ nodes) (suc i) lt =
    ap (λ (j : ℕ). get_or (devices_of (n ∷ nodes)) j any) (let twice : 2 * suc i ≡ suc (suc (2 * i)) = omega arith in twice) ∙ first_of any none nodes i (omega (arith, lt))

second_of : {D : Type 0} (any : D) (none : BegunView D) (nodes : List (BegunView D)) (i : ℕ) → i < length nodes → get_or (devices_of nodes) (2 * i + 1) any ≡ (get_or nodes i none).b
second_of any none [] i lt = absurd (omega (arith, lt))
second_of any none (n ∷ nodes) zero lt = refl
second_of any none (n ∷ nodes) (suc i) lt =
    ap (λ (j : ℕ). get_or (devices_of (n ∷ nodes)) j any) (let twice : 2 * suc i + 1 ≡ suc (suc (2 * i + 1)) = omega arith in twice) ∙ second_of any none nodes i (omega (arith, lt))

contains_at : (xs : List Entry) (w : Entry) → Contains xs w → (j : ℕ) × (slice_get xs j ≡ Some w)
contains_at xs w (j, lt, is) = (j, slice_get-get_or xs j w lt ∙ ap (λ (x : Entry). Some x) is)

-- ---- what is known, to be written

-- What a coordinator and the shards of a store know together of a list: the coordinator's records, those of all rows, and how far they reach.
pub record KnowTogether (store old_shards : ℕ) (m : Machine) (reach : Reach) (rows : List Version) (records : List Record) : Type 0 where
  pub is_log : IsLog m.log
  pub low : m.horizon ≤ length m.log
  pub place : reach.place ≡ length m.log
  pub horizon : reach.horizon ≡ m.horizon
  pub alike : AreAlike rows (versions m.log reach.place reach.horizon)
  pub image : IsCoordinatorImage (coordinator_node store old_shards) records
  pub decided : CoordinatorMeans m.log m.horizon (coordinator_state records)
  pub opened : 1 ≤ (coordinator_state records).epoch

module _ (store old_shards shards : ℕ) (m : Machine) (reach : Reach) (rows : List Version) (records : List Record) (k : KnowTogether store old_shards m reach rows records) where
  abbrev knew : CoordinatorState
  knew = coordinator_state records

  -- the coordinator's first records
  abbrev pub log_records : List Record
  log_records = coordinator_checkpoint (coordinator_node store shards) 1 knew

  pub log_state : coordinator_state log_records ≡ above_horizon knew
  log_state = checkpoint_state (coordinator_node store shards) 1 knew

  log_image : IsCoordinatorImage (coordinator_node store shards) log_records
  log_image = first_log (coordinator_node store old_shards) (coordinator_node store shards) knew refl
      (checkpoints_stand (coordinator_node store old_shards) records 1 k.image k.opened (omega arith) (omega arith)).image

  behind_horizon : drop (knew.horizon - knew.base) knew.log ≡ drop knew.horizon m.log
  behind_horizon =
      let low = k.decided.base in
      ap (drop (knew.horizon - knew.base)) k.decided.decisions ∙ drop-drop (knew.horizon - knew.base) knew.base m.log
      ∙ ap (λ (n : ℕ). drop n m.log) (let sum : knew.base + (knew.horizon - knew.base) ≡ knew.horizon = omega (arith, low) in sum)

  log_means : CoordinatorMeans m.log m.horizon (coordinator_state log_records)
  log_means = subst (CoordinatorMeans m.log m.horizon) (sym log_state)
      (record { decisions = behind_horizon; base = omega arith; above = k.decided.above; within = k.decided.within; given = k.decided.given })

  fits : reach.place ≤ greatest_number
  fits =
      let known = image_known (coordinator_node store old_shards) records k.image in
      let few = known.fits in
      let end = end_is_length m.log m.horizon knew k.decided in
      let place = k.place in
      omega (arith, few, end, place)

  low : reach.horizon ≤ reach.place
  low = let a = k.low in let b = k.place in let c = k.horizon in omega (arith, a, b, c)

  -- a shard's first records
  abbrev pub shard_records : ℕ → List Record
  shard_records s = shard_first (shard_node store shards s) reach rows

  own_alike_here : (s : ℕ) → AreAlike (of_shard shards s rows) (of_shard shards s (versions m.log reach.place reach.horizon))
  own_alike_here s = own_alike shards s rows (versions m.log reach.place reach.horizon) k.alike

  own_kept : (s : ℕ) → AreKept (shard_node store shards s) reach.place (of_shard shards s rows)
  own_kept s =
      let place = k.place in
      kept_alike (shard_node store shards s) reach.place (of_shard shards s (versions m.log reach.place reach.horizon)) (of_shard shards s rows) (alike_sym (own_alike_here s))
      (versions_kept (shard_node store shards s) m.log reach.place reach.horizon (omega (arith, place)) (λ j w at. k.is_log.whole j w (slice_get_taken reach.place m.log j w at)))

  shard_image : (s : ℕ) → IsShardImage (shard_node store shards s) (shard_records s)
  shard_image s = first_image (shard_node store shards s) reach rows low fits (own_kept s)

  shard_means : (s horizon : ℕ) → horizon ≤ reach.place → ShardMeans shards s m.log horizon m.horizon (shard_state (shard_records s))
  shard_means s horizon settled = subst (ShardMeans shards s m.log horizon m.horizon) (sym (first_is (shard_node store shards s) reach rows)) (record {
    learned = (let a = k.place in omega (arith, a));
    horizon = (let a = k.horizon in omega (arith, a));
    rows = own_alike_here s;
    settled = settled;
    in_doubt = record {
      above = λ j w at le. absurd (let a = slice_get_within m.log j w at in let b = k.place in omega (arith, a, b, le));
      below = λ j w at lt. refl;
    };
  })

  none_in_doubt : (s epoch : ℕ) → AreGivenInDoubt epoch (shard_state (shard_records s))
  none_in_doubt s epoch = subst (AreGivenInDoubt epoch) (sym (first_is (shard_node store shards s) reach rows)) (λ id w is. absurd cc)

  settled_here : (coordinator_state log_records).horizon ≤ reach.place
  settled_here = let a = log_means.within in let b = k.place in omega (arith, a, b)

  -- ---- over devices that have it

  module _ {D : Type 0} (state : D → State) (honest : D → Type 0) (any : D) (made : List D)
      (honest_both : (n : NodeName) → IsThere shards n → honest (devices_at any made n).0 × honest (devices_at any made n).1)
      (has_log : HasRecords (state (devices_at any made coordinator).0) (state (devices_at any made coordinator).1) log_records)
      (has_rows : (s : ℕ) → s < shards → HasRecords (state (devices_at any made (shard s)).0) (state (devices_at any made (shard s)).1) (shard_records s)) where
    abbrev leaves_of : NodeName → List Record → Type 0
    leaves_of = stops state honest store shards (devices_at any made)

    pub only_log : (found : List Record) → leaves_of coordinator found → found ≡ log_records
    only_log found (a, b, in_a, in_b, is) = same_Some found log_records (sym is ∙ has_log a b in_a in_b)

    only_rows : (s : ℕ) (found : List Record) → s < shards → leaves_of (shard s) found → found ≡ shard_records s
    only_rows s found lt (a, b, in_a, in_b, is) = same_Some found (shard_records s) (sym is ∙ has_rows s lt a b in_a in_b)

    reads : (n : NodeName) (a b : List ℕ) → IsThere shards n → left (state (devices_at any made n).0) a → left (state (devices_at any made n).1) b → (rs : List Record) × (journal_found a b ≡ Some rs)
    reads coordinator a b there in_a in_b = (log_records, has_log a b in_a in_b)
    reads (shard s) a b there in_a in_b = (shard_records s, has_rows s there a b in_a in_b)

    meaning : (s : ℕ) (found : List Record) → s < shards → leaves_of (shard s) found → IsMeaning store shards s m.log m.horizon (coordinator_state log_records) found
    meaning s found lt is = subst (IsMeaning store shards s m.log m.horizon (coordinator_state log_records)) (sym (only_rows s found lt is)) (record {
      image = shard_image s;
      means = shard_means s (coordinator_state log_records).horizon settled_here;
      given = none_in_doubt s (coordinator_state log_records).epoch;
    })

    means : Means store shards m.log m.horizon log_records (at_shards leaves_of)
    means = record { image = log_image; decided = log_means; each_shard = meaning }

    pub rests_over : m.kept ≡ length m.log → RestsOver state honest store shards (devices_at any made) m
    rests_over all_kept = record {
      sound = record { honest_a = λ n there. (honest_both n there).0; honest_b = λ n there. (honest_both n there).1; readable = reads };
      rests = record {
        is_log = k.is_log;
        horizon = (let a = k.low in omega (arith, a, all_kept));
        within = omega (arith, all_kept);
        each = λ found is. (
          length m.log,
          omega (arith, all_kept),
          omega arith,
          subst (λ (l : List Entry). Means store shards l m.horizon found (at_shards leaves_of)) (sym (take_all (length m.log) m.log (omega arith)))
              (subst (λ (rs : List Record). Means store shards m.log m.horizon rs (at_shards leaves_of)) (sym (only_log found is)) means),
        );
      };
      listed = λ s found lt is. subst (λ (rs : List Record). ShardMeans shards s m.log m.horizon m.horizon (shard_state rs)) (sym (only_rows s found lt is)) (shard_means s m.horizon (let a = k.low in let b = k.place in omega (arith, a, b)));
      given = λ w has found is.
          let at = contains_at m.log w has in
          subst (λ (rs : List Record). w.id.epoch ≤ (coordinator_state rs).epoch) (sym (only_log found is)) (log_means.given at.0 w at.1);
    }

    pub epoch_same : (found : List Record) → leaves_of coordinator found → (coordinator_state found).epoch ≡ knew.epoch
    epoch_same found is = ap (λ (rs : List Record). (coordinator_state rs).epoch) (only_log found is) ∙ ap (λ (c : CoordinatorState). c.epoch) log_state

-- ---- the devices that were made

module _ {D : Type 0} (state : D → State) (honest : D → Type 0) (any : D) (shards : ℕ) (nodes : List (BegunView D)) (count : length nodes ≡ shards + 1) (are_honest : AreHonest honest nodes) where
  abbrev none : BegunView D
  none = record { a = any; b = any; is_open = false }

  abbrev place_of : NodeName → ℕ
  place_of coordinator = 0
  place_of (shard s) = s + 1

  pub made_count : length (devices_of nodes) ≡ 2 * (shards + 1)
  made_count = let e = two_each nodes in omega (arith, e, count)

  there : (n : NodeName) → IsThere shards n → place_of n < length nodes
  there coordinator is = omega (arith, count)
  there (shard s) is = omega (arith, count, is)

  first_is_of : (n : NodeName) → IsThere shards n → (devices_at any (devices_of nodes) n).0 ≡ (get_or nodes (place_of n) none).a
  first_is_of coordinator is = first_of any none nodes 0 (there coordinator is)
  first_is_of (shard s) is = first_of any none nodes (s + 1) (there (shard s) is)

  second_is_of : (n : NodeName) → IsThere shards n → (devices_at any (devices_of nodes) n).1 ≡ (get_or nodes (place_of n) none).b
  second_is_of coordinator is = second_of any none nodes 0 (there coordinator is)
  second_is_of (shard s) is = second_of any none nodes (s + 1) (there (shard s) is)

  pub honest_made : (n : NodeName) → IsThere shards n → honest (devices_at any (devices_of nodes) n).0 × honest (devices_at any (devices_of nodes) n).1
  honest_made n is =
      let here = are_honest (place_of n) none (there n is) in
      (subst honest (sym (first_is_of n is)) here.0, subst honest (sym (second_is_of n is)) here.1)

  pub has_made : (n : NodeName) (rs : List Record) → IsThere shards n → HasAt state nodes (place_of n) rs → HasRecords (state (devices_at any (devices_of nodes) n).0) (state (devices_at any (devices_of nodes) n).1) rs
  has_made n rs is has =
      subst (λ (d : D). HasRecords (state d) (state (devices_at any (devices_of nodes) n).1) rs) (sym (first_is_of n is))
      (subst (λ (d : D). HasRecords (state (get_or nodes (place_of n) none).a) (state d) rs) (sym (second_is_of n is))
      (has (get_or nodes (place_of n) none) (slice_get-get_or nodes (place_of n) none (there n is))))
