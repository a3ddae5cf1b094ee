-- A small store of one shard that is carried over to two, at rest; and devices that are not.
use Rattle.std.proofs.Common.{◌≡◌, ◌≤◌, ◌<◌, ℕ, zero, suc, false, List, [], ◌∷◌, All, None, Some, slice_get, take, refl, sym, ◌∙◌, ap, subst, arith}
use Rattle.std.proofs.lemmas.List.Elements.{All-cons, All-nil}
use Rattle.std.proofs.lemmas.Option.{same_Some}
use Rattle.reshard_laws.proofs.Words.{checkpoint_state, coordinator_empty, coordinator_node, CoordinatorMeans, CoordinatorState, devices_at, Entry, Epoch, HasRecords, IsCoordinatorImage, IsLog, left, Machine, of_shard, of_tuple, Reach, Record, RestsOver, shard, shard_first, shard_node, ShardState, State, stops, Version}
use Rattle.device.proofs.Moments.{leaves_itself, leaves_nothing_else}
use Rattle.journal.specs.Records.{Finds, found}
use Rattle.records.specs.declared.record.Record.TheVariants.{Decision}
use Rattle.records.specs.Checkpoints.{coordinator_checkpoint}
use Rattle.records.specs.Coordinators.{coordinator_state, coordinator_step}
use Rattle.records.specs.Replays.{find_in_doubt, shard_state}
use Rattle.records.proofs.CoordinatorStates.{coordinator_image_push}
use Rattle.tuples.specs.declared.change.Change.TheVariants.{Touch}
use Rattle.tuples.specs.Changes.{IsWrite}
use Rattle.tuples.specs.Log.{HoldAfter, Holds, IsLegal}
use Rattle.tuples.specs.Order.{tuple_eq}
use Rattle.tuples.specs.Parts.{expected, part, shard_of, takes_part}
use Rattle.tuples.specs.Texts.{IsTuple}
use Rattle.tuples.specs.Versions.{collected, versions}
use Rattle.tuples.proofs.Examples.{numbered, viewed}
use Rattle.versions.proofs.Alike.{alike_same}
use Rattle.reshard_laws.proofs.FirstShard.{first_is}
use Rattle.reshard_laws.proofs.Meaning.{KnowTogether, log_records, rests_over, shard_records}

-- one write of one tuple, which of two shards the second one has
abbrev write : Entry
write = numbered 1 (Touch (viewed 97) ∷ []) []

abbrev m : Machine
m = record { log = write ∷ []; kept = 1; horizon = 0 }

abbrev row : Version
row = record { place = 1; change = Touch (viewed 97) }

abbrev reach : Reach
reach = record { place = 1; horizon = 0 }

-- what the old coordinator has
abbrev records : List Record
records = Epoch 1 7 1 255 ∷ Decision 1 write ∷ []

abbrev knew : CoordinatorState
knew = record { base = 0; log = write ∷ []; horizon = 0; epoch = 1 }

knows : coordinator_state records ≡ knew
unfolding coordinator_state coordinator_step
knows = refl

image : IsCoordinatorImage (coordinator_node 7 1) records
unfolding coordinator_state coordinator_step
image = coordinator_image_push (coordinator_node 7 1) (Epoch 1 7 1 255 ∷ []) (Decision 1 write)
    (coordinator_image_push (coordinator_node 7 1) [] (Epoch 1 7 1 255) (coordinator_empty (coordinator_node 7 1))
    (record { next = omega arith; greatest = omega arith; same_store = refl; same_shards = refl; same_node = refl; coordinator = refl }))
    (record {
      opened = omega arith;
      next = omega arith;
      place_fits = omega arith;
      new = λ j v is. absurd cc;
      conditions = All-nil _;
      some_epoch = omega arith;
      epoch = omega arith;
      some_number = omega arith;
      number = omega arith;
      places = All-nil _;
    })

is_tuple : IsTuple (viewed 97)
is_tuple = record {
  object = record { namespace = record { some = omega arith; few = omega arith; each = refl }; id = record { some = omega arith; few = omega arith; each = refl } };
  relation = record { some = omega arith; few = omega arith; each = refl };
  user = record { some = omega arith; few = omega arith; each = refl };
}

is_write : IsWrite (Touch (viewed 97) ∷ []) []
is_write = record {
  some = omega arith;
  part = record {
    few_changes = omega arith;
    few_conditions = omega arith;
    distinct_changes = (refl, tt);
    distinct_conditions = tt;
    changes_spelled = All-cons IsTuple (viewed 97) [] is_tuple (All-nil IsTuple);
    conditions_spelled = All-nil IsTuple;
  };
}

-- it is the only one
only : (j : ℕ) (w : Entry) → slice_get (write ∷ []) j ≡ Some w → (write ≡ w) × (j ≡ 0)
only zero w is = (same_Some write w is, refl)
only (suc j) w is = absurd cc

is_log : IsLog (write ∷ [])
unfolding IsLegal HoldAfter
is_log = record {
  whole = λ j w is. subst (λ (e : Entry). IsWrite e.changes e.conditions) (only j w is).0 is_write;
  new = λ i j v w at_i at_j same. (only i v at_i).1 ∙ sym (only j w at_j).1;
  legal = λ j w is. subst (λ (e : Entry). All (Holds (take j (write ∷ []))) e.conditions) (only j w is).0 (All-nil (Holds (take j (write ∷ []))));
}

together : KnowTogether 7 1 m reach (row ∷ []) records
unfolding versions collected
together = record {
  is_log = is_log;
  low = omega arith;
  place = refl;
  horizon = refl;
  alike = alike_same (row ∷ []) (versions (write ∷ []) 1 0) refl;
  image = image;
  decided = subst (CoordinatorMeans (write ∷ []) 0) (sym knows)
      (record { decisions = refl; base = omega arith; above = omega arith; within = omega arith; given = λ j w is. subst (λ (e : Entry). e.id.epoch ≤ 1) (only j w is).0 (omega arith) });
  opened = subst (λ (c : CoordinatorState). 1 ≤ c.epoch) (sym knows) (omega arith);
}

-- a device that holds this content, all of it durable
abbrev holding : List ℕ → State
holding content = record { seen = content; durable = content; written = []; stopped = false; failures = 0 }

has : (x y : List ℕ) (rs : List Record) → found x y ≡ Some rs → HasRecords (holding x) (holding y) rs
has x y rs is a b in_a in_b =
    ap (λ (c : List ℕ). found c b) (leaves_nothing_else x a in_a) ∙ ap (found x) (leaves_nothing_else y b in_b) ∙ is

abbrev id : State → State
id s = s

abbrev fine : State → Type 0
fine s = Unit {0}

-- Given contents of the six devices, of which the first two have the new coordinator's records
module _ (a b c d e f : List ℕ) where
  abbrev devices : List State
  devices = holding a ∷ holding b ∷ holding c ∷ holding d ∷ holding e ∷ holding f ∷ []

  abbrev AreAtRest : Type 0
  AreAtRest = RestsOver id fine 7 2 (devices_at (holding []) devices) m

  -- and the others those of the shards: the store rests at the one write
  at_rest : found a b ≡ Some (log_records 7 1 2 m reach (row ∷ []) records together) → found c d ≡ Some (shard_records 7 1 2 m reach (row ∷ []) records together 0)
      → found e f ≡ Some (shard_records 7 1 2 m reach (row ∷ []) records together 1) → AreAtRest
  at_rest log first second = rests_over 7 1 2 m reach (row ∷ []) records together id fine (holding []) devices (λ n there. (tt, tt)) (has a b _ log) rows refl
    where
      rows : (s : ℕ) → s < 2 → HasRecords (devices_at (holding []) devices (shard s)).0 (devices_at (holding []) devices (shard s)).1 (shard_records 7 1 2 m reach (row ∷ []) records together s)
      rows zero lt = has c d _ first
      rows (suc zero) lt = has e f _ second
      rows (suc (suc s)) lt = absurd (omega (arith, lt))

  -- not if the coordinator starts over: the write's id would be given again
  from_epoch_0 : found a b ≡ Some (coordinator_checkpoint (coordinator_node 7 2) 1 (record knew { epoch = 0 })) → AreAtRest → ⊥
  from_epoch_0 log rests =
      let low = rests.given write (0, omega arith, refl) (coordinator_checkpoint (coordinator_node 7 2) 1 (record knew { epoch = 0 })) (a, b, leaves_itself a, leaves_itself b, log) in
      let epoch = ap (λ (s : CoordinatorState). s.epoch) (checkpoint_state (coordinator_node 7 2) 1 (record knew { epoch = 0 })) in
      omega (arith, low, epoch)

  -- nor if a shard tells other versions than its own: if one is left behind, or is at another shard too
  told_by : (s : ℕ) (x y : List ℕ) (rows : List Version) → s < 2 → devices_at (holding []) devices (shard s) ≡ (holding x, holding y) → found x y ≡ Some (shard_first (shard_node 7 2 s) reach rows) → AreAtRest
      → of_tuple (viewed 97) (of_shard 2 s rows) ≡ of_tuple (viewed 97) (of_shard 2 s (versions (write ∷ []) 1 0))
  told_by s x y rows lt at is rests =
      let left_of : stops id fine 7 2 (devices_at (holding []) devices) (shard s) (shard_first (shard_node 7 2 s) reach rows) =
      subst (λ (p : State × State). Finds (left p.0) (left p.1) (shard_first (shard_node 7 2 s) reach rows)) (sym at) (x, y, leaves_itself x, leaves_itself y, is) in
      let means = rests.listed s (shard_first (shard_node 7 2 s) reach rows) lt left_of in
      let state = first_is (shard_node 7 2 s) reach rows in
      sym (ap (λ (k : ShardState). of_tuple (viewed 97) k.rows) state) ∙ means.rows.each (viewed 97)
      ∙ ap (λ (k : ShardState). of_tuple (viewed 97) (of_shard 2 s (versions (write ∷ []) k.learned k.horizon))) state

  without_its_row : found e f ≡ Some (shard_first (shard_node 7 2 1) reach []) → AreAtRest → ⊥
  unfolding versions collected shard_of tuple_eq
  without_its_row second rests = let none : [] ≡ row ∷ [] = told_by 1 e f [] (omega arith) refl second rests in absurd cc

  at_the_other_too : found c d ≡ Some (shard_first (shard_node 7 2 1) reach (row ∷ [])) → AreAtRest → ⊥
  unfolding versions collected shard_of tuple_eq
  at_the_other_too first rests =
      let means = rests.listed 0 (shard_first (shard_node 7 2 1) reach (row ∷ [])) (omega arith) (c, d, leaves_itself c, leaves_itself d, first) in
      let state = first_is (shard_node 7 2 1) reach (row ∷ []) in
      let some : row ∷ [] ≡ [] = sym (ap (λ (k : ShardState). of_tuple (viewed 97) k.rows) state) ∙ means.rows.each (viewed 97)
      ∙ ap (λ (k : ShardState). of_tuple (viewed 97) (of_shard 2 0 (versions (write ∷ []) k.learned k.horizon))) state in
      absurd cc

  -- nor if it has not learned what is listed, and nothing is in doubt there
  behind_the_list : found e f ≡ Some (shard_first (shard_node 7 2 1) (record { place = 0; horizon = 0 }) []) → AreAtRest → ⊥
  unfolding expected takes_part part shard_of
  behind_the_list second rests =
      let means = rests.listed 1 (shard_first (shard_node 7 2 1) (record { place = 0; horizon = 0 }) []) (omega arith) (e, f, leaves_itself e, leaves_itself f, second) in
      let state = first_is (shard_node 7 2 1) (record { place = 0; horizon = 0 }) [] in
      let learned : (shard_state (shard_first (shard_node 7 2 1) (record { place = 0; horizon = 0 }) [])).learned ≡ 0 = ap (λ (k : ShardState). k.learned) state in
      let doubt = means.in_doubt.above 0 write refl (omega (arith, learned)) in
      let none : None ≡ expected 2 1 write = sym (ap (λ (k : ShardState). find_in_doubt write.id k.in_doubt) state) ∙ doubt in
      absurd cc
