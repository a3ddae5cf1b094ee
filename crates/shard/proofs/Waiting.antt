-- Prepares that are staged, and those that are durable.
use Rattle.std.proofs.Common.{◌≡◌, ⊎_elim, Bool, true, false, not, List, [], ◌∷◌, ◌++◌, Option, Some, None, MatchOption, Contains, refl, sym, ◌∙◌, ap, arith, Bor}
use Rattle.std.specs.Option.{is_some}
use Rattle.std.proofs.lemmas.Bool.{or_parts, or_cases, both_ways}
use Rattle.std.proofs.lemmas.List.Elements.{Contains-append_right}
use Rattle.tuples.specs.declared.entry.Entry.{Entry}
use Rattle.tuples.specs.declared.entry.WriteId.{WriteId}
use Rattle.tuples.specs.Log.{same_id}
use Rattle.records.specs.declared.record.PlacedId.{PlacedId}
use Rattle.records.specs.declared.record.Record.{Record}
use Rattle.records.specs.declared.record.Record.TheVariants.{Prepare, Learned, Dropped, Epoch, Decision, Horizon, Checkpoint}
use Rattle.records.specs.Replays.{ShardState, empty_shard, find_in_doubt, shard_from, shard_state, shard_step, without, without_placed_ids}
use Rattle.replay.proofs.Doubts.{cases_id, find_put, find_without_other, find_without_same, same_id_refl, same_id_true}
use Rattle.replay.proofs.States.{shard_from-append}
use Rattle.device.specs.Device.{State, left}
use Rattle.journal.specs.Records.{Finds, HasRecords}
pub use Rattle.shard.specs.Keeping.{has_id}
use Rattle.shard.specs.Keeping.{prepared_ids}
use Rattle.shard.specs.Shards.{IsDurable, IsUp, ShardView, memory}

pub still_without : (id other : WriteId) (ws : List Entry) (p : Entry) → find_in_doubt id (without other ws) ≡ Some p → find_in_doubt id ws ≡ Some p
still_without id other ws p is = ⊎_elim
    (λ (same : id ≡ other). let gone : None ≡ Some p = sym (find_without_same id ws) ∙ ap (λ (i : WriteId). find_in_doubt id (without i ws)) same ∙ is in absurd cc)
    (λ ne. sym (find_without_other id other ws ne) ∙ is)
    (cases_id id other)

pub still_placed_ids : (id : WriteId) (placed_ids : List PlacedId) (ws : List Entry) (p : Entry) → find_in_doubt id (without_placed_ids placed_ids ws) ≡ Some p → find_in_doubt id ws ≡ Some p
still_placed_ids id [] ws p is = is
still_placed_ids id (q ∷ placed_ids) ws p is = still_without id q.id ws p (still_placed_ids id placed_ids (without q.id ws) p is)

-- what is in doubt and not prepared by these records was in doubt before them
still : (s : ShardState) (id : WriteId) (rs : List Record) (p : Entry) → has_id id (prepared_ids rs) ≡ false → find_in_doubt id (shard_from s rs).in_doubt ≡ Some p → find_in_doubt id s.in_doubt ≡ Some p
unfolding shard_step
still s id [] p none is = is
still s id (Prepare w ∷ rs) p none is =
    let parts = or_parts (same_id w.id id) (has_id id (prepared_ids rs)) none in
    let ne : w.id ≡ id → ⊥ = λ same. both_ways (same_id w.id id) parts.0 (ap (λ (i : WriteId). same_id w.id i) (sym same) ∙ same_id_refl w.id) in
    sym (find_put id s.in_doubt w ne) ∙ still (shard_step s (Prepare w)) id rs p parts.1 is
still s id (Learned to placed_ids ∷ rs) p none is = still_placed_ids id placed_ids s.in_doubt p (still (shard_step s (Learned to placed_ids)) id rs p none is)
still s id (Dropped other ∷ rs) p none is = still_without id other s.in_doubt p (still (shard_step s (Dropped other)) id rs p none is)
still s id (Epoch epoch store shards node ∷ rs) p none is = still (shard_step s (Epoch epoch store shards node)) id rs p none is
still s id (Decision place w ∷ rs) p none is = still (shard_step s (Decision place w)) id rs p none is
still s id (Checkpoint mark ∷ rs) p none is = still (shard_step s (Checkpoint mark)) id rs p none is
still s id (Horizon place ∷ rs) p none is = still (shard_step s (Horizon place)) id rs p none is

-- a write in doubt whose prepare is not staged is in doubt by the durable records
pub durable_found : (durable staged : List Record) (id : WriteId) (p : Entry) → has_id id (prepared_ids staged) ≡ false
    → find_in_doubt id (shard_state (durable ++ staged)).in_doubt ≡ Some p → find_in_doubt id (shard_state durable).in_doubt ≡ Some p
unfolding shard_state
durable_found durable staged id p none is =
    still (shard_from empty_shard durable) id staged p none (ap (λ (s : ShardState). find_in_doubt id s.in_doubt) (sym (shard_from-append empty_shard durable staged)) ∙ is)

later_one : (r : Record) (rs : List Record) (id : WriteId) → ((w : Entry) × (w.id ≡ id) × Contains rs (Prepare w)) → (w : Entry) × (w.id ≡ id) × Contains (r ∷ rs) (Prepare w)
later_one r rs id there = (there.0, there.1, Contains-append_right (r ∷ []) rs (Prepare there.0) there.2)

-- an id that these records prepare has its prepare among them
pub waiting : (rs : List Record) (id : WriteId) → has_id id (prepared_ids rs) ≡ true → (w : Entry) × (w.id ≡ id) × Contains rs (Prepare w)
waiting [] id has = absurd cc
waiting (Prepare w ∷ rs) id has = ⊎_elim
    (λ here. (w, same_id_true w.id id here, (0, omega arith, refl)))
    (λ there. later_one (Prepare w) rs id (waiting rs id there))
    (or_cases (same_id w.id id) (has_id id (prepared_ids rs)) has)
waiting (Learned to placed_ids ∷ rs) id has = later_one (Learned to placed_ids) rs id (waiting rs id has)
waiting (Dropped other ∷ rs) id has = later_one (Dropped other) rs id (waiting rs id has)
waiting (Epoch epoch store shards node ∷ rs) id has = later_one (Epoch epoch store shards node) rs id (waiting rs id has)
waiting (Decision place w ∷ rs) id has = later_one (Decision place w) rs id (waiting rs id has)
waiting (Checkpoint mark ∷ rs) id has = later_one (Checkpoint mark) rs id (waiting rs id has)
waiting (Horizon place ∷ rs) id has = later_one (Horizon place) rs id (waiting rs id has)

-- what a stop may leave are the records that every stop leaves
only_records : {D : Type 0} (state : D → State) (a b : D) (durable rs : List Record) → HasRecords (state a) (state b) durable → Finds (left (state a)) (left (state b)) rs → durable ≡ rs
only_records state a b durable rs has finds =
    let one : Some durable ≡ Some rs = sym (has finds.0 finds.1 finds.2 finds.3) ∙ finds.4 in cc

pub durable_prepare : {D : Type 0} (state : D → State) (a b : D) (durable : List Record) (id : WriteId) (p : Entry) → HasRecords (state a) (state b) durable
    → find_in_doubt id (shard_state durable).in_doubt ≡ Some p → (rs : List Record) → Finds (left (state a)) (left (state b)) rs → find_in_doubt id (shard_state rs).in_doubt ≡ Some p
durable_prepare state a b durable id p has is rs finds =
    ap (λ (l : List Record). find_in_doubt id (shard_state l).in_doubt) (sym (only_records state a b durable rs has finds)) ∙ is

pub is_durable : {D : Type 0} (state : D → State) (honest : D → Type 0) (v : ShardView D) (id : WriteId) (p : Entry) → IsUp state honest v → has_id id (prepared_ids v.staged) ≡ false
    → find_in_doubt id (memory v).in_doubt ≡ Some p → IsDurable state v id p
is_durable state honest v id p up none is =
    durable_prepare state v.a v.b v.durable id p up.rest (durable_found v.durable v.staged id p none is)

-- what a look-up found
pub found_one : (id : WriteId) (ws : List Entry) (o : Option (Bor Entry)) → MatchOption o (find_in_doubt id ws ≡ None) (λ w. find_in_doubt id ws ≡ Some w.now) → {none : Bool} → is_some o ≡ not none → none ≡ false
    → (p : Entry) × (find_in_doubt id ws ≡ Some p)
found_one id ws None is {none} e some = absurd (let same : false ≡ true = e ∙ ap not some in cc)
found_one id ws (Some w) is e some = (w.now, is)
