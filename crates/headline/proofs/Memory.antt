-- What a store shows of a node that was opened: its name, and what lies in its memory alone.
use Rattle.std.proofs.Common.{◌≡◌, ◌≢◌, ⊎_elim, ℕ, List, refl, sym, ◌∙◌, subst}
use Rattle.headline.proofs.Words.{IsNamed, NodeName, NodeView, Opens, Reopened, ShowsMemory, State, Store, coordinator, devices_of, named, shard, shown}
use Rattle.calls.specs.Views as views
use Rattle.headline.proofs.Places.{in_place}
use Rattle.headline.proofs.Stepped.{given_behind, ids_behind}

-- what a coordinator shows of its memory is the same of any store with the same
pub same_memory : {D : Type 0} (v : NodeView D) (old new : Store D) → new.open_ids ≡ old.open_ids → new.given ≡ old.given → ShowsMemory v old → ShowsMemory v new
same_memory (views.coordinator v) old new ids given shows = (ids ∙ shows.0, given ∙ shows.1)
same_memory (views.shard v) old new ids given shows = tt
same_memory (views.refused e a b) old new ids given shows = tt

-- and a shard shows nothing of it
pub shard_memory : {D : Type 0} (store shards t : ℕ) (v : NodeView D) (s : Store D) → IsNamed store shards v (shard t) → ShowsMemory v s
shard_memory store shards t (views.coordinator v) s named = absurd named
shard_memory store shards t (views.shard v) s named = tt
shard_memory store shards t (views.refused e a b) s named = tt

-- a store after the opening of one of its nodes
abbrev pub with_node : {D : Type 0} → Store D → NodeName → NodeView D → Store D
with_node s n is = record {
  devices = in_place n (devices_of is) s.devices;
  at = in_place n (shown is) s.at;
  open_ids = ids_behind n s.open_ids;
  given = given_behind n is s.given;
  flows = s.flows;
}

-- the other nodes' memory is as before
pub memory_elsewhere : {D : Type 0} (store shards : ℕ) (k n : NodeName) (v is : NodeView D) (s : Store D) → k ≢ n → IsNamed store shards v k → ShowsMemory v s → ShowsMemory v (with_node s n is)
memory_elsewhere store shards coordinator coordinator v is s ne named shows = absurd (ne refl)
memory_elsewhere store shards coordinator (shard t) v is s ne named shows = same_memory v s (with_node s (shard t) is) refl refl shows
memory_elsewhere store shards (shard k) n v is s ne named shows = shard_memory store shards k v (with_node s n is) named

module _ {D : Type 0} (state : D → State) (honest : D → Type 0) (moment : D → ℕ) (left_since : D → ℕ → List ℕ → Type 0) (store shards : ℕ) where
  -- the node that was opened has its name, and a store after the opening shows its memory
  is_named : (n : NodeName) (a b : D) (is : NodeView D) → Opens state honest moment left_since store shards (named n) a b is → IsNamed store shards is n
  is_named coordinator a b (views.coordinator v) o = o.fresh.2
  is_named coordinator a b (views.shard v) o = absurd o
  is_named coordinator a b (views.refused e x y) o = tt
  is_named (shard s) a b (views.coordinator v) o = absurd o
  is_named (shard s) a b (views.shard v) o = o.fresh.2
  is_named (shard s) a b (views.refused e x y) o = tt

  memory_shown : (n : NodeName) (a b : D) (is : NodeView D) (s : Store D) → Opens state honest moment left_since store shards (named n) a b is → ShowsMemory is (with_node s n is)
  memory_shown coordinator a b (views.coordinator v) s o = (sym o.fresh.3, refl)
  memory_shown coordinator a b (views.shard v) s o = absurd o
  memory_shown coordinator a b (views.refused e x y) s o = tt
  memory_shown (shard t) a b (views.coordinator v) s o = absurd o
  memory_shown (shard t) a b (views.shard v) s o = tt
  memory_shown (shard t) a b (views.refused e x y) s o = tt

  pub opened_node : (n : NodeName) (a b : D) (is : NodeView D) (s : Store D) → Reopened state honest moment left_since store shards (named n) a b is
      → IsNamed store shards is n × ShowsMemory is (with_node s n is)
  opened_node n a b is s r = ⊎_elim
      (λ found. (is_named n r.a r.b is found.2, memory_shown n r.a r.b is s found.2))
      (λ failed. subst (λ (v : NodeView D). IsNamed store shards v n × ShowsMemory v (with_node s n v)) (sym failed.0) (tt, tt))
      r.opens
