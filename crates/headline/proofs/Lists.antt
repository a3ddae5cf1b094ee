-- Nodes in a list, and flows that are marked.
use Rattle.std.proofs.Common.{◌≡◌, ◌≢◌, ⊎_elim, ◌==◌, ◌+◌, ◌<◌, ℕ, zero, suc, Bool, true, false, List, [], ◌∷◌, length, Option, Some, None, slice_get, slice_set, refl, ap, arith, if◌then◌else◌}
use Rattle.std.proofs.lemmas.Option.{slice_get_cases}
use Rattle.headline.proofs.Words.{FlowView, IsThere, NodeName, Running, ShowsSlot, coordinator, index_of, named, reopened, shard}
use Rattle.stores.specs.Moments.{flow_at}

-- what was put in a place of a list is there
pub set_here : {X : Type 0} (xs : List X) (i : ℕ) (x v : X) → slice_get (slice_set xs i x) i ≡ Some v → v ≡ x
set_here [] i x v is = absurd cc
set_here (y ∷ ys) zero x v is = cc
set_here (y ∷ ys) (suc i) x v is = set_here ys i x v is

-- and the others are what they were
pub set_elsewhere : {X : Type 0} (xs : List X) (i j : ℕ) (x : X) → j ≢ i → slice_get (slice_set xs i x) j ≡ slice_get xs j
set_elsewhere [] i j x ne = refl
set_elsewhere (y ∷ ys) zero zero x ne = absurd (ne refl)
set_elsewhere (y ∷ ys) zero (suc j) x ne = refl
set_elsewhere (y ∷ ys) (suc i) zero x ne = refl
set_elsewhere (y ∷ ys) (suc i) (suc j) x ne = set_elsewhere ys i j x (λ is. ne (ap suc is))

-- two nodes have two places
pub places_apart : (k n : NodeName) → k ≢ n → index_of (named k) ≢ index_of (named n)
places_apart coordinator coordinator ne is = ne refl
places_apart coordinator (shard t) ne is = omega (arith, is)
places_apart (shard s) coordinator ne is = omega (arith, is)
places_apart (shard s) (shard t) ne is = let same : s ≡ t = omega (arith, is) in ne (ap shard same)

-- a node that is there has a place among the nodes
within_nodes : (shards : ℕ) (n : NodeName) → IsThere shards n → index_of (named n) < shards + 1
within_nodes shards coordinator there = omega arith
within_nodes shards (shard s) there = omega (arith, there)

pub is_somewhere : {X : Type 0} (nodes : List X) (shards : ℕ) (n : NodeName) → length nodes ≡ shards + 1 → IsThere shards n → (x : X) × (slice_get nodes (index_of (named n)) ≡ Some x)
is_somewhere nodes shards n count there = ⊎_elim
    (λ found. (found.0, found.2))
    (λ past. absurd (let low = within_nodes shards n there in omega (arith, count, low, past.0)))
    (slice_get_cases nodes (index_of (named n))).1

-- flows that are marked are shown as before
shows_marked : (r : Running) (v : Option FlowView) → ShowsSlot (Some r) v → ShowsSlot (Some (record r { is_reopened = true })) v
shows_marked r None shows = shows
shows_marked r (Some v) shows = record { asked = shows.asked; still_asked = shows.still_asked; holds = shows.holds; cancelled = shows.cancelled }

pub shows_reopened : (slot : ℕ) (running : List Running) (v : Option FlowView) → ShowsSlot (flow_at slot running) v → ShowsSlot (flow_at slot (reopened running)) v
shows_reopened slot [] v shows = shows
shows_reopened slot (r ∷ rs) v shows = by_test (r.slot == slot) (λ other. shows_reopened slot rs v other) shows
  where
    by_test : (b : Bool) → (ShowsSlot (flow_at slot rs) v → ShowsSlot (flow_at slot (reopened rs)) v) → ShowsSlot (if b then Some r else flow_at slot rs) v
        → ShowsSlot (if b then Some (record r { is_reopened = true }) else flow_at slot (reopened rs)) v
    by_test true rest here = shows_marked r v here
    by_test false rest other = rest other
