-- The nodes of a world after a call of one of them.
use Rattle.std.proofs.Common.{◌≡◌, ◌≢◌, ◌<◌, ◌+◌, ℕ, zero, suc, List, [], ◌∷◌, length, Some, None, slice_get, set, refl, sym, ◌∙◌, ap, arith}
use Rattle.headline.proofs.Words.{IsThere, NodeCall, NodeName, NodeView, called, coordinator, index_of, named, node_at, node_of, of_coordinator, of_shard, shard}

-- what is put at a place of a list stands there, and each other element in its own
at_place : {X : Type 0} (xs : List X) (i : ℕ) (x : X) → i < length xs → slice_get (set xs i x) i ≡ Some x
at_place [] i x lt = absurd (omega (arith, lt))
at_place (y ∷ ys) zero x lt = refl
at_place (y ∷ ys) (suc i) x lt = at_place ys i x (omega (arith, lt))

elsewhere : {X : Type 0} (xs : List X) (i j : ℕ) (x : X) → j ≢ i → slice_get (set xs i x) j ≡ slice_get xs j
elsewhere [] i j x ne = refl
elsewhere (y ∷ ys) zero zero x ne = absurd (ne refl)
elsewhere (y ∷ ys) zero (suc j) x ne = refl
elsewhere (y ∷ ys) (suc i) zero x ne = refl
elsewhere (y ∷ ys) (suc i) (suc j) x ne = elsewhere ys i j x (λ same. ne (ap suc same))

-- where a node stands among the nodes
place_of : NodeName → ℕ
place_of n = index_of (named n)

below : (shards : ℕ) (n : NodeName) → IsThere shards n → place_of n < shards + 1
unfolding place_of
below shards coordinator there = omega arith
below shards (shard s) there = omega (arith, there)

no_shard : (s : ℕ) → s + 1 ≡ 0 → ⊥
no_shard s is = omega (arith, is)

one_place : (m n : NodeName) → place_of m ≡ place_of n → m ≡ n
unfolding place_of
one_place coordinator coordinator is = refl
one_place coordinator (shard s) is = absurd (no_shard s (sym is))
one_place (shard s) coordinator is = absurd (no_shard s is)
one_place (shard s) (shard t) is = ap shard (omega (arith, is))

-- the node that a call names, as the calls say it
pub named_called : (call : NodeCall) → named (called call) ≡ node_of call
named_called (of_coordinator call) = refl
named_called (of_shard s call) = refl

-- One node stands in its place, and each other as before.
pub record IsPut {D : Type 0} (old : List (NodeView D)) (n : NodeName) (is : NodeView D) (new : List (NodeView D)) : Type 0 where
  pub here : node_at new (named n) ≡ Some is
  pub others : (m : NodeName) → m ≢ n → node_at new (named m) ≡ node_at old (named m)

pub is_put : {D : Type 0} (shards : ℕ) (old new : List (NodeView D)) (n : NodeName) (is : NodeView D) → length old ≡ shards + 1 → IsThere shards n → new ≡ set old (index_of (named n)) is → IsPut old n is new
unfolding place_of
is_put shards old new n is count there new_is = record {
  here = ap (λ (ns : List _). slice_get ns (index_of (named n))) new_is ∙ at_place old (index_of (named n)) is (omega (arith, count, below shards n there));
  others = λ m ne. ap (λ (ns : List _). slice_get ns (index_of (named m))) new_is ∙ elsewhere old (index_of (named n)) (index_of (named m)) is (λ same. ne (one_place m n same));
}

-- a node that the store has is among them
pub node_there : {D : Type 0} (shards : ℕ) (nodes : List (NodeView D)) (n : NodeName) → length nodes ≡ shards + 1 → IsThere shards n → node_at nodes (named n) ≢ None
unfolding place_of
node_there {D} shards nodes n count there none = by_list nodes (index_of (named n)) (omega (arith, count, below shards n there)) none
  where
    by_list : (ns : List (NodeView D)) (i : ℕ) → i < length ns → slice_get ns i ≡ None → ⊥
    by_list [] i lt is = omega (arith, lt)
    by_list (v ∷ ns) zero lt is = cc
    by_list (v ∷ ns) (suc i) lt is = by_list ns i (omega (arith, lt)) is
