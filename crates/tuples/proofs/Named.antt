-- Whether a list has a tuple, and which shards there are.
use Rattle.std.proofs.Common.{◌≡◌, ◌≤◌, ◌<◌, ◌+◌, ℕ, true, List, length, map, drop, sym, subst, get_or, arith, All, Decides, Contains}
use Rattle.std.proofs.lemmas.List.{drop_more}
use Rattle.std.proofs.lemmas.List.Elements.{All-cons}
use Rattle.std.specs.Cmp.{IsEquivalence}
use Rattle.std.proofs.lemmas.Cmp.{eq_by_cmp_equiv}
use Rattle.std.proofs.lemmas.List.Folds.{Any-from_list_any}
use Rattle.std.proofs.lemmas.Map.Views.{list_any-from_Contains}
use Rattle.tuples.specs.declared.object.Object.{Object}
use Rattle.tuples.specs.declared.tuple.Tuple.{Tuple}
use Rattle.tuples.specs.Order.{tuple_eq}
use Rattle.tuples.specs.Changes.{has_tuple}
use Rattle.tuples.specs.Parts.{shard_of}
use Rattle.tuples.proofs.Same.{tuple_same}
use Rattle.tuples.proofs.Ordered.{tuple_total}

pub tuple_equivalence : IsEquivalence tuple_eq
unfolding tuple_eq
tuple_equivalence = eq_by_cmp_equiv tuple_total

-- the tuple is one of these exactly if the list contains it
contained_from_has : (t : Tuple) (ts : List Tuple) → has_tuple t ts ≡ true → Contains ts t
contained_from_has t ts h =
    let found = Any-from_list_any (tuple_eq t) ts h in
    let IsThere : Tuple → Type 0 = λ u. get_or ts found.0 u ≡ u in
    (found.0, found.2, subst IsThere (sym (tuple_same t found.1 found.4)) found.3)

pub has_tuple_decides : (t : Tuple) (ts : List Tuple) → Decides (has_tuple t ts) (Contains ts t)
has_tuple_decides t ts = (contained_from_has t ts, list_any-from_Contains tuple_equivalence t ts)

pub shard_below : (shards : ℕ) (o : Object) → 1 ≤ shards → shard_of shards o < shards
unfolding shard_of
shard_below shards o some = omega arith

-- what holds of an item and of all after it holds of all from it on
pub all_from_here : {A : Type 0} (P : Tuple → Type 0) (tuple_in : A → Tuple) (items : List A) (i : ℕ) (x : A) → i < length items → P (tuple_in (get_or items i x)) → All P (map tuple_in (drop (i + 1) items)) → All P (map tuple_in (drop i items))
all_from_here P tuple_in items i x within here rest =
    subst (λ l. All P (map tuple_in l)) (sym (drop_more items i x within)) (All-cons P (tuple_in (get_or items i x)) (map tuple_in (drop (i + 1) items)) here rest)
