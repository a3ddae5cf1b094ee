-- The rows of the shards, one after another, are those that a tupleset selects of the whole list.
use Rattle.std.proofs.Common.{◌≡◌, ◌⊎◌, inl, inr, ⊎_elim, ◌==◌, ℕ, true, false, ◌≤◌, ◌<◌, ◌+◌, nat_lt, List, [], take, sym, ◌∙◌, ap, arith}
use Rattle.std.proofs.lemmas.Bool.{and_from, and_parts, both_ways, cases_Bool, cases_lt, eq-eqb, eqb-true, lt-ltb, ltb-true}
use Rattle.std.proofs.lemmas.List.{take-take}
use Rattle.std.specs.List.{flat_map}
use Rattle.std.specs.Ordering.{is_eq}
use Rattle.tuples.specs.declared.entry.Entry.{Entry}
use Rattle.tuples.specs.declared.tuple.Tuple.{Tuple}
use Rattle.tuples.specs.declared.tupleset.Tupleset.{Tupleset}
use Rattle.tuples.specs.declared.tupleset.Tupleset.TheVariants.{Key, OfObject, OfUser}
use Rattle.tuples.specs.Log.{is_at, there_after}
use Rattle.tuples.specs.Order.{object_cmp}
use Rattle.tuples.specs.Parts.{shard_of}
use Rattle.tuples.specs.Reads.{IsSelection, has_relation, meets}
use Rattle.tuples.proofs.Named.{shard_below}
use Rattle.tuples.proofs.Same.{object_same, tuple_same}
use Rattle.decisions.specs.Merging.{IsMerged, NeedsOnly}
use Rattle.laws.specs.Shards.{there_below, there_of}

-- what meets a tupleset of one object has that object's shard
meets_there : (shards s : ℕ) (q : Tupleset) (t : Tuple) → NeedsOnly shards q s → meets q t ≡ true → shard_of shards t.object ≡ s
meets_there shards s (Key k) t needs is = ap (λ (u : Tuple). shard_of shards u.object) (tuple_same t k is) ∙ sym needs
meets_there shards s (OfObject o relation) t needs is = ap (shard_of shards) (object_same t.object o (and_parts (is_eq (object_cmp t.object o)) (has_relation relation t) is).0) ∙ sym needs
meets_there shards s (OfUser n u relation) t needs is = absurd needs

pub one_shard_is_enough : (shards s : ℕ) (log : List Entry) (place : ℕ) (q : Tupleset) (rows : List Tuple) → NeedsOnly shards q s
    → IsSelection (there_of shards s log place) q rows → IsSelection (is_at log place) q rows
one_shard_is_enough shards s log place q rows needs selects = record {
  ascending = selects.ascending;
  exact = λ t. (
    λ has. let is = (selects.exact t).0 has in ((and_parts (is_at log place t) (shard_of shards t.object == s) is.0).0, is.1),
    λ is. (selects.exact t).1 (and_from (is_at log place t) (shard_of shards t.object == s) is.0 (eq-eqb (shard_of shards t.object) s (meets_there shards s q t needs is.1)), is.1),
  );
}

-- what is at a place is what was so among the first writes, up to that place or further
pub first_writes : (log : List Entry) (n place : ℕ) → place ≤ n → (t : Tuple) → is_at (take n log) place t ≡ is_at log place t
unfolding is_at
first_writes log n place le t = ap (λ (l : List Entry). there_after t false (flat_map (λ (v : Entry). v.changes) l)) (take-take place n log le)

module _ (shards : ℕ) (log : List Entry) (place : ℕ) (q : Tupleset) where
  -- nothing is selected of the shards below the first
  pub none_below : IsSelection (there_below shards 0 log place) q []
  none_below = record {
    ascending = tt;
    exact = λ t. (
      λ has. absurd (omega (arith, has.1)),
      λ is. let lt : shard_of shards t.object < 0 = ltb-true _ _ (and_parts (is_at log place t) (nat_lt (shard_of shards t.object) 0) is.0).1 in absurd (omega (arith, lt)),
    );
  }

  -- with the rows of the next shard they are those of the shards up to it
  module _ (below : ℕ) (rows more merged : List Tuple) (old : IsSelection (there_below shards below log place) q rows) (selects : IsSelection (there_of shards below log place) q more) (merges : IsMerged rows more merged) where
    wider : (t : Tuple) → there_below shards below log place t ≡ true → there_below shards (below + 1) log place t ≡ true
    wider t is =
        let parts = and_parts (is_at log place t) (nat_lt (shard_of shards t.object) below) is in
        let lt : shard_of shards t.object < below = ltb-true _ _ parts.1 in
        and_from (is_at log place t) (nat_lt (shard_of shards t.object) (below + 1)) parts.0 (lt-ltb _ _ (omega (arith, lt)))

    this : (t : Tuple) → there_of shards below log place t ≡ true → there_below shards (below + 1) log place t ≡ true
    this t is =
        let parts = and_parts (is_at log place t) (shard_of shards t.object == below) is in
        let same : shard_of shards t.object ≡ below = eqb-true _ _ parts.1 in
        and_from (is_at log place t) (nat_lt (shard_of shards t.object) (below + 1)) parts.0 (lt-ltb _ _ (omega (arith, same)))

    -- a tuple of the shards below the next number is of one below this, or of this shard
    one_of : (t : Tuple) → there_below shards (below + 1) log place t ≡ true → (there_below shards below log place t ≡ true) ⊎ (there_of shards below log place t ≡ true)
    one_of t is =
        let parts = and_parts (is_at log place t) (nat_lt (shard_of shards t.object) (below + 1)) is in
        let lt : shard_of shards t.object < below + 1 = ltb-true _ _ parts.1 in
        ⊎_elim
        (λ its. inr (and_from (is_at log place t) (shard_of shards t.object == below) parts.0 its))
        (λ other. inl (and_from (is_at log place t) (nat_lt (shard_of shards t.object) below) parts.0 (lt-ltb _ _ (less t lt other))))
        (cases_Bool (shard_of shards t.object == below))
      where
        less : (u : Tuple) → shard_of shards u.object < below + 1 → (shard_of shards u.object == below) ≡ false → shard_of shards u.object < below
        less u lt other = ⊎_elim
            (λ (low : shard_of shards u.object < below). low)
            (λ (high : below ≤ shard_of shards u.object). absurd (both_ways _ other (eq-eqb (shard_of shards u.object) below (omega (arith, lt, high)))))
            (cases_lt (shard_of shards u.object) below)

    pub rows_go_on : IsSelection (there_below shards (below + 1) log place) q merged
    rows_go_on = record {
      ascending = merges.ascending;
      exact = λ t. (
        λ has. ⊎_elim
            (λ before. let is = (old.exact t).0 before in (wider t is.0, is.1))
            (λ new. let is = (selects.exact t).0 new in (this t is.0, is.1))
            ((merges.has t).0 has),
        λ is. (merges.has t).1 (⊎_elim
            (λ before. inl ((old.exact t).1 (before, is.1)))
            (λ new. inr ((selects.exact t).1 (new, is.1)))
            (one_of t is.0)),
      );
    }

  -- the rows of all shards are those of the list
  pub rows_of_all : (rows : List Tuple) (below : ℕ) → 1 ≤ shards → below ≡ shards → IsSelection (there_below shards below log place) q rows → IsSelection (is_at log place) q rows
  rows_of_all rows below some all old = record {
    ascending = old.ascending;
    exact = λ t. (
      λ has. let is = (old.exact t).0 has in ((and_parts (is_at log place t) (nat_lt (shard_of shards t.object) below) is.0).0, is.1),
      λ is. (old.exact t).1 (
        and_from (is_at log place t) (nat_lt (shard_of shards t.object) below) is.0 (lt-ltb _ _ (let lt = shard_below shards t.object some in omega (arith, lt, all))),
        is.1,
      ),
    );
  }
