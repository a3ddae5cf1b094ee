-- Reads at one place: of one tupleset, and of each tuple of a set.
use Rattle.std.proofs.Common.{◌≡◌, ◌⊎◌, ⊎_elim, ◌||◌, ℕ, Bool, true, false, List, [], ◌∷◌, ◌++◌, Contains, slice_get, refl, sym, ◌∙◌, ap, subst, arith}
use Rattle.std.specs.List.{AllByRecursion}
use Rattle.std.specs.List.Sorted.{IsStrictlySortedBy}
use Rattle.std.specs.declared.cmp.Ordering.TheVariants.{Less}
use Rattle.std.proofs.lemmas.List.Elements.{Contains-append_cases, Contains-append_left, Contains-append_right}
use Rattle.std.proofs.lemmas.Bool.{or_left, or_right, or_cases}
use Rattle.cluster.specs.Steps.{Takes}
use Rattle.cluster.specs.Worlds.{WorldView}
use Rattle.cluster.specs.declared.event.Answer.TheVariants.{Selected}
use Rattle.cluster.specs.declared.step.Step.TheVariants.{Start}
use Rattle.device.specs.Device.{State}
use Rattle.headline.specs.Promised.{StepsKeep}
use Rattle.holds.specs.Holds.{is_in}
use Rattle.laws.specs.Machines.{Machine}
use Rattle.scripts.specs.Stepping.{IsNext}
use Rattle.tuples.specs.contracts.tuple.TupleOrd.TheImpl.{ghosts}
use Rattle.tuples.specs.declared.entry.Entry.{Entry}
use Rattle.tuples.specs.declared.entry.WriteId.{WriteId}
use Rattle.tuples.specs.declared.freshness.Freshness.{Freshness}
use Rattle.tuples.specs.declared.freshness.Freshness.TheVariants.{Exact}
use Rattle.tuples.specs.declared.request.Request.TheVariants.{Read}
use Rattle.tuples.specs.declared.tuple.Tuple.{Tuple}
use Rattle.tuples.specs.declared.tupleset.Tupleset.{Tupleset}
use Rattle.tuples.specs.declared.tupleset.Tupleset.TheVariants.{Key}
use Rattle.tuples.specs.Log.{is_at}
use Rattle.tuples.specs.Order.{tuple_eq, tuple_lt}
use Rattle.tuples.specs.Reads.{AreAscending, IsSelection}
use Rattle.tuples.proofs.Same.{tuple_same}
use Rattle.tuples.proofs.Ordered.{same_order, same_tie}
use Rattle.stores.proofs.FlowBegins.{alone}
use Rattle.stores.specs.Flows.{to_read}
use Rattle.stores.specs.Replies.{selected}
use Rattle.versions.proofs.Tables.{before}
use Rattle.dumping.specs.Dumped.{GoesOn}
use Rattle.dumping.specs.Gathering.{AllRead, Reads}
use Rattle.dumping.proofs.Flows.{Answered, Standing, played}
use Rattle.dumping.proofs.Machines.{goes_nowhere, goes_then}

-- ---- lists that ascend

ascend : (x : Tuple) (xs ys : List Tuple) → AreAscending (x ∷ xs) → AreAscending ys → ((u v : Tuple) → Contains (x ∷ xs) u → Contains ys v → tuple_lt u v ≡ true) → AreAscending (x ∷ xs ++ ys)
ascend x [] [] left right lt = tt
ascend x [] (y ∷ ys) left right lt = (lt x y (alone x []) (alone y ys), right)
ascend x (z ∷ xs) ys left right lt = (left.0, ascend z xs ys left.1 right (λ u v has_u has_v. lt u v (Contains-append_right (x ∷ []) (z ∷ xs) u has_u) has_v))

ascend_all : (xs ys : List Tuple) → AreAscending xs → AreAscending ys → ((u v : Tuple) → Contains xs u → Contains ys v → tuple_lt u v ≡ true) → AreAscending (xs ++ ys)
ascend_all [] ys left right lt = right
ascend_all (x ∷ xs) ys left right lt = ascend x xs ys left right lt

-- one of the set has the tuple
in_first : (t k : Tuple) (keys : List Tuple) → is_in (k ∷ keys) t ≡ (tuple_eq t k || is_in keys t)
in_first t k keys = ap (λ (b : Bool). b || is_in keys t) (same_tie t k)

pub has_same : (t u : Tuple) (keys : List Tuple) → tuple_eq t u ≡ true → is_in keys u ≡ true → is_in keys t ≡ true
has_same t u keys same is = ap (is_in keys) (tuple_same t u same) ∙ is

-- it stands before all of a set before which it stands
stands_before : (k t : Tuple) (keys : List Tuple) → AllByRecursion (λ u. ghosts.cmp k u ≡ Less) keys → is_in keys t ≡ true → tuple_lt k t ≡ true
stands_before k t [] all is = absurd (let no : false ≡ true = is in cc)
stands_before k t (u ∷ keys) all is = ⊎_elim
    (λ same. ap (tuple_lt k) (tuple_same t u same) ∙ before k u (sym (same_order k u) ∙ all.0))
    (λ later. stands_before k t keys all.1 later)
    (or_cases (tuple_eq t u) (is_in keys t) (sym (in_first t u keys) ∙ is))

module _ {D : Type 0} (state : D → State) (honest : D → Type 0) (moment : D → ℕ) (left_since : D → ℕ → List ℕ → Type 0) (keep : StepsKeep state honest moment left_since) (store shards : ℕ) (ids : List WriteId) where
  abbrev Stood : WorldView D → Type 0
  Stood = Standing state honest moment left_since keep store shards ids

  -- ---- one read

  -- an answer to a read of this tupleset, at a place and with these rows
  abbrev pub IsAnswer : Freshness → Tupleset → ℕ → List (List Tuple) → Machine → WorldView D → Type 0
  IsAnswer fresh set at rows base new = (sets : List Tupleset) × (sets ≡ set ∷ []) × Answered state honest moment left_since keep store shards ids (to_read fresh sets) (selected at rows) base new

  pub read_well : (fresh : Freshness) (set : Tupleset) (old new : WorldView D) (at : ℕ) (rows : List (List Tuple)) (st : Stood old)
      → Reads (Takes state honest moment left_since) IsNext fresh set old at rows new → IsAnswer fresh set at rows st.now.machine new
  read_well fresh set old new at rows st x = (
    x.asked.items,
    x.asked_is,
    subst (λ (l : List (List Tuple)). Answered state honest moment left_since keep store shards ids (to_read fresh x.asked.items) (selected at l) st.now.machine new) x.told_is
        (played state honest moment left_since keep store shards ids (to_read fresh x.asked.items) (λ changes conditions is. cc) (Start (Read fresh x.asked)) refl tt (Selected at x.told) refl old new st x.plays),
  )

  -- ---- and each of a set

  -- the rows are those of the set that were there
  pub record Lists (place : ℕ) (keys rows : List Tuple) (log : List Entry) : Type 0 where
    pub there : (t : Tuple) → Contains rows t → (is_at log place t ≡ true) × (is_in keys t ≡ true)
    pub all : (t : Tuple) → is_at log place t ≡ true → is_in keys t ≡ true → Contains rows t
    pub ascending : IsStrictlySortedBy ghosts.cmp keys → AreAscending rows

  -- one more in front
  more_lists : (place : ℕ) (k : Tuple) (keys first rest : List Tuple) (log : List Entry) → IsSelection (is_at log place) (Key k) first → Lists place keys rest log → Lists place (k ∷ keys) (first ++ rest) log
  unfolding IsStrictlySortedBy
  more_lists place k keys first rest log sel more = record {
    there = λ t has. ⊎_elim
        (λ here. let x = (sel.exact t).0 here in (x.0, in_first t k keys ∙ or_left (tuple_eq t k) (is_in keys t) x.1))
        (λ later. let x = more.there t later in (x.0, in_first t k keys ∙ or_right (tuple_eq t k) (is_in keys t) x.1))
        (Contains-append_cases first rest t has);
    all = λ t is has. ⊎_elim
        (λ here. Contains-append_left first rest t ((sel.exact t).1 (is, here)))
        (λ later. Contains-append_right first rest t (more.all t is later))
        (or_cases (tuple_eq t k) (is_in keys t) (sym (in_first t k keys) ∙ has));
    ascending = λ sorted. ascend_all first rest sel.ascending (more.ascending sorted.1) (λ u v has_u has_v.
        let same = tuple_same u k ((sel.exact u).0 has_u).1 in
        ap (λ (x : Tuple). tuple_lt x v) same ∙ stands_before k v keys sorted.0 (more.there v has_v).1);
  }

  none_lists : (place : ℕ) (log : List Entry) → Lists place [] [] log
  none_lists place log = record { there = λ t has. absurd (omega (arith, has.1)); all = λ t is has. absurd (let no : false ≡ true = has in cc); ascending = λ sorted. tt }

  pub record ReadsAll (place : ℕ) (keys rows : List Tuple) (old new : WorldView D) (st : Stood old) : Type 0 where
    pub after : Stood new
    pub on : GoesOn st.now.machine after.now.machine
    pub lists : Lists place keys rows st.now.machine.log

  pub reads_all : (place : ℕ) (keys rows : List Tuple) (old new : WorldView D) (st : Stood old) → AllRead (Takes state honest moment left_since) IsNext place keys old rows new → ReadsAll place keys rows old new st
  reads_all place [] rows old new st (none, is) = subst (λ (w : WorldView D). ReadsAll place [] rows old w st) (sym is)
      (record { after = st; on = goes_nowhere st.now.machine; lists = subst (λ (l : List Tuple). Lists place [] l st.now.machine.log) (sym none) (none_lists place st.now.machine.log) })
  reads_all place (k ∷ keys) rows old new st (mid, at, first, rest, one, more, rows_is) =
      let x = read_well (Exact place) (Key k) old mid at (first ∷ []) st one in
      let a = x.2 in
      let b = reads_all place keys rest mid new a.standing more in
      let selects : IsSelection (is_at a.standing.now.machine.log at) (Key k) first = a.agrees.each 0 (Key k) first (ap (λ (l : List Tupleset). slice_get l 0) x.1) refl in
      let there : IsSelection (is_at st.now.machine.log place) (Key k) first =
      subst (λ (log : List Entry). IsSelection (is_at log place) (Key k) first) a.on.log (subst (λ (n : ℕ). IsSelection (is_at a.standing.now.machine.log n) (Key k) first) a.agrees.place.wanted.0 selects) in
      record {
        after = b.after;
        on = goes_then st.now.machine a.standing.now.machine b.after.now.machine a.on b.on;
        lists = subst (λ (l : List Tuple). Lists place (k ∷ keys) l st.now.machine.log) (sym rows_is)
            (more_lists place k keys first rest st.now.machine.log there (subst (Lists place keys rest) a.on.log b.lists));
      }
