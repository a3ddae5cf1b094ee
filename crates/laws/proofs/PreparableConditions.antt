-- What a shard tests of its part holds after the whole log.
use Rattle.std.proofs.Common.{◌≡◌, ⊎_elim, ℕ, zero, suc, Bool, true, false, not, ◌+◌, ◌<◌, ◌≤◌, ◌==◌, ◌&&◌, ◌||◌, nat_le, nat_lt, max, List, [], ◌∷◌, ◌++◌, length, take, drop, filter, map, Some, None, Contains, refl, sym, ◌∙◌, ap, subst, arith, cond, slice_get}
use Rattle.std.specs.List.{flat_map}
use Rattle.std.proofs.lemmas.Bool.{cases_Bool, both_ways, le-leb, leb-true, leb-false, lt-ltb}
use Rattle.std.proofs.lemmas.Grind.{flat_map-append}
use Rattle.std.proofs.lemmas.List.{take-append-drop}
use Rattle.std.proofs.lemmas.List.Elements.{All-contains, All-contains_itself}
use Rattle.std.proofs.lemmas.List.Folds.{list_any-append}
use Rattle.laws.proofs.Words.{Absent, Change, Condition, Delete, Entry, Exists, Holds, IsLog, NotAfter, ShardMeans, ShardState, Touch, Tuple, Version, Want, changed, changes_from, conditioned, find_in_doubt, has_tuple, is_held, is_touch, last_alike, last_from, meets_want, named, of_shard, placed, shard_of, superseded, there_after, tuple_eq, tuple_of, tuple_same}
use Rattle.tuples.specs.Log.{HoldAfter, is_at, last_place}
use Rattle.tuples.specs.Parts.{expected, part, takes_part}
use Rattle.tuples.specs.Versions.{collected, last_version, there_at, versions}
use Rattle.tuples.proofs.Ordered.{tuple_eq_refl}
use Rattle.tuples.proofs.Lists.{slice_get_drop}
use Rattle.laws.specs.LockLaws.{IsPreparable, PreparableConditionsHold}
use Rattle.laws.proofs.WriteConditions.{changed_in_part, last_from-append, or_left, or_right, own_conditioned, some_changes, there_both, there_last, there_unchanged}
use Rattle.laws.proofs.KeptVersions.{versions_give_snapshots}
use Rattle.laws.proofs.Locks.{all_has, not_held}
use Rattle.versions.proofs.Alike.{there_at_alike}
use Rattle.holds.proofs.Named.{found_at}

-- writes of which none changes the tuple
abbrev ChangeNone : Tuple → List Entry → Type 0
ChangeNone t ws = (j : ℕ) (v : Entry) → slice_get ws j ≡ Some v → has_tuple t (changed v.changes) ≡ false

last_none : (t : Tuple) (found place : ℕ) (ws : List Entry) → ChangeNone t ws → last_from found place t ws ≡ found
last_none t found place [] none = refl
last_none t found place (w ∷ ws) none = rw (none zero w refl) (last_none t found (place + 1) ws (λ j v is. none (suc j) v is))

there_none : (t : Tuple) (b : Bool) (ws : List Entry) → ChangeNone t ws → there_after t b (flat_map (λ (w : Entry). w.changes) ws) ≡ b
there_none t b [] none = refl
there_none t b (w ∷ ws) none =
    there_both t b w.changes (flat_map (λ (v : Entry). v.changes) ws)
    ∙ ap (λ c. there_after t c (flat_map (λ (v : Entry). v.changes) ws)) (there_unchanged t b w.changes (none zero w refl))
    ∙ there_none t b ws (λ j v is. none (suc j) v is)

-- if no write after a place changes a tuple, that place tells all of it
module _ (t : Tuple) (log : List Entry) (p : ℕ) (none : ChangeNone t (drop p log)) where
  pub last_before : last_place log t ≡ last_place (take p log) t
  unfolding last_place
  last_before = ap (last_from 0 1 t) (sym (take-append-drop p log)) ∙ last_from-append 0 1 t (take p log) (drop p log) ∙ last_none t (last_from 0 1 t (take p log)) (1 + length (take p log)) (drop p log) none

  pub there_before : is_at log (length log) t ≡ is_at log p t
  unfolding is_at
  there_before =
      let of_log = λ (l : List Entry). flat_map (λ (w : Entry). w.changes) l in
      there_last t log
      ∙ ap (λ (l : List Entry). there_after t false (of_log l)) (sym (take-append-drop p log))
      ∙ ap (there_after t false) (flat_map-append (λ (w : Entry). w.changes) (take p log) (drop p log))
      ∙ there_both t false (of_log (take p log)) (of_log (drop p log))
      ∙ there_none t (there_after t false (of_log (take p log))) (drop p log) none

-- a change of another tuple tells nothing
pub skip : (t : Tuple) (b : Bool) (c : Change) (changes : List Change) → tuple_eq t (tuple_of c) ≡ false → there_after t b (c ∷ changes) ≡ there_after t b changes
skip t b (Touch u) changes other = rw other refl
skip t b (Delete u) changes other = rw other refl

same_step : (t : Tuple) (c : Change) (xs ys : List Change) → ((b : Bool) → there_after t b xs ≡ there_after t b ys) → (b : Bool) → there_after t b (c ∷ xs) ≡ there_after t b (c ∷ ys)
same_step t (Touch u) xs ys same b = same (cond (tuple_eq t u) true b)
same_step t (Delete u) xs ys same b = same (cond (tuple_eq t u) false b)

-- the rows of a shard tell of its own tuples what all rows tell
pub there_own : (shards s place : ℕ) (t : Tuple) → (shard_of shards t.object == s) ≡ true → (rows : List Version) (b : Bool)
    → there_after t b (map (λ (v : Version). v.change) (filter (λ (v : Version). nat_le v.place place) (of_shard shards s rows))) ≡ there_after t b (map (λ (v : Version). v.change) (filter (λ (v : Version). nat_le v.place place) rows))
there_own shards s place t own [] b = refl
there_own shards s place t own (v ∷ rows) b = ⊎_elim
    (λ mine. rw mine (⊎_elim
    (λ counts. rw counts (same_step t v.change _ _ (there_own shards s place t own rows) b))
    (λ later. rw later (there_own shards s place t own rows b))
    (cases_Bool (nat_le v.place place))))
    (λ other.
    let not_it : tuple_eq t (tuple_of v.change) ≡ false = not_own other in
    rw other (⊎_elim
    (λ counts. rw counts (there_own shards s place t own rows b ∙ sym (skip t b v.change _ not_it)))
    (λ later. rw later (there_own shards s place t own rows b))
    (cases_Bool (nat_le v.place place))))
    (cases_Bool (shard_of shards (tuple_of v.change).object == s))
  where
    not_own : (shard_of shards (tuple_of v.change).object == s) ≡ false → tuple_eq t (tuple_of v.change) ≡ false
    not_own other = ⊎_elim
        (λ is. absurd (both_ways _ (ap (λ (u : Tuple). shard_of shards u.object == s) (tuple_same t (tuple_of v.change) is) ∙ other) own))
        (λ not_it. not_it)
        (cases_Bool (tuple_eq t (tuple_of v.change)))

-- a test that lets through each version of the tuple above the horizon loses no last version above it
last_kept : (t : Tuple) (h : ℕ) (test : Version → Bool) (rows : List Version) → ((v : Version) → tuple_eq t (tuple_of v.change) ≡ true → h < v.place → test v ≡ true)
    → last_version rows t ≤ max h (last_version (filter test rows) t)
unfolding last_version
last_kept t h test [] lets = omega arith
last_kept t h test (v ∷ rows) lets = ⊎_elim
    (λ is. ⊎_elim
    (λ low.
    let le : v.place ≤ h = leb-true _ _ low in
    let rest = last_kept t h test rows lets in
    rw is (with_test (test v) is (omega (arith, le, rest)) rest))
    (λ high.
    let above : h < v.place = leb-false _ _ high in
    let rest = last_kept t h test rows lets in
    rw is (rw (lets v is above) (rw is (omega (arith, rest)))))
    (cases_Bool (nat_le v.place h)))
    (λ other.
    let rest = last_kept t h test rows lets in
    rw other (without_test (test v) other rest))
    (cases_Bool (tuple_eq t (tuple_of v.change)))
  where
    with_test : (b : Bool) → tuple_eq t (tuple_of v.change) ≡ true → max v.place (last_version rows t) ≤ max h (last_version (filter test rows) t) → last_version rows t ≤ max h (last_version (filter test rows) t)
        → max v.place (last_version rows t) ≤ max h (last_version (cond b (v ∷ filter test rows) (filter test rows)) t)
    with_test true is le rest = rw is (omega (arith, le, rest))
    with_test false is le rest = le

    without_test : (b : Bool) → tuple_eq t (tuple_of v.change) ≡ false → last_version rows t ≤ max h (last_version (filter test rows) t)
        → last_version rows t ≤ max h (last_version (cond b (v ∷ filter test rows) (filter test rows)) t)
    without_test true other rest = rw other rest
    without_test false other rest = rest

last_of_longer : (t : Tuple) (xs ys : List Version) → last_version ys t ≤ last_version (xs ++ ys) t
unfolding last_version
last_of_longer t [] ys = omega arith
last_of_longer t (v ∷ xs) ys = ⊎_elim
    (λ is. let rest = last_of_longer t xs ys in rw is (omega (arith, rest)))
    (λ other. rw other (last_of_longer t xs ys))
    (cases_Bool (tuple_eq t (tuple_of v.change)))

last_placed : (t : Tuple) (place : ℕ) (changes : List Change) (ys : List Version) → has_tuple t (changed changes) ≡ true → place ≤ last_version (placed place changes ++ ys) t
unfolding last_version
last_placed t place [] ys has = absurd cc
last_placed t place (c ∷ changes) ys has = ⊎_elim
    (λ is. rw is (omega arith))
    (λ other. let rest = last_placed t place changes ys (rw other at has) in rw other rest)
    (cases_Bool (tuple_eq t (tuple_of c)))

-- the last place of a tuple is that of a version
last_of_changes : (t : Tuple) (found place : ℕ) (log : List Entry) → last_from found place t log ≤ max found (last_version (changes_from place log) t)
unfolding last_version
last_of_changes t found place [] = omega arith
last_of_changes t found place (w ∷ log) = ⊎_elim
    (λ has.
    let rest = last_of_changes t place (place + 1) log in
    let here = last_placed t place w.changes (changes_from (place + 1) log) has in
    let later = last_of_longer t (placed place w.changes) (changes_from (place + 1) log) in
    rw has (omega (arith, rest, here, later)))
    (λ other.
    let rest = last_of_changes t found (place + 1) log in
    let later = last_of_longer t (placed place w.changes) (changes_from (place + 1) log) in
    rw other (omega (arith, rest, later)))
    (cases_Bool (has_tuple t (changed w.changes)))

-- what a condition asks is so of the log if it is so of the rows, which know the last change above the horizon and whether the tuple is there
meets_log : (want : Want) (h of_rows of_log : ℕ) (there : Bool) → ((place : ℕ) → want ≡ NotAfter place → h ≤ place) → of_log ≤ max h of_rows → meets_want want of_rows there ≡ true → meets_want want of_log there ≡ true
meets_log (NotAfter place) h of_rows of_log there above le meets =
    let low : of_rows ≤ place = leb-true _ _ meets in
    let over = above place refl in
    le-leb of_log place (omega (arith, le, low, over))
meets_log Exists h of_rows of_log there above le meets = meets
meets_log Absent h of_rows of_log there above le meets = meets

module _ (shards s : ℕ) (log : List Entry) (hc h : ℕ) (state : ShardState) (is_log : IsLog log) (le : h ≤ hc) (m : ShardMeans shards s log hc h state) where
  -- no write that the shard has not learned changes a tuple of the shard that no write in doubt names
  pub unheld_unchanged : (t : Tuple) → (shard_of shards t.object == s) ≡ true → is_held t state.in_doubt ≡ false → ChangeNone t (drop state.learned log)
  unfolding part takes_part expected
  unheld_unchanged t own free j v is = ⊎_elim
      (λ changes_it.
      let in_part : has_tuple t (changed (part shards s v).changes) ≡ true = changed_in_part shards s t v.changes own changes_it in
      let takes : takes_part shards s v ≡ true = or_left (not (length (part shards s v).changes == 0)) (not (length (part shards s v).conditions == 0)) (some_changes t (part shards s v).changes in_part) in
      let at : slice_get log (state.learned + j) ≡ Some v = sym (slice_get_drop state.learned log j) ∙ is in
      let there : find_in_doubt v.id state.in_doubt ≡ Some (part shards s v) = m.in_doubt.above (state.learned + j) v at (omega arith) ∙ ap (λ b. cond b (Some (part shards s v)) None) takes in
      let index = found_at v.id state.in_doubt (part shards s v) there in
      let other = not_held t state.in_doubt index.0 (part shards s v) free index.1 in
      let has_it : has_tuple t (named (part shards s v)) ≡ true = list_any-append (tuple_eq t) (changed (part shards s v).changes) (conditioned (part shards s v).conditions) ∙ or_left (has_tuple t (changed (part shards s v).changes)) (has_tuple t (conditioned (part shards s v).conditions)) in_part in
      absurd (both_ways _ other has_it))
      (λ none. none)
      (cases_Bool (has_tuple t (changed v.changes)))

  pub last_by_rows : (t : Tuple) → (shard_of shards t.object == s) ≡ true → last_place (take state.learned log) t ≤ max state.horizon (last_version state.rows t)
  unfolding last_place versions collected
  last_by_rows t own =
      let all = changes_from 1 (take state.learned log) in
      let hz = state.horizon in
      let stays = λ (v : Version). nat_lt hz v.place || (is_touch v.change && not (superseded hz v all)) in
      let first = last_of_changes t 0 1 (take state.learned log) in
      let second = last_kept t hz stays all (λ v is above. or_left (nat_lt hz v.place) (is_touch v.change && not (superseded hz v all)) (lt-ltb hz v.place above)) in
      let third = last_kept t 0 (λ (v : Version). shard_of shards (tuple_of v.change).object == s) (collected hz all) (λ v is above. ap (λ (u : Tuple). shard_of shards u.object == s) (sym (tuple_same t (tuple_of v.change) is)) ∙ own) in
      let rows : last_version state.rows t ≡ last_version (of_shard shards s (collected hz all)) t = last_alike m.rows t in
      omega (arith, first, second, third, rows)

  pub there_by_rows : (t : Tuple) → (shard_of shards t.object == s) ≡ true → there_at state.rows state.learned t ≡ is_at log state.learned t
  unfolding there_at
  there_by_rows t own =
      let low : state.horizon ≤ state.learned = omega (arith, m.horizon, le, m.settled) in
      there_at_alike m.rows state.learned t
      ∙ there_own shards s state.learned t own (versions log state.learned state.horizon) false
      ∙ versions_give_snapshots log state.learned state.horizon state.learned t is_log low (omega arith)

module _ (shards s : ℕ) (log : List Entry) (hc h : ℕ) (state : ShardState) (w : Entry) (is_log : IsLog log) (le : h ≤ hc) (m : ShardMeans shards s log hc h state) (may : IsPreparable state (part shards s w)) where
  none_after : (t : Tuple) → has_tuple t (conditioned (part shards s w).conditions) ≡ true → ChangeNone t (drop state.learned log)
  unfolding part
  none_after t has =
      let names : has_tuple t (named (part shards s w)) ≡ true = list_any-append (tuple_eq t) (changed (part shards s w).changes) (conditioned (part shards s w).conditions) ∙ or_right (has_tuple t (changed (part shards s w).changes)) (has_tuple t (conditioned (part shards s w).conditions)) has in
      unheld_unchanged shards s log hc h state is_log le m t (own_conditioned shards s t w.conditions has)
      (all_has (λ (u : Tuple). is_held u state.in_doubt ≡ false) (named (part shards s w)) t may.free.tuples names)

  holds_after : (c : Condition) → Contains (part shards s w).conditions c → Holds log c
  unfolding part
  holds_after c here =
      let t = c.tuple in
      let has : has_tuple t (conditioned (part shards s w).conditions) ≡ true = has_condition (part shards s w).conditions c here in
      let own : (shard_of shards t.object == s) ≡ true = own_of_part t has in
      let none = none_after t has in
      let meets = All-contains (λ (d : Condition). meets_want d.want (last_version state.rows d.tuple) (there_at state.rows state.learned d.tuple) ≡ true) (part shards s w).conditions c may.hold here in
      let there : there_at state.rows state.learned t ≡ is_at log (length log) t = there_by_rows shards s log hc h state is_log le m t own ∙ sym (there_before t log state.learned none) in
      let low : last_place log t ≤ max state.horizon (last_version state.rows t) = subst (λ (n : ℕ). n ≤ max state.horizon (last_version state.rows t)) (sym (last_before t log state.learned none)) (last_by_rows shards s log hc h state is_log le m t own) in
      meets_log c.want state.horizon (last_version state.rows t) (last_place log t) (is_at log (length log) t) (λ place is. may.above c place here is) low
      (ap (λ (b : Bool). meets_want c.want (last_version state.rows t) b) (sym there) ∙ meets)
    where
      has_condition : (conditions : List Condition) (d : Condition) → Contains conditions d → has_tuple d.tuple (conditioned conditions) ≡ true
      has_condition [] d is = absurd (omega (arith, is.1))
      has_condition (e ∷ conditions) d (zero, lt, is) = or_left (tuple_eq d.tuple e.tuple) (has_tuple d.tuple (conditioned conditions)) (ap (λ (x : Condition). tuple_eq d.tuple x.tuple) is ∙ tuple_eq_refl d.tuple)
      has_condition (e ∷ conditions) d (suc k, lt, is) = or_right (tuple_eq d.tuple e.tuple) (has_tuple d.tuple (conditioned conditions)) (has_condition conditions d (k, omega (arith, lt), is))

      own_of_part : (t : Tuple) → has_tuple t (conditioned (part shards s w).conditions) ≡ true → (shard_of shards t.object == s) ≡ true
      own_of_part t has = own_conditioned shards s t w.conditions has

pub preparable_conditions_hold : PreparableConditionsHold
unfolding HoldAfter
preparable_conditions_hold shards s log hc h state w is_log le m may k d lt = holds_after shards s log hc h state w is_log le m may _ (All-contains_itself (part shards s w).conditions k d lt)
