-- What is kept under a horizon shows each snapshot from the horizon on.
use Rattle.std.proofs.Common.{◌≡◌, ◌⊎◌, inl, inr, ⊎_elim, ℕ, zero, suc, Bool, true, false, true≢false, ◌&&◌, ◌||◌, nat_lt, nat_le, ◌<◌, ◌≤◌, ◌+◌, List, [], ◌∷◌, ◌++◌, filter, take, refl, sym, ◌∙◌, ap, subst, arith, append_assoc, if◌then◌else◌}
use Rattle.std.proofs.lemmas.Bool.{cases_Bool, lt-ltb, lt-leb, le-leb, le-ltb, ltb-true, ltb-false}
use Rattle.tuples.specs.declared.change.Change.{Change}
use Rattle.tuples.specs.declared.change.Change.TheVariants.{Touch, Delete}
use Rattle.tuples.specs.declared.entry.Entry.{Entry}
use Rattle.tuples.specs.declared.tuple.Tuple.{Tuple}
use Rattle.tuples.specs.declared.version.Version.{Version}
use Rattle.tuples.specs.Changes.{AreDistinct, changed, has_tuple, tuple_of}
use Rattle.tuples.specs.Log.{is_at, there_after}
use Rattle.tuples.specs.Order.{tuple_eq}
use Rattle.tuples.specs.Versions.{changes_from, collected, is_touch, placed, superseded, there_at, versions}
use Rattle.tuples.proofs.Same.{tuple_same}
use Rattle.laws.specs.LogLaws.{VersionsGiveSnapshots}
use Rattle.laws.specs.Worlds.{AreWhole}
use Rattle.laws.proofs.Lists.{slice_get_taken}
use Rattle.laws.proofs.Snapshots.{there_at-changes, changes_of}
use Rattle.versions.proofs.Alike.{is_kept_of}

-- a version of the tuple
abbrev is_of : Tuple → Version → Bool
is_of t v = tuple_eq t (tuple_of v.change)

-- each version of the tuple lies above the place
abbrev Above : Tuple → ℕ → List Version → Type 0
Above t n [] = Unit {0}
Above t n (u ∷ rows) = (is_of t u ≡ true → n < u.place) × Above t n rows

-- each version of the tuple lies above those before it
abbrev Rising : Tuple → List Version → Type 0
Rising t [] = Unit {0}
Rising t (v ∷ rows) = (is_of t v ≡ true → Above t v.place rows) × Rising t rows

-- a version of the tuple lies at or below the horizon
abbrev low : ℕ → Tuple → List Version → Bool
low h t [] = false
low h t (u ∷ rows) = (is_of t u && nat_le u.place h) || low h t rows

-- no version of the tuple is followed, below the horizon, by one of these
abbrev Free : ℕ → Tuple → List Version → List Version → Type 0
Free h t before [] = Unit {0}
Free h t before (v ∷ rows) = (is_of t v ≡ true → superseded h v before ≡ false) × Free h t before rows

-- whether the tuple is there after those versions that a test takes, if it was there before as the flag says
abbrev walk : Tuple → Bool → (Version → Bool) → List Version → Bool
walk t b test [] = b
walk t b test (v ∷ rows) = walk t (if test v then (if is_of t v then is_touch v.change else b) else b) test rows

-- one more change
one_more : (t : Tuple) (b : Bool) (c : Change) (changes : List Change) → there_after t b (c ∷ changes) ≡ there_after t (if tuple_eq t (tuple_of c) then is_touch c else b) changes
one_more t b (Touch u) changes = refl
one_more t b (Delete u) changes = refl

-- the changes of the versions that two tests take, one test after another, or both at once
walked : (t : Tuple) (b : Bool) (test more : Version → Bool) (rows : List Version) → there_after t b (changes_of (filter more (filter test rows))) ≡ walk t b (λ v. test v && more v) rows
walked t b test more [] = refl
walked t b test more (v ∷ rows) = by_test (λ x. walked t x test more rows) (test v) (more v) refl refl
  where
    by_test : ((x : Bool) → there_after t x (changes_of (filter more (filter test rows))) ≡ walk t x (λ u. test u && more u) rows)
        → (a c : Bool) → test v ≡ a → more v ≡ c → there_after t b (changes_of (filter more (filter test (v ∷ rows)))) ≡ walk t b (λ u. test u && more u) (v ∷ rows)
    by_test rest true true is also = rw (is, also) (one_more t b v.change (changes_of (filter more (filter test rows))) ∙ rest (if is_of t v then is_touch v.change else b))
    by_test rest true false is also = rw (is, also) (rest b)
    by_test rest false c is also = rw is (rest b)

superseded-append : (h : ℕ) (v : Version) (xs ys : List Version) → superseded h v (xs ++ ys) ≡ (superseded h v xs || superseded h v ys)
superseded-append h v [] ys = refl
superseded-append h v (x ∷ xs) ys =
    let here : Bool = tuple_eq (tuple_of v.change) (tuple_of x.change) && nat_lt v.place x.place && nat_le x.place h in
    ap (λ b. here || b) (superseded-append h v xs ys) ∙ or_assoc here (superseded h v xs) (superseded h v ys)
  where
    or_assoc : (a b c : Bool) → (a || (b || c)) ≡ ((a || b) || c)
    or_assoc true b c = refl
    or_assoc false b c = refl

-- among versions that rise, a version of the tuple is followed by each of the tuple's that lies at or below the horizon
followed : (h : ℕ) (t : Tuple) (v : Version) (rows : List Version) → is_of t v ≡ true → Above t v.place rows → superseded h v rows ≡ low h t rows
followed h t v [] own above = refl
followed h t v (u ∷ rows) own above = by_own (is_of t u) refl (followed h t v rows own above.1)
  where
    same : t ≡ tuple_of v.change
    same = tuple_same t (tuple_of v.change) own

    by_own : (b : Bool) → is_of t u ≡ b → superseded h v rows ≡ low h t rows → superseded h v (u ∷ rows) ≡ low h t (u ∷ rows)
    by_own true is rest =
        let of_v : tuple_eq (tuple_of v.change) (tuple_of u.change) ≡ true = subst (λ x. tuple_eq x (tuple_of u.change) ≡ true) same is in
        rw (is, of_v, lt-ltb v.place u.place (above.0 is), rest) refl
    by_own false is rest =
        let of_v : tuple_eq (tuple_of v.change) (tuple_of u.change) ≡ false = subst (λ x. tuple_eq x (tuple_of u.change) ≡ false) same is in
        rw (is, of_v, rest) refl

-- versions above a place that is not below the horizon are not at or below it
none_low : (h n : ℕ) (t : Tuple) (rows : List Version) → h ≤ n → Above t n rows → low h t rows ≡ false
none_low h n t [] le above = refl
none_low h n t (u ∷ rows) le above = by_own (is_of t u) refl (none_low h n t rows le above.1)
  where
    by_own : (b : Bool) → is_of t u ≡ b → low h t rows ≡ false → low h t (u ∷ rows) ≡ false
    by_own true is rest = rw (is, lt-leb u.place h (let lt = above.0 is in omega (arith, lt)), rest) refl
    by_own false is rest = rw (is, rest) refl

-- one more version before them follows none of them
free_on : (h : ℕ) (t : Tuple) (before : List Version) (v : Version) (rows : List Version) → (is_of t v ≡ true → Above t v.place rows) → Free h t before rows → Free h t (before ++ v ∷ []) rows
free_on h t before v [] above free = tt
free_on h t before v (u ∷ rows) above free = (λ own. superseded-append h u before (v ∷ []) ∙ rw (free.0 own) (by_own own (is_of t v) refl), free_on h t before v rows (λ own. (above own).1) free.1)
  where
    by_own : is_of t u ≡ true → (b : Bool) → is_of t v ≡ b → (false || superseded h u (v ∷ [])) ≡ false
    by_own own true is =
        let lt = (above is).0 own in
        rw (ltb_not u.place v.place (omega (arith, lt))) (all_false (tuple_eq (tuple_of u.change) (tuple_of v.change)))
      where
        ltb_not : (a b : ℕ) → b ≤ a → nat_lt a b ≡ false
        ltb_not a b le = le-ltb a b le

        all_false : (a : Bool) → (false || ((a && false && nat_le v.place h) || false)) ≡ false
        all_false true = refl
        all_false false = refl
    by_own own false is = rw (subst (λ x. tuple_eq x (tuple_of v.change) ≡ false) (tuple_same t (tuple_of u.change) own) is) refl

if_same : (b x : Bool) → (if b then x else x) ≡ x
if_same true x = refl
if_same false x = refl

-- Given a horizon, a place at or above it, and a tuple
module _ (h s : ℕ) (t : Tuple) (le : h ≤ s) where
  -- the state after one version, of those that stay, and of all
  abbrev kept_state : List Version → Version → Bool → Bool
  kept_state all v x = if (is_kept_of h all v && nat_le v.place s) then (if is_of t v then is_touch v.change else x) else x

  abbrev full_state : Version → Bool → Bool
  full_state v y = if nat_le v.place s then (if is_of t v then is_touch v.change else y) else y

  -- the walk over what stays, with the tuple there or not, goes as the walk over all
  abbrev Same : List Version → List Version → Type 0
  Same all rows = (x y : Bool) → (x ≡ y) ⊎ (low h t rows ≡ true) → (low h t rows ≡ true → x ≡ false)
      → walk t x (λ v. is_kept_of h all v && nat_le v.place s) rows ≡ walk t y (λ v. nat_le v.place s) rows

  -- from the states after the first version on
  goes_on : (all rows : List Version) (v : Version) (x y x' y' : Bool) → Same all rows → kept_state all v x ≡ x' → full_state v y ≡ y'
      → (x' ≡ y') ⊎ (low h t rows ≡ true) → (low h t rows ≡ true → x' ≡ false)
      → walk t x (λ u. is_kept_of h all u && nat_le u.place s) (v ∷ rows) ≡ walk t y (λ u. nat_le u.place s) (v ∷ rows)
  goes_on all rows v x y x' y' rest ex ey same none =
      ap (λ b. walk t b (λ u. is_kept_of h all u && nat_le u.place s) rows) ex ∙ rest x' y' same none ∙ ap (λ b. walk t b (λ u. nat_le u.place s) rows) (sym ey)

  -- a version of another tuple
  other : (all rows : List Version) (v : Version) (x y : Bool) → is_of t v ≡ false → Same all rows
      → (x ≡ y) ⊎ (low h t (v ∷ rows) ≡ true) → (low h t (v ∷ rows) ≡ true → x ≡ false)
      → walk t x (λ u. is_kept_of h all u && nat_le u.place s) (v ∷ rows) ≡ walk t y (λ u. nat_le u.place s) (v ∷ rows)
  other all rows v x y is rest same none =
      let low_is : low h t (v ∷ rows) ≡ low h t rows = rw is refl in
      goes_on all rows v x y x y rest
      (rw is (if_same (is_kept_of h all v && nat_le v.place s) x))
      (rw is (if_same (nat_le v.place s) y))
      (⊎_elim (λ e. inl e) (λ l. inr (sym low_is ∙ l)) same)
      (λ l. none (low_is ∙ l))

  -- a version of the tuple above the horizon
  above_it : (all rows : List Version) (v : Version) (x y : Bool) → is_of t v ≡ true → h < v.place → Above t v.place rows → Same all rows
      → (x ≡ y) ⊎ (low h t (v ∷ rows) ≡ true)
      → walk t x (λ u. is_kept_of h all u && nat_le u.place s) (v ∷ rows) ≡ walk t y (λ u. nat_le u.place s) (v ∷ rows)
  above_it all rows v x y is lt above rest same =
      let none : low h t rows ≡ false = none_low h v.place t rows (omega (arith, lt)) above in
      let no_low : low h t (v ∷ rows) ≡ false = rw (is, lt-leb v.place h lt, none) refl in
      let equal : x ≡ y = ⊎_elim (λ e. e) (λ l. absurd (true≢false (sym l ∙ no_low))) same in
      let state : Bool → Bool = λ b. if nat_le v.place s then is_touch v.change else b in
      goes_on all rows v x y (state x) (state y) rest
      (rw (is, lt-ltb h v.place lt) refl)
      (rw is refl)
      (inl (ap state equal))
      (λ l. absurd (true≢false (sym l ∙ none)))

  -- a version of the tuple at or below the horizon
  below_it : (all rows : List Version) (v : Version) (x y : Bool) → is_of t v ≡ true → v.place ≤ h → superseded h v all ≡ low h t rows → Same all rows
      → (low h t (v ∷ rows) ≡ true → x ≡ false)
      → walk t x (λ u. is_kept_of h all u && nat_le u.place s) (v ∷ rows) ≡ walk t y (λ u. nat_le u.place s) (v ∷ rows)
  below_it all rows v x y is at sup rest none = by_low (low h t rows) (is_touch v.change) refl refl
    where
      low_is : low h t (v ∷ rows) ≡ true
      low_is = rw (is, le-leb v.place h at) refl

      counts : nat_le v.place s ≡ true
      counts = le-leb v.place s (omega (arith, at, le))

      not_high : nat_lt h v.place ≡ false
      not_high = le-ltb h v.place at

      full : full_state v y ≡ is_touch v.change
      full = rw (is, counts) refl

      by_low : (b touch : Bool) → low h t rows ≡ b → is_touch v.change ≡ touch
          → walk t x (λ u. is_kept_of h all u && nat_le u.place s) (v ∷ rows) ≡ walk t y (λ u. nat_le u.place s) (v ∷ rows)
      by_low true true l c = goes_on all rows v x y false (is_touch v.change) rest (rw (is, counts, not_high, sup, l, c) (none low_is)) full (inr l) (λ l. refl)
      by_low true false l c = goes_on all rows v x y false (is_touch v.change) rest (rw (is, counts, not_high, sup, l, c) (none low_is)) full (inr l) (λ l. refl)
      by_low false true l c = goes_on all rows v x y (is_touch v.change) (is_touch v.change) rest (rw (is, counts, not_high, sup, l, c) refl) full (inl refl) (λ k. absurd (true≢false (sym k ∙ l)))
      by_low false false l c = goes_on all rows v x y (is_touch v.change) (is_touch v.change) rest (rw (is, counts, not_high, sup, l, c) (none low_is)) full (inl refl) (λ k. absurd (true≢false (sym k ∙ l)))

  cases_place : (n : ℕ) → (h < n) ⊎ (n ≤ h)
  cases_place n = ⊎_elim (λ high. inl (ltb-true h n high)) (λ lower. inr (ltb-false h n lower)) (cases_Bool (nat_lt h n))

  itself : (v : Version) (rows : List Version) → superseded h v (v ∷ rows) ≡ superseded h v rows
  itself v rows = rw (le-ltb v.place v.place (omega arith)) (none_of (tuple_eq (tuple_of v.change) (tuple_of v.change)))
    where
      none_of : (a : Bool) → ((a && false && nat_le v.place h) || superseded h v rows) ≡ superseded h v rows
      none_of true = refl
      none_of false = refl

  all_same : (all before rows : List Version) → all ≡ before ++ rows → Rising t rows → Free h t before rows → Same all rows
  all_same all before [] is rising free x y same none = ⊎_elim (λ e. e) (λ l. absurd (true≢false (sym l))) same
  all_same all before (v ∷ rows) is rising free x y same none =
      let rest : Same all rows = all_same all (before ++ v ∷ []) rows (is ∙ sym (append_assoc before (v ∷ []) rows)) rising.1 (free_on h t before v rows rising.0 free.1) in
      ⊎_elim
      (λ own. ⊎_elim
      (λ lt. above_it all rows v x y own lt (rising.0 own) rest same)
      (λ at. below_it all rows v x y own at
      (ap (superseded h v) is ∙ superseded-append h v before (v ∷ rows) ∙ ap (λ b. b || superseded h v (v ∷ rows)) (free.0 own) ∙ itself v rows ∙ followed h t v rows own (rising.0 own))
      rest none)
      (cases_place v.place))
      (λ not_own. other all rows v x y not_own rest same none)
      (cases_Bool (is_of t v))

  free_of_none : (rows : List Version) → Free h t [] rows
  free_of_none [] = tt
  free_of_none (v ∷ rows) = (λ own. refl, free_of_none rows)

  nothing_first : (b : Bool) (test : Version → Bool) (rows : List Version) → there_after t b (changes_of (filter test rows)) ≡ walk t b test rows
  nothing_first b test [] = refl
  nothing_first b test (v ∷ rows) = by_test (λ x. nothing_first x test rows) (test v) refl
    where
      by_test : ((x : Bool) → there_after t x (changes_of (filter test rows)) ≡ walk t x test rows) → (a : Bool) → test v ≡ a
          → there_after t b (changes_of (filter test (v ∷ rows))) ≡ walk t b test (v ∷ rows)
      by_test rest true is = rw is (one_more t b v.change (changes_of (filter test rows)) ∙ rest (if is_of t v then is_touch v.change else b))
      by_test rest false is = rw is (rest b)

  -- what is kept of versions that rise shows what they show
  collected_shows : (rows : List Version) → Rising t rows → there_at (collected h rows) s t ≡ there_at rows s t
  unfolding there_at collected
  collected_shows rows rising =
      walked t false (is_kept_of h rows) (λ v. nat_le v.place s) rows
      ∙ all_same rows [] rows refl rising (free_of_none rows) false false (inl refl) (λ l. refl)
      ∙ sym (nothing_first false (λ v. nat_le v.place s) rows)

above-append : (t : Tuple) (n : ℕ) (xs ys : List Version) → Above t n xs → Above t n ys → Above t n (xs ++ ys)
above-append t n [] ys a b = b
above-append t n (x ∷ xs) ys a b = (a.0, above-append t n xs ys a.1 b)

above_placed : (t : Tuple) (n place : ℕ) (changes : List Change) → n < place → Above t n (placed place changes)
above_placed t n place [] lt = tt
above_placed t n place (c ∷ changes) lt = (λ own. lt, above_placed t n place changes lt)

above_from : (t : Tuple) (n place : ℕ) (log : List Entry) → n < place → Above t n (changes_from place log)
above_from t n place [] lt = tt
above_from t n place (w ∷ log) lt = above-append t n (placed place w.changes) (changes_from (place + 1) log) (above_placed t n place w.changes lt) (above_from t n (place + 1) log (omega (arith, lt)))

-- none of these changes is of the tuple
none_of_it : (t : Tuple) (n place : ℕ) (changes : List Change) → has_tuple t (changed changes) ≡ false → Above t n (placed place changes)
none_of_it t n place [] none = tt
none_of_it t n place (c ∷ changes) none = (λ own. absurd (true≢false (sym own ∙ first _ _ none)), none_of_it t n place changes (second _ _ none))
  where
    first : (a b : Bool) → (a || b) ≡ false → a ≡ false
    first true b is = is
    first false b is = refl

    second : (a b : Bool) → (a || b) ≡ false → b ≡ false
    second true b is = absurd (true≢false is)
    second false b is = is

-- the changes of one write, before those that lie above it
rising_then : (t : Tuple) (place : ℕ) (changes : List Change) (ys : List Version) → AreDistinct (changed changes) → Above t place ys → Rising t ys → Rising t (placed place changes ++ ys)
rising_then t place [] ys distinct above rising = rising
rising_then t place (c ∷ changes) ys distinct above rising = (
  λ own. above-append t place (placed place changes) ys (none_of_it t place place changes (subst (λ x. has_tuple x (changed changes) ≡ false) (sym (tuple_same t (tuple_of c) own)) distinct.0)) above,
  rising_then t place changes ys distinct.1 above rising,
)

-- the changes of whole writes rise
rising_from : (t : Tuple) (place : ℕ) (log : List Entry) → AreWhole log → Rising t (changes_from place log)
rising_from t place [] whole = tt
rising_from t place (w ∷ log) whole = rising_then t place w.changes (changes_from (place + 1) log)
    (let is = whole zero w refl in is.part.distinct_changes)
    (above_from t place (place + 1) log (omega arith))
    (rising_from t (place + 1) log (λ j v is. whole (suc j) v is))

-- nothing has to be known of the conditions
pub whole_writes_give_snapshots : (log : List Entry) (p h s : ℕ) (t : Tuple) → AreWhole (take p log) → h ≤ s → s ≤ p → there_at (versions log p h) s t ≡ is_at log s t
unfolding versions
whole_writes_give_snapshots log p h s t whole le within =
    collected_shows h s t le (changes_from 1 (take p log)) (rising_from t 1 (take p log) whole) ∙ there_at-changes log p s t within

pub versions_give_snapshots : VersionsGiveSnapshots
versions_give_snapshots log p h s t is le within = whole_writes_give_snapshots log p h s t (λ j w at. is.whole j w (slice_get_taken p log j w at)) le within
