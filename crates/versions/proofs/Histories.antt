-- The versions of one tuple, read row by row.
use Rattle.std.proofs.Common.{◌≡◌, ⊎_elim, ℕ, Bool, true, false, not, ◌&&◌, ◌||◌, nat_le, nat_lt, max, cond, List, [], ◌∷◌, filter, refl, sym, ◌∙◌, ap, arith}
use Rattle.std.proofs.lemmas.Bool.{cases_Bool}
use Rattle.std.proofs.lemmas.Bool.Decides.{nat_tests}
use Rattle.tuples.specs.declared.tuple.Tuple.{Tuple}
use Rattle.tuples.specs.declared.change.Change.{Change}
use Rattle.tuples.specs.declared.version.Version.{Version}
use Rattle.tuples.specs.Changes.{tuple_of}
use Rattle.tuples.specs.Log.{there_after}
use Rattle.tuples.specs.Order.{tuple_eq}
use Rattle.tuples.specs.Versions.{collected, is_touch, last_version, superseded, there_at}
use Rattle.tuples.proofs.Ordered.{tuple_eq_refl}
use Rattle.versions.specs.Alike.{of_tuple}
use Rattle.versions.specs.Rows.{change_of, newest_under, rows_left, stays, version_of, versions_of}
use Rattle.versions.specs.declared.history.Row.{Row}
use Rattle.versions.proofs.Alike.{until}

-- a row is a version of its tuple

pub tuple_of_change : (t : Tuple) (b : Bool) → tuple_of (change_of t b) ≡ t
tuple_of_change t true = refl
tuple_of_change t false = refl

pub touch_of_change : (t : Tuple) (b : Bool) → is_touch (change_of t b) ≡ b
touch_of_change t true = refl
touch_of_change t false = refl

pub own_change : (t : Tuple) (b : Bool) → tuple_eq t (tuple_of (change_of t b)) ≡ true
own_change t b = ap (tuple_eq t) (tuple_of_change t b) ∙ tuple_eq_refl t

-- the versions of a tuple are its own, and no other tuple's

pub of_own_rows : (t : Tuple) (rows : List Row) → of_tuple t (versions_of t rows) ≡ versions_of t rows
of_own_rows t [] = refl
of_own_rows t (r ∷ rows) =
    ap (λ (b : Bool). cond b (version_of t r ∷ of_tuple t (versions_of t rows)) (of_tuple t (versions_of t rows))) (own_change t r.is_touch)
    ∙ ap (λ (l : List Version). version_of t r ∷ l) (of_own_rows t rows)

pub of_other_rows : (t u : Tuple) (rows : List Row) → tuple_eq t u ≡ false → of_tuple t (versions_of u rows) ≡ []
of_other_rows t u [] apart = refl
of_other_rows t u (r ∷ rows) apart =
    ap (λ (b : Bool). cond b (version_of u r ∷ of_tuple t (versions_of u rows)) (of_tuple t (versions_of u rows))) (ap (tuple_eq t) (tuple_of_change u r.is_touch) ∙ apart)
    ∙ of_other_rows t u rows apart

-- ---- the newest place

abbrev pub greatest : List Row → ℕ
greatest [] = 0
greatest (r ∷ rows) = max r.place (greatest rows)

pub last_is_greatest : (t : Tuple) (rows : List Row) → last_version (versions_of t rows) t ≡ greatest rows
unfolding last_version
last_is_greatest t [] = refl
last_is_greatest t (r ∷ rows) =
    ap (λ (b : Bool). cond b (max r.place (last_version (versions_of t rows) t)) (last_version (versions_of t rows) t)) (own_change t r.is_touch)
    ∙ ap (λ n. max r.place n) (last_is_greatest t rows)

-- ---- whether the tuple is there

abbrev pub touched : ℕ → Bool → List Row → Bool
touched place there [] = there
touched place there (r ∷ rows) = touched place (cond (nat_le r.place place) r.is_touch there) rows

after_own : (t : Tuple) (there b : Bool) (xs : List Change) → there_after t there (change_of t b ∷ xs) ≡ there_after t b xs
after_own t there true xs = ap (λ (e : Bool). there_after t (cond e true there) xs) (tuple_eq_refl t)
after_own t there false xs = ap (λ (e : Bool). there_after t (cond e false there) xs) (tuple_eq_refl t)

there_rows : (place : ℕ) (t : Tuple) (rows : List Row) (there : Bool) → there_after t there (until place (versions_of t rows)) ≡ touched place there rows
there_rows place t [] there = refl
there_rows place t (r ∷ rows) there = ⊎_elim
    (λ yes. rw yes (after_own t there r.is_touch (until place (versions_of t rows)) ∙ there_rows place t rows r.is_touch))
    (λ no. rw no (there_rows place t rows there))
    (cases_Bool (nat_le r.place place))

pub there_is_touched : (place : ℕ) (t : Tuple) (rows : List Row) → there_at (versions_of t rows) place t ≡ touched place false rows
unfolding there_at
there_is_touched place t rows = there_rows place t rows false

-- ---- what is left under a horizon

max_lt : (p a b : ℕ) → nat_lt p (max a b) ≡ (nat_lt p a || nat_lt p b)
max_lt p a b = grind (arith, nat_tests)

not_lt : (p n : ℕ) → not (nat_lt p n) ≡ nat_le n p
not_lt p n = grind (arith, nat_tests)

followed_step : (p u n h : ℕ) (below s : Bool) → nat_le u h ≡ below → s ≡ nat_lt p n → ((nat_lt p u && nat_le u h) || s) ≡ nat_lt p (cond (nat_le u h) (max u n) n)
followed_step p u n h true s is same = rw is (rw same (followed_low (nat_lt p u) (nat_lt p n) ∙ sym (max_lt p u n)))
  where
    followed_low : (a b : Bool) → ((a && true) || b) ≡ (a || b)
    followed_low true b = refl
    followed_low false b = refl
followed_step p u n h false s is same = rw is (followed_high (nat_lt p u) s ∙ same)
  where
    followed_high : (a b : Bool) → ((a && false) || b) ≡ b
    followed_high true b = refl
    followed_high false b = refl

-- what is left of a single row, and of none

pub none_left : (h : ℕ) → rows_left h [] ≡ []
unfolding rows_left
none_left h = refl

max_low : (p : ℕ) → nat_le (max p 0) p ≡ true
max_low p = grind (arith, nat_tests)

zero_low : (p : ℕ) → nat_le 0 p ≡ true
zero_low p = grind (arith, nat_tests)

newest_low : (p h : ℕ) → nat_le (cond (nat_le p h) (max p 0) 0) p ≡ true
newest_low p h = ⊎_elim
    (λ yes. rw yes (max_low p))
    (λ no. rw no (zero_low p))
    (cases_Bool (nat_le p h))

turned : (a t : Bool) → (a || (t && true)) ≡ (t || a)
turned true true = refl
turned true false = refl
turned false true = refl
turned false false = refl

pub single_left : (h : ℕ) (r : Row) → rows_left h (r ∷ []) ≡ cond (r.is_touch || nat_lt h r.place) (r ∷ []) []
unfolding rows_left
single_left h r =
    ap (λ (b : Bool). cond (nat_lt h r.place || (r.is_touch && b)) (r ∷ []) []) (newest_low r.place h)
    ∙ ap (λ (b : Bool). cond b (r ∷ []) []) (turned (nat_lt h r.place) r.is_touch)

-- a row is followed if the newest one under the horizon lies above it
followed_is : (h : ℕ) (t : Tuple) (r : Row) (rows : List Row) → superseded h (version_of t r) (versions_of t rows) ≡ nat_lt r.place (newest_under h rows)
followed_is h t r [] = sym (zero_least r.place)
  where
    zero_least : (p : ℕ) → nat_lt p 0 ≡ false
    zero_least p = grind (arith, nat_tests)
followed_is h t r (u ∷ rows) =
    ap (λ (b : Bool). (b && nat_lt r.place u.place && nat_le u.place h) || superseded h (version_of t r) (versions_of t rows)) (ap (λ (x : Tuple). tuple_eq x (tuple_of (change_of t u.is_touch))) (tuple_of_change t r.is_touch) ∙ own_change t u.is_touch)
    ∙ followed_step r.place u.place (newest_under h rows) h (nat_le u.place h) (superseded h (version_of t r) (versions_of t rows)) refl (followed_is h t r rows)

stays_is : (h : ℕ) (t : Tuple) (r : Row) (rows : List Row) → (nat_lt h r.place || (is_touch (change_of t r.is_touch) && not (superseded h (version_of t r) (versions_of t rows)))) ≡ stays h (newest_under h rows) r
stays_is h t r rows =
    ap (λ (b : Bool). nat_lt h r.place || (b && not (superseded h (version_of t r) (versions_of t rows)))) (touch_of_change t r.is_touch)
    ∙ ap (λ (b : Bool). nat_lt h r.place || (r.is_touch && b)) (ap (λ (b : Bool). not b) (followed_is h t r rows) ∙ not_lt r.place (newest_under h rows))

filter_rows : (t : Tuple) (keep : Version → Bool) (stay : Row → Bool) → ((r : Row) → keep (version_of t r) ≡ stay r) → (rows : List Row) → filter keep (versions_of t rows) ≡ versions_of t (filter stay rows)
filter_rows t keep stay same [] = refl
filter_rows t keep stay same (r ∷ rows) = ⊎_elim
    (λ yes. rw (same r) (rw yes (ap (λ (l : List Version). version_of t r ∷ l) (filter_rows t keep stay same rows))))
    (λ no. rw (same r) (rw no (filter_rows t keep stay same rows)))
    (cases_Bool (stay r))

pub collected_rows : (h : ℕ) (t : Tuple) (rows : List Row) → versions_of t (rows_left h rows) ≡ collected h (versions_of t rows)
unfolding collected rows_left
collected_rows h t rows = sym (filter_rows t (λ (v : Version). nat_lt h v.place || (is_touch v.change && not (superseded h v (versions_of t rows)))) (stays h (newest_under h rows)) (λ r. stays_is h t r rows) rows)
