-- Versions that are listed tuple by tuple are in the order of tuples and places, if the places of each tuple rise.
use Rattle.std.proofs.Common.{◌≡◌, ◌≤◌, ◌<◌, ◌+◌, ℕ, zero, suc, ◌==◌, Bool, true, false, cond, List, [], ◌∷◌, ◌++◌, length, slice_index_or, refl, sym, ◌∙◌, ap, subst, arith}
use Rattle.std.specs.List.{AllByRecursion}
use Rattle.std.specs.List.Sorted.{IsSorted, IsStrictlySortedBy}
use Rattle.std.specs.Map.{keys_of}
use Rattle.std.specs.Ordering.{is_lt, nat_cmp, ordering_reverse, ordering_then}
use Rattle.std.specs.declared.cmp.Ordering.{Ordering}
use Rattle.std.specs.declared.cmp.Ordering.TheVariants.{Less, Equal, Greater}
use Rattle.std.proofs.lemmas.Bool.{le-ltb}
use Rattle.std.proofs.lemmas.Cmp.{tied_itself}
use Rattle.std.proofs.lemmas.List.Elements.{filter-append}
use Rattle.tuples.specs.declared.tuple.Tuple.{Tuple}
use Rattle.tuples.specs.declared.version.Version.{Version}
use Rattle.tuples.specs.Changes.{tuple_of}
use Rattle.tuples.specs.Order.{tuple_cmp}
use Rattle.tuples.proofs.Ordered.{tuple_total}
use Rattle.versions.specs.Alike.{of_tuple}
use Rattle.versions.specs.Rows.{IsTable, listed, version_cmp, version_of, versions_of}
use Rattle.versions.specs.Walks.{IsInOrder, Rise}
use Rattle.versions.specs.declared.history.Row.{Row}
use Rattle.versions.proofs.Histories.{of_own_rows, tuple_of_change}
use Rattle.versions.proofs.Tables.{AreSorted, Entries}

-- no version stands before the one that it follows
abbrev Follow : List Version → Type 0
Follow [] = Unit {0}
Follow (v ∷ []) = Unit {0}
Follow (v ∷ u ∷ vs) = (is_lt (version_cmp u v) ≡ false) × Follow (u ∷ vs)

each_follows : (vs : List Version) → Follow vs → (k m : ℕ) (d : Version) → m ≡ suc k → m < length vs → is_lt (version_cmp (slice_index_or vs m d) (slice_index_or vs k d)) ≡ false
each_follows [] follow k m d next lt = absurd (omega (arith, lt))
each_follows (v ∷ []) follow k m d next lt = absurd (omega (arith, next, lt))
each_follows (v ∷ u ∷ vs) follow k zero d next lt = absurd (omega (arith, next))
each_follows (v ∷ u ∷ vs) follow zero (suc m) d next lt =
    let first : m ≡ 0 = omega (arith, next) in
    subst (λ (n : ℕ). is_lt (version_cmp (slice_index_or (u ∷ vs) n d) v) ≡ false) (sym first) follow.0
each_follows (v ∷ u ∷ vs) follow (suc k) (suc m) d next lt = each_follows (u ∷ vs) follow.1 k m d (omega (arith, next)) (omega (arith, lt))

follow_sorted : (vs : List Version) → Follow vs → IsSorted version_cmp vs
follow_sorted vs follow k d low lt = each_follows vs follow k (k + 1) d (omega arith) lt

not_less : (b : Bool) → is_lt (cond b Equal Greater) ≡ false
not_less true = refl
not_less false = refl

no_less : (n m : ℕ) → n ≤ m → is_lt (nat_cmp m n) ≡ false
no_less n m le = ap (λ (b : Bool). is_lt (cond b Less (cond (m == n) Equal Greater))) (le-ltb m n le) ∙ not_less (m == n)

-- versions of one tuple
same_tuple : (t : Tuple) (a b : Row) → a.place ≤ b.place → is_lt (version_cmp (version_of t b) (version_of t a)) ≡ false
same_tuple t a b le =
    ap (λ (x : Tuple). is_lt (ordering_then (tuple_cmp x (tuple_of (version_of t a).change)) (nat_cmp b.place a.place))) (tuple_of_change t b.is_touch)
    ∙ ap (λ (x : Tuple). is_lt (ordering_then (tuple_cmp t x) (nat_cmp b.place a.place))) (tuple_of_change t a.is_touch)
    ∙ ap (λ (o : Ordering). is_lt (ordering_then o (nat_cmp b.place a.place))) (tied_itself tuple_total t)
    ∙ no_less a.place b.place le

-- versions of a tuple and of a later one
later_tuple : (t u : Tuple) (a b : Row) → tuple_cmp t u ≡ Less → is_lt (version_cmp (version_of u b) (version_of t a)) ≡ false
later_tuple t u a b less =
    ap (λ (x : Tuple). is_lt (ordering_then (tuple_cmp x (tuple_of (version_of t a).change)) (nat_cmp b.place a.place))) (tuple_of_change u b.is_touch)
    ∙ ap (λ (x : Tuple). is_lt (ordering_then (tuple_cmp u x) (nat_cmp b.place a.place))) (tuple_of_change t a.is_touch)
    ∙ ap (λ (o : Ordering). is_lt (ordering_then o (nat_cmp b.place a.place))) (tuple_total.antisymm u t ∙ ap ordering_reverse less)

-- ---- lists that rise

rise_front : (vs us : List Version) → Rise (vs ++ us) → Rise vs
rise_front [] us rise = tt
rise_front (v ∷ []) us rise = tt
rise_front (v ∷ w ∷ vs) us rise = (rise.0, rise_front (w ∷ vs) us rise.1)

rise_rest : (v : Version) (vs : List Version) → Rise (v ∷ vs) → Rise vs
rise_rest v [] rise = tt
rise_rest v (u ∷ vs) rise = rise.1

rise_back : (vs us : List Version) → Rise (vs ++ us) → Rise us
rise_back [] us rise = rise
rise_back (v ∷ vs) us rise = rise_back vs us (rise_rest v (vs ++ us) rise)

-- ---- one entry, and those after it

behind_rows : (t u : Tuple) (a : Row) (rows : List Row) (rest : List Version) → tuple_cmp t u ≡ Less → (Follow rest → Follow (version_of t a ∷ rest))
    → Follow (versions_of u rows ++ rest) → Follow (version_of t a ∷ (versions_of u rows ++ rest))
behind_rows t u a [] rest less next follow = next follow
behind_rows t u a (b ∷ rows) rest less next follow = (later_tuple t u a b less, follow)

-- after the versions of a tuple stand those of later tuples
behind : (t : Tuple) (a : Row) (es : Entries) → AllByRecursion (λ y. tuple_cmp t y ≡ Less) (keys_of es) → Follow (listed es) → Follow (version_of t a ∷ listed es)
behind t a [] above follow = tt
behind t a ((u, h) ∷ es) above follow = behind_rows t u a h (listed es) above.0 (λ next. behind t a es above.1 next) follow

own_first : (t : Tuple) (rows : List Row) (es : Entries) → AllByRecursion (λ y. tuple_cmp t y ≡ Less) (keys_of es) → Rise (versions_of t rows) → Follow (listed es) → Follow (versions_of t rows ++ listed es)
own_first t [] es above rise follow = follow
own_first t (a ∷ []) es above rise follow = behind t a es above follow
own_first t (a ∷ b ∷ rows) es above rise follow = (same_tuple t a b rise.0, own_first t (b ∷ rows) es above rise.1 follow)

follow_listed : (es : Entries) → AreSorted es → ((t : Tuple) → Rise (of_tuple t (listed es))) → Follow (listed es)
unfolding IsStrictlySortedBy
follow_listed [] sorted rise = tt
follow_listed ((t, h) ∷ es) sorted rise =
    let parts : (u : Tuple) → Rise (of_tuple u (versions_of t h) ++ of_tuple u (listed es)) = λ u. subst Rise (filter-append _ (versions_of t h) (listed es)) (rise u) in
    own_first t h es sorted.0
    (subst Rise (of_own_rows t h) (rise_front (of_tuple t (versions_of t h)) (of_tuple t (listed es)) (parts t)))
    (follow_listed es sorted.1 (λ u. rise_back (of_tuple u (versions_of t h)) (of_tuple u (listed es)) (parts u)))

pub listed_in_order : (es : Entries) → IsTable es → IsInOrder (listed es)
listed_in_order es table rise = follow_sorted (listed es) (follow_listed es table.in_order rise)
