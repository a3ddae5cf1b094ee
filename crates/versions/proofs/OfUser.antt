-- A walk over the tuples of a namespace that name a user.
use Rattle.std.proofs.Common.{◌≡◌, ℕ, Bool, true, false, ◌&&◌, ◌||◌, cond, List, [], ◌∷◌, filter, Option, None, Some, inl, inr, refl, sym, ap, subst, ◌∙◌}
use Rattle.std.specs.Prelude.{is_some}
use Rattle.std.specs.List.{AllByRecursion, list_any}
use Rattle.std.specs.List.Sorted.{IsStrictlySortedBy}
use Rattle.std.specs.Map.{keys_of}
use Rattle.std.specs.Ordering.{is_eq, is_le, is_lt, ordering_then}
use Rattle.std.specs.declared.cmp.Ordering.{Ordering}
use Rattle.std.specs.declared.cmp.Ordering.TheVariants.{Less, Equal, Greater}
use Rattle.std.proofs.lemmas.Bool.{cases_Bool, and_parts}
use Rattle.std.proofs.lemmas.List.Kept.{IsStrictlySortedBy-filter}
use Rattle.std.proofs.lemmas.Map.Views.{any-filter_same}
use Rattle.tuples.specs.declared.tuple.Tuple.{Tuple}
use Rattle.tuples.specs.declared.tupleset.Tupleset.{Tupleset}
use Rattle.tuples.specs.declared.tupleset.Tupleset.TheVariants.{OfUser}
use Rattle.tuples.specs.declared.user.User.{User}
use Rattle.tuples.specs.Order.{name_cmp, tuple_eq, tuple_lt, user_cmp}
use Rattle.tuples.specs.Reads.{AreAscending, IsSelection, meets}
use Rattle.tuples.specs.Texts.{IsTuple}
use Rattle.tuples.specs.Versions.{there_at}
use Rattle.tuples.proofs.Ordered.{tuple_eq_refl}
use Rattle.versions.proofs.Tied.{same_tie}
use Rattle.tuples.proofs.Same.{name_same, tuple_same, user_same}
use Rattle.versions.specs.Index.{IsFirstOf, IsIndex, is_of_user}
use Rattle.tuples.specs.ByUser.{by_user_cmp}
use Rattle.versions.specs.Rows.{IsTable, found, listed, rows_in, versions_of}
use Rattle.versions.specs.declared.history.Row.{Row}
use Rattle.versions.specs.declared.of_user.OfUser.{OfUser as Asked}
use Rattle.versions.proofs.Alike.{there_at_own}
use Rattle.versions.proofs.Index.{listed_any}
use Rattle.versions.proofs.Selected.{all_filtered, all_weaker, never, picked_of, there_in}
use Rattle.versions.proofs.Tables.{AreSorted, Entries, of_listed}

-- of the tuples of an index, those that are there and pass a test
abbrev pub chosen_of : ℕ → (Tuple → Bool) → Entries → List Tuple → List Tuple
chosen_of place q es = filter (λ t. q t && there_in place t es)

-- ---- they are those that are there

only_there : (place : ℕ) (t : Tuple) (es : Entries) → (there_in place t es && is_some (found t es)) ≡ there_in place t es
unfolding there_in
only_there place t es = by_entry (found t es) refl
  where
    and_true : (b : Bool) → (b && true) ≡ b
    and_true true = refl
    and_true false = refl

    by_entry : (o : Option (List Row)) → found t es ≡ o → (there_at (versions_of t (rows_in (found t es))) place t && is_some (found t es)) ≡ there_at (versions_of t (rows_in (found t es))) place t
    by_entry None is = rw is (ap (λ (b : Bool). b && false) (never place t) ∙ sym (never place t))
    by_entry (Some h) is = rw is (and_true (there_at (versions_of t h) place t))

and_assoc : (a b d : Bool) → ((a && b) && d) ≡ (a && (b && d))
and_assoc true b d = refl
and_assoc false b d = refl

has_chosen : (place : ℕ) (q : Tuple → Bool) (es : Entries) (us : List Tuple) → AreSorted es → IsIndex us es → (t : Tuple) → list_any (tuple_eq t) (chosen_of place q es us) ≡ (q t && there_at (listed es) place t)
unfolding IsIndex there_in
has_chosen place q es us sorted index t =
    any-filter_same (tuple_eq t) (λ u. q u && there_in place u es) (q t && there_in place t es) (λ u same. ap (λ (x : Tuple). q x && there_in place x es) (sym (tuple_same t u same))) us
    ∙ ap (λ (b : Bool). (q t && there_in place t es) && b) (sym (listed_any us t) ∙ index t)
    ∙ and_assoc (q t) (there_in place t es) (is_some (found t es))
    ∙ ap (λ (b : Bool). q t && b) (only_there place t es ∙ sym (there_at_own (listed es) place t ∙ ap (λ l. there_at l place t) (of_listed t es sorted)))

-- ---- those of one user in a namespace stand in the order of tuples

equal_from : (o : Ordering) → is_eq o ≡ true → o ≡ Equal
equal_from Less h = absurd cc
equal_from Equal h = refl
equal_from Greater h = absurd cc

same_names : (n a b : List ℕ) → is_eq (name_cmp a n) ≡ true → is_eq (name_cmp b n) ≡ true → name_cmp a b ≡ Equal
same_names n a b h k = equal_from (name_cmp a b) (ap (λ (x : List ℕ). is_eq (name_cmp a x)) (name_same b n k) ∙ h)

same_users : (u a b : User) → is_eq (user_cmp a u) ≡ true → is_eq (user_cmp b u) ≡ true → user_cmp a b ≡ Equal
same_users u a b h k = equal_from (user_cmp a b) (ap (λ (x : User). is_eq (user_cmp a x)) (user_same b u k) ∙ h)

up : (n u i r : Ordering) → n ≡ Equal → u ≡ Equal → ordering_then n (ordering_then u (ordering_then i r)) ≡ Less → is_lt (ordering_then (ordering_then n i) (ordering_then r u)) ≡ true
up n u i r ns us less = rw ns (rw us (up_rest i r (ap (λ (o : Ordering). ordering_then o (ordering_then u (ordering_then i r))) (sym ns) ∙ less)))
  where
    up_rest : (i r : Ordering) → ordering_then u (ordering_then i r) ≡ Less → is_lt (ordering_then i (ordering_then r Equal)) ≡ true
    up_rest Less r h = refl
    up_rest Equal Less h = refl
    up_rest Equal Equal h = absurd (let never : Equal ≡ Less = sym us ∙ back u h in cc)
      where
        back : (o : Ordering) → ordering_then o Equal ≡ Less → o ≡ Less
        back Less h = refl
        back Equal h = absurd cc
        back Greater h = absurd cc
    up_rest Equal Greater h = absurd (let never : Greater ≡ Less = ap (λ (o : Ordering). ordering_then o Greater) (sym us) ∙ h in cc)
    up_rest Greater r h = absurd (let never : Greater ≡ Less = ap (λ (o : Ordering). ordering_then o Greater) (sym us) ∙ h in cc)

up_of_user : (n : List ℕ) (u : User) (t v : Tuple) → is_of_user n u t ≡ true → is_of_user n u v ≡ true → by_user_cmp t v ≡ Less → tuple_lt t v ≡ true
unfolding tuple_lt
up_of_user n u t v of_t of_v less =
    let first = and_parts (is_eq (name_cmp t.object.namespace n)) (is_eq (user_cmp t.user u)) of_t in
    let second = and_parts (is_eq (name_cmp v.object.namespace n)) (is_eq (user_cmp v.user u)) of_v in
    up (name_cmp t.object.namespace v.object.namespace) (user_cmp t.user v.user) (name_cmp t.object.id v.object.id) (name_cmp t.relation v.relation)
    (same_names n t.object.namespace v.object.namespace first.0 second.0) (same_users u t.user v.user first.1 second.1) less

ascending : (n : List ℕ) (u : User) (ts : List Tuple) → IsStrictlySortedBy by_user_cmp ts → AllByRecursion (λ (t : Tuple). is_of_user n u t ≡ true) ts → AreAscending ts
unfolding IsStrictlySortedBy
ascending n u [] sorted all = tt
ascending n u (t ∷ []) sorted all = tt
ascending n u (t ∷ v ∷ ts) sorted all = (up_of_user n u t v all.0 all.1.0 sorted.0.0, ascending n u (v ∷ ts) sorted.1 all.1)

-- what meets the tupleset is of the user
pub of_user_meets : (n : List ℕ) (u : User) (r : Option (List ℕ)) (t : Tuple) → meets (OfUser n u r) t ≡ true → is_of_user n u t ≡ true
of_user_meets n u r t h = first (is_eq (name_cmp t.object.namespace n)) (is_eq (user_cmp t.user u)) _ h
  where
    first : (a b d : Bool) → (a && (b && d)) ≡ true → (a && b) ≡ true
    first true true d h = refl
    first true false d h = h
    first false b d h = h

pub chosen_selection : (place : ℕ) (n : List ℕ) (u : User) (r : Option (List ℕ)) (es : Entries) (us : List Tuple) → AreSorted es → IsIndex us es → IsStrictlySortedBy by_user_cmp us → IsSelection (there_at (listed es) place) (OfUser n u r) (chosen_of place (meets (OfUser n u r)) es us)
chosen_selection place n u r es us sorted index in_order =
    let q = meets (OfUser n u r) in
    let p : Tuple → Bool = λ t. q t && there_in place t es in
    let all : AllByRecursion (λ (t : Tuple). is_of_user n u t ≡ true) (filter p us) =
    all_weaker (λ t. p t ≡ true) (λ t. is_of_user n u t ≡ true) (λ t h. of_user_meets n u r t (and_parts (q t) (there_in place t es) h).0) (filter p us) (all_filtered p us)
    in
    let picked = picked_of (there_at (listed es) place) q (filter p us) (ascending n u (filter p us) (IsStrictlySortedBy-filter by_user_cmp p us in_order) all) (has_chosen place q es us sorted index) in
    record { ascending = picked.ascending; exact = picked.exact }

-- ---- the tuples of an index are in their grammar

entry_has : (P : Tuple → Type 0) (t : Tuple) (es : Entries) → AllByRecursion P (keys_of es) → is_some (found t es) ≡ true → P t
entry_has P t [] all some = absurd cc
entry_has P t ((u, h) ∷ es) all some = elim (cases_Bool (tuple_eq t u)) [
  | inl is ↦ subst P (sym (tuple_same t u is)) all.0
  | inr apart ↦ entry_has P t es all.1 (sym (ap (λ (b : Bool). is_some (cond b (Some h) (found t es))) (same_tie t u ∙ apart)) ∙ some)
]

all_of_any : (P : Tuple → Type 0) (us : List Tuple) → ((t : Tuple) → list_any (tuple_eq t) us ≡ true → P t) → AllByRecursion P us
all_of_any P [] f = tt
all_of_any P (u ∷ us) f = (f u (ap (λ (b : Bool). b || list_any (tuple_eq u) us) (tuple_eq_refl u)), all_of_any P us (λ t h. f t (ap (λ (b : Bool). tuple_eq t u || b) h ∙ or_true (tuple_eq t u))))
  where
    or_true : (b : Bool) → (b || true) ≡ true
    or_true true = refl
    or_true false = refl

pub index_spelled : (us : List Tuple) (es : Entries) → IsTable es → IsIndex us es → AllByRecursion IsTuple us
unfolding IsIndex
index_spelled us es table index = all_of_any IsTuple us (λ t h. entry_has IsTuple t es table.spelled (sym (index t) ∙ listed_any us t ∙ h))

-- ---- a walk from the first one on

-- the tuples of a walk: in order, and none before the first one
pub record IsWalkBy (first : Tuple) (us : List Tuple) : Type 0 where
  pub in_order : IsStrictlySortedBy by_user_cmp us
  pub above : AllByRecursion (λ (t : Tuple). is_le (by_user_cmp first t) ≡ true) us

pub walk_by_from : (first : Tuple) (p : Tuple → Bool) → ((t : Tuple) → p t ≡ true → is_le (by_user_cmp first t) ≡ true) → (us : List Tuple) → IsStrictlySortedBy by_user_cmp us → IsWalkBy first (filter p us)
walk_by_from first p low us sorted = record {
  in_order = IsStrictlySortedBy-filter by_user_cmp p us sorted;
  above = all_weaker (λ t. p t ≡ true) (λ t. is_le (by_user_cmp first t) ≡ true) low (filter p us) (all_filtered p us);
}

pub walk_by_rest : (first t : Tuple) (us : List Tuple) → IsWalkBy first (t ∷ us) → IsWalkBy first us
unfolding IsStrictlySortedBy
walk_by_rest first t us walk = record { in_order = walk.in_order.1; above = walk.above.1 }

-- it leaves none out
pub chosen_from_first : (place : ℕ) (q p : Tuple → Bool) (es : Entries) → ((t : Tuple) → IsTuple t → q t ≡ true → p t ≡ true) → (us : List Tuple) → AllByRecursion IsTuple us → chosen_of place q es (filter p us) ≡ chosen_of place q es us
chosen_from_first place q p es passes [] spelled = refl
chosen_from_first place q p es passes (t ∷ us) spelled = elim (cases_Bool (p t)) [
  | inl is ↦
      ap (λ (b : Bool). chosen_of place q es (cond b (t ∷ filter p us) (filter p us))) is
      ∙ ap (λ (l : List Tuple). cond (q t && there_in place t es) (t ∷ l) l) (chosen_from_first place q p es passes us spelled.1)
  | inr apart ↦
      ap (λ (b : Bool). chosen_of place q es (cond b (t ∷ filter p us) (filter p us))) apart
      ∙ chosen_from_first place q p es passes us spelled.1
      ∙ sym (ap (λ (b : Bool). cond (b && there_in place t es) (t ∷ chosen_of place q es us) (chosen_of place q es us)) (misses (q t) (p t) (passes t spelled.0) apart))
]
  where
    misses : (m b : Bool) → (m ≡ true → b ≡ true) → b ≡ false → m ≡ false
    misses true b implies no_pass = sym (implies refl) ∙ no_pass
    misses false b implies no_pass = refl

-- after one of another user or namespace there is none of them
none_after : (place : ℕ) (n : List ℕ) (u : User) (q : Tuple → Bool) (es : Entries) (first t : Tuple) → ((v : Tuple) → q v ≡ true → is_of_user n u v ≡ true) → IsFirstOf n u first → is_le (by_user_cmp first t) ≡ true → is_of_user n u t ≡ false → (us : List Tuple) → AllByRecursion (λ v. by_user_cmp t v ≡ Less) us → chosen_of place q es us ≡ []
none_after place n u q es first t is_of is low misses [] above = refl
none_after place n u q es first t is_of is low misses (v ∷ us) above =
    ap (λ (b : Bool). cond (b && there_in place v es) (v ∷ chosen_of place q es us) (chosen_of place q es us)) (out (q v) (λ h. is.within t v low above.0 (is_of v h)))
    ∙ none_after place n u q es first t is_of is low misses us above.1
  where
    out : (m : Bool) → (m ≡ true → is_of_user n u t ≡ true) → m ≡ false
    out true implies = sym (implies refl) ∙ misses
    out false implies = refl

pub none_left_by : (place : ℕ) (n : List ℕ) (u : User) (q : Tuple → Bool) (es : Entries) (first t : Tuple) (us : List Tuple) → ((v : Tuple) → q v ≡ true → is_of_user n u v ≡ true) → IsFirstOf n u first → IsWalkBy first (t ∷ us) → is_of_user n u t ≡ false → chosen_of place q es (t ∷ us) ≡ []
unfolding IsStrictlySortedBy
none_left_by place n u q es first t us is_of is walk misses =
    ap (λ (b : Bool). cond (b && there_in place t es) (t ∷ chosen_of place q es us) (chosen_of place q es us)) (out (q t) (is_of t))
    ∙ none_after place n u q es first t is_of is walk.above.0 misses us walk.in_order.0
  where
    out : (m : Bool) → (m ≡ true → is_of_user n u t ≡ true) → m ≡ false
    out true implies = sym (implies refl) ∙ misses
    out false implies = refl

pub low_by : (first t : Tuple) → (is_le (by_user_cmp first t) && true) ≡ true → is_le (by_user_cmp first t) ≡ true
low_by first t h = (and_parts (is_le (by_user_cmp first t)) true h).0

pub by_low : (first t : Tuple) → is_le (by_user_cmp first t) ≡ true → (is_le (by_user_cmp first t) && true) ≡ true
by_low first t h = ap (λ (b : Bool). b && true) h

-- what is asked for, as a tupleset
abbrev pub asked_of : Asked → Tupleset
asked_of a = OfUser a.namespace.now a.user.now a.relation.now

pub keeps_tuple : (place : ℕ) (q : Tuple → Bool) (es : Entries) (t : Tuple) (us : List Tuple) → q t ≡ true → there_in place t es ≡ true → chosen_of place q es (t ∷ us) ≡ t ∷ chosen_of place q es us
keeps_tuple place q es t us has there = rw has (rw there refl)

pub skips_tuple : (place : ℕ) (q : Tuple → Bool) (es : Entries) (t : Tuple) (us : List Tuple) → (q t && there_in place t es) ≡ false → chosen_of place q es (t ∷ us) ≡ chosen_of place q es us
skips_tuple place q es t us gone = ap (λ (b : Bool). cond b (t ∷ chosen_of place q es us) (chosen_of place q es us)) gone

pub there_by_own : (place : ℕ) (t : Tuple) (es : Entries) (rows : List Row) → rows ≡ rows_in (found t es) → there_in place t es ≡ there_at (versions_of t rows) place t
unfolding there_in
there_by_own place t es rows is = ap (λ (l : List Row). there_at (versions_of t l) place t) (sym is)

pub met : (a b d : Bool) → (a && b) ≡ true → d ≡ true → (a && (b && d)) ≡ true
met true true d h k = k
met true false d h k = absurd cc
met false b d h k = absurd cc

pub missed : (a b d : Bool) → d ≡ false → (a && (b && d)) ≡ false
missed true true d h = h
missed true false d h = refl
missed false b d h = refl
