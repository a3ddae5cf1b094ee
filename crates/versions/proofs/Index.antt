-- An index by user beside its table.
use Rattle.std.proofs.Common.{◌≡◌, ℕ, Bool, true, false, not, ◌&&◌, ◌||◌, cond, List, [], ◌∷◌, filter, Option, None, inl, inr, refl, sym, ap, ◌∙◌}
use Rattle.std.specs.Prelude.{is_some}
use Rattle.std.specs.List.{list_any}
use Rattle.std.specs.Map.{keys_of}
use Rattle.std.specs.BTreeMap.{is_at}
use Rattle.std.specs.Ordering.{eq_by_cmp, is_eq, ordering_then}
use Rattle.std.proofs.lemmas.Bool.{cases_Bool}
use Rattle.std.proofs.lemmas.Cmp.{tied_itself}
use Rattle.std.proofs.lemmas.Map.Views.{any-filter_same}
use Rattle.tuples.specs.declared.tuple.Tuple.{Tuple}
use Rattle.tuples.specs.declared.user.User.{User}
use Rattle.tuples.specs.Order.{name_cmp, tuple_eq, user_cmp, tuple_cmp}
use Rattle.tuples.proofs.Ordered.{tuple_eq_from_same, tuple_eq_symm}
use Rattle.versions.proofs.Tied.{same_tie}
use Rattle.tuples.proofs.Same.{name_same, tuple_same, user_same, both_tie}
use Rattle.tuples.proofs.Options.{same_tests}
use Rattle.versions.specs.Index.{Forgets, HasSame, IsIndex, is_listed}
use Rattle.tuples.specs.ByUser.{by_user_cmp, by_user_total}
use Rattle.versions.specs.Rows.{found}
use Rattle.versions.specs.declared.history.Row.{Row}
use Rattle.versions.proofs.Tables.{Entries}

-- ---- the order by user ties a tuple with itself alone

by_user_same : (a b : Tuple) → eq_by_cmp by_user_cmp a b ≡ true → a ≡ b
by_user_same a b h =
    let first = both_tie (name_cmp a.object.namespace b.object.namespace) (ordering_then (user_cmp a.user b.user) (ordering_then (name_cmp a.object.id b.object.id) (name_cmp a.relation b.relation))) h in
    let second = both_tie (user_cmp a.user b.user) (ordering_then (name_cmp a.object.id b.object.id) (name_cmp a.relation b.relation)) first.1 in
    let third = both_tie (name_cmp a.object.id b.object.id) (name_cmp a.relation b.relation) second.1 in
    let tuple : List ℕ → List ℕ → List ℕ → User → Tuple = λ n i r u. record { object = record { namespace = n; id = i }; relation = r; user = u } in
    ap (λ (n : List ℕ). tuple n a.object.id a.relation a.user) (name_same a.object.namespace b.object.namespace first.0)
    ∙ ap (λ (i : List ℕ). tuple b.object.namespace i a.relation a.user) (name_same a.object.id b.object.id third.0)
    ∙ ap (λ (r : List ℕ). tuple b.object.namespace b.object.id r a.user) (name_same a.relation b.relation third.1)
    ∙ ap (λ (u : User). tuple b.object.namespace b.object.id b.relation u) (user_same a.user b.user second.0)

by_user_itself : (a b : Tuple) → a ≡ b → eq_by_cmp by_user_cmp a b ≡ true
by_user_itself a b same = ap (λ (t : Tuple). eq_by_cmp by_user_cmp a t) (sym same) ∙ ap is_eq (tied_itself by_user_total a)

pub by_user_tie : (a b : Tuple) → eq_by_cmp by_user_cmp a b ≡ tuple_eq a b
by_user_tie a b = same_tests (eq_by_cmp by_user_cmp a b) (tuple_eq a b) (λ h. tuple_eq_from_same a b (by_user_same a b h)) (λ h. by_user_itself a b (tuple_same a b h))

pub listed_any : (us : List Tuple) (t : Tuple) → is_listed us t ≡ list_any (tuple_eq t) us
listed_any [] t = refl
listed_any (u ∷ us) t = ap (λ (b : Bool). b || is_listed us t) (by_user_tie t u) ∙ ap (λ (b : Bool). tuple_eq t u || b) (listed_any us t)

-- ---- an entry more, and one less

-- what a test makes of a tuple that is put in, or taken out
changed : (k : Tuple) (there : Bool) (us vs : List Tuple) → ((q : Tuple) → is_listed vs q ≡ cond (is_at (by_user_cmp k) q) there (is_listed us q)) → (q : Tuple) → is_listed vs q ≡ cond (tuple_eq k q) there (is_listed us q)
changed k there us vs is q = is q ∙ ap (λ (b : Bool). cond b there (is_listed us q)) (by_user_tie k q)

changed_entry : (t : Tuple) (w : Option (List Row)) (es fs : Entries) → ((q : Tuple) → found q fs ≡ cond (is_at (tuple_cmp t) q) w (found q es)) → (q : Tuple) → is_some (found q fs) ≡ cond (tuple_eq t q) (is_some w) (is_some (found q es))
changed_entry t w es fs is q = ap (λ (o : Option (List Row)). is_some o) (is q) ∙ ap (λ (b : Bool). is_some (cond b w (found q es))) (same_tie t q) ∙ parted (tuple_eq t q)
  where
    parted : (b : Bool) → is_some (cond b w (found q es)) ≡ cond b (is_some w) (is_some (found q es))
    parted true = refl
    parted false = refl

-- the same is done to the index and to the table
pub index_changed : (k t : Tuple) → k ≡ t → (w : Option (List Row)) (us vs : List Tuple) (es fs : Entries) → IsIndex us es
    → ((q : Tuple) → is_listed vs q ≡ cond (is_at (by_user_cmp k) q) (is_some w) (is_listed us q))
    → ((q : Tuple) → found q fs ≡ cond (is_at (tuple_cmp t) q) w (found q es))
    → IsIndex vs fs
unfolding IsIndex
index_changed k t same w us vs es fs old put entry q =
    changed k (is_some w) us vs put q
    ∙ ap (λ (x : Tuple). cond (tuple_eq x q) (is_some w) (is_listed us q)) same
    ∙ ap (λ (b : Bool). cond (tuple_eq t q) (is_some w) b) (old q)
    ∙ sym (changed_entry t w es fs entry q)

-- a tuple without an entry is put in and taken out again
pub index_back : (k t : Tuple) → k ≡ t → (us vs ws : List Tuple) (es fs : Entries) → IsIndex us es → found t es ≡ None → fs ≡ es
    → ((q : Tuple) → is_listed vs q ≡ cond (is_at (by_user_cmp k) q) true (is_listed us q))
    → Forgets t vs ws
    → IsIndex ws fs
unfolding IsIndex
index_back k t same us vs ws es fs old none stay put back q =
    changed t false vs ws back q
    ∙ ap (λ (b : Bool). cond (tuple_eq t q) false b) (changed k true us vs put q ∙ ap (λ (x : Tuple). cond (tuple_eq x q) true (is_listed us q)) same)
    ∙ twice (tuple_eq t q) (is_listed us q) (λ is. old q ∙ ap (λ (x : Tuple). is_some (found x es)) (sym (tuple_same t q is)) ∙ ap (λ (o : Option (List Row)). is_some o) none)
    ∙ old q
    ∙ ap (λ (l : Entries). is_some (found q l)) (sym stay)
  where
    twice : (b c : Bool) → (b ≡ true → c ≡ false) → cond b false (cond b true c) ≡ c
    twice true c is = sym (is refl)
    twice false c is = refl

pub index_same : (us : List Tuple) (es fs : Entries) → IsIndex us es → HasSame es fs → IsIndex us fs
unfolding IsIndex HasSame
index_same us es fs old same t = old t ∙ sym (same t)

pub same_entries : (es fs : Entries) → fs ≡ es → HasSame es fs
unfolding HasSame
same_entries es fs is t = ap (λ (l : Entries). is_some (found t l)) is

-- ---- what the keys tell

pub some_by_keys : (t : Tuple) (es : Entries) → is_some (found t es) ≡ list_any (is_at (tuple_cmp t)) (keys_of es)
some_by_keys t [] = refl
some_by_keys t ((u, h) ∷ es) = elim (cases_Bool (is_at (tuple_cmp t) u)) [
  | inl is ↦ rw is refl
  | inr apart ↦ rw apart (some_by_keys t es)
]

pub same_keys : (es fs : Entries) → keys_of fs ≡ keys_of es → HasSame es fs
unfolding HasSame
same_keys es fs is t = some_by_keys t fs ∙ ap (λ (l : List Tuple). list_any (is_at (tuple_cmp t)) l) is ∙ sym (some_by_keys t es)

-- ---- what has no entry any more is left out

pub index_filtered : (us vs : List Tuple) (es fs : Entries) → IsIndex us es → vs ≡ filter (λ t. is_some (found t fs)) us
    → ((t : Tuple) → is_some (found t fs) ≡ true → is_some (found t es) ≡ true)
    → IsIndex vs fs
unfolding IsIndex
index_filtered us vs es fs old is fewer t =
    listed_any vs t
    ∙ ap (λ (l : List Tuple). list_any (tuple_eq t) l) is
    ∙ any-filter_same (tuple_eq t) (λ u. is_some (found u fs)) (is_some (found t fs)) (λ u same. ap (λ (x : Tuple). is_some (found x fs)) (sym (tuple_same t u same))) us
    ∙ ap (λ (b : Bool). is_some (found t fs) && b) (sym (listed_any us t) ∙ old t)
    ∙ narrowed (is_some (found t fs)) (is_some (found t es)) (fewer t)
  where
    narrowed : (a b : Bool) → (a ≡ true → b ≡ true) → (a && b) ≡ a
    narrowed true b h = h refl
    narrowed false b h = refl

pub forgets_filtered : (t : Tuple) (us vs : List Tuple) → vs ≡ filter (λ u. not (eq_by_cmp by_user_cmp u t)) us → Forgets t us vs
forgets_filtered t us vs is q =
    listed_any vs q
    ∙ ap (λ (l : List Tuple). list_any (tuple_eq q) l) is
    ∙ any-filter_same (tuple_eq q) (λ u. not (eq_by_cmp by_user_cmp u t)) (not (eq_by_cmp by_user_cmp q t)) (λ u same. ap (λ (x : Tuple). not (eq_by_cmp by_user_cmp x t)) (sym (tuple_same q u same))) us
    ∙ ap (λ (b : Bool). not (eq_by_cmp by_user_cmp q t) && b) (sym (listed_any us q))
    ∙ ap (λ (b : Bool). not b && is_listed us q) (by_user_tie q t ∙ tuple_eq_symm q t ∙ sym (by_user_tie t q))
    ∙ left_out (is_at (by_user_cmp t) q) (is_listed us q)
  where
    left_out : (b d : Bool) → (not b && d) ≡ cond b false d
    left_out true d = refl
    left_out false d = refl

pub index_none : (us : List Tuple) (es : Entries) → us ≡ [] → es ≡ [] → IsIndex us es
unfolding IsIndex
index_none us es none empty t = ap (λ (l : List Tuple). is_listed l t) none ∙ sym (ap (λ (l : Entries). is_some (found t l)) empty)
