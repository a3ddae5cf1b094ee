-- What a check asks of a userset: the tuple of its user, and those of usersets.
use Rattle.std.proofs.Common.{◌≡◌, ℕ, inl, inr, Bool, true, false, cond, ◌&&◌, ◌||◌, List, [], ◌∷◌, refl, sym, ap, subst, ◌∙◌}
use Rattle.std.specs.Ordering.{is_eq, is_lt, ordering_then}
use Rattle.std.specs.List.{list_any}
use Rattle.std.specs.declared.cmp.Ordering.{Ordering}
use Rattle.std.specs.declared.cmp.Ordering.TheVariants.{Less, Equal}
use Rattle.std.proofs.lemmas.Bool.{cases_Bool, and_parts}
use Rattle.std.proofs.lemmas.Cmp.{nat_list_cmp_total, tied_itself}
use Rattle.tuples.specs.declared.object.Userset.{Userset}
use Rattle.tuples.specs.declared.tuple.Tuple.{Tuple}
use Rattle.tuples.specs.declared.user.User.{User}
use Rattle.tuples.specs.declared.user.User.TheVariants.{Id, Set}
use Rattle.tuples.specs.Checking.{holding}
use Rattle.tuples.specs.Order.{name_cmp, object_cmp, tuple_eq, tuple_lt, user_cmp}
use Rattle.tuples.specs.Reads.{AreAscending, same_name}
use Rattle.tuples.specs.Walking.{IsCheckSelection, is_set, meets_check}
use Rattle.tuples.proofs.Ordered.{object_total, tuple_eq_refl}
use Rattle.tuples.proofs.Same.{object_same, name_same, tuple_same, is_eq_then}
use Rattle.versions.specs.Rows.{IsPicked, is_one_of, is_own_or_set, is_set_of}
use Rattle.versions.proofs.Selected.{picked_any, picked_of}

-- ---- the test of a check

spread : (a b c d : Bool) → (a && (b && (c || d))) ≡ ((a && (b && c)) || (a && (b && d)))
spread true true c d = refl
spread true false c d = refl
spread false b c d = refl

is_holding : (x : Userset) (u : User) (t : Tuple) → tuple_eq t (holding x u) ≡ (is_eq (object_cmp t.object x.object) && (same_name t.relation x.relation && is_eq (user_cmp t.user u)))
unfolding tuple_eq
is_holding x u t =
    is_eq_then (object_cmp t.object x.object) (ordering_then (name_cmp t.relation x.relation) (user_cmp t.user u))
    ∙ ap (λ (b : Bool). is_eq (object_cmp t.object x.object) && b) (is_eq_then (name_cmp t.relation x.relation) (user_cmp t.user u))

-- the tuple of the user, or one of a userset
either : (x : Userset) (u : User) (t : Tuple) → meets_check x u t ≡ (tuple_eq t (holding x u) || is_set_of x t)
either x u t =
    spread (is_eq (object_cmp t.object x.object)) (same_name t.relation x.relation) (is_eq (user_cmp t.user u)) (is_set t.user)
    ∙ ap (λ (b : Bool). b || is_set_of x t) (sym (is_holding x u t))

-- ---- the tuple of a plain user stands before those of usersets

user_before : (i : List ℕ) (u : User) → is_set u ≡ true → user_cmp (Id i) u ≡ Less
user_before i (Id j) set = absurd cc
user_before i (Set y) set = refl

tied_then : (a b : Ordering) → a ≡ Equal → ordering_then a b ≡ b
tied_then a b tied = ap (λ (o : Ordering). ordering_then o b) tied

stands_before : (x : Userset) (i : List ℕ) (t : Tuple) → is_set_of x t ≡ true → tuple_lt (holding x (Id i)) t ≡ true
unfolding tuple_lt
stands_before x i t is =
    let parts = and_parts (is_eq (object_cmp t.object x.object)) (same_name t.relation x.relation && is_set t.user) is in
    let more = and_parts (same_name t.relation x.relation) (is_set t.user) parts.1 in
    let object : object_cmp x.object t.object ≡ Equal = ap (object_cmp x.object) (object_same t.object x.object parts.0) ∙ tied_itself object_total x.object in
    let relation : name_cmp x.relation t.relation ≡ Equal = ap (name_cmp x.relation) (name_same t.relation x.relation more.0) ∙ tied_itself nat_list_cmp_total x.relation in
    ap is_lt (tied_then (object_cmp x.object t.object) (ordering_then (name_cmp x.relation t.relation) (user_cmp (Id i) t.user)) object
    ∙ tied_then (name_cmp x.relation t.relation) (user_cmp (Id i) t.user) relation
    ∙ user_before i t.user more.1)

first_before : (there : Tuple → Bool) (x : Userset) (i : List ℕ) (rows : List Tuple) → IsPicked there (is_set_of x) rows → AreAscending rows → AreAscending (holding x (Id i) ∷ rows)
first_before there x i [] picked up = tt
first_before there x i (t ∷ rows) picked up =
    let own = and_parts (is_set_of x t) (there t) (sym (picked_any there (is_set_of x) (t ∷ rows) picked t) ∙ ap (λ (b : Bool). b || list_any (tuple_eq t) rows) (tuple_eq_refl t)) in
    (stands_before x i t own.0, up)

-- ---- with the tuple of a plain user, if it is there

found_both : (a s h : Bool) → (a ≡ true → h ≡ true) → (a || (s && h)) ≡ ((a || s) && h)
found_both true s h is = sym (is refl)
found_both false s h is = refl

found_sets : (a s h : Bool) → (a ≡ true → h ≡ false) → (s && h) ≡ ((a || s) && h)
found_sets true s h is = ap (λ (b : Bool). s && b) (is refl) ∙ and_false s ∙ sym (is refl)
  where
    and_false : (b : Bool) → (b && false) ≡ false
    and_false true = refl
    and_false false = refl
found_sets false s h is = refl

pub selection_from : (there : Tuple → Bool) (x : Userset) (u : User) (rows : List Tuple) → IsPicked there (meets_check x u) rows → IsCheckSelection there x u rows
selection_from there x u rows picked = record { ascending = picked.ascending; exact = picked.exact }

pub of_user : (there : Tuple → Bool) (x : Userset) (i : List ℕ) (rows : List Tuple) → IsPicked there (is_set_of x) rows
    → IsCheckSelection there x (Id i) (cond (there (holding x (Id i))) (holding x (Id i) ∷ rows) rows)
of_user there x i rows picked =
    let h = holding x (Id i) in
    let any : (t : Tuple) → list_any (tuple_eq t) rows ≡ (is_set_of x t && there t) = picked_any there (is_set_of x) rows picked in
    elim (cases_Bool (there h)) [
      | inl is ↦ subst (λ (b : Bool). IsCheckSelection there x (Id i) (cond b (h ∷ rows) rows)) (sym is)
          (selection_from there x (Id i) (h ∷ rows) (picked_of there (meets_check x (Id i)) (h ∷ rows) (first_before there x i rows picked picked.ascending)
          (λ t. ap (λ (b : Bool). tuple_eq t h || b) (any t)
          ∙ found_both (tuple_eq t h) (is_set_of x t) (there t) (λ same. ap there (tuple_same t h same) ∙ is)
          ∙ ap (λ (b : Bool). b && there t) (sym (either x (Id i) t)))))
      | inr gone ↦ subst (λ (b : Bool). IsCheckSelection there x (Id i) (cond b (h ∷ rows) rows)) (sym gone)
          (selection_from there x (Id i) rows (picked_of there (meets_check x (Id i)) rows picked.ascending
          (λ t. any t
          ∙ found_sets (tuple_eq t h) (is_set_of x t) (there t) (λ same. ap there (tuple_same t h same) ∙ gone)
          ∙ ap (λ (b : Bool). b && there t) (sym (either x (Id i) t)))))
    ]

-- ---- the test, once the tuple is known to be of the userset

asked_then : (a b c : Bool) → (a && b) ≡ true → (a && (b && c)) ≡ c
asked_then true true c is = refl
asked_then true false c is = absurd cc
asked_then false b c is = absurd cc

pub asked_of : (x : Userset) (u : User) (t : Tuple) → is_one_of x t ≡ true → meets_check x u t ≡ is_own_or_set u t
asked_of x u t is = asked_then (is_eq (object_cmp t.object x.object)) (same_name t.relation x.relation) (is_own_or_set u t) is

unasked_then : (a b c : Bool) → (a && b) ≡ false → (a && (b && c)) ≡ false
unasked_then true true c out = absurd cc
unasked_then true false c out = refl
unasked_then false b c out = refl

pub unasked_of : (x : Userset) (u : User) (t : Tuple) → is_one_of x t ≡ false → meets_check x u t ≡ false
unasked_of x u t out = unasked_then (is_eq (object_cmp t.object x.object)) (same_name t.relation x.relation) (is_own_or_set u t) out
