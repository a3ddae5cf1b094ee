-- Where the tuples of an object begin, in the order of tuples.
use Rattle.std.proofs.Common.{◌≡◌, ℕ, Bool, true, false, ◌&&◌, ◌||◌, nat_le, List, [], ◌∷◌, Option, None, Some, refl, sym, ap, subst, ◌∙◌, arith}
use Rattle.std.specs.Ordering.{is_eq, is_le, nat_cmp, ordering_reverse, ordering_then}
use Rattle.std.specs.List.{list_all}
use Rattle.std.specs.declared.cmp.Ordering.{Ordering}
use Rattle.std.specs.declared.cmp.Ordering.TheVariants.{Less, Equal, Greater}
use Rattle.std.proofs.lemmas.Bool.Decides.{nat_tests}
use Rattle.std.proofs.lemmas.Bool.{and_parts, and_from}
use Rattle.std.proofs.lemmas.Cmp.{nat_list_cmp_total, tied_itself}
use Rattle.tuples.specs.declared.object.Object.{Object}
use Rattle.tuples.specs.declared.object.Userset.{Userset}
use Rattle.tuples.specs.declared.tuple.Tuple.{Tuple}
use Rattle.tuples.specs.declared.tupleset.Tupleset.TheVariants.{Key, OfObject}
use Rattle.tuples.specs.declared.user.User.{User}
use Rattle.tuples.specs.declared.user.User.TheVariants.{Id, Set}
use Rattle.tuples.specs.Names.{IsId, IsName, is_id_byte, is_name_byte}
use Rattle.tuples.specs.Order.{name_cmp, object_cmp, tuple_cmp, user_cmp, userset_cmp}
use Rattle.tuples.specs.Reads.{has_relation, meets, same_name}
use Rattle.tuples.specs.Checking.{holding}
use Rattle.tuples.specs.Walking.{is_set, meets_check}
use Rattle.tuples.specs.Texts.{IsUser, IsUserset}
use Rattle.tuples.proofs.Ordered.{object_total, tuple_total, user_total}
use Rattle.tuples.proofs.Same.{name_same, object_same, tuple_same, user_same}
use Rattle.versions.specs.Index.{IsFirstOf}
use Rattle.tuples.specs.ByUser.{by_user_cmp}
use Rattle.versions.specs.Rows.{IsFirst, first_relation, is_one_of, is_set_of, lowest_userset}

-- ---- orders

le_then : (a b : Ordering) → is_le a ≡ true → is_le b ≡ true → is_le (ordering_then a b) ≡ true
le_then Less b h k = refl
le_then Equal b h k = k
le_then Greater b h k = h

le_first : (a b : Ordering) → is_le (ordering_then a b) ≡ true → is_le a ≡ true
le_first Less b h = refl
le_first Equal b h = refl
le_first Greater b h = h

le_next : (a b : Ordering) → is_eq a ≡ true → is_le (ordering_then a b) ≡ true → is_le b ≡ true
le_next Less b e h = absurd cc
le_next Equal b e h = h
le_next Greater b e h = absurd cc

less_le : (a : Ordering) → a ≡ Less → is_le a ≡ true
less_le a h = ap is_le h

eq_le : (a : Ordering) → is_eq a ≡ true → is_le a ≡ true
eq_le Less h = absurd cc
eq_le Equal h = refl
eq_le Greater h = absurd cc

eq_back : (a b : Ordering) → a ≡ ordering_reverse b → is_eq b ≡ true → is_eq a ≡ true
eq_back a Less h e = absurd cc
eq_back a Equal h e = ap is_eq h
eq_back a Greater h e = absurd cc

-- neither is above the other
squeezed : (a b : Ordering) → a ≡ ordering_reverse b → is_le a ≡ true → is_le b ≡ true → is_eq b ≡ true
squeezed a Less h left right = absurd (let never : true ≡ false = sym left ∙ ap is_le h in cc)
squeezed a Equal h left right = refl
squeezed a Greater h left right = absurd cc

-- ---- the first names

nil_le : (bs : List ℕ) → is_le (name_cmp [] bs) ≡ true
nil_le [] = refl
nil_le (b ∷ bs) = refl

le_byte : (low b : ℕ) → nat_le low b ≡ true → is_le (nat_cmp low b) ≡ true
le_byte low b h = grind (arith, nat_tests)

name_byte : (b : ℕ) → is_name_byte b ≡ true → nat_le 48 b ≡ true
name_byte b h = grind (arith, nat_tests)

id_byte : (b : ℕ) → is_id_byte b ≡ true → nat_le 33 b ≡ true
id_byte b h = grind (arith, nat_tests)

name_le : (r : List ℕ) → IsName r → is_le (name_cmp (48 ∷ []) r) ≡ true
name_le [] is = absurd (omega (arith, is.some))
name_le (b ∷ bs) is = le_then (nat_cmp 48 b) (name_cmp [] bs) (le_byte 48 b (name_byte b (and_parts (is_name_byte b) (list_all is_name_byte bs) is.each).0)) (nil_le bs)

id_le : (i : List ℕ) → IsId i → is_le (name_cmp (33 ∷ []) i) ≡ true
id_le [] is = absurd (omega (arith, is.some))
id_le (b ∷ bs) is = le_then (nat_cmp 33 b) (name_cmp [] bs) (le_byte 33 b (id_byte b (and_parts (is_id_byte b) (list_all is_id_byte bs) is.each).0)) (nil_le bs)

user_le : (u : User) → IsUser u → is_le (user_cmp (Id (33 ∷ [])) u) ≡ true
user_le (Id i) is = id_le i is
user_le (Set s) is = refl

relation_le : (r : Option (List ℕ)) (t : Tuple) → IsName t.relation → has_relation r t ≡ true → is_le (name_cmp (first_relation r) t.relation) ≡ true
relation_le None t is has = name_le t.relation is
relation_le (Some r) t is has = eq_le (name_cmp r t.relation) (eq_back (name_cmp r t.relation) (name_cmp t.relation r) (nat_list_cmp_total.antisymm r t.relation) has)

-- ---- the first tuple

abbrev pub first_tuple : Object → Option (List ℕ) → Tuple
first_tuple o r = record { object = o; relation = first_relation r; user = Id (33 ∷ []) }

-- the object of a tuple that stands between the first one and one of the object
same_object : (o : Object) (t u : Tuple) → is_le (object_cmp o t.object) ≡ true → is_le (object_cmp t.object u.object) ≡ true → is_eq (object_cmp u.object o) ≡ true → is_eq (object_cmp t.object o) ≡ true
same_object o t u low high is =
    squeezed (object_cmp o t.object) (object_cmp t.object o) (object_total.antisymm o t.object) low
    (subst (λ (x : Object). is_le (object_cmp t.object x) ≡ true) (object_same u.object o is) high)

same_relation : (r : Option (List ℕ)) (t u : Tuple) → is_le (name_cmp (first_relation r) t.relation) ≡ true → is_le (name_cmp t.relation u.relation) ≡ true → has_relation r u ≡ true → has_relation r t ≡ true
same_relation None t u low high is = refl
same_relation (Some r) t u low high is =
    squeezed (name_cmp r t.relation) (name_cmp t.relation r) (nat_list_cmp_total.antisymm r t.relation) low
    (subst (λ (x : List ℕ). is_le (name_cmp t.relation x) ≡ true) (name_same u.relation r is) high)

pub first_is : (o : Object) (r : Option (List ℕ)) → IsFirst (meets (OfObject o r)) (first_tuple o r)
first_is o r = record {
  before = λ t spelled has.
      let parts = and_parts (is_eq (object_cmp t.object o)) (has_relation r t) has in
      le_then (object_cmp o t.object) (ordering_then (name_cmp (first_relation r) t.relation) (user_cmp (Id (33 ∷ [])) t.user))
      (eq_le (object_cmp o t.object) (eq_back (object_cmp o t.object) (object_cmp t.object o) (object_total.antisymm o t.object) parts.0))
      (le_then (name_cmp (first_relation r) t.relation) (user_cmp (Id (33 ∷ [])) t.user) (relation_le r t spelled.relation parts.1) (user_le t.user spelled.user));
  within = λ t u low less has.
      let parts = and_parts (is_eq (object_cmp u.object o)) (has_relation r u) has in
      let high : is_le (tuple_cmp t u) ≡ true = less_le (tuple_cmp t u) less in
      let object : is_eq (object_cmp t.object o) ≡ true =
      same_object o t u (le_first (object_cmp o t.object) (ordering_then (name_cmp (first_relation r) t.relation) (user_cmp (Id (33 ∷ [])) t.user)) low)
      (le_first (object_cmp t.object u.object) (ordering_then (name_cmp t.relation u.relation) (user_cmp t.user u.user)) high) parts.0
      in
      let from : is_eq (object_cmp o t.object) ≡ true = eq_back (object_cmp o t.object) (object_cmp t.object o) (object_total.antisymm o t.object) object in
      let to : is_eq (object_cmp t.object u.object) ≡ true = ap (λ (x : Object). is_eq (object_cmp t.object x)) (object_same u.object o parts.0) ∙ object in
      let relation : has_relation r t ≡ true =
      same_relation r t u
      (le_first (name_cmp (first_relation r) t.relation) (user_cmp (Id (33 ∷ [])) t.user)
      (le_next (object_cmp o t.object) (ordering_then (name_cmp (first_relation r) t.relation) (user_cmp (Id (33 ∷ [])) t.user)) from low))
      (le_first (name_cmp t.relation u.relation) (user_cmp t.user u.user)
      (le_next (object_cmp t.object u.object) (ordering_then (name_cmp t.relation u.relation) (user_cmp t.user u.user)) to high)) parts.1
      in
      and_from (is_eq (object_cmp t.object o)) (has_relation r t) object relation;
}

-- a tuple is the first of those that are it
pub key_first : (k : Tuple) → IsFirst (meets (Key k)) k
key_first k = record {
  before = λ t spelled has. subst (λ (x : Tuple). is_le (tuple_cmp k x) ≡ true) (sym (tuple_same t k has)) (ap is_le (tied_itself tuple_total k));
  within = λ t u low less has.
      let above : tuple_cmp k t ≡ Greater = tuple_total.antisymm k t ∙ ap ordering_reverse (subst (λ (x : Tuple). tuple_cmp t x ≡ Less) (tuple_same u k has) less) in
      absurd (let never : true ≡ false = sym low ∙ ap is_le above in cc);
}

-- ---- the first tuple of a userset that names a userset

abbrev pub first_set : Userset → Tuple
first_set x = record { object = x.object; relation = x.relation; user = Set lowest_userset }

set_le : (y : Userset) → IsUserset y → is_le (userset_cmp lowest_userset y) ≡ true
set_le y is = le_then (object_cmp lowest_userset.object y.object) (name_cmp (48 ∷ []) y.relation)
    (le_then (name_cmp (48 ∷ []) y.object.namespace) (name_cmp (33 ∷ []) y.object.id) (name_le y.object.namespace is.object.namespace) (id_le y.object.id is.object.id))
    (name_le y.relation is.relation)

user_set_le : (u : User) → IsUser u → is_set u ≡ true → is_le (user_cmp (Set lowest_userset) u) ≡ true
user_set_le (Id i) is set = absurd cc
user_set_le (Set y) is set = set_le y is

user_is_set : (u : User) → is_le (user_cmp (Set lowest_userset) u) ≡ true → is_set u ≡ true
user_is_set (Id i) low = absurd cc
user_is_set (Set y) low = refl

pub set_first_is : (x : Userset) → IsFirst (is_set_of x) (first_set x)
set_first_is x = record {
  before = λ t spelled has.
      let parts = and_parts (is_eq (object_cmp t.object x.object)) (same_name t.relation x.relation && is_set t.user) has in
      let more = and_parts (same_name t.relation x.relation) (is_set t.user) parts.1 in
      le_then (object_cmp x.object t.object) (ordering_then (name_cmp x.relation t.relation) (user_cmp (Set lowest_userset) t.user))
      (eq_le (object_cmp x.object t.object) (eq_back (object_cmp x.object t.object) (object_cmp t.object x.object) (object_total.antisymm x.object t.object) parts.0))
      (le_then (name_cmp x.relation t.relation) (user_cmp (Set lowest_userset) t.user)
      (eq_le (name_cmp x.relation t.relation) (eq_back (name_cmp x.relation t.relation) (name_cmp t.relation x.relation) (nat_list_cmp_total.antisymm x.relation t.relation) more.0))
      (user_set_le t.user spelled.user more.1));
  within = λ t u low less has.
      let parts = and_parts (is_eq (object_cmp u.object x.object)) (same_name u.relation x.relation && is_set u.user) has in
      let more = and_parts (same_name u.relation x.relation) (is_set u.user) parts.1 in
      let high : is_le (tuple_cmp t u) ≡ true = less_le (tuple_cmp t u) less in
      let object : is_eq (object_cmp t.object x.object) ≡ true =
      same_object x.object t u (le_first (object_cmp x.object t.object) (ordering_then (name_cmp x.relation t.relation) (user_cmp (Set lowest_userset) t.user)) low)
      (le_first (object_cmp t.object u.object) (ordering_then (name_cmp t.relation u.relation) (user_cmp t.user u.user)) high) parts.0
      in
      let from : is_eq (object_cmp x.object t.object) ≡ true = eq_back (object_cmp x.object t.object) (object_cmp t.object x.object) (object_total.antisymm x.object t.object) object in
      let to : is_eq (object_cmp t.object u.object) ≡ true = ap (λ (o : Object). is_eq (object_cmp t.object o)) (object_same u.object x.object parts.0) ∙ object in
      let rest : is_le (ordering_then (name_cmp x.relation t.relation) (user_cmp (Set lowest_userset) t.user)) ≡ true =
      le_next (object_cmp x.object t.object) (ordering_then (name_cmp x.relation t.relation) (user_cmp (Set lowest_userset) t.user)) from low
      in
      let relation : same_name t.relation x.relation ≡ true =
      same_relation (Some x.relation) t u
      (le_first (name_cmp x.relation t.relation) (user_cmp (Set lowest_userset) t.user) rest)
      (le_first (name_cmp t.relation u.relation) (user_cmp t.user u.user)
      (le_next (object_cmp t.object u.object) (ordering_then (name_cmp t.relation u.relation) (user_cmp t.user u.user)) to high)) more.0
      in
      let after : is_eq (name_cmp x.relation t.relation) ≡ true = eq_back (name_cmp x.relation t.relation) (name_cmp t.relation x.relation) (nat_list_cmp_total.antisymm x.relation t.relation) relation in
      and_from (is_eq (object_cmp t.object x.object)) (same_name t.relation x.relation && is_set t.user) object
      (and_from (same_name t.relation x.relation) (is_set t.user) relation
      (user_is_set t.user (le_next (name_cmp x.relation t.relation) (user_cmp (Set lowest_userset) t.user) after rest)));
}

-- ---- the tuple of a plain user, and those that a check asks for

user_low : (u v : User) → is_set u ≡ false → (is_eq (user_cmp v u) || is_set v) ≡ true → is_le (user_cmp u v) ≡ true
user_low (Id i) (Id j) plain own = eq_le (name_cmp i j) (eq_back (name_cmp i j) (name_cmp j i) (nat_list_cmp_total.antisymm i j) (or_false (is_eq (name_cmp j i)) own))
  where
    or_false : (b : Bool) → (b || false) ≡ true → b ≡ true
    or_false true h = refl
    or_false false h = h
user_low (Id i) (Set y) plain own = refl
user_low (Set x) v plain own = absurd cc

-- none of them stands before that of the user
pub check_before : (x : Userset) (u : User) → is_set u ≡ false → (t : Tuple) → meets_check x u t ≡ true → is_le (tuple_cmp (holding x u) t) ≡ true
check_before x u plain t has =
    let parts = and_parts (is_eq (object_cmp t.object x.object)) (same_name t.relation x.relation && (is_eq (user_cmp t.user u) || is_set t.user)) has in
    let more = and_parts (same_name t.relation x.relation) (is_eq (user_cmp t.user u) || is_set t.user) parts.1 in
    le_then (object_cmp x.object t.object) (ordering_then (name_cmp x.relation t.relation) (user_cmp u t.user))
    (eq_le (object_cmp x.object t.object) (eq_back (object_cmp x.object t.object) (object_cmp t.object x.object) (object_total.antisymm x.object t.object) parts.0))
    (le_then (name_cmp x.relation t.relation) (user_cmp u t.user)
    (eq_le (name_cmp x.relation t.relation) (eq_back (name_cmp x.relation t.relation) (name_cmp t.relation x.relation) (nat_list_cmp_total.antisymm x.relation t.relation) more.0))
    (user_low u t.user plain more.1))

-- what stands between that of the user and one of them is of the userset
pub check_within : (x : Userset) (u : User) (t v : Tuple) → is_le (tuple_cmp (holding x u) t) ≡ true → tuple_cmp t v ≡ Less → meets_check x u v ≡ true → is_one_of x t ≡ true
check_within x u t v low less has =
    let parts = and_parts (is_eq (object_cmp v.object x.object)) (same_name v.relation x.relation && (is_eq (user_cmp v.user u) || is_set v.user)) has in
    let more = and_parts (same_name v.relation x.relation) (is_eq (user_cmp v.user u) || is_set v.user) parts.1 in
    let high : is_le (tuple_cmp t v) ≡ true = less_le (tuple_cmp t v) less in
    let object : is_eq (object_cmp t.object x.object) ≡ true =
    same_object x.object t v (le_first (object_cmp x.object t.object) (ordering_then (name_cmp x.relation t.relation) (user_cmp u t.user)) low)
    (le_first (object_cmp t.object v.object) (ordering_then (name_cmp t.relation v.relation) (user_cmp t.user v.user)) high) parts.0
    in
    let from : is_eq (object_cmp x.object t.object) ≡ true = eq_back (object_cmp x.object t.object) (object_cmp t.object x.object) (object_total.antisymm x.object t.object) object in
    let to : is_eq (object_cmp t.object v.object) ≡ true = ap (λ (o : Object). is_eq (object_cmp t.object o)) (object_same v.object x.object parts.0) ∙ object in
    let relation : same_name t.relation x.relation ≡ true =
    same_relation (Some x.relation) t v
    (le_first (name_cmp x.relation t.relation) (user_cmp u t.user)
    (le_next (object_cmp x.object t.object) (ordering_then (name_cmp x.relation t.relation) (user_cmp u t.user)) from low))
    (le_first (name_cmp t.relation v.relation) (user_cmp t.user v.user)
    (le_next (object_cmp t.object v.object) (ordering_then (name_cmp t.relation v.relation) (user_cmp t.user v.user)) to high)) more.0
    in
    and_from (is_eq (object_cmp t.object x.object)) (same_name t.relation x.relation) object relation

-- ---- the first tuple of a namespace that names a user

abbrev pub first_named : List ℕ → User → Tuple
first_named n u = record { object = record { namespace = n; id = 33 ∷ [] }; relation = 48 ∷ []; user = u }

-- what decides after the namespace, and after the user
abbrev ends : Tuple → Tuple → Ordering
ends a b = ordering_then (name_cmp a.object.id b.object.id) (name_cmp a.relation b.relation)

abbrev rest : Tuple → Tuple → Ordering
rest a b = ordering_then (user_cmp a.user b.user) (ends a b)

pub user_first_is : (n : List ℕ) (u : User) → IsFirstOf n u (first_named n u)
user_first_is n u =
    let first = first_named n u in
    record {
      before = λ t spelled has.
          let parts = and_parts (same_name t.object.namespace n) (is_eq (user_cmp t.user u)) has in
          le_then (name_cmp n t.object.namespace) (rest first t)
          (eq_le (name_cmp n t.object.namespace) (eq_back (name_cmp n t.object.namespace) (name_cmp t.object.namespace n) (nat_list_cmp_total.antisymm n t.object.namespace) parts.0))
          (le_then (user_cmp u t.user) (ends first t)
          (eq_le (user_cmp u t.user) (eq_back (user_cmp u t.user) (user_cmp t.user u) (user_total.antisymm u t.user) parts.1))
          (le_then (name_cmp (33 ∷ []) t.object.id) (name_cmp (48 ∷ []) t.relation) (id_le t.object.id spelled.object.id) (name_le t.relation spelled.relation)));
      within = λ t v low less has.
          let parts = and_parts (same_name v.object.namespace n) (is_eq (user_cmp v.user u)) has in
          let high : is_le (by_user_cmp t v) ≡ true = less_le (by_user_cmp t v) less in
          let namespace : is_eq (name_cmp t.object.namespace n) ≡ true =
          squeezed (name_cmp n t.object.namespace) (name_cmp t.object.namespace n) (nat_list_cmp_total.antisymm n t.object.namespace) (le_first (name_cmp n t.object.namespace) (rest first t) low)
          (subst (λ (x : List ℕ). is_le (name_cmp t.object.namespace x) ≡ true) (name_same v.object.namespace n parts.0) (le_first (name_cmp t.object.namespace v.object.namespace) (rest t v) high))
          in
          let from : is_eq (name_cmp n t.object.namespace) ≡ true = eq_back (name_cmp n t.object.namespace) (name_cmp t.object.namespace n) (nat_list_cmp_total.antisymm n t.object.namespace) namespace in
          let to : is_eq (name_cmp t.object.namespace v.object.namespace) ≡ true = ap (λ (x : List ℕ). is_eq (name_cmp t.object.namespace x)) (name_same v.object.namespace n parts.0) ∙ namespace in
          let user : is_eq (user_cmp t.user u) ≡ true =
          squeezed (user_cmp u t.user) (user_cmp t.user u) (user_total.antisymm u t.user) (le_first (user_cmp u t.user) (ends first t) (le_next (name_cmp n t.object.namespace) (rest first t) from low))
          (subst (λ (x : User). is_le (user_cmp t.user x) ≡ true) (user_same v.user u parts.1) (le_first (user_cmp t.user v.user) (ends t v) (le_next (name_cmp t.object.namespace v.object.namespace) (rest t v) to high)))
          in
          and_from (same_name t.object.namespace n) (is_eq (user_cmp t.user u)) namespace user;
    }
