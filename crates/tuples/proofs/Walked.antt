-- The tuples that a check asks of a userset are those by which it holds the user or a userset.
use Rattle.std.proofs.Common.{◌≡◌, Bool, true, false, ◌&&◌, ◌||◌, refl, ◌∙◌, ap}
use Rattle.std.proofs.lemmas.Bool.{and_from, and_parts}
use Rattle.std.specs.Ordering.{is_eq}
use Rattle.tuples.specs.declared.object.Object.{Object}
use Rattle.tuples.specs.declared.object.Userset.{Userset}
use Rattle.tuples.specs.declared.tuple.Tuple.{Tuple}
use Rattle.tuples.specs.declared.user.User.{User}
use Rattle.tuples.specs.declared.user.User.TheVariants.{Set}
use Rattle.tuples.specs.Checking.{holding}
use Rattle.tuples.specs.Order.{object_cmp, user_cmp}
use Rattle.tuples.specs.Reads.{same_name}
use Rattle.tuples.specs.Walking.{is_set, meets_check}
use Rattle.tuples.proofs.Ordered.{name_tied, object_tied, user_tied}
use Rattle.tuples.proofs.Same.{name_same, object_same}

-- a tuple that is asked of a userset is one of that userset
pub asked_of : (x : Userset) (u : User) (t : Tuple) → meets_check x u t ≡ true → t ≡ holding x t.user
asked_of x u t is =
    let parts = and_parts (is_eq (object_cmp t.object x.object)) (same_name t.relation x.relation && (is_eq (user_cmp t.user u) || is_set t.user)) is in
    let more = and_parts (same_name t.relation x.relation) (is_eq (user_cmp t.user u) || is_set t.user) parts.1 in
    ap (λ (o : Object). holding (record { object = o; relation = t.relation }) t.user) (object_same t.object x.object parts.0)
    ∙ ap (λ r. holding (record { object = x.object; relation = r }) t.user) (name_same t.relation x.relation more.0)

-- the tuple by which it holds the user is asked
pub user_asked : (x : Userset) (u : User) → meets_check x u (holding x u) ≡ true
user_asked x u = and_from (is_eq (object_cmp x.object x.object)) (same_name x.relation x.relation && (is_eq (user_cmp u u) || is_set u)) (object_tied x.object)
    (and_from (same_name x.relation x.relation) (is_eq (user_cmp u u) || is_set u) (name_tied x.relation) (or_left (is_eq (user_cmp u u)) (is_set u) (user_tied u)))
  where
    or_left : (a b : Bool) → a ≡ true → (a || b) ≡ true
    or_left true b is = refl
    or_left false b is = absurd cc

-- and so is each by which it holds a userset
pub set_asked : (x y : Userset) (u : User) → meets_check x u (holding x (Set y)) ≡ true
set_asked x y u = and_from (is_eq (object_cmp x.object x.object)) (same_name x.relation x.relation && (is_eq (user_cmp (Set y) u) || true)) (object_tied x.object)
    (and_from (same_name x.relation x.relation) (is_eq (user_cmp (Set y) u) || true) (name_tied x.relation) (or_right (is_eq (user_cmp (Set y) u))))
  where
    or_right : (a : Bool) → (a || true) ≡ true
    or_right true = refl
    or_right false = refl
