-- Tuples that compare alike are one.
use Rattle.std.proofs.Common.{◌≡◌, ℕ, true, List, refl, sym, ◌∙◌, ap, ◌&&◌}
use Rattle.std.proofs.lemmas.Bool.{and_parts}
use Rattle.std.specs.Ordering.{ordering_then, is_eq}
use Rattle.std.specs.Cmp.Lexicographic.{same_text, texts_ties}
use Rattle.std.specs.declared.cmp.Ordering.{Ordering}
use Rattle.std.specs.declared.cmp.Ordering.TheVariants.{Less, Equal, Greater}
use Rattle.tuples.specs.declared.object.Object.{Object}
use Rattle.tuples.specs.declared.object.Userset.{Userset}
use Rattle.tuples.specs.declared.user.User.{User}
use Rattle.tuples.specs.declared.user.User.TheVariants.{Id, Set}
use Rattle.tuples.specs.declared.tuple.Tuple.{Tuple}
use Rattle.tuples.specs.Order.{name_cmp, object_cmp, userset_cmp, user_cmp, tuple_eq}

-- an order by two parts ties if both parts tie
pub is_eq_then : (a b : Ordering) → is_eq (ordering_then a b) ≡ (is_eq a && is_eq b)
is_eq_then Less b = refl
is_eq_then Equal b = refl
is_eq_then Greater b = refl

pub both_tie : (a b : Ordering) → is_eq (ordering_then a b) ≡ true → (is_eq a ≡ true) × (is_eq b ≡ true)
both_tie a b h = and_parts (is_eq a) (is_eq b) (sym (is_eq_then a b) ∙ h)

pub name_same : (a b : List ℕ) → is_eq (name_cmp a b) ≡ true → a ≡ b
name_same a b h = same_text a b (sym (texts_ties a b ∙ h))

pub object_same : (a b : Object) → is_eq (object_cmp a b) ≡ true → a ≡ b
object_same a b h =
    let parts = both_tie (name_cmp a.namespace b.namespace) (name_cmp a.id b.id) h in
    let object : List ℕ → List ℕ → Object = λ n i. record { namespace = n; id = i } in
    ap (λ (n : List ℕ). object n a.id) (name_same a.namespace b.namespace parts.0) ∙ ap (object b.namespace) (name_same a.id b.id parts.1)

pub userset_same : (a b : Userset) → is_eq (userset_cmp a b) ≡ true → a ≡ b
userset_same a b h =
    let parts = both_tie (object_cmp a.object b.object) (name_cmp a.relation b.relation) h in
    let userset : Object → List ℕ → Userset = λ o r. record { object = o; relation = r } in
    ap (λ (o : Object). userset o a.relation) (object_same a.object b.object parts.0) ∙ ap (userset b.object) (name_same a.relation b.relation parts.1)

pub user_same : (a b : User) → is_eq (user_cmp a b) ≡ true → a ≡ b
user_same (Id a) (Id b) h = ap (λ (n : List ℕ). Id n) (name_same a b h)
user_same (Id a) (Set b) h = absurd cc
user_same (Set a) (Id b) h = absurd cc
user_same (Set a) (Set b) h = ap (λ (x : Userset). Set x) (userset_same a b h)

pub tuple_same : (a b : Tuple) → tuple_eq a b ≡ true → a ≡ b
unfolding tuple_eq
tuple_same a b h =
    let parts = both_tie (object_cmp a.object b.object) (ordering_then (name_cmp a.relation b.relation) (user_cmp a.user b.user)) h in
    let more = both_tie (name_cmp a.relation b.relation) (user_cmp a.user b.user) parts.1 in
    let tuple : Object → List ℕ → User → Tuple = λ o r u. record { object = o; relation = r; user = u } in
    ap (λ (o : Object). tuple o a.relation a.user) (object_same a.object b.object parts.0)
    ∙ ap (λ (r : List ℕ). tuple b.object r a.user) (name_same a.relation b.relation more.0)
    ∙ ap (λ (u : User). tuple b.object b.relation u) (user_same a.user b.user more.1)
