-- The order of tuples by namespace, user, object id and relation, in which those of one user in a namespace stand side by side.
use Rattle.std.specs.Prelude.{◌≡◌, refl}
use Rattle.std.specs.Cmp.{IsTotalOrder}
use Rattle.std.proofs.lemmas.Cmp.{nat_list_cmp_total, on_total, then_total}
use Rattle.std.specs.Ordering.{ordering_reverse, ordering_then}
use Rattle.std.specs.declared.cmp.Ordering.{Ordering}
use Rattle.std.specs.declared.cmp.Ordering.TheVariants.{Less, Equal}
use Rattle.tuples.specs.declared.object.Object.{Object}
use Rattle.tuples.specs.declared.object.Userset.{Userset}
use Rattle.tuples.specs.declared.user.User.{User}
use Rattle.tuples.specs.declared.user.User.TheVariants.{Id, Set}
use Rattle.tuples.specs.declared.tuple.Tuple.{Tuple}
use Rattle.tuples.specs.Order.{name_cmp, object_cmp, tuple_cmp, user_cmp, userset_cmp}

abbrev pub by_user_cmp : Tuple → Tuple → Ordering
by_user_cmp a b = ordering_then (name_cmp a.object.namespace b.object.namespace) (ordering_then (user_cmp a.user b.user) (ordering_then (name_cmp a.object.id b.object.id) (name_cmp a.relation b.relation)))

-- it is strict and total, as those of its parts are
pub object_total : IsTotalOrder object_cmp
object_total = then_total (on_total (λ (o : Object). o.namespace) nat_list_cmp_total) (on_total (λ (o : Object). o.id) nat_list_cmp_total)

pub userset_total : IsTotalOrder userset_cmp
userset_total = then_total (on_total (λ (s : Userset). s.object) object_total) (on_total (λ (s : Userset). s.relation) nat_list_cmp_total)

user_antisymm : (a b : User) → user_cmp a b ≡ ordering_reverse (user_cmp b a)
user_antisymm (Id a) (Id b) = nat_list_cmp_total.antisymm a b
user_antisymm (Id a) (Set b) = refl
user_antisymm (Set a) (Id b) = refl
user_antisymm (Set a) (Set b) = userset_total.antisymm a b

user_trans : (a b d : User) → user_cmp a b ≡ Less → user_cmp b d ≡ Less → user_cmp a d ≡ Less
user_trans (Id a) (Id b) (Id d) h k = nat_list_cmp_total.trans a b d h k
user_trans (Id a) (Id b) (Set d) h k = refl
user_trans (Id a) (Set b) (Id d) h k = absurd cc
user_trans (Id a) (Set b) (Set d) h k = refl
user_trans (Set a) (Id b) (Id d) h k = absurd cc
user_trans (Set a) (Id b) (Set d) h k = absurd cc
user_trans (Set a) (Set b) (Id d) h k = absurd cc
user_trans (Set a) (Set b) (Set d) h k = userset_total.trans a b d h k

user_congr : (a b d : User) → user_cmp a b ≡ Equal → user_cmp a d ≡ user_cmp b d
user_congr (Id a) (Id b) (Id d) h = nat_list_cmp_total.congr a b d h
user_congr (Id a) (Id b) (Set d) h = refl
user_congr (Id a) (Set b) d h = absurd cc
user_congr (Set a) (Id b) d h = absurd cc
user_congr (Set a) (Set b) (Id d) h = refl
user_congr (Set a) (Set b) (Set d) h = userset_total.congr a b d h

pub user_total : IsTotalOrder user_cmp
user_total = record { antisymm = user_antisymm; trans = user_trans; congr = user_congr }

pub tuple_total : IsTotalOrder tuple_cmp
tuple_total = then_total (on_total (λ (t : Tuple). t.object) object_total) (then_total (on_total (λ (t : Tuple). t.relation) nat_list_cmp_total) (on_total (λ (t : Tuple). t.user) user_total))

pub by_user_total : IsTotalOrder by_user_cmp
by_user_total = then_total (on_total (λ (t : Tuple). t.object.namespace) nat_list_cmp_total) (then_total (on_total (λ (t : Tuple). t.user) user_total) (then_total (on_total (λ (t : Tuple). t.object.id) nat_list_cmp_total) (on_total (λ (t : Tuple). t.relation) nat_list_cmp_total)))
