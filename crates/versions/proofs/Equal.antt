-- PlacedIds of a tuple that are equal compare as equal.
use Rattle.std.proofs.Common.{◌≡◌, ℕ, List, ap, ◌∙◌, rules}
use Rattle.std.specs.Ordering.{is_eq}
use Rattle.tuples.specs.declared.object.Object.{Object}
use Rattle.tuples.specs.declared.user.User.{User}
use Rattle.tuples.specs.Order.{name_cmp, object_cmp, user_cmp}
use Rattle.tuples.specs.contracts.object.ObjectOrd.TheImpl.Laws.{matches_eq-law as object_law}
use Rattle.tuples.specs.contracts.object.ObjectPartialEq.TheImpl.{ghosts as object}
use Rattle.tuples.specs.contracts.user.UserOrd.TheImpl.Laws.{matches_eq-law as user_law}
use Rattle.tuples.specs.contracts.user.UserOrd.TheImpl.{ghosts as user_order}
use Rattle.tuples.specs.contracts.user.UserPartialEq.TheImpl.{ghosts as user}
use Rattle.tuples.specs.contracts.namespace.NamespaceOrd.TheImpl.Laws.{matches_eq-law as namespace_law}
use Rattle.tuples.specs.contracts.namespace.NamespacePartialEq.TheImpl.{ghosts as namespace}
use Rattle.tuples.specs.contracts.relation.RelationOrd.TheImpl.Laws.{matches_eq-law as relation_law}
use Rattle.tuples.specs.contracts.relation.RelationPartialEq.TheImpl.{ghosts as relation}

pub same_namespace : (a b : List ℕ) → namespace.eq a b ≡ is_eq (name_cmp a b)
same_namespace a b = namespace_law a b

pub same_relation : (a b : List ℕ) → relation.eq a b ≡ is_eq (name_cmp a b)
same_relation a b = relation_law a b

pub same_object : (a b : Object) → object.eq a b ≡ is_eq (object_cmp a b)
same_object a b = object_law a b

pub user_order_is : (a b : User) → user_order.cmp a b ≡ user_cmp a b
user_order_is a b = search rules

pub same_user : (a b : User) → user.eq a b ≡ is_eq (user_cmp a b)
same_user a b = user_law a b ∙ ap is_eq (user_order_is a b)
