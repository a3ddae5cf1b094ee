-- A tuple that is told by where its names and ids lie.
use Rattle.tuples.specs.declared.object.Userset.{Userset}
use Rattle.tuples.specs.declared.user.User.{User}
use Rattle.tuples.specs.declared.user.User.TheVariants as users
use Rattle.tuples.specs.declared.tuple.Tuple.{Tuple}
use Rattle.tuples.specs.declared.tuple_ref.UsersetRef.{UsersetRef}
use Rattle.tuples.specs.declared.tuple_ref.UserRef.{UserRef}
use Rattle.tuples.specs.declared.tuple_ref.UserRef.TheVariants as refs
use Rattle.tuples.specs.declared.tuple_ref.TupleRef.{TupleRef}

abbrev pub named_userset : UsersetRef → Userset
named_userset s = record { object = record { namespace = s.namespace.now; id = s.id.now }; relation = s.relation.now }

abbrev pub named_user : UserRef → User
named_user (refs.Id id) = users.Id id.now
named_user (refs.Set s) = users.Set (named_userset s)

abbrev pub named_tuple : TupleRef → Tuple
named_tuple t = record { object = (named_userset t.userset).object; relation = t.userset.relation.now; user = named_user t.user }
