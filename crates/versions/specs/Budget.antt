-- What copies of tuples count for, if an answer may take so many bytes.
use Rattle.std.specs.Prelude.{ℕ, ◌+◌, ◌*◌, List, length, sum_by}
use Rattle.tuples.specs.declared.object.Object.{Object}
use Rattle.tuples.specs.declared.tuple.Tuple.{Tuple}
use Rattle.tuples.specs.declared.user.User.{User}
use Rattle.tuples.specs.declared.user.User.TheVariants.{Id, Set}

-- how many bytes the names of an object and a relation have
abbrev pub named_len : Object → List ℕ → ℕ
named_len object relation = length object.namespace + length object.id + length relation

-- those of a user
abbrev pub user_len : User → ℕ
user_len (Id id) = length id
user_len (Set y) = named_len y.object y.relation

-- how many bytes a tuple counts for: what a list that grows has for it, its longer names, and its text
unfoldable pub weight : Tuple → ℕ
weight t = 640 + 4 * (named_len t.object t.relation + user_len t.user)

abbrev pub weights : List Tuple → ℕ
weights = sum_by weight
