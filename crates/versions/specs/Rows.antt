-- Rows as a shard has them: each tuple with its versions.
use Rattle.std.specs.Prelude.{ℕ, ◌≡◌, ◌↔◌, Bool, true, ◌&&◌, ◌||◌, max, nat_le, nat_lt, List, [], ◌∷◌, map, filter, Option, None, Some, if◌then◌else◌, Contains}
use Rattle.std.specs.List.{AllByRecursion, flat_map}
use Rattle.std.specs.List.Sorted.{IsPermutation, IsSorted, IsStrictlySortedBy}
use Rattle.std.specs.Map.{keys_of, lookup}
use Rattle.std.specs.BTreeMap.{is_at}
use Rattle.std.specs.Ordering.{is_eq, is_le, nat_cmp, ordering_then}
use Rattle.std.specs.declared.cmp.Ordering.{Ordering}
use Rattle.std.specs.declared.cmp.Ordering.TheVariants.{Less}
use Rattle.tuples.specs.declared.change.Change.{Change}
use Rattle.tuples.specs.declared.change.Change.TheVariants.{Touch, Delete}
use Rattle.tuples.specs.declared.tuple.Tuple.{Tuple}
use Rattle.tuples.specs.declared.object.Userset.{Userset}
use Rattle.tuples.specs.declared.user.User.{User}
use Rattle.tuples.specs.declared.version.Version.{Version}
use Rattle.tuples.specs.Changes.{tuple_of}
use Rattle.tuples.specs.Order.{object_cmp, tuple_cmp, user_cmp}
use Rattle.tuples.specs.Reads.{AreAscending, same_name}
use Rattle.tuples.specs.Walking.{is_set}
use Rattle.tuples.specs.Texts.{IsTuple}
use Rattle.versions.specs.declared.history.Row.{Row}

-- by tuple, and then by place
abbrev pub version_cmp : Version → Version → Ordering
version_cmp v u = ordering_then (tuple_cmp (tuple_of v.change) (tuple_of u.change)) (nat_cmp v.place u.place)

-- the same versions, listed by tuple and then by place
pub record AreRows (rows listed : List Version) : Type 0 where
  pub same : IsPermutation rows listed
  pub in_order : IsSorted version_cmp listed

-- the change of a tuple that touches or deletes it
abbrev pub change_of : Tuple → Bool → Change
change_of t touches = if touches then Touch t else Delete t

-- the version of a tuple that a row stands for
abbrev pub version_of : Tuple → Row → Version
version_of t r = record { place = r.place; change = change_of t r.is_touch }

abbrev pub versions_of : Tuple → List Row → List Version
versions_of t = map (version_of t)

-- the versions of a table: of each tuple, in the order of tuples, those of its rows
abbrev pub listed : List (Tuple × List Row) → List Version
listed = flat_map (λ (e : Tuple × List Row). versions_of e.0 e.1)

-- the table as a map: one entry a tuple, each in its grammar, in the order of tuples
pub record IsTable (es : List (Tuple × List Row)) : Type 0 where
  pub in_order : IsStrictlySortedBy tuple_cmp (keys_of es)
  pub spelled : AllByRecursion IsTuple (keys_of es)

-- the tuples of a set that pass a test, ascending
pub record IsPicked (there test : Tuple → Bool) (rows : List Tuple) : Type 0 where
  pub ascending : AreAscending rows
  pub exact : (t : Tuple) → Contains rows t ↔ ((there t ≡ true) × (test t ≡ true))

-- a walk from this tuple on, in the order of tuples, begins before all that pass the test, and passes no other before the last of them
pub record IsFirst (test : Tuple → Bool) (first : Tuple) : Type 0 where
  pub before : (t : Tuple) → IsTuple t → test t ≡ true → is_le (tuple_cmp first t) ≡ true
  pub within : (t u : Tuple) → is_le (tuple_cmp first t) ≡ true → tuple_cmp t u ≡ Less → test u ≡ true → test t ≡ true

-- the tuple is one of the userset
abbrev pub is_one_of : Userset → Tuple → Bool
is_one_of x t = is_eq (object_cmp t.object x.object) && same_name t.relation x.relation

-- its user is this one, or a userset
abbrev pub is_own_or_set : User → Tuple → Bool
is_own_or_set u t = is_eq (user_cmp t.user u) || is_set t.user

-- the tuple is one of the userset, and its user is a userset
abbrev pub is_set_of : Userset → Tuple → Bool
is_set_of x t = is_eq (object_cmp t.object x.object) && (same_name t.relation x.relation && is_set t.user)

-- the userset before which no other stands
abbrev pub lowest_userset : Userset
lowest_userset = record { object = record { namespace = 48 ∷ []; id = 33 ∷ [] }; relation = 48 ∷ [] }

-- the relation, or the first one of all
abbrev pub first_relation : Option (List ℕ) → List ℕ
first_relation None = 48 ∷ []
first_relation (Some r) = r

-- what a look-up of the tuple finds
abbrev pub found : Tuple → List (Tuple × List Row) → Option (List Row)
found t = lookup (is_at (tuple_cmp t))

-- the rows of an entry that was found, and none of none
abbrev pub rows_in : Option (List Row) → List Row
rows_in None = []
rows_in (Some h) = h

-- the greatest place at or below the horizon, 0 if none
abbrev pub newest_under : ℕ → List Row → ℕ
newest_under h [] = 0
newest_under h (r ∷ rows) = if nat_le r.place h then max r.place (newest_under h rows) else newest_under h rows

-- the rows above the horizon, and the newest at or below it if that is a touch
abbrev pub stays : ℕ → ℕ → Row → Bool
stays h newest r = nat_lt h r.place || (r.is_touch && nat_le newest r.place)

unfoldable pub rows_left : ℕ → List Row → List Row
rows_left h rows = filter (stays h (newest_under h rows)) rows
