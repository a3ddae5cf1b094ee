-- An index by user: the tuples of a table, in the order of their namespaces and users.
use Rattle.std.specs.Prelude.{ℕ, ◌≡◌, Bool, true, false, ◌&&◌, List, is_some, length, filter, if◌then◌else◌}
use Rattle.std.specs.BTreeMap.{is_at}
use Rattle.std.specs.List.{list_any}
use Rattle.std.specs.Ordering.{eq_by_cmp, is_eq, is_le}
use Rattle.std.specs.declared.cmp.Ordering.TheVariants.{Less}
use Rattle.tuples.specs.declared.tuple.Tuple.{Tuple}
use Rattle.tuples.specs.declared.tupleset.Tupleset.{Tupleset}
use Rattle.tuples.specs.declared.user.User.{User}
use Rattle.tuples.specs.declared.version.Version.{Version}
use Rattle.tuples.specs.Changes.{tuple_of}
use Rattle.tuples.specs.Order.{name_cmp, user_cmp}
use Rattle.tuples.specs.ByUser.{by_user_cmp}
use Rattle.tuples.specs.Reads.{meets, same_name}
use Rattle.tuples.specs.Texts.{IsTuple}
use Rattle.versions.specs.Rows.{found}
use Rattle.versions.specs.declared.history.Row.{Row}

-- the tuple is one of these
abbrev pub is_listed : List Tuple → Tuple → Bool
is_listed us t = list_any (eq_by_cmp by_user_cmp t) us

-- the tuple is in the index no more, and of all others nothing changes
abbrev pub Forgets : Tuple → List Tuple → List Tuple → Type 0
Forgets t us vs = (q : Tuple) → is_listed vs q ≡ (if is_at (by_user_cmp t) q then false else is_listed us q)

-- the tuples of the index are those that have an entry in the table
unfoldable pub IsIndex : List Tuple → List (Tuple × List Row) → Type 0
IsIndex us es = (t : Tuple) → is_listed us t ≡ is_some (found t es)

-- the same tuples have an entry
unfoldable pub HasSame : List (Tuple × List Row) → List (Tuple × List Row) → Type 0
HasSame es fs = (t : Tuple) → is_some (found t fs) ≡ is_some (found t es)

-- the tuple is of the namespace and names the user
abbrev pub is_of_user : List ℕ → User → Tuple → Bool
is_of_user n u t = same_name t.object.namespace n && is_eq (user_cmp t.user u)

-- a walk over an index from this tuple on begins before all of the namespace that name the user, and passes no other before the last of them
pub record IsFirstOf (n : List ℕ) (u : User) (first : Tuple) : Type 0 where
  pub before : (t : Tuple) → IsTuple t → is_of_user n u t ≡ true → is_le (by_user_cmp first t) ≡ true
  pub within : (t v : Tuple) → is_le (by_user_cmp first t) ≡ true → by_user_cmp t v ≡ Less → is_of_user n u v ≡ true → is_of_user n u t ≡ true

-- how many of the versions are of tuples that pass a test
abbrev pub count_of : (Tuple → Bool) → List Version → ℕ
count_of test rows = length (filter (λ (v : Version). test (tuple_of v.change)) rows)

-- how many of the versions are of tuples that meet the tupleset
abbrev pub count_met : Tupleset → List Version → ℕ
count_met q = count_of (meets q)
