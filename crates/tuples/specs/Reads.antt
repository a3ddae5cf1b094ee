-- What a read selects of a set of tuples.
use Rattle.std.specs.Prelude.{◌≡◌, ◌↔◌, ℕ, Bool, true, ◌&&◌, List, [], ◌∷◌, Option, Some, None, Contains}
use Rattle.std.specs.Ordering.{is_eq}
use Rattle.tuples.specs.declared.tuple.Tuple.{Tuple}
use Rattle.tuples.specs.declared.tupleset.Tupleset.{Tupleset}
use Rattle.tuples.specs.declared.tupleset.Tupleset.TheVariants.{Key, OfObject, OfUser}
use Rattle.tuples.specs.Order.{name_cmp, object_cmp, user_cmp, tuple_eq, tuple_lt}

abbrev pub same_name : List ℕ → List ℕ → Bool
same_name a b = is_eq (name_cmp a b)

-- the relation, if one is given
abbrev pub has_relation : Option (List ℕ) → Tuple → Bool
has_relation None t = true
has_relation (Some r) t = same_name t.relation r

-- the tuple meets the tupleset
abbrev pub meets : Tupleset → Tuple → Bool
meets (Key k) t = tuple_eq t k
meets (OfObject o r) t = is_eq (object_cmp t.object o) && has_relation r t
meets (OfUser n u r) t = same_name t.object.namespace n && (is_eq (user_cmp t.user u) && has_relation r t)

-- each before the next
abbrev pub AreAscending : List Tuple → Type 0
AreAscending [] = Unit {0}
AreAscending (t ∷ []) = Unit {0}
AreAscending (t ∷ u ∷ ts) = (tuple_lt t u ≡ true) × AreAscending (u ∷ ts)

-- the tuples of the set that meet the tupleset, ascending
pub record IsSelection (there : Tuple → Bool) (q : Tupleset) (rows : List Tuple) : Type 0 where
  pub ascending : AreAscending rows
  pub exact : (t : Tuple) → Contains rows t ↔ ((there t ≡ true) × (meets q t ≡ true))
