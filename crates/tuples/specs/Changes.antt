-- What changes and conditions name, and which lists of them make a write.
use Rattle.std.specs.Prelude.{◌≡◌, ◌≤◌, Bool, true, false, ◌&&◌, List, [], ◌∷◌, length, map, All}
use Rattle.std.specs.List.{list_any}
use Rattle.tuples.specs.declared.tuple.Tuple.{Tuple}
use Rattle.tuples.specs.declared.change.Change.{Change}
use Rattle.tuples.specs.declared.change.Change.TheVariants.{Touch, Delete}
use Rattle.tuples.specs.declared.change.Condition.{Condition}
use Rattle.tuples.specs.Limits.{max_changes, max_conditions}
use Rattle.tuples.specs.Order.{tuple_eq, tuple_lt}
use Rattle.tuples.specs.Texts.{IsTuple}

-- the tuple that the change changes
abbrev pub tuple_of : Change → Tuple
tuple_of (Touch t) = t
tuple_of (Delete t) = t

abbrev pub changed : List Change → List Tuple
changed = map tuple_of

abbrev pub conditioned : List Condition → List Tuple
conditioned = map (λ (c : Condition). c.tuple)

-- the tuple is one of these
abbrev pub has_tuple : Tuple → List Tuple → Bool
has_tuple t = list_any (tuple_eq t)

-- no tuple twice
abbrev pub AreDistinct : List Tuple → Type 0
AreDistinct [] = Unit {0}
AreDistinct (t ∷ ts) = (has_tuple t ts ≡ false) × AreDistinct ts

-- each stands before the next one
abbrev pub are_ascending : List Tuple → Bool
are_ascending [] = true
are_ascending (t ∷ []) = true
are_ascending (t ∷ u ∷ ts) = tuple_lt t u && are_ascending (u ∷ ts)

-- the changes and conditions of a write, or of one shard's part of it: none twice, within the limits, each tuple in its grammar
pub record IsPart (changes : List Change) (conditions : List Condition) : Type 0 where
  pub few_changes : length changes ≤ max_changes
  pub few_conditions : length conditions ≤ max_conditions
  pub distinct_changes : AreDistinct (changed changes)
  pub distinct_conditions : AreDistinct (conditioned conditions)
  pub changes_spelled : All IsTuple (changed changes)
  pub conditions_spelled : All IsTuple (conditioned conditions)

-- those of a whole write, which has a change
pub record IsWrite (changes : List Change) (conditions : List Condition) : Type 0 where
  pub some : 1 ≤ length changes
  pub part : IsPart changes conditions
