-- Writes that hold their tuples.
use Rattle.std.specs.Prelude.{◌≡◌, ◌⊎◌, ◌<◌, ℕ, Bool, true, false, List, [], ◌∷◌, map, None, Some, All, slice_get}
use Rattle.std.specs.List.{AllByRecursion, list_any}
use Rattle.std.specs.List.Sorted.{IsStrictlySortedBy}
use Rattle.std.specs.Map.{keys_of}
use Rattle.std.specs.Ordering.{is_eq}
use Rattle.tuples.specs.contracts.tuple.TupleOrd.TheImpl.{ghosts}
use Rattle.tuples.specs.declared.tuple.Tuple.{Tuple}
use Rattle.tuples.specs.declared.entry.Entry.{Entry}
use Rattle.tuples.specs.declared.entry.WriteId.{WriteId}
use Rattle.tuples.specs.Changes.{has_tuple}
use Rattle.tuples.specs.Log.{AreNew}
use Rattle.records.specs.Replays.{find_in_doubt, id_cmp, is_held, named}

-- no two of these writes name one tuple, changed or conditioned, and no two have one id
pub record AreApart (ws : List Entry) : Type 0 where
  pub tuples : (i j : ℕ) (v w : Entry) → slice_get ws i ≡ Some v → slice_get ws j ≡ Some w → (t : Tuple) → has_tuple t (named v) ≡ true → has_tuple t (named w) ≡ true → i ≡ j
  pub ids : AreNew ws

-- no held write has the id of this one, or names one of its tuples
pub record IsFree (ws : List Entry) (w : Entry) : Type 0 where
  pub new : find_in_doubt w.id ws ≡ None
  pub tuples : All (λ (t : Tuple). is_held t ws ≡ false) (named w)

-- the ids of these writes
abbrev pub ids : List Entry → List WriteId
ids = map (λ (w : Entry). w.id)

-- ids, each before the next
abbrev pub AreAscendingIds : List WriteId → Type 0
AreAscendingIds [] = Unit {0}
AreAscendingIds (i ∷ []) = Unit {0}
AreAscendingIds (i ∷ j ∷ more) = ((i.epoch < j.epoch) ⊎ ((i.epoch ≡ j.epoch) × (i.number < j.number))) × AreAscendingIds (j ∷ more)

-- the tuple is in the set
abbrev pub is_in : List Tuple → Tuple → Bool
is_in held t = list_any (λ (u : Tuple). is_eq (ghosts.cmp t u)) held

-- writes that stay apart, and the set of their tuples
pub record IsHolding (ws : List Entry) (held : List Tuple) : Type 0 where
  pub apart : AreApart ws
  pub exact : (t : Tuple) → is_in held t ≡ is_held t ws

-- writes under their ids, in the order of these
pub record AreById (es : List (WriteId × Entry)) : Type 0 where
  pub in_order : IsStrictlySortedBy id_cmp (keys_of es)
  pub own : AllByRecursion (λ (e : WriteId × Entry). e.0 ≡ e.1.id) es
