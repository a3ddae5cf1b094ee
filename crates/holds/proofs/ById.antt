-- Writes under their ids: one is found, put in its place and taken out by its key as by its id.
use Rattle.std.proofs.Common.{◌≡◌, ⊎_elim, Bool, true, false, not, ◌&&◌, ◌||◌, cond, MatchOption, Bor, List, [], ◌∷◌, Option, Some, None, refl, sym, ◌∙◌, ap, subst}
use Rattle.std.specs.BTreeMap.{insert_entry, is_at}
use Rattle.std.specs.List.{AllByRecursion}
use Rattle.std.specs.List.Sorted.{IsStrictlySortedBy}
use Rattle.std.specs.Map.{keys_of, lookup, remove_entry, values_of}
use Rattle.std.specs.Option.{option_copied}
use Rattle.std.specs.Ordering.{is_eq, match_ordering}
use Rattle.std.specs.declared.cmp.Ordering.{Ordering}
use Rattle.std.specs.declared.cmp.Ordering.TheVariants.{Less, Equal, Greater}
use Rattle.std.proofs.lemmas.Bool.{cases_Bool}
use Rattle.tuples.specs.declared.entry.Entry.{Entry}
use Rattle.tuples.specs.declared.entry.WriteId.{WriteId}
use Rattle.tuples.specs.Log.{same_id}
use Rattle.records.specs.Replays.{find_in_doubt, id_cmp, put, without}
use Rattle.holds.specs.Holds.{AreAscendingIds, AreById, ids}
use Rattle.holds.proofs.Doubts.{same_id_true}
use Rattle.holds.proofs.Ids.{ascending, id_equivalence, id_ties}
use Rattle.holds.proofs.Named.{without_none}

abbrev pub Kept : Type 0
Kept = List (WriteId × Entry)

abbrev pub AreOwn : Kept → Type 0
AreOwn = AllByRecursion (λ (e : WriteId × Entry). e.0 ≡ e.1.id)

-- the key is equal to the id if the write's own is
at_own : (id k : WriteId) (w : Entry) → k ≡ w.id → is_at (id_cmp id) k ≡ same_id w.id id
at_own id k w own = sym (id_ties id k) ∙ id_equivalence.symm id k ∙ ap (λ (i : WriteId). same_id i id) own

pub keys_are : (es : Kept) → AreOwn es → keys_of es ≡ ids (values_of es)
keys_are [] own = refl
keys_are ((k, w) ∷ es) own = ap (λ (i : WriteId). i ∷ keys_of es) own.0 ∙ ap (λ (l : List WriteId). w.id ∷ l) (keys_are es own.1)

pub ids_ascend : (es : Kept) → AreById es → AreAscendingIds (ids (values_of es))
ids_ascend es by_id = subst AreAscendingIds (keys_are es by_id.own) (ascending (keys_of es) by_id.in_order)

-- ---- a write is found

pub found_by_id : (id : WriteId) (es : Kept) → AreOwn es → lookup (is_at (id_cmp id)) es ≡ find_in_doubt id (values_of es)
found_by_id id [] own = refl
found_by_id id ((k, w) ∷ es) own =
    ap (λ (b : Bool). cond b (Some w) (lookup (is_at (id_cmp id)) es)) (at_own id k w own.0)
    ∙ ap (λ (o : Option Entry). cond (same_id w.id id) (Some w) o) (found_by_id id es own.1)

-- ---- a write is taken out

none_above : (id : WriteId) (es : Kept) → AreOwn es → AllByRecursion (λ k. id_cmp id k ≡ Less) (keys_of es) → find_in_doubt id (values_of es) ≡ None
none_above id [] own above = refl
none_above id ((k, w) ∷ es) own above =
    ap (λ (b : Bool). cond b (Some w) (find_in_doubt id (values_of es))) (sym (at_own id k w own.0) ∙ ap is_eq above.0)
    ∙ none_above id es own.1 above.1

pub taken_by_id : (id : WriteId) (es : Kept) → IsStrictlySortedBy id_cmp (keys_of es) → AreOwn es → values_of (remove_entry (is_at (id_cmp id)) es) ≡ without id (values_of es)
unfolding IsStrictlySortedBy
taken_by_id id [] sorted own = refl
taken_by_id id ((k, w) ∷ es) sorted own = ⊎_elim
    (λ here.
    let same : k ≡ id = own.0 ∙ same_id_true w.id id here in
    ap (λ (b : Bool). values_of (cond b es ((k, w) ∷ remove_entry (is_at (id_cmp id)) es))) (at_own id k w own.0 ∙ here)
    ∙ sym (without_none id (values_of es) (none_above id es own.1 (subst (λ (i : WriteId). AllByRecursion (λ j. id_cmp i j ≡ Less) (keys_of es)) same sorted.0)))
    ∙ sym (ap (λ (b : Bool). cond b (without id (values_of es)) (w ∷ without id (values_of es))) here))
    (λ past.
    ap (λ (b : Bool). values_of (cond b es ((k, w) ∷ remove_entry (is_at (id_cmp id)) es))) (at_own id k w own.0 ∙ past)
    ∙ ap (λ (l : List Entry). w ∷ l) (taken_by_id id es sorted.1 own.1)
    ∙ sym (ap (λ (b : Bool). cond b (without id (values_of es)) (w ∷ without id (values_of es))) past))
    (cases_Bool (same_id w.id id))

pub own_left : (test : WriteId → Bool) (es : Kept) → AreOwn es → AreOwn (remove_entry test es)
own_left test [] own = tt
own_left test ((k, w) ∷ es) own = by_test (own_left test es own.1) (test k)
  where
    by_test : AreOwn (remove_entry test es) → (b : Bool) → AreOwn (cond b es ((k, w) ∷ remove_entry test es))
    by_test rest true = own.1
    by_test rest false = (own.0, rest)

-- ---- a write is put in its place

pub put_by_id : (w : Entry) (es : Kept) → AreOwn es → values_of (insert_entry id_cmp es w.id w) ≡ put w (values_of es)
put_by_id w [] own = refl
put_by_id w ((k, v) ∷ es) own =
    ap (λ (i : WriteId). values_of (match_ordering (id_cmp w.id i) ((w.id, w) ∷ (k, v) ∷ es) ((k, w) ∷ es) ((k, v) ∷ insert_entry id_cmp es w.id w))) own.0
    ∙ by_order (put_by_id w es own.1) (id_cmp w.id v.id)
  where
    by_order : values_of (insert_entry id_cmp es w.id w) ≡ put w (values_of es) → (o : Ordering) → values_of (match_ordering o ((w.id, w) ∷ (k, v) ∷ es) ((k, w) ∷ es) ((k, v) ∷ insert_entry id_cmp es w.id w)) ≡ match_ordering o (w ∷ v ∷ values_of es) (w ∷ values_of es) (v ∷ put w (values_of es))
    by_order rest Less = refl
    by_order rest Equal = refl
    by_order rest Greater = ap (λ (l : List Entry). v ∷ l) rest

pub own_put : (w : Entry) (es : Kept) → AreOwn es → AreOwn (insert_entry id_cmp es w.id w)
own_put w [] own = (refl, tt)
own_put w ((k, v) ∷ es) own = by_order (own_put w es own.1) (id_cmp w.id k) refl
  where
    by_order : AreOwn (insert_entry id_cmp es w.id w) → (o : Ordering) → id_cmp w.id k ≡ o → AreOwn (match_ordering o ((w.id, w) ∷ (k, v) ∷ es) ((k, w) ∷ es) ((k, v) ∷ insert_entry id_cmp es w.id w))
    by_order rest Less is = (refl, own)
    by_order rest Equal is = (sym (same_id_true w.id k (id_ties w.id k ∙ ap is_eq is)), own.1)
    by_order rest Greater is = (own.0, rest)

-- ---- what the code finds, and what it takes back

pub from_copied : (r : Option (Bor Entry)) (o : Option Entry) → option_copied r ≡ o → MatchOption r (o ≡ None) (λ w. o ≡ Some w.now)
from_copied None o is = sym is
from_copied (Some w) o is = sym is

-- a write that was held and is released again leaves the others
pub freed : (n m h f : Bool) → n ≡ (not h && m) → m ≡ (h || f) → (h ≡ true → f ≡ false) → n ≡ f
freed n m true f is was free = is ∙ sym (free refl)
freed n m false f is was free = is ∙ was
