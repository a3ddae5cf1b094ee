-- The index of last changes tells what the log does.
use Rattle.std.proofs.Common.{◌≡◌, ◌⊎◌, ◌↔◌, ◌==◌, ◌||◌, inl, inr, is_some, ⊎_elim, ℕ, zero, suc, ◌+◌, true, false, Bool, List, [], ◌∷◌, ◌++◌, length, Option, Some, None, refl, sym, ◌∙◌, ap, arith, subst, if◌then◌else◌}
use Rattle.std.proofs.Math.Dec.{eqb-suc-zero}
use Rattle.std.proofs.lemmas.Bool.{cases_Bool}
use Rattle.std.proofs.lemmas.List.{take_all}
use Rattle.std.specs.List.{flat_map, list_any}
use Rattle.tuples.specs.declared.tuple.Tuple.{Tuple}
use Rattle.tuples.specs.declared.change.Change.{Change}
use Rattle.tuples.specs.declared.change.Change.TheVariants.{Touch, Delete}
use Rattle.tuples.specs.declared.change.Condition.{Condition}
use Rattle.tuples.specs.declared.change.Want.{Want}
use Rattle.tuples.specs.declared.entry.Entry.{Entry}
use Rattle.tuples.specs.Changes.{changed, has_tuple, tuple_of}
use Rattle.tuples.specs.Log.{is_at as is_there_at, last_from, meets_want, there_after}
use Rattle.tuples.specs.Order.{tuple_eq}
use Rattle.tuples.specs.Versions.{is_touch}
use Rattle.tuples.proofs.Ordered.{tuple_eq_symm, same_order}
use Rattle.std.specs.BTreeMap.{BTreeMap, get, is_at}
use Rattle.std.specs.Map.{lookup}
use Rattle.std.specs.Ordering.{is_eq}
use Rattle.tuples.specs.Order.{tuple_cmp}
use Rattle.tuples.specs.contracts.tuple.TupleOrd.TheImpl.{ghosts}
use Rattle.records.specs.Coordinators.{CoordinatorState, HoldsKnown, is_changed}
use Rattle.recovery.specs.declared.latest.LastChange.{LastChange}
use Rattle.recovery.specs.Latest.{AreLatestFrom, holds_after, last_change, last_of, latest_from, there_of}

abbrev pub changed_by : ℕ → Change → LastChange
changed_by place c = record { place = place; is_there = is_touch c }

-- one more change
pub last_change_more : (place : ℕ) (t : Tuple) (c : Change) (changes : List Change) (o : Option LastChange)
    → last_change place (changes ++ c ∷ []) t o ≡ (if tuple_eq t (tuple_of c) then Some (changed_by place c) else last_change place changes t o)
last_change_more place t c [] o = refl
last_change_more place t c (d ∷ changes) o = last_change_more place t c changes (if tuple_eq t (tuple_of d) then Some (changed_by place d) else o)

-- one more write
pub latest_more : (place : ℕ) (t : Tuple) (w : Entry) (log : List Entry) (o : Option LastChange)
    → latest_from place (log ++ w ∷ []) t o ≡ last_change (place + length log) w.changes t (latest_from place log t o)
latest_more place t w [] o = ap (λ (n : ℕ). last_change n w.changes t o) (let e : place ≡ place + 0 = omega arith in e)
latest_more place t w (v ∷ log) o =
    latest_more (place + 1) t w log (last_change place v.changes t o)
    ∙ ap (λ (n : ℕ). last_change n w.changes t (latest_from (place + 1) log t (last_change place v.changes t o))) (let e : place + 1 + length log ≡ place + suc (length log) = omega arith in e)

place_after : (place : ℕ) (t : Tuple) (changes : List Change) (o : Option LastChange) → last_of (last_change place changes t o) ≡ (if has_tuple t (changed changes) then place else last_of o)
place_after place t [] o = refl
place_after place t (c ∷ changes) o = ⊎_elim
    (λ here. rw here (place_after place t changes (Some (changed_by place c)) ∙ same (has_tuple t (changed changes))))
    (λ further. rw further (place_after place t changes o))
    (cases_Bool (tuple_eq t (tuple_of c)))
  where
    same : (b : Bool) → (if b then place else place) ≡ place
    same true = refl
    same false = refl

place_from : (place : ℕ) (t : Tuple) (log : List Entry) (o : Option LastChange) → last_from (last_of o) place t log ≡ last_of (latest_from place log t o)
place_from place t [] o = refl
place_from place t (w ∷ log) o =
    ap (λ (n : ℕ). last_from n (place + 1) t log) (sym (place_after place t w.changes o)) ∙ place_from (place + 1) t log (last_change place w.changes t o)

there_of_change : (place : ℕ) (t : Tuple) (c : Change) (changes : List Change) (o : Option LastChange)
    → there_after t (there_of o) (c ∷ changes) ≡ there_after t (there_of (if tuple_eq t (tuple_of c) then Some (changed_by place c) else o)) changes
there_of_change place t (Touch u) changes o = ⊎_elim (λ here. rw here refl) (λ further. rw further refl) (cases_Bool (tuple_eq t u))
there_of_change place t (Delete u) changes o = ⊎_elim (λ here. rw here refl) (λ further. rw further refl) (cases_Bool (tuple_eq t u))

there_changes : (place : ℕ) (t : Tuple) (changes more : List Change) (o : Option LastChange) → there_after t (there_of o) (changes ++ more) ≡ there_after t (there_of (last_change place changes t o)) more
there_changes place t [] more o = refl
there_changes place t (c ∷ changes) more o =
    there_of_change place t c (changes ++ more) o ∙ there_changes place t changes more (if tuple_eq t (tuple_of c) then Some (changed_by place c) else o)

there_from : (place : ℕ) (t : Tuple) (log : List Entry) (o : Option LastChange) → there_after t (there_of o) (flat_map (λ (w : Entry). w.changes) log) ≡ there_of (latest_from place log t o)
there_from place t [] o = refl
there_from place t (w ∷ log) o =
    there_changes place t w.changes (flat_map (λ (v : Entry). v.changes) log) o ∙ there_from (place + 1) t log (last_change place w.changes t o)

there_last : (place : ℕ) (t : Tuple) (log : List Entry) → is_there_at log (length log) t ≡ there_of (latest_from place log t None)
unfolding is_there_at
there_last place t log = ap (λ (l : List Entry). there_after t false (flat_map (λ (w : Entry). w.changes) l)) (take_all (length log) log (omega arith)) ∙ there_from place t log None

-- what is wanted of a tuple, by its last change and by the log
wanted_by_last : (place : ℕ) (log : List Entry) (c : Condition)
    → meets_want c.want (last_of (latest_from place log c.tuple None)) (there_of (latest_from place log c.tuple None)) ≡ meets_want c.want (last_from 0 place c.tuple log) (is_there_at log (length log) c.tuple)
wanted_by_last place log c =
    ap (λ (n : ℕ). meets_want c.want n (there_of (latest_from place log c.tuple None))) (sym (place_from place c.tuple log None))
    ∙ ap (meets_want c.want (last_from 0 place c.tuple log)) (sym (there_last place c.tuple log))

-- a last change is known of those tuples that are changed
known_change : (place : ℕ) (t : Tuple) (changes : List Change) (o : Option LastChange) → is_some (last_change place changes t o) ≡ (has_tuple t (changed changes) || is_some o)
known_change place t [] o = refl
known_change place t (c ∷ changes) o = ⊎_elim
    (λ here. rw here (known_change place t changes (Some (changed_by place c)) ∙ either (has_tuple t (changed changes))))
    (λ further. rw further (known_change place t changes o))
    (cases_Bool (tuple_eq t (tuple_of c)))
  where
    either : (b : Bool) → (b || true) ≡ true
    either true = refl
    either false = refl

or_assoc : (a b c : Bool) → (a || (b || c)) ≡ ((b || a) || c)
or_assoc true true c = refl
or_assoc true false c = refl
or_assoc false true c = refl
or_assoc false false c = refl

known_from : (place : ℕ) (t : Tuple) (log : List Entry) (o : Option LastChange) → is_some (latest_from place log t o) ≡ (list_any (λ (w : Entry). has_tuple t (changed w.changes)) log || is_some o)
known_from place t [] o = refl
known_from place t (w ∷ log) o =
    let any = list_any (λ (v : Entry). has_tuple t (changed v.changes)) log in
    known_from (place + 1) t log (last_change place w.changes t o)
    ∙ ap (λ (b : Bool). any || b) (known_change place t w.changes o)
    ∙ or_assoc any (has_tuple t (changed w.changes)) (is_some o)

-- the test of a condition decides what is known of it
decides : (base : ℕ) (want : Want) (o : Option LastChange) (changes wanted : Bool) → is_some o ≡ changes → meets_want want (last_of o) (there_of o) ≡ wanted
    → (holds_after (base == 0) want o ≡ true) ↔ ((base ≡ 0) ⊎ (changes ≡ true) → wanted ≡ true)
decides base want (Some c) changes wanted known same = (λ is either. sym same ∙ is, λ holds. same ∙ holds (inr (sym known)))
decides zero want None changes wanted known same = (λ is either. sym same ∙ is, λ holds. same ∙ holds (inl refl))
decides (suc base) want None changes wanted known same =
    (λ is either. absurd (⊎_elim (λ (first : suc base ≡ 0). omega (arith, first)) (λ (yes : changes ≡ true). let differ : false ≡ true = known ∙ yes in cc) either), λ holds. rw (eqb-suc-zero base) refl)

pub known_by_index : (at : Tuple → Option LastChange) (s : CoordinatorState) (c : Condition) → AreLatestFrom (s.base + 1) at s.log → (holds_after (s.base == 0) c.want (at c.tuple) ≡ true) ↔ HoldsKnown s c
known_by_index at s c latest =
    let last = latest_from (s.base + 1) s.log c.tuple None in
    let both = decides s.base c.want last (is_changed s c.tuple) (meets_want c.want (last_from 0 (s.base + 1) c.tuple s.log) (is_there_at s.log (length s.log) c.tuple))
    (known_from (s.base + 1) c.tuple s.log None ∙ no_more (is_changed s c.tuple)) (wanted_by_last (s.base + 1) s.log c) in
    subst (λ (o : Option LastChange). (holds_after (s.base == 0) c.want o ≡ true) ↔ HoldsKnown s c) (sym (latest c.tuple)) both
  where
    no_more : (b : Bool) → (b || false) ≡ b
    no_more true = refl
    no_more false = refl

look_up : (t : Tuple) (entries : List (Tuple × LastChange)) → lookup (is_at (ghosts.cmp t)) entries ≡ lookup (is_at (tuple_cmp t)) entries
look_up t [] = refl
look_up t (e ∷ entries) = ap (λ (b : Bool). if b then Some e.1 else lookup (is_at (ghosts.cmp t)) entries) (ap is_eq (same_order t e.0)) ∙ ap (λ (o : Option LastChange). if is_eq (tuple_cmp t e.0) then Some e.1 else o) (look_up t entries)

pub same_index : (m : BTreeMap Tuple LastChange) (t : Tuple) → get ghosts.cmp m t ≡ get tuple_cmp m t
same_index m t = look_up t m.entries

-- one more entry, if the map is asked in the order of tuples
pub index_more : (old new : BTreeMap Tuple LastChange) (k t : Tuple) (x : LastChange) → get ghosts.cmp new t ≡ (if is_eq (ghosts.cmp k t) then Some x else get ghosts.cmp old t)
    → get tuple_cmp new t ≡ (if tuple_eq t k then Some x else get tuple_cmp old t)
unfolding tuple_eq
index_more old new k t x is =
    sym (same_index new t) ∙ is
    ∙ ap (λ (b : Bool). if b then Some x else get ghosts.cmp old t) (ap is_eq (same_order k t) ∙ tuple_eq_symm k t)
    ∙ ap (λ (o : Option LastChange). if tuple_eq t k then Some x else o) (same_index old t)
