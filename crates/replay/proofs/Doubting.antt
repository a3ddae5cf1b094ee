-- Writes in doubt in the order of their ids: one more, fewer, and each put after the others again.
use Rattle.std.proofs.Common.{◌≡◌, inl, inr, suc, Bool, true, false, cond, not, filter, List, [], ◌∷◌, ◌++◌, Some, None, refl, sym, ◌∙◌, ap, subst, arith, length, All, slice_get}
use Rattle.std.specs.List.{AllByRecursion}
use Rattle.std.specs.Ordering.{ordering_reverse}
use Rattle.std.specs.declared.cmp.Ordering.TheVariants.{Less, Greater}
use Rattle.std.proofs.lemmas.Bool.{cases_Bool}
use Rattle.std.proofs.lemmas.List.Elements.{All-from_recursion, All-filter, All-weaker, recursion_from_All}
use Rattle.tuples.specs.declared.tuple.Tuple.{Tuple}
use Rattle.tuples.specs.declared.entry.Entry.{Entry}
use Rattle.tuples.specs.declared.entry.WriteId.{WriteId}
use Rattle.tuples.specs.Changes.{has_tuple}
use Rattle.tuples.specs.Log.{same_id}
use Rattle.tuples.specs.Order.{tuple_eq}
use Rattle.tuples.proofs.Ordered.{tuple_eq_refl}
use Rattle.tuples.proofs.Lists.{each_weaker}
use Rattle.records.specs.declared.record.PlacedId.{PlacedId}
use Rattle.records.specs.Replays.{find_in_doubt, id_cmp, is_held, named, put, without, without_placed_ids}
use Rattle.holds.specs.Holds.{AreApart}
use Rattle.holds.proofs.Doubts.{same_id_other, without_filter}
use Rattle.holds.proofs.Ids.{id_total}
use Rattle.holds.proofs.Put.{put_cases}
use Rattle.holds.proofs.Named.{apart_rest}

-- the write stands before the other one
abbrev pub IsBefore : Entry → Entry → Type 0
IsBefore v w = id_cmp v.id w.id ≡ Less

-- each stands before all after it
abbrev pub AreInOrder : List Entry → Type 0
AreInOrder [] = Unit {0}
AreInOrder (w ∷ ws) = AllByRecursion (IsBefore w) ws × AreInOrder ws

-- ---- what is so of each

pub each_put : (P : Entry → Type 0) (w : Entry) (ws : List Entry) → P w → AllByRecursion P ws → AllByRecursion P (put w ws)
each_put P w [] is each = (is, tt)
each_put P w (v ∷ ws) is each = put_cases (AllByRecursion P) w v ws
    (λ less. (is, each))
    (λ same. (is, each.1))
    (λ greater other. (each.0, each_put P w ws is each.1))

pub each_filter : {X : Type 0} (P : X → Type 0) (p : X → Bool) (xs : List X) → AllByRecursion P xs → AllByRecursion P (filter p xs)
each_filter P p xs each = recursion_from_All P (filter p xs) (All-filter p P xs (All-from_recursion P xs each))

pub each_append : {X : Type 0} (P : X → Type 0) (xs ys : List X) → AllByRecursion P xs → AllByRecursion P ys → AllByRecursion P (xs ++ ys)
each_append P [] ys each more = more
each_append P (x ∷ xs) ys each more = (each.0, each_append P xs ys each.1 more)

pub each_middle : {X : Type 0} (P : X → Type 0) (xs : List X) (x : X) (ys : List X) → AllByRecursion P (xs ++ x ∷ ys) → P x
each_middle P [] x ys each = each.0
each_middle P (y ∷ xs) x ys each = each_middle P xs x ys each.1

pub each_without : (P : Entry → Type 0) (id : WriteId) (ws : List Entry) → AllByRecursion P ws → AllByRecursion P (without id ws)
each_without P id ws each = subst (AllByRecursion P) (sym (without_filter id ws)) (each_filter P (λ (w : Entry). not (same_id w.id id)) ws each)

pub each_without_all : (P : Entry → Type 0) (placed_ids : List PlacedId) (ws : List Entry) → AllByRecursion P ws → AllByRecursion P (without_placed_ids placed_ids ws)
each_without_all P [] ws each = each
each_without_all P (p ∷ placed_ids) ws each = each_without_all P placed_ids (without p.id ws) (each_without P p.id ws each)

pub each_found : (P : Entry → Type 0) (id : WriteId) (ws : List Entry) (w : Entry) → AllByRecursion P ws → find_in_doubt id ws ≡ Some w → P w
each_found P id [] w each is = absurd cc
each_found P id (v ∷ ws) w each is = elim (cases_Bool (same_id v.id id)) [
  | inl here ↦ (let same : Some v ≡ Some w = sym (ap (λ (b : Bool). cond b (Some v) (find_in_doubt id ws)) here) ∙ is in let one : v ≡ w = cc in subst P one each.0)
  | inr past ↦ each_found P id ws w each.1 (sym (ap (λ (b : Bool). cond b (Some v) (find_in_doubt id ws)) past) ∙ is)
]

-- ---- their order

turned : (v w : Entry) → id_cmp w.id v.id ≡ Greater → IsBefore v w
turned v w greater = id_total.antisymm v.id w.id ∙ ap ordering_reverse greater

pub order_put : (w : Entry) (ws : List Entry) → AreInOrder ws → AreInOrder (put w ws)
order_put w [] order = (tt, tt)
order_put w (v ∷ ws) order = put_cases AreInOrder w v ws
    (λ less. ((less, each_weaker (IsBefore v) (IsBefore w) (λ u after. id_total.trans w.id v.id u.id less after) ws order.0), order))
    (λ same. (subst (λ (i : WriteId). AllByRecursion (λ (u : Entry). id_cmp i u.id ≡ Less) ws) (sym same) order.0, order.1))
    (λ greater other. (each_put (IsBefore v) w ws (turned v w greater) order.0, order_put w ws order.1))

pub order_filter : (p : Entry → Bool) (ws : List Entry) → AreInOrder ws → AreInOrder (filter p ws)
order_filter p [] order = tt
order_filter p (w ∷ ws) order = elim (cases_Bool (p w)) [
  | inl here ↦ rw here (each_filter (IsBefore w) p ws order.0, order_filter p ws order.1)
  | inr past ↦ rw past (order_filter p ws order.1)
]

pub order_without : (id : WriteId) (ws : List Entry) → AreInOrder ws → AreInOrder (without id ws)
order_without id ws order = subst AreInOrder (sym (without_filter id ws)) (order_filter (λ (w : Entry). not (same_id w.id id)) ws order)

pub order_without_all : (placed_ids : List PlacedId) (ws : List Entry) → AreInOrder ws → AreInOrder (without_placed_ids placed_ids ws)
order_without_all [] ws order = order
order_without_all (p ∷ placed_ids) ws order = order_without_all placed_ids (without p.id ws) (order_without p.id ws order)

-- ---- one after all others

pub all_before : (done : List Entry) (w : Entry) (ws : List Entry) → AreInOrder (done ++ w ∷ ws) → AllByRecursion (λ (v : Entry). IsBefore v w) done
all_before [] w ws order = tt
all_before (v ∷ done) w ws order = (each_middle (IsBefore v) done w ws order.0, all_before done w ws order.1)

not_both : {P : Type 0} (v w : Entry) → IsBefore v w → IsBefore w v → P
not_both v w before after = absurd (let both : Less ≡ Greater = sym before ∙ id_total.antisymm v.id w.id ∙ ap ordering_reverse after in cc)

not_itself : {P : Type 0} (v w : Entry) → IsBefore v w → w.id ≡ v.id → P
not_itself v w before same =
    let here : id_cmp v.id v.id ≡ Less = subst (λ (i : WriteId). id_cmp v.id i ≡ Less) same before in
    not_both v v here here

-- it is put after them
pub put_last : (done : List Entry) (w : Entry) → AllByRecursion (λ (v : Entry). IsBefore v w) done → put w done ≡ done ++ w ∷ []
put_last [] w before = refl
put_last (v ∷ done) w before = put_cases (λ l. l ≡ v ∷ done ++ w ∷ []) w v done
    (λ less. not_both v w before.0 less)
    (λ same. not_itself v w before.0 same)
    (λ greater other. ap (λ (l : List Entry). v ∷ l) (put_last done w before.1))

-- its id is new
pub new_last : (done : List Entry) (w : Entry) → AllByRecursion (λ (v : Entry). IsBefore v w) done → find_in_doubt w.id done ≡ None
new_last [] w before = refl
new_last (v ∷ done) w before =
    ap (λ (b : Bool). cond b (Some v) (find_in_doubt w.id done)) (same_id_other v.id w.id (λ same. not_itself v w before.0 (sym same))) ∙ new_last done w before.1

-- ---- what it names is free

at_middle : (done : List Entry) (w : Entry) (ws : List Entry) → slice_get (done ++ w ∷ ws) (length done) ≡ Some w
at_middle [] w ws = refl
at_middle (v ∷ done) w ws = at_middle done w ws

free_before : (done : List Entry) (w : Entry) (ws : List Entry) (t : Tuple) → AreApart (done ++ w ∷ ws) → has_tuple t (named w) ≡ true → is_held t done ≡ false
free_before [] w ws t apart has = refl
free_before (v ∷ done) w ws t apart has = elim (cases_Bool (has_tuple t (named v))) [
  | inl here ↦ absurd (let h : 0 ≡ suc (length done) = apart.tuples 0 (suc (length done)) v w refl (at_middle done w ws) t here has in omega (arith, h))
  | inr past ↦ rw past (free_before done w ws t (apart_rest v (done ++ w ∷ ws) apart) has)
]

have_each : (us ts : List Tuple) → ((t : Tuple) → has_tuple t us ≡ true → has_tuple t ts ≡ true) → AllByRecursion (λ (t : Tuple). has_tuple t ts ≡ true) us
have_each [] ts within = tt
have_each (u ∷ us) ts within = (
  within u (rw (tuple_eq_refl u) refl),
  have_each us ts (λ t has. within t (elim (cases_Bool (tuple_eq t u)) [
    | inl here ↦ rw here refl
    | inr past ↦ rw past has
  ])),
)

pub free_last : (done : List Entry) (w : Entry) (ws : List Entry) → AreApart (done ++ w ∷ ws) → All (λ (t : Tuple). is_held t done ≡ false) (named w)
free_last done w ws apart =
    All-weaker (λ (t : Tuple). has_tuple t (named w) ≡ true) (λ (t : Tuple). is_held t done ≡ false) (λ t has. free_before done w ws t apart has) (named w)
    (All-from_recursion (λ (t : Tuple). has_tuple t (named w) ≡ true) (named w) (have_each (named w) (named w) (λ t has. has)))
