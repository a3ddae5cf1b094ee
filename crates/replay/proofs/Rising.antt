-- Versions whose places rise within each tuple.
use Rattle.std.proofs.Common.{◌≡◌, ◌≤◌, ◌+◌, inl, inr, ℕ, Bool, true, false, cond, filter, max, List, [], ◌∷◌, ◌++◌, sym, ◌∙◌, ap, subst, arith}
use Rattle.std.specs.List.{AllByRecursion}
use Rattle.std.proofs.lemmas.Bool.{cases_Bool}
use Rattle.std.proofs.lemmas.List.{append-nil}
use Rattle.std.proofs.lemmas.List.Elements.{filter-append, filter_passes, recursion_from_All}
use Rattle.tuples.specs.declared.tuple.Tuple.{Tuple}
use Rattle.tuples.specs.declared.version.Version.{Version}
use Rattle.tuples.specs.Changes.{tuple_of}
use Rattle.tuples.specs.Order.{tuple_eq}
use Rattle.tuples.specs.Parts.{shard_of}
use Rattle.tuples.specs.Versions.{collected, last_version}
use Rattle.tuples.proofs.Same.{tuple_same}
use Rattle.tuples.proofs.Lists.{each_weaker}
use Rattle.records.specs.Replays.{Identity}
use Rattle.versions.specs.Alike.{AreAlike, of_tuple}
use Rattle.versions.proofs.Alike.{collected_own, last_own, of_own}
use Rattle.replay.proofs.Doubting.{each_append, each_filter}

-- each place is no lower than the one before
abbrev pub RisesFrom : ℕ → List Version → Type 0
RisesFrom n [] = Unit {0}
RisesFrom n (v ∷ vs) = (n ≤ v.place) × RisesFrom v.place vs

-- a version of this shard, of a write that it has learned
pub record IsKept (me : Identity) (learned : ℕ) (v : Version) : Type 0 where
  pub within : v.place ≤ learned
  pub own : shard_of me.shards (tuple_of v.change).object ≡ me.node

pub record AreKept (me : Identity) (learned : ℕ) (rows : List Version) : Type 0 where
  pub rise : (t : Tuple) → RisesFrom 1 (of_tuple t rows)
  pub each : AllByRecursion (IsKept me learned) rows

-- ---- lists that rise

pub rises_weaker : (n m : ℕ) (xs : List Version) → n ≤ m → RisesFrom m xs → RisesFrom n xs
rises_weaker n m [] low rises = tt
rises_weaker n m (v ∷ xs) low rises = ((let a = rises.0 in omega (arith, low, a)), rises.1)

pub rises_filter : (p : Version → Bool) (n : ℕ) (xs : List Version) → RisesFrom n xs → RisesFrom n (filter p xs)
rises_filter p n [] rises = tt
rises_filter p n (v ∷ xs) rises = elim (cases_Bool (p v)) [
  | inl here ↦ rw here (rises.0, rises_filter p v.place xs rises.1)
  | inr past ↦ rw past (rises_weaker n v.place (filter p xs) rises.0 (rises_filter p v.place xs rises.1))
]

pub rises_append : (n m : ℕ) (xs ys : List Version) → n ≤ m → RisesFrom n xs → AllByRecursion (λ (v : Version). v.place ≤ m) xs → RisesFrom m ys → RisesFrom n (xs ++ ys)
rises_append n m [] ys low rises within more = rises_weaker n m ys low more
rises_append n m (v ∷ xs) ys low rises within more = (rises.0, rises_append v.place m xs ys within.0 rises.1 within.1 more)

first_below : (n : ℕ) (xs : List Version) (v : Version) (ys : List Version) → RisesFrom n (xs ++ v ∷ ys) → n ≤ v.place
first_below n [] v ys rises = rises.0
first_below n (u ∷ xs) v ys rises = let a = rises.0 in let b = first_below u.place xs v ys rises.1 in omega (arith, a, b)

greater_of : (a b n : ℕ) → a ≤ n → b ≤ n → max a b ≤ n
greater_of a b n low more = grind (arith)

last_below : (n : ℕ) (xs : List Version) (v : Version) (ys : List Version) (t : Tuple) → RisesFrom n (xs ++ v ∷ ys) → last_version xs t ≤ v.place
unfolding last_version
last_below n [] v ys t rises = omega arith
last_below n (u ∷ xs) v ys t rises = elim (cases_Bool (tuple_eq t (tuple_of u.change))) [
  | inl here ↦ rw here (greater_of u.place (last_version xs t) v.place (first_below u.place xs v ys rises.1) (last_below u.place xs v ys t rises.1))
  | inr past ↦ rw past (last_below u.place xs v ys t rises.1)
]

-- ---- the versions of one tuple

-- the newest before a version of its tuple is no newer
pub newest_below : (done : List Version) (v : Version) (vs : List Version) → ((t : Tuple) → RisesFrom 1 (of_tuple t (done ++ v ∷ vs))) → last_version done (tuple_of v.change) ≤ v.place
newest_below done v vs rise =
    let t = tuple_of v.change in
    let own : of_tuple t (done ++ v ∷ vs) ≡ of_tuple t done ++ v ∷ of_tuple t vs = filter-append _ done (v ∷ vs) ∙ ap (λ (l : List Version). of_tuple t done ++ l) (of_own v vs) in
    subst (λ (n : ℕ). n ≤ v.place) (sym (last_own done t)) (last_below 1 (of_tuple t done) v (of_tuple t vs) t (subst (RisesFrom 1) own (rise t)))

-- each version of a list is of some tuple
each_tail : (P : Version → Type 0) (b : Bool) (v : Version) (vs : List Version) → AllByRecursion P (cond b (v ∷ vs) vs) → AllByRecursion P vs
each_tail P true v vs each = each.1
each_tail P false v vs each = each

pub each_of_tuples : (P : Version → Type 0) (vs : List Version) → ((t : Tuple) → AllByRecursion P (of_tuple t vs)) → AllByRecursion P vs
each_of_tuples P [] each = tt
each_of_tuples P (v ∷ vs) each = (
  (subst (AllByRecursion P) (of_own v vs) (each (tuple_of v.change))).0,
  each_of_tuples P vs (λ t. each_tail P (tuple_eq t (tuple_of v.change)) v (of_tuple t vs) (each t)),
)

-- ---- what is kept

pub kept_alike : (me : Identity) (learned : ℕ) (rows listed : List Version) → AreAlike rows listed → AreKept me learned rows → AreKept me learned listed
kept_alike me learned rows listed alike kept = record {
  rise = λ t. subst (RisesFrom 1) (alike.each t) (kept.rise t);
  each = each_of_tuples (IsKept me learned) listed (λ t. subst (AllByRecursion (IsKept me learned)) (alike.each t) (each_filter (IsKept me learned) _ rows kept.each));
}

pub kept_collected : (me : Identity) (learned horizon : ℕ) (rows : List Version) → AreKept me learned rows → AreKept me learned (collected horizon rows)
unfolding collected
kept_collected me learned horizon rows kept = record {
  rise = λ t. subst (RisesFrom 1) (sym (collected_own horizon t rows)) (rises_filter _ 1 (of_tuple t rows) (kept.rise t));
  each = each_filter (IsKept me learned) _ rows kept.each;
}

-- versions of writes above those that were learned
pub kept_more : (me : Identity) (learned to : ℕ) (rows more : List Version) → learned ≤ to → AreKept me learned rows → RisesFrom (1 + learned) more → AllByRecursion (IsKept me to) more → AreKept me to (rows ++ more)
kept_more me learned to rows more on kept rises each = record {
  rise = λ t. subst (RisesFrom 1) (sym (filter-append _ rows more))
      (rises_append 1 (1 + learned) (of_tuple t rows) (of_tuple t more) (omega arith) (kept.rise t)
      (each_weaker (IsKept me learned) (λ (v : Version). v.place ≤ 1 + learned) (λ v is. let a = is.within in omega (arith, a)) (of_tuple t rows) (each_filter (IsKept me learned) _ rows kept.each))
      (rises_filter _ (1 + learned) more rises));
  each = each_append (IsKept me to) rows more (each_weaker (IsKept me learned) (IsKept me to) (λ v is. record { within = (let a = is.within in omega (arith, on, a)); own = is.own }) rows kept.each) each;
}

-- one more version, no older than those of its tuple
kept_below : (xs : List Version) (t : Tuple) (n : ℕ) → AllByRecursion (λ (v : Version). tuple_eq t (tuple_of v.change) ≡ true) xs → last_version xs t ≤ n → AllByRecursion (λ (v : Version). v.place ≤ n) xs
unfolding last_version
kept_below [] t n own below = tt
kept_below (v ∷ xs) t n own below =
    let most : max v.place (last_version xs t) ≤ n = subst (λ (b : Bool). cond b (max v.place (last_version xs t)) (last_version xs t) ≤ n) own.0 below in
    (below_left v.place (last_version xs t) n most, kept_below xs t n own.1 (below_right v.place (last_version xs t) n most))
  where
    below_left : (a b n : ℕ) → max a b ≤ n → a ≤ n
    below_left a b n most = grind (arith, most)

    below_right : (a b n : ℕ) → max a b ≤ n → b ≤ n
    below_right a b n most = grind (arith, most)

pub kept_row : (me : Identity) (learned : ℕ) (rows : List Version) (v : Version) → AreKept me learned rows → 1 ≤ v.place → last_version rows (tuple_of v.change) ≤ v.place → IsKept me learned v → AreKept me learned (rows ++ v ∷ [])
kept_row me learned rows v kept some newest is = record {
  rise = λ t. subst (RisesFrom 1) (sym (filter-append _ rows (v ∷ []))) (elim (cases_Bool (tuple_eq t (tuple_of v.change))) [
    | inl here ↦
        rw here
        (rises_append 1 v.place (of_tuple t rows) (v ∷ []) some (kept.rise t)
        (kept_below (of_tuple t rows) t v.place (recursion_from_All _ (of_tuple t rows) (filter_passes _ rows))
        (subst (λ (n : ℕ). n ≤ v.place) (last_own rows t) (subst (λ (u : Tuple). last_version rows u ≤ v.place) (sym (tuple_same t (tuple_of v.change) here)) newest)))
        (omega arith, tt))
    | inr past ↦ rw past (subst (RisesFrom 1) (sym (append-nil (of_tuple t rows))) (kept.rise t))
  ]);
  each = each_append (IsKept me learned) rows (v ∷ []) kept.each (is, tt);
}

-- each place is one of a log
pub some_place : (done : List Version) (v : Version) (vs : List Version) → ((t : Tuple) → RisesFrom 1 (of_tuple t (done ++ v ∷ vs))) → 1 ≤ v.place
some_place done v vs rise =
    let t = tuple_of v.change in
    let own : of_tuple t (done ++ v ∷ vs) ≡ of_tuple t done ++ v ∷ of_tuple t vs = filter-append _ done (v ∷ vs) ∙ ap (λ (l : List Version). of_tuple t done ++ l) (of_own v vs) in
    first_below 1 (of_tuple t done) v (of_tuple t vs) (subst (RisesFrom 1) own (rise t))
