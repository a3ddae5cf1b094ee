-- The placed ids of decided writes, and their places.
use Rattle.std.proofs.Common.{◌≡◌, ◌≤◌, ◌<◌, ◌+◌, ◌-◌, ◌++◌, ◌||◌, ⊎_elim, ℕ, Bool, zero, suc, true, false, List, [], ◌∷◌, length, take, get_or, Some, All, refl, sym, ap, ◌∙◌, subst, arith, length-drop, length-take, ◌==◌}
use Rattle.std.specs.List.{list_any, slice_get}
use Rattle.std.proofs.Math.Bool.{or-false}
use Rattle.std.proofs.lemmas.Bool.{cases_Bool, or_cases, or_parts, both_ways, eq-eqb, eqb-true}
use Rattle.std.proofs.lemmas.List.{append-nil, take_more}
use Rattle.std.proofs.lemmas.List.Elements.{All-cons, All-nil}
use Rattle.std.proofs.lemmas.List.Folds.{list_any-append}
use Rattle.tuples.specs.declared.entry.Entry.{Entry}
use Rattle.tuples.specs.declared.entry.WriteId.{WriteId}
use Rattle.tuples.specs.Log.{same_id}
use Rattle.tuples.specs.Parts.{part, takes_part}
use Rattle.records.specs.Format.{AreRisingTo, IsLearned, max_placed_ids}
use Rattle.records.specs.declared.record.PlacedId.{PlacedId}
use Rattle.records.specs.Replays.{ArePrepared, Identity, MayLearn, ShardState, find_in_doubt, greatest_number, without}
use Rattle.replay.proofs.Doubts.{find_without_other, same_id_refl, same_id_true}
use Rattle.shard.specs.Keeping.{has_id}
use Rattle.shard.specs.Own.{AreNewIdsTo}
use Rattle.shard.specs.Shards.{AreLearnable, AreNewIds, placed_ids_from, unlearned}
use Rattle.shard.proofs.Given.{AllGiven, given_placed_ids}

module _ (shards s : ℕ) where
  placed_ids_push : (place : ℕ) (writes : List Entry) (w : Entry) → placed_ids_from shards s place (writes ++ w ∷ []) ≡ placed_ids_from shards s place writes ++ placed_ids_from shards s (place + length writes) (w ∷ [])
  placed_ids_push place [] w = let same : place ≡ place + 0 = omega arith in ap (λ (n : ℕ). placed_ids_from shards s n (w ∷ [])) same
  placed_ids_push place (v ∷ writes) w =
      let on : place + 1 + length writes ≡ place + length (v ∷ writes) = omega arith in
      let rest : placed_ids_from shards s (place + 1) (writes ++ w ∷ []) ≡ placed_ids_from shards s (place + 1) writes ++ placed_ids_from shards s (place + length (v ∷ writes)) (w ∷ []) =
      placed_ids_push (place + 1) writes w ∙ ap (λ (n : ℕ). placed_ids_from shards s (place + 1) writes ++ placed_ids_from shards s n (w ∷ [])) on in
      ⊎_elim
      (λ (yes : takes_part shards s v ≡ true). rw yes (ap (λ (l : List PlacedId). record { id = v.id; place = place } ∷ l) rest))
      (λ (not_here : takes_part shards s v ≡ false). rw not_here rest)
      (cases_Bool (takes_part shards s v))

  module _ (place : ℕ) (writes : List Entry) (i : ℕ) (w : Entry) (lt : i < length writes) (at : w ≡ get_or writes i w) where
    one_more : placed_ids_from shards s place (take (i + 1) writes) ≡ placed_ids_from shards s place (take i writes) ++ placed_ids_from shards s (place + i) (w ∷ [])
    one_more =
        let front : take (i + 1) writes ≡ take i writes ++ w ∷ [] = take_more writes i w lt ∙ ap (λ (x : Entry). take i writes ++ x ∷ []) (sym at) in
        let len : length (take i writes) ≡ i = omega (arith, length-take i writes) in
        ap (placed_ids_from shards s place) front ∙ placed_ids_push place (take i writes) w ∙ ap (λ (n : ℕ). placed_ids_from shards s place (take i writes) ++ placed_ids_from shards s (place + n) (w ∷ [])) len

    pub placed_id_pushed : takes_part shards s w ≡ true → placed_ids_from shards s place (take (i + 1) writes) ≡ placed_ids_from shards s place (take i writes) ++ record { id = w.id; place = place + i } ∷ []
    placed_id_pushed takes = let more = one_more in rw takes at more

    pub placed_id_skipped : takes_part shards s w ≡ false → placed_ids_from shards s place (take (i + 1) writes) ≡ placed_ids_from shards s place (take i writes)
    placed_id_skipped not_here = (let more = one_more in rw not_here at more) ∙ append-nil (placed_ids_from shards s place (take i writes))

pub get_at : (writes : List Entry) (i : ℕ) (w : Entry) → i < length writes → w ≡ get_or writes i w → slice_get writes i ≡ Some w
get_at [] i w lt at = absurd (omega arith)
get_at (v ∷ writes) zero w lt at = ap (λ (x : Entry). Some x) (sym at)
get_at (v ∷ writes) (suc i) w lt at = get_at writes i w (omega arith) at

-- one of the first writes with this id
pub named_before : (writes : List Entry) (n : ℕ) (id : WriteId) → list_any (λ (w : Entry). same_id w.id id) (take n writes) ≡ true → (j : ℕ) × (v : Entry) × (j < n) × (slice_get writes j ≡ Some v) × (v.id ≡ id)
named_before [] zero id has = absurd cc
named_before [] (suc n) id has = absurd cc
named_before (w ∷ writes) zero id has = absurd cc
named_before (w ∷ writes) (suc n) id has = ⊎_elim
    (λ here. (0, w, omega arith, refl, same_id_true w.id id here))
    (λ there. let l = named_before writes n id there in (suc l.0, l.1, omega (arith, l.2), l.3, l.4))
    (or_cases (same_id w.id id) (list_any (λ (v : Entry). same_id v.id id) (take n writes)) has)

not_named_before : (writes : List Entry) (n : ℕ) (id : WriteId) → list_any (λ (w : Entry). same_id w.id id) (take n writes) ≡ false → (j : ℕ) (v : Entry) → j < n → slice_get writes j ≡ Some v → v.id ≡ id → ⊥
not_named_before [] n id none j v lt is same = absurd cc
not_named_before (w ∷ writes) zero id none j v lt is same = absurd (omega (arith, lt))
not_named_before (w ∷ writes) (suc n) id none zero v lt is same =
    let cut = or_parts (same_id w.id id) (list_any (λ (x : Entry). same_id x.id id) (take n writes)) none in
    let here : w.id ≡ id = (let e : w ≡ v = cc in ap (λ (x : Entry). x.id) e ∙ same) in
    both_ways (same_id w.id id) cut.0 (ap (λ (x : WriteId). same_id w.id x) (sym here) ∙ same_id_refl w.id)
not_named_before (w ∷ writes) (suc n) id none (suc j) v lt is same =
    not_named_before writes n id (or_parts (same_id w.id id) (list_any (λ (x : Entry). same_id x.id id) (take n writes)) none).1 j v (omega (arith, lt)) is same

-- one write more has an id of its own
pub new_more : (writes : List Entry) (n : ℕ) (w : Entry) → AreNewIdsTo n writes → slice_get writes n ≡ Some w → list_any (λ (x : Entry). same_id x.id w.id) (take n writes) ≡ false → AreNewIdsTo (n + 1) writes
new_more writes n w new at none i j u v lt_i lt_j is_i is_j same = ⊎_elim
    (λ (last_i : (i == n) ≡ true).
    let u_is : u ≡ w = (let e : Some u ≡ Some w = sym is_i ∙ ap (slice_get writes) (eqb-true i n last_i) ∙ at in cc) in
    ⊎_elim
    (λ (last_j : (j == n) ≡ true). eqb-true i n last_i ∙ sym (eqb-true j n last_j))
    (λ (early_j : (j == n) ≡ false). absurd (not_named_before writes n w.id none j v (let ne : j ≡ n → ⊥ = λ e. both_ways (j == n) early_j (eq-eqb j n e) in omega (arith, lt_j, ne)) is_j (sym same ∙ ap (λ (x : Entry). x.id) u_is)))
    (cases_Bool (j == n)))
    (λ (early_i : (i == n) ≡ false).
    let below_i : i < n = (let ne : i ≡ n → ⊥ = λ e. both_ways (i == n) early_i (eq-eqb i n e) in omega (arith, lt_i, ne)) in
    ⊎_elim
    (λ (last_j : (j == n) ≡ true).
    let v_is : v ≡ w = (let e : Some v ≡ Some w = sym is_j ∙ ap (slice_get writes) (eqb-true j n last_j) ∙ at in cc) in
    absurd (not_named_before writes n w.id none i u below_i is_i (same ∙ ap (λ (x : Entry). x.id) v_is)))
    (λ (early_j : (j == n) ≡ false). new i j u v below_i (let ne : j ≡ n → ⊥ = λ e. both_ways (j == n) early_j (eq-eqb j n e) in omega (arith, lt_j, ne)) is_i is_j same)
    (cases_Bool (j == n)))
    (cases_Bool (i == n))

-- the ids of one write more
pub seen_more : (writes : List Entry) (n : ℕ) (w : Entry) → n < length writes → w ≡ get_or writes n w → (ids more : List WriteId) → ((j : WriteId) → has_id j ids ≡ list_any (λ (x : Entry). same_id x.id j) (take n writes))
    → ((j : WriteId) → has_id j more ≡ (has_id j ids || same_id w.id j)) → (j : WriteId) → has_id j more ≡ list_any (λ (x : Entry). same_id x.id j) (take (n + 1) writes)
seen_more writes n w lt at ids more seen put j =
    let named = λ (x : Entry). same_id x.id j in
    let front : take (n + 1) writes ≡ take n writes ++ w ∷ [] = take_more writes n w lt ∙ ap (λ (x : Entry). take n writes ++ x ∷ []) (sym at) in
    put j
    ∙ ap (λ (b : Bool). b || named w) (seen j)
    ∙ ap (λ (b : Bool). list_any named (take n writes) || b) (sym (or-false (named w)))
    ∙ sym (list_any-append named (take n writes) (w ∷ []))
    ∙ ap (list_any named) (sym front)

get_within : (writes : List Entry) (j : ℕ) (v : Entry) → slice_get writes j ≡ Some v → j < length writes
get_within [] j v is = absurd cc
get_within (w ∷ writes) zero v is = omega arith
get_within (w ∷ writes) (suc j) v is = let lt = get_within writes j v is in omega (arith, lt)

pub all_new : (writes : List Entry) (n : ℕ) → AreNewIdsTo n writes → length writes ≤ n → AreNewIds writes
all_new writes n new le i j v w is_i is_j same = new i j v w (omega (arith, le, get_within writes i v is_i)) (omega (arith, le, get_within writes j w is_j)) is_i is_j same

-- the writes in which the shard takes part are in doubt, another each time
prepared_from : (shards s place : ℕ) (writes ws : List Entry) → AreNewIds writes → ((j : ℕ) (w : Entry) → slice_get writes j ≡ Some w → takes_part shards s w ≡ true → find_in_doubt w.id ws ≡ Some (part shards s w)) → ArePrepared (placed_ids_from shards s place writes) ws
prepared_from shards s place [] ws new here = tt
prepared_from shards s place (w ∷ writes) ws new here =
    let later : AreNewIds writes = λ i j u v is_i is_j same. (let e = new (suc i) (suc j) u v is_i is_j same in omega (arith, e)) in
    ⊎_elim
    (λ (yes : takes_part shards s w ≡ true). rw yes (
      (part shards s w, here 0 w refl yes),
      prepared_from shards s (place + 1) writes (without w.id ws) later
          (λ j v is takes. find_without_other v.id w.id ws (λ same. let e = new (suc j) 0 v w is refl same in omega (arith, e)) ∙ here (suc j) v is takes),
    ))
    (λ (not_here : takes_part shards s w ≡ false). rw not_here (prepared_from shards s (place + 1) writes ws later (λ j v is takes. here (suc j) v is takes)))
    (cases_Bool (takes_part shards s w))

pub all_prepared : (me : Identity) (m : ShardState) (place : ℕ) (writes : List Entry) → AreLearnable me m writes → ArePrepared (placed_ids_from me.shards me.node place writes) m.in_doubt
all_prepared me m place writes are = prepared_from me.shards me.node place writes m.in_doubt are.new are.prepared

-- places

abbrev FirstAbove : ℕ → List PlacedId → Type 0
FirstAbove n [] = Unit {0}
FirstAbove n (p ∷ placed_ids) = n < p.place

rising_cons : (to : ℕ) (p : PlacedId) (placed_ids : List PlacedId) → p.place ≤ to → FirstAbove p.place placed_ids → AreRisingTo to placed_ids → AreRisingTo to (p ∷ placed_ids)
rising_cons to p [] le first rest = le
rising_cons to p (q ∷ placed_ids) le first rest = (first, rest)

module _ (shards s : ℕ) where
  first_above : (n place : ℕ) (writes : List Entry) → n < place → FirstAbove n (placed_ids_from shards s place writes)
  first_above n place [] lt = tt
  first_above n place (w ∷ writes) lt = ⊎_elim
      (λ (yes : takes_part shards s w ≡ true). rw yes lt)
      (λ (not_here : takes_part shards s w ≡ false). rw not_here (first_above n (place + 1) writes (omega arith)))
      (cases_Bool (takes_part shards s w))

  pub rising : (to place : ℕ) (writes : List Entry) → place + length writes ≤ to + 1 → AreRisingTo to (placed_ids_from shards s place writes)
  rising to place [] le = tt
  rising to place (w ∷ writes) le =
      let rest : AreRisingTo to (placed_ids_from shards s (place + 1) writes) = rising to (place + 1) writes (omega arith) in
      ⊎_elim
      (λ (yes : takes_part shards s w ≡ true). rw yes (rising_cons to (record { id = w.id; place = place }) (placed_ids_from shards s (place + 1) writes) (omega arith) (first_above place (place + 1) writes (omega arith)) rest))
      (λ (not_here : takes_part shards s w ≡ false). rw not_here rest)
      (cases_Bool (takes_part shards s w))

  pub all_above : (n place : ℕ) (writes : List Entry) → n < place → All (λ (p : PlacedId). n < p.place) (placed_ids_from shards s place writes)
  all_above n place [] lt = All-nil (λ (p : PlacedId). n < p.place)
  all_above n place (w ∷ writes) lt =
      let rest = all_above n (place + 1) writes (omega arith) in
      ⊎_elim
      (λ (yes : takes_part shards s w ≡ true). rw yes (All-cons (λ (p : PlacedId). n < p.place) (record { id = w.id; place = place }) (placed_ids_from shards s (place + 1) writes) lt rest))
      (λ (not_here : takes_part shards s w ≡ false). rw not_here rest)
      (cases_Bool (takes_part shards s w))

  pub few_placed_ids : (place : ℕ) (writes : List Entry) → length (placed_ids_from shards s place writes) ≤ length writes
  few_placed_ids place [] = omega arith
  few_placed_ids place (w ∷ writes) =
      let rest : length (placed_ids_from shards s (place + 1) writes) ≤ length writes = few_placed_ids (place + 1) writes in
      ⊎_elim
      (λ (yes : takes_part shards s w ≡ true). rw yes (omega arith))
      (λ (not_here : takes_part shards s w ≡ false). rw not_here (omega arith))
      (cases_Bool (takes_part shards s w))

-- learning the writes of a batch that are not learned yet
module _ (shards s : ℕ) (m : ShardState) (from : ℕ) (writes : List Entry) (le : from ≤ m.learned) (lt : m.learned < from + length writes) (greatest : from + length writes ≤ greatest_number)
    (placed_ids : List PlacedId) (is : placed_ids ≡ placed_ids_from shards s (m.learned + 1) (unlearned m from writes)) (prepared : ArePrepared placed_ids m.in_doubt) where
  places_rise : AreRisingTo (from + length writes) placed_ids
  places_rise = subst (AreRisingTo (from + length writes)) (sym is) (rising shards s (from + length writes) (m.learned + 1) (unlearned m from writes) (omega (arith, length-drop (m.learned - from) writes)))

  pub learned_spelled : length writes ≤ max_placed_ids → AllGiven m.in_doubt → IsLearned (from + length writes) placed_ids
  learned_spelled few given = record {
    to_fits = omega (arith, greatest);
    few = let most = few_placed_ids shards s (m.learned + 1) (unlearned m from writes) in omega (arith, ap length is, most, length-drop (m.learned - from) writes);
    ids = given_placed_ids placed_ids m.in_doubt given prepared;
    places = places_rise;
  }

  pub may_learn : 1 ≤ m.epoch → MayLearn m (from + length writes) placed_ids
  may_learn opened = record {
    opened = opened;
    on = omega (arith, lt);
    place = greatest;
    above = subst (All (λ (p : PlacedId). m.learned < p.place)) (sym is) (all_above shards s m.learned (m.learned + 1) (unlearned m from writes) (omega arith));
    places = places_rise;
    prepared = prepared;
  }
