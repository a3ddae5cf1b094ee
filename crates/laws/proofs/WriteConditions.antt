-- Which conditions hold after a log: one more write, part by part, and by its last writes alone.
use Rattle.std.proofs.Common.{◌≡◌, ◌≢◌, ◌⊎◌, inl, inr, ⊎_elim, ℕ, Bool, true, false, not, ◌+◌, ◌<◌, ◌≤◌, ◌==◌, List, [], ◌∷◌, ◌++◌, length, take, drop, filter, Some, None, All, refl, sym, ◌∙◌, ap, subst, arith, cond, append-nil, slice_get}
use Rattle.std.specs.List.{flat_map, list_any}
use Rattle.std.proofs.lemmas.Bool.{cases_Bool, both_ways, eq-eqb, or_cases, or_parts}
use Rattle.std.proofs.lemmas.Grind.{flat_map-append}
use Rattle.std.proofs.lemmas.List.{length-take-le, take-append-drop}
use Rattle.std.proofs.lemmas.List.Elements.{All-cons, All-head, All-nil, All-tail}
use Rattle.std.proofs.lemmas.List.Folds.{list_any-append}
use Rattle.laws.proofs.Words.{Change, Condition, Delete, Entry, Holds, Touch, Tuple, changed, conditioned, find_in_doubt, has_tuple, last_from, meets_want, named, shard_of, there_after, tuple_eq, tuple_of, tuple_same}
use Rattle.tuples.specs.Log.{HoldAfter, is_at, last_place}
pub use Rattle.records.proofs.LastWrites.{last_from-append, there_both, there_last}
pub use Rattle.std.proofs.lemmas.Bool.{or_left, or_right}
use Rattle.records.proofs.LastWrites.{last_behind, there_behind}
use Rattle.tuples.specs.Parts.{expected, part, takes_part}
use Rattle.tuples.proofs.Named.{shard_below}
use Rattle.tuples.proofs.Ordered.{tuple_eq_refl}
use Rattle.laws.specs.LockLaws.{ConditionsHoldAsKnown, ConditionsHoldByParts, DecisionsLeaveConditions}
use Rattle.holds.specs.Holds.{AreApart}
use Rattle.holds.proofs.Named.{found_at}
use Rattle.laws.proofs.Rows.{empty_of_length}

-- changes of other tuples leave a tuple there or not, as it was
pub there_unchanged : (t : Tuple) (b : Bool) (changes : List Change) → has_tuple t (changed changes) ≡ false → there_after t b changes ≡ b
there_unchanged t b [] none = refl
there_unchanged t b (Touch u ∷ changes) none = let parts = or_parts (tuple_eq t u) (has_tuple t (changed changes)) none in rw (parts.0) (there_unchanged t b changes parts.1)
there_unchanged t b (Delete u ∷ changes) none = let parts = or_parts (tuple_eq t u) (has_tuple t (changed changes)) none in rw (parts.0) (there_unchanged t b changes parts.1)

there_push : (t : Tuple) (log : List Entry) (w : Entry) → has_tuple t (changed w.changes) ≡ false → is_at (log ++ w ∷ []) (length (log ++ w ∷ [])) t ≡ is_at log (length log) t
there_push t log w none =
    there_last t (log ++ w ∷ [])
    ∙ ap (there_after t false) (flat_map-append (λ (v : Entry). v.changes) log (w ∷ []))
    ∙ there_both t false (flat_map (λ (v : Entry). v.changes) log) (flat_map (λ (v : Entry). v.changes) (w ∷ []))
    ∙ ap (there_after t (there_after t false (flat_map (λ (v : Entry). v.changes) log))) (append-nil w.changes)
    ∙ there_unchanged t (there_after t false (flat_map (λ (v : Entry). v.changes) log)) w.changes none
    ∙ sym (there_last t log)

last_from-push : (found place : ℕ) (t : Tuple) (log : List Entry) (w : Entry) → has_tuple t (changed w.changes) ≡ false → last_from found place t (log ++ w ∷ []) ≡ last_from found place t log
last_from-push found place t [] w none = rw none refl
last_from-push found place t (v ∷ log) w none = last_from-push (cond (has_tuple t (changed v.changes)) place found) (place + 1) t log w none

last_push : (t : Tuple) (log : List Entry) (w : Entry) → has_tuple t (changed w.changes) ≡ false → last_place (log ++ w ∷ []) t ≡ last_place log t
unfolding last_place
last_push t log w none = last_from-push 0 1 t log w none

-- a condition of a tuple that the write does not change still holds
pub holds_push : (log : List Entry) (w : Entry) (c : Condition) → has_tuple c.tuple (changed w.changes) ≡ false → Holds log c → Holds (log ++ w ∷ []) c
holds_push log w c none holds =
    ap (λ (n : ℕ). meets_want c.want n (is_at (log ++ w ∷ []) (length (log ++ w ∷ [])) c.tuple)) (last_push c.tuple log w none)
    ∙ ap (λ (b : Bool). meets_want c.want (last_place log c.tuple) b) (there_push c.tuple log w none)
    ∙ holds

-- conditions of tuples that the write does not change still hold
hold_apart : (log : List Entry) (w : Entry) (conditions : List Condition) → ((t : Tuple) → has_tuple t (conditioned conditions) ≡ true → has_tuple t (changed w.changes) ≡ false)
    → All (Holds log) conditions → All (Holds (log ++ w ∷ [])) conditions
hold_apart log w [] apart hold = All-nil (Holds (log ++ w ∷ []))
hold_apart log w (c ∷ conditions) apart hold = All-cons (Holds (log ++ w ∷ [])) c conditions
    (holds_push log w c (apart c.tuple (or_left (tuple_eq c.tuple c.tuple) (has_tuple c.tuple (conditioned conditions)) (tuple_eq_refl c.tuple))) (All-head (Holds log) c conditions hold))
    (hold_apart log w conditions (λ t has. apart t (or_right (tuple_eq t c.tuple) (has_tuple t (conditioned conditions)) has)) (All-tail (Holds log) c conditions hold))

-- a tuple that a shard's part conditions is the shard's
pub own_conditioned : (shards s : ℕ) (t : Tuple) (conditions : List Condition) → has_tuple t (conditioned (filter (λ (c : Condition). shard_of shards c.tuple.object == s) conditions)) ≡ true → (shard_of shards t.object == s) ≡ true
own_conditioned shards s t [] has = absurd cc
own_conditioned shards s t (c ∷ conditions) has = ⊎_elim
    (λ own. ⊎_elim
    (λ here. ap (λ (u : Tuple). shard_of shards u.object == s) (tuple_same t c.tuple here) ∙ own)
    (λ later. own_conditioned shards s t conditions later)
    (or_cases (tuple_eq t c.tuple) (has_tuple t (conditioned (filter (λ (d : Condition). shard_of shards d.tuple.object == s) conditions))) (rw own at has)))
    (λ other. own_conditioned shards s t conditions (rw other at has))
    (cases_Bool (shard_of shards c.tuple.object == s))

-- a tuple of the shard that a write changes is changed by the shard's part of it
pub changed_in_part : (shards s : ℕ) (t : Tuple) (changes : List Change) → (shard_of shards t.object == s) ≡ true → has_tuple t (changed changes) ≡ true
    → has_tuple t (changed (filter (λ (c : Change). shard_of shards (tuple_of c).object == s) changes)) ≡ true
changed_in_part shards s t [] own has = absurd cc
changed_in_part shards s t (c ∷ changes) own has = ⊎_elim
    (λ here.
    let mine : (shard_of shards (tuple_of c).object == s) ≡ true = ap (λ (u : Tuple). shard_of shards u.object == s) (sym (tuple_same t (tuple_of c) here)) ∙ own in
    rw mine (or_left (tuple_eq t (tuple_of c)) (has_tuple t (changed (filter (λ (d : Change). shard_of shards (tuple_of d).object == s) changes))) here))
    (λ later. in_longer (shard_of shards (tuple_of c).object == s) (changed_in_part shards s t changes own later))
    (or_cases (tuple_eq t (tuple_of c)) (has_tuple t (changed changes)) has)
  where
    in_longer : (b : Bool) → has_tuple t (changed (filter (λ (d : Change). shard_of shards (tuple_of d).object == s) changes)) ≡ true
        → has_tuple t (changed (cond b (c ∷ filter (λ (d : Change). shard_of shards (tuple_of d).object == s) changes) (filter (λ (d : Change). shard_of shards (tuple_of d).object == s) changes))) ≡ true
    in_longer true there = or_right (tuple_eq t (tuple_of c)) (has_tuple t (changed (filter (λ (d : Change). shard_of shards (tuple_of d).object == s) changes))) there
    in_longer false there = there

pub some_changes : (t : Tuple) (changes : List Change) → has_tuple t (changed changes) ≡ true → not (length changes == 0) ≡ true
some_changes t changes has = ⊎_elim
    (λ some. some)
    (λ none. let gone : false ≡ true = ap (λ (l : List Change). has_tuple t (changed l)) (sym (empty_of_length changes none)) ∙ has in absurd (both_ways false refl gone))
    (cases_Bool (not (length changes == 0)))

-- of two writes that a shard has in doubt, one changes no tuple that the other's part conditions
not_changed : (shards s : ℕ) (v w : Entry) (in_doubt : List Entry) → AreApart in_doubt → v.id ≢ w.id
    → find_in_doubt w.id in_doubt ≡ expected shards s w → find_in_doubt v.id in_doubt ≡ Some (part shards s v)
    → (t : Tuple) → has_tuple t (conditioned (part shards s v).conditions) ≡ true → has_tuple t (changed w.changes) ≡ false
unfolding part takes_part expected
not_changed shards s v w in_doubt apart ne found_w found_v t has = ⊎_elim
    (λ changes_it.
    let own = own_conditioned shards s t v.conditions has in
    let in_part : has_tuple t (changed (part shards s w).changes) ≡ true = changed_in_part shards s t w.changes own changes_it in
    let takes : takes_part shards s w ≡ true = or_left (not (length (part shards s w).changes == 0)) (not (length (part shards s w).conditions == 0)) (some_changes t (part shards s w).changes in_part) in
    let there : find_in_doubt w.id in_doubt ≡ Some (part shards s w) = found_w ∙ ap (λ b. cond b (Some (part shards s w)) None) takes in
    let at_v = found_at v.id in_doubt (part shards s v) found_v in
    let at_w = found_at w.id in_doubt (part shards s w) there in
    let other : at_v.0 ≢ at_w.0 = λ same. ne (same_ids (part shards s v) (part shards s w) (sym at_v.1 ∙ ap (slice_get in_doubt) same ∙ at_w.1)) in
    let named_v : has_tuple t (named (part shards s v)) ≡ true = list_any-append (tuple_eq t) (changed (part shards s v).changes) (conditioned (part shards s v).conditions) ∙ or_right (has_tuple t (changed (part shards s v).changes)) (has_tuple t (conditioned (part shards s v).conditions)) has in
    let named_w : has_tuple t (named (part shards s w)) ≡ true = list_any-append (tuple_eq t) (changed (part shards s w).changes) (conditioned (part shards s w).conditions) ∙ or_left (has_tuple t (changed (part shards s w).changes)) (has_tuple t (conditioned (part shards s w).conditions)) in_part in
    absurd (other (apart.tuples at_v.0 at_w.0 (part shards s v) (part shards s w) at_v.1 at_w.1 t named_v named_w)))
    (λ none. none)
    (cases_Bool (has_tuple t (changed w.changes)))
  where
    same_ids : (a b : Entry) → Some a ≡ Some b → a.id ≡ b.id
    same_ids a b is = let same : a ≡ b = cc in ap (λ (e : Entry). e.id) same

pub decisions_leave_conditions : DecisionsLeaveConditions
unfolding HoldAfter
decisions_leave_conditions shards s log v w in_doubt apart ne found_w found_v hold =
    hold_apart log w (part shards s v).conditions (not_changed shards s v w in_doubt apart ne found_w found_v) hold

-- the conditions of one shard's part among a list, the list itself part by part
hold_parts : (shards : ℕ) (log : List Entry) (conditions : List Condition) → 1 ≤ shards
    → ((s : ℕ) → s < shards → All (Holds log) (filter (λ (c : Condition). shard_of shards c.tuple.object == s) conditions)) → All (Holds log) conditions
hold_parts shards log [] some each = All-nil (Holds log)
hold_parts shards log (c ∷ conditions) some each = All-cons (Holds log) c conditions
    (All-head (Holds log) c (filter (λ (d : Condition). shard_of shards d.tuple.object == shard_of shards c.tuple.object) conditions) (first (eq-eqb _ _ refl) (each (shard_of shards c.tuple.object) (shard_below shards c.tuple.object some))))
    (hold_parts shards log conditions some (λ s lt. rest (shard_of shards c.tuple.object == s) (filter (λ (d : Condition). shard_of shards d.tuple.object == s) conditions) (each s lt)))
  where
    first : (shard_of shards c.tuple.object == shard_of shards c.tuple.object) ≡ true
        → All (Holds log) (filter (λ (d : Condition). shard_of shards d.tuple.object == shard_of shards c.tuple.object) (c ∷ conditions))
        → All (Holds log) (c ∷ filter (λ (d : Condition). shard_of shards d.tuple.object == shard_of shards c.tuple.object) conditions)
    first own all = rw own at all

    rest : (b : Bool) (kept : List Condition) → All (Holds log) (cond b (c ∷ kept) kept) → All (Holds log) kept
    rest true kept all = All-tail (Holds log) c kept all
    rest false kept all = all

pub conditions_hold_by_parts : ConditionsHoldByParts
unfolding HoldAfter part takes_part
conditions_hold_by_parts shards log w some each = hold_parts shards log w.conditions some (λ s lt. ⊎_elim
    (λ takes. each s lt takes)
    (λ none. nothing (filter (λ (c : Condition). shard_of shards c.tuple.object == s) w.conditions) (or_parts (not (length (part shards s w).changes == 0)) (not (length (part shards s w).conditions == 0)) none).1)
    (cases_Bool (takes_part shards s w)))
  where
    nothing : (conditions : List Condition) → not (length conditions == 0) ≡ false → All (Holds log) conditions
    nothing conditions none = subst (All (Holds log)) (sym (empty_of_length conditions none)) (All-nil (Holds log))

-- the last change of a tuple, and whether it is there, by the writes after a place, if these change it or are the whole log
module _ (log : List Entry) (base : ℕ) (t : Tuple) (le : base ≤ length log) (enough : (base ≡ 0) ⊎ (list_any (λ (w : Entry). has_tuple t (changed w.changes)) (drop base log) ≡ true)) where
  joined : take base log ++ drop base log ≡ log
  joined = take-append-drop base log

  size : length (take base log) ≡ base
  size = length-take-le base log le

  behind : (0 + length (take base log) ≡ 0) ⊎ (list_any (λ (w : Entry). has_tuple t (changed w.changes)) (drop base log) ≡ true)
  behind = ⊎_elim (λ none. inl (omega (arith, none, size))) (λ has. inr has) enough

  last_known : last_place log t ≡ last_from 0 (base + 1) t (drop base log)
  unfolding last_place
  last_known =
      ap (last_from 0 1 t) (sym joined)
      ∙ last_behind 0 t (drop base log) (take base log) behind
      ∙ ap (λ n. last_from 0 n t (drop base log)) (let e : 0 + length (take base log) + 1 ≡ base + 1 = omega (arith, size) in e)

  there_known : is_at log (length log) t ≡ is_at (drop base log) (length (drop base log)) t
  there_known = ap (λ (l : List Entry). is_at l (length l) t) (sym joined) ∙ there_behind 0 t (drop base log) (take base log) behind

pub conditions_hold_as_known : ConditionsHoldAsKnown
conditions_hold_as_known log h state c m holds enough =
    let le : state.base ≤ length log = omega (arith, m.base, m.within) in
    let here : (state.base ≡ 0) ⊎ (list_any (λ (w : Entry). has_tuple c.tuple (changed w.changes)) (drop state.base log) ≡ true) =
    ⊎_elim (λ none. inl none) (λ has. inr (ap (list_any (λ (w : Entry). has_tuple c.tuple (changed w.changes))) (sym m.decisions) ∙ has)) enough in
    ap (λ (l : List Entry). meets_want c.want (last_from 0 (state.base + 1) c.tuple l) (is_at l (length l) c.tuple)) m.decisions
    ∙ ap (λ (n : ℕ). meets_want c.want n (is_at (drop state.base log) (length (drop state.base log)) c.tuple)) (sym (last_known log state.base c.tuple le here))
    ∙ ap (λ (b : Bool). meets_want c.want (last_place log c.tuple) b) (sym (there_known log state.base c.tuple le here))
    ∙ holds
