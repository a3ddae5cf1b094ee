-- What a shard tests of its part of a write.
use Rattle.std.proofs.Common.{◌≡◌, ◌≤◌, ◌+◌, ◌++◌, ◌||◌, ◌==◌, ℕ, Bool, true, false, not, List, [], ◌∷◌, length, map, None, Some, All, refl, sym, ap, ◌∙◌, arith}
use Rattle.std.specs.List.{list_any}
use Rattle.std.proofs.lemmas.Bool.{cases_Bool, eqb-true, ne_eqb, or_parts}
use Rattle.std.proofs.lemmas.List.Folds.{list_any_none}
use Rattle.std.proofs.lemmas.List.Elements.{All-append, All-cons, All-filter, All-head, All-map, All-nil, All-tail, All-weaker, filter_passes}
use Rattle.std.proofs.Common.{⊎_elim, ◌↔◌, Bor, IsTrue, Option, MatchOption}
use Rattle.std.specs.Option.{is_some}
use Rattle.tuples.specs.declared.entry.WriteId.{WriteId}
use Rattle.tuples.specs.declared.tuple.Tuple.{Tuple}
use Rattle.tuples.specs.declared.change.Change.{Change}
use Rattle.tuples.specs.declared.change.Condition.{Condition}
use Rattle.tuples.specs.declared.change.Want.{Want}
use Rattle.tuples.specs.declared.change.Want.TheVariants.{NotAfter, Exists, Absent}
use Rattle.tuples.specs.declared.entry.Entry.{Entry}
use Rattle.tuples.specs.Changes.{changed, conditioned, tuple_of}
use Rattle.tuples.specs.Parts.{is_of, own_changes, own_conditions, part, shard_of, takes_part}
use Rattle.tuples.proofs.Kept.{of_condition, part_is_part}
use Rattle.records.specs.Format.{ConditionsFit, IsPrepared, WantFits}
use Rattle.records.specs.Replays.{AskOfLog, AsksOfLog, Identity, MayPrepare, ShardState, find_in_doubt, is_held, named}
use Rattle.decisions.specs.Values.{IsIntent}
use Rattle.shard.specs.Shards.{AreFree}

-- if none passes, all fail
pub none_passes : {X : Type 0} (p : X → Bool) (xs : List X) → list_any p xs ≡ false → All (λ x. p x ≡ false) xs
none_passes p [] no_x = All-nil (λ x. p x ≡ false)
none_passes p (x ∷ xs) no_x =
    let parts = or_parts (p x) (list_any p xs) no_x in
    All-cons (λ y. p y ≡ false) x xs parts.0 (none_passes p xs parts.1)

unmapped : {X Y : Type 0} (P : Y → Type 0) (f : X → Y) (xs : List X) → All P (map f xs) → All (λ x. P (f x)) xs
unmapped P f [] all = All-nil (λ x. P (f x))
unmapped P f (x ∷ xs) all = All-cons (λ y. P (f y)) x xs (All-head P (f x) (map f xs) all) (unmapped P f xs (All-tail P (f x) (map f xs) all))

front : {X : Type 0} (P : X → Type 0) (xs ys : List X) → All P (xs ++ ys) → All P xs
front P [] ys all = All-nil P
front P (x ∷ xs) ys all = All-cons P x xs (All-head P x (xs ++ ys) all) (front P xs ys (All-tail P x (xs ++ ys) all))

back : {X : Type 0} (P : X → Type 0) (xs ys : List X) → All P (xs ++ ys) → All P ys
back P [] ys all = all
back P (x ∷ xs) ys all = back P xs ys (All-tail P x (xs ++ ys) all)

module _ (ws : List Entry) (w : Entry) where
  abbrev pub changes_held : Bool
  changes_held = list_any (λ (c : Change). is_held (tuple_of c) ws) w.changes

  abbrev pub conditions_held : Bool
  conditions_held = list_any (λ (c : Condition). is_held c.tuple ws) w.conditions

  abbrev IsFree : Tuple → Type 0
  IsFree t = is_held t ws ≡ false

  free_tuples : changes_held ≡ false → conditions_held ≡ false → All IsFree (named w)
  free_tuples no_change no_condition = All-append IsFree (changed w.changes) (conditioned w.conditions)
      (All-map IsFree tuple_of w.changes (none_passes (λ (c : Change). is_held (tuple_of c) ws) w.changes no_change))
      (All-map IsFree of_condition w.conditions (none_passes (λ (c : Condition). is_held c.tuple ws) w.conditions no_condition))

  free_changes : All IsFree (named w) → changes_held ≡ false
  free_changes free = list_any_none (λ (c : Change). is_held (tuple_of c) ws) w.changes (unmapped IsFree tuple_of w.changes (front IsFree (changed w.changes) (conditioned w.conditions) free))

  free_conditions : All IsFree (named w) → conditions_held ≡ false
  free_conditions free = list_any_none (λ (c : Condition). is_held c.tuple ws) w.conditions (unmapped IsFree of_condition w.conditions (back IsFree (changed w.changes) (conditioned w.conditions) free))

-- the tests of a part decide whether it is free
pub is_free_part : (m : ShardState) (w : Entry) → find_in_doubt w.id m.in_doubt ≡ None → changes_held m.in_doubt w ≡ false → conditions_held m.in_doubt w ≡ false → AreFree m w
is_free_part m w new changes conditions = record { new = new; tuples = free_tuples m.in_doubt w changes conditions }

pub free_changes_of : (m : ShardState) (w : Entry) → AreFree m w → changes_held m.in_doubt w ≡ false
free_changes_of m w free = free_changes m.in_doubt w free.tuples

pub free_conditions_of : (m : ShardState) (w : Entry) → AreFree m w → conditions_held m.in_doubt w ≡ false
free_conditions_of m w free = free_conditions m.in_doubt w free.tuples

abbrev IsOwn : ℕ → ℕ → Tuple → Type 0
IsOwn shards s t = shard_of shards t.object ≡ s

pub own_tuples : (shards s : ℕ) (w : Entry) → All (IsOwn shards s) (named (part shards s w))
unfolding part
own_tuples shards s w =
    let own = λ (t : Tuple) (is : is_of shards s t ≡ true). eqb-true (shard_of shards t.object) s is in
    All-append (IsOwn shards s) (changed (own_changes shards s w.changes)) (conditioned (own_conditions shards s w.conditions))
    (All-map (IsOwn shards s) tuple_of (own_changes shards s w.changes) (All-weaker (λ (c : Change). is_of shards s (tuple_of c) ≡ true) (λ (c : Change). IsOwn shards s (tuple_of c)) (λ c. own (tuple_of c)) (own_changes shards s w.changes) (filter_passes (λ (c : Change). is_of shards s (tuple_of c)) w.changes)))
    (All-map (IsOwn shards s) of_condition (own_conditions shards s w.conditions) (All-weaker (λ (c : Condition). is_of shards s c.tuple ≡ true) (λ (c : Condition). IsOwn shards s c.tuple) (λ c. own c.tuple) (own_conditions shards s w.conditions) (filter_passes (λ (c : Condition). is_of shards s c.tuple) w.conditions)))

pub same_part_id : (shards s : ℕ) (w : Entry) → (part shards s w).id ≡ w.id
unfolding part
same_part_id shards s w = refl

some_kept : {X Y : Type 0} (xs : List X) (ys : List Y) → (not (length xs == 0) || not (length ys == 0)) ≡ true → 1 ≤ length xs + length ys
some_kept [] [] is = absurd cc
some_kept [] (y ∷ ys) is = omega arith
some_kept (x ∷ xs) ys is = omega arith

some_part : (shards s : ℕ) (w : Entry) → takes_part shards s w ≡ true → 1 ≤ length (part shards s w).changes + length (part shards s w).conditions
unfolding takes_part
some_part shards s w is = some_kept (part shards s w).changes (part shards s w).conditions is

pub want_fits : (want : Want) → AsksOfLog want → WantFits want
want_fits (NotAfter place) asks = omega (arith, asks)
want_fits Exists asks = tt
want_fits Absent asks = tt

-- places of a log are numbers of 64 bits
pub fit : (cs : List Condition) → AskOfLog cs → ConditionsFit cs
fit [] asks = tt
fit (c ∷ cs) asks = (want_fits c.want (All-head (λ (d : Condition). AsksOfLog d.want) c cs asks), fit cs (All-tail (λ (d : Condition). AsksOfLog d.want) c cs asks))

module _ (shards s : ℕ) (w : Entry) (intent : IsIntent w) where
  places_of : AskOfLog (part shards s w).conditions
  unfolding part
  places_of = All-filter (λ (c : Condition). is_of shards s c.tuple) (λ (c : Condition). AsksOfLog c.want) w.conditions intent.places

  -- a shard's part of a begun write can be prepared
  pub part_prepared : takes_part shards s w ≡ true → IsPrepared (part shards s w)
  unfolding part
  part_prepared takes = record {
    id = intent.id.begun;
    part = part_is_part shards s w intent.whole.part;
    some = some_part shards s w takes;
    wants = fit (part shards s w).conditions places_of;
  }

-- and may come next if it is free
pub part_may_come : (me : Identity) (m : ShardState) (w : Entry) → 1 ≤ m.epoch → IsIntent w → AreFree m (part me.shards me.node w) → MayPrepare me m (part me.shards me.node w)
unfolding part
part_may_come me m w opened intent free = record {
  opened = opened;
  new = free.new;
  own = own_tuples me.shards me.node w;
  free = free.tuples;
  some_epoch = intent.id.begun.epoch;
  epoch = intent.id.epoch;
  some_number = intent.id.begun.number;
  number = intent.id.number;
  places = places_of me.shards me.node w intent;
}

pub none_looked_up : (id : WriteId) (ws : List Entry) (o : Option (Bor Entry)) → MatchOption o (find_in_doubt id ws ≡ None) (λ w. find_in_doubt id ws ≡ Some w.now) → is_some o ≡ false → find_in_doubt id ws ≡ None
none_looked_up id ws None is none = is
none_looked_up id ws (Some w) is none = absurd cc

not_empty : {X : Type 0} (x : X) (xs : List X) → (length (x ∷ xs) == 0) ≡ false
not_empty x xs = ne_eqb (length (x ∷ xs)) 0 (λ none. omega (arith, none))

both_empty : {X Y : Type 0} (xs : List X) (ys : List Y) (none : Bool) → IsTrue none ↔ ((xs ≡ []) × (ys ≡ [])) → not none ≡ (not (length xs == 0) || not (length ys == 0))
both_empty [] [] none is = ap not (is.1 (refl, refl))
both_empty [] (y ∷ ys) none is = ⊎_elim
    (λ (yes : none ≡ true). let e : (y ∷ ys) ≡ [] = (is.0 yes).1 in absurd cc)
    (λ (no : none ≡ false). ap not no ∙ sym (ap not (not_empty y ys)))
    (cases_Bool none)
both_empty (x ∷ xs) ys none is = ⊎_elim
    (λ (yes : none ≡ true). let e : (x ∷ xs) ≡ [] = (is.0 yes).0 in absurd cc)
    (λ (no : none ≡ false). ap not no ∙ sym (ap (λ b. not b || not (length ys == 0)) (not_empty x xs)))
    (cases_Bool none)

-- a shard takes part if its part is not empty
pub taken_part : (shards s : ℕ) (w : Entry) (none : Bool) → IsTrue none ↔ (((part shards s w).changes ≡ []) × ((part shards s w).conditions ≡ [])) → not none ≡ takes_part shards s w
unfolding takes_part
taken_part shards s w none is = both_empty (part shards s w).changes (part shards s w).conditions none is
