-- The turn in which a shard is asked to prepare: what Ok means for the log, and the cause of each refusal.
use Rattle.std.proofs.Common.{◌≡◌, ◌⊎◌, inl, inr, ⊎_elim, ◌==◌, ℕ, zero, suc, ◌<◌, ◌≤◌, Bool, true, false, true≢false, List, [], ◌∷◌, ◌++◌, length, map, filter, cond, None, Some, Contains, All, refl, sym, ◌∙◌, ap, subst, arith, not, ◌||◌}
use Rattle.std.proofs.lemmas.Bool.{cases_Bool, cases_lt, eqb-true}
use Rattle.std.proofs.lemmas.List.Elements.{All-cons, All-nil, Contains-append_left, Contains-append_right, Contains-append_cases, All-contains, All-head}
use Rattle.stores.proofs.Words.{AskBelow, Asked, CallsShard, Change, Condition, Entry, HasNoRoom, IsBusy, IsFull, IsPreparing, IsRecord, Moment, NodeName, Prepare, Record, Running, ShardKnows, ShardMeans, Tuple, WriteId, find_in_doubt, id_of, leaves, not_found, shard, shard_of, staged_of, tuple_of}
use Rattle.tuples.specs.declared.change.Want.{Want}
use Rattle.tuples.specs.declared.change.Want.TheVariants.{NotAfter, Exists, Absent}
use Rattle.tuples.specs.Changes.{changed, conditioned, has_tuple}
use Rattle.tuples.specs.Log.{HoldAfter, Holds, meets_want}
use Rattle.tuples.specs.Parts.{part, takes_part}
use Rattle.records.specs.Replays.{is_held, named}
use Rattle.shard.specs.Shards.{AreFree, IsBelow, IsBroken as BreaksThere, IsPreparable as PassesThere}
use Rattle.laws.specs.LockLaws.{IsMetHere}
use Rattle.laws.proofs.BrokenConditions.{met_conditions_are_met_here}
use Rattle.laws.proofs.PreparableConditions.{preparable_conditions_hold}
use Rattle.stores.specs.Causes.{IsBelow as IsBelowCause, IsBroken, IsHeldByOther}
use Rattle.stores.specs.PrepareLaws.{BrokenShardsHaveCause, BusyShardsHaveCause, CollectedShardsHaveCause, FullShardsHaveCause, PreparedConditionsAreMet}
use Rattle.stores.proofs.FlowBegins.{alone}
use Rattle.stores.proofs.ShardStagesStands.{contained_at}
use Rattle.tuples.specs.Versions.{last_version, there_at}
use Rattle.tuples.proofs.Lists.{first_or_later}

-- one of these tuples is held, or none is
held_or_free : (ws : List Entry) (ts : List Tuple) → All (λ (t : Tuple). is_held t ws ≡ false) ts ⊎ ((t : Tuple) × Contains ts t × (is_held t ws ≡ true))
held_or_free ws [] = inl (All-nil (λ (t : Tuple). is_held t ws ≡ false))
held_or_free ws (t ∷ ts) = ⊎_elim
    (λ held. inr (t, (zero, omega arith, refl), held))
    (λ free. ⊎_elim
    (λ all. inl (All-cons (λ (u : Tuple). is_held u ws ≡ false) t ts free all))
    (λ one. inr (one.0, Contains-append_right (t ∷ []) ts one.0 one.1, one.2))
    (held_or_free ws ts))
    (cases_Bool (is_held t ws))

-- a write in doubt that names the tuple
holder : (ws : List Entry) (t : Tuple) → is_held t ws ≡ true → (w : Entry) × Contains ws w × (has_tuple t (named w) ≡ true)
holder [] t is = absurd (true≢false (sym is))
holder (w ∷ ws) t is = ⊎_elim
    (λ here. (w, (zero, omega arith, refl), here))
    (λ further. let rest = holder ws t (sym (ap (λ b. cond b true (is_held t ws)) further) ∙ is) in (rest.0, Contains-append_right (w ∷ []) ws rest.0 rest.1, rest.2))
    (cases_Bool (has_tuple t (named w)))

-- what is left of a list by a test was in it, and passes the test
filtered : {X : Type 0} (p : X → Bool) (xs : List X) (x : X) → Contains (filter p xs) x → Contains xs x × (p x ≡ true)
filtered p [] x has = absurd (omega (arith, has.1))
filtered p (y ∷ xs) x has =
    let rest = filtered p xs x in
    ⊎_elim
    (λ yes. ⊎_elim
    (λ here. (subst (Contains (y ∷ xs)) here (alone y xs), ap p (sym here) ∙ yes))
    (λ further. (Contains-append_right (y ∷ []) xs x (rest further).0, (rest further).1))
    (first_or_later y x (filter p xs) (rw yes at has)))
    (λ no. let further = rest (rw no at has) in (Contains-append_right (y ∷ []) xs x further.0, further.1))
    (cases_Bool (p y))

mapped : {X Y : Type 0} (f : X → Y) (xs : List X) (y : Y) → Contains (map f xs) y → (x : X) × Contains xs x × (f x ≡ y)
mapped f [] y has = absurd (omega (arith, has.1))
mapped f (x ∷ xs) y (zero, lt, same) = (x, (zero, omega arith, refl), same)
mapped f (x ∷ xs) y (suc k, lt, same) = let rest = mapped f xs y (k, omega (arith, lt), same) in (rest.0, Contains-append_right (x ∷ []) xs rest.0 rest.1, rest.2)

pub map_has : {X Y : Type 0} (f : X → Y) (xs : List X) (x : X) → Contains xs x → Contains (map f xs) (f x)
map_has f [] x has = absurd (omega (arith, has.1))
map_has f (y ∷ xs) x (zero, lt, same) = (zero, omega arith, ap f same)
map_has f (y ∷ xs) x (suc k, lt, same) = Contains-append_right (f y ∷ []) (map f xs) (f x) (map_has f xs x (k, omega (arith, lt), same))

-- a condition of a shard's part is one of the write's, of a tuple of the shard
pub part_condition : (shards s : ℕ) (w : Entry) (c : Condition) → Contains (part shards s w).conditions c → Contains w.conditions c × (shard_of shards c.tuple.object ≡ s)
unfolding part
part_condition shards s w c has = let is = filtered (λ (d : Condition). shard_of shards d.tuple.object == s) w.conditions c has in (is.0, eqb-true (shard_of shards c.tuple.object) s is.1)

-- a tuple that a shard's part names is named by the write, and the shard's
pub part_named : (shards s : ℕ) (w : Entry) (t : Tuple) → Contains (named (part shards s w)) t → Contains (changed w.changes ++ conditioned w.conditions) t × (shard_of shards t.object ≡ s)
unfolding part
part_named shards s w t has = ⊎_elim
    (λ of_changes.
    let at = mapped tuple_of (part shards s w).changes t of_changes in
    let is = filtered (λ (c : Change). shard_of shards (tuple_of c).object == s) w.changes at.0 at.1 in (
      Contains-append_left (changed w.changes) (conditioned w.conditions) t (subst (Contains (changed w.changes)) at.2 (map_has tuple_of w.changes at.0 is.0)),
      sym (ap (λ (u : Tuple). shard_of shards u.object) at.2) ∙ eqb-true (shard_of shards (tuple_of at.0).object) s is.1,
    ))
    (λ of_conditions.
    let at = mapped (λ (c : Condition). c.tuple) (part shards s w).conditions t of_conditions in
    let is = part_condition shards s w at.0 at.1 in (
      Contains-append_right (changed w.changes) (conditioned w.conditions) t (subst (Contains (conditioned w.conditions)) at.2 (map_has (λ (c : Condition). c.tuple) w.conditions at.0 is.0)),
      sym (ap (λ (u : Tuple). shard_of shards u.object) at.2) ∙ is.1,
    ))
    (Contains-append_cases (changed (part shards s w).changes) (conditioned (part shards s w).conditions) t has)

-- a shard that takes part has a tuple of the write
some_named : (changes : List Change) (conditions : List Condition) → (not (length changes == 0) || not (length conditions == 0)) ≡ true → (t : Tuple) × Contains (changed changes ++ conditioned conditions) t
some_named [] [] is = absurd cc
some_named [] (c ∷ conditions) is = (c.tuple, (zero, omega arith, refl))
some_named (c ∷ changes) conditions is = (tuple_of c, (zero, omega arith, refl))

pub part_has : (shards s : ℕ) (w : Entry) → takes_part shards s w ≡ true → (t : Tuple) × Contains (named (part shards s w)) t
unfolding takes_part
part_has shards s w takes = some_named (part shards s w).changes (part shards s w).conditions takes

module _ (store shards : ℕ) (left : NodeName → List Record → Type 0) (now : Moment) (r : Running) (w : Entry) (s : ℕ) (asks : IsPreparing store shards left now r w s) where
  -- what the shard knows means the whole log
  means : ShardMeans shards s now.machine.log now.machine.horizon now.machine.horizon asks.memory
  means =
      let k = asks.knows in
      let durable : left (shard s) k.durable = (asks.stands.nodes.durable (shard s) k.durable k.staged k.durable k.is_up).1 refl in
      let here : leaves left now.nodes (shard s) (k.durable ++ k.staged) = (k.durable, durable, inr (ap (λ (l : List Record). k.durable ++ l) (sym (ap staged_of k.is_up)))) in
      subst (ShardMeans shards s now.machine.log now.machine.horizon now.machine.horizon) (sym k.replayed) (asks.stands.listed s (k.durable ++ k.staged) asks.there here)

  same_id : (part shards s w).id ≡ w.id
  unfolding part
  same_id = refl

  knows_owner : (t : Tuple) → shard_of shards t.object ≡ s → ShardKnows now.nodes (shard_of shards t.object) asks.memory
  knows_owner t is = subst (λ (k : ℕ). ShardKnows now.nodes k asks.memory) (sym is) asks.knows

  calls_shard : CallsShard shards r.asked r.holds s
  calls_shard =
      let t = part_has shards s w asks.takes in
      let is = part_named shards s w t.0 t.1 in
      subst (λ (a : Asked). CallsShard shards a r.holds s) (sym asks.flow.asked) (λ none. let both : Some w.id ≡ None = sym asks.flow.id ∙ none in cc, (t.0, is.0, sym is.1))

  conditions_met : PassesThere asks.memory (part shards s w) → HoldAfter now.machine.log (part shards s w).conditions
  conditions_met may = preparable_conditions_hold shards s now.machine.log now.machine.horizon now.machine.horizon asks.memory w asks.stands.rests.is_log (omega arith) means
      (record {
        free = may.free;
        hold = may.hold;
        above = λ c place has is. above c place has is;
      })
    where
      above : (c : Condition) (place : ℕ) → Contains (part shards s w).conditions c → c.want ≡ NotAfter place → asks.memory.horizon ≤ place
      above c place has is = ⊎_elim
          (λ (low : place < asks.memory.horizon). absurd (may.above (record { condition = c; there = has; below = subst (IsBelow asks.memory.horizon) (sym is) low })))
          (λ high. high)
          (cases_lt place asks.memory.horizon)

  held_by_other : (t : Tuple) → is_held t asks.memory.in_doubt ≡ true → shard_of shards t.object ≡ s → IsHeldByOther shards now.nodes (id_of r.holds) t
  held_by_other t held own =
      let other = holder asks.memory.in_doubt t held in
      record {
        memory = asks.memory;
        knows = knows_owner t own;
        other = other.0;
        in_doubt = other.1;
        names = other.2;
        not_own = λ same.
            let at = contained_at asks.memory.in_doubt other.0 other.1 in
            let both : Some w.id ≡ Some (other.0).id = sym asks.flow.id ∙ same in
            let ids : w.id ≡ (other.0).id = cc in
            not_found w.id asks.memory.in_doubt at.0 other.0 asks.fresh at.1 (sym ids);
      }

  busy_cause : (AreFree asks.memory (part shards s w) → ⊥) → IsBusy shards (shard s) now (id_of r.holds) r.asked
  busy_cause taken = ⊎_elim
      (λ free. absurd (taken (record { new = ap (λ (i : WriteId). find_in_doubt i asks.memory.in_doubt) same_id ∙ asks.fresh; tuples = free })))
      (λ one.
      let is = part_named shards s w one.0 one.1 in
      subst (IsBusy shards (shard s) now (id_of r.holds)) (sym asks.flow.asked) (one.0, is.0, ap shard (sym is.1), held_by_other one.0 one.2 is.1))
      (held_or_free asks.memory.in_doubt (named (part shards s w)))

  -- one of the conditions is met by no row, or all are
  first_broken : (cs : List Condition) → All (IsMetHere asks.memory) cs ⊎ ((c : Condition) × Contains cs c × (IsMetHere asks.memory c → ⊥))
  first_broken [] = inl (All-nil (IsMetHere asks.memory))
  first_broken (c ∷ cs) = ⊎_elim
      (λ met. ⊎_elim
      (λ all. inl (All-cons (IsMetHere asks.memory) c cs met all))
      (λ one. inr (one.0, Contains-append_right (c ∷ []) cs one.0 one.1, one.2))
      (first_broken cs))
      (λ not. inr (c, (zero, omega arith, refl), λ met. true≢false (sym met ∙ not)))
      (cases_Bool (meets_want c.want (last_version asks.memory.rows c.tuple) (there_at asks.memory.rows asks.memory.learned c.tuple)))

  broken_cause : BreaksThere asks.memory (part shards s w) → IsBroken shards (shard s) now r.asked
  unfolding HoldAfter
  broken_cause b = ⊎_elim
      (λ all. absurd (b.broken all))
      (λ one.
      let c = one.0 in
      let is = part_condition shards s w c one.1 in
      let free : is_held c.tuple asks.memory.in_doubt ≡ false = All-contains (λ (t : Tuple). is_held t asks.memory.in_doubt ≡ false) (named (part shards s w)) c.tuple b.free.tuples
      (Contains-append_right (changed (part shards s w).changes) (conditioned (part shards s w).conditions) c.tuple (map_has (λ (d : Condition). d.tuple) (part shards s w).conditions c one.1)) in
      subst (IsBroken shards (shard s) now) (sym asks.flow.asked) (
        c,
        is.0,
        ap shard (sym is.1),
        λ hold. one.2 (met_conditions_are_met_here shards s now.machine.log now.machine.horizon now.machine.horizon asks.memory c asks.stands.rests.is_log (omega arith) means is.1 free (All-head (Holds now.machine.log) c [] hold)),
        (asks.memory, knows_owner c.tuple is.1, free),
      ))
      (first_broken (part shards s w).conditions)

  -- a condition of the part names a place below the shard's horizon, which lies at or below the machine's
  collected_cause : AskBelow asks.memory.horizon (part shards s w).conditions → IsBelowCause now.machine.horizon r r.asked
  collected_cause ask =
      let is = part_condition shards s w ask.condition ask.there in
      let place = below_place (ask.condition).want refl ask.below in
      subst (IsBelowCause now.machine.horizon r) (sym asks.flow.asked) (place.0, (ask.condition, is.0, place.1), omega (arith, place.2, means.horizon))
    where
      below_place : (want : Want) → (ask.condition).want ≡ want → IsBelow asks.memory.horizon want → (place : ℕ) × ((ask.condition).want ≡ NotAfter place) × (place < asks.memory.horizon)
      below_place (NotAfter place) same low = (place, same, low)
      below_place Exists same low = absurd low
      below_place Absent same low = absurd low

  full_cause : IsRecord (Prepare (part shards s w)) → HasNoRoom asks.knows.staged (Prepare (part shards s w)) → IsFull shards (shard s) now r r.asked
  full_cause is_record no_room = subst (IsFull shards (shard s) now r) (sym asks.flow.asked) (inl (record {
    durable = asks.knows.durable;
    staged = asks.knows.staged;
    next = Prepare (part shards s w);
    calls = (asks.there, calls_shard);
    is_up = asks.knows.is_up;
    stages = (w, record { asks = asks.flow.asked; id = asks.flow.id }, refl);
    is_record = is_record;
    no_room = no_room;
  }))

pub prepared_conditions_are_met : (store shards : ℕ) (left : NodeName → List Record → Type 0) → PreparedConditionsAreMet store shards left
prepared_conditions_are_met store shards left now r w s asks may = conditions_met store shards left now r w s asks may

pub busy_shards_have_cause : (store shards : ℕ) (left : NodeName → List Record → Type 0) → BusyShardsHaveCause store shards left
busy_shards_have_cause store shards left now after r w s asks busy = busy_cause store shards left now r w s asks busy.taken

pub broken_shards_have_cause : (store shards : ℕ) (left : NodeName → List Record → Type 0) → BrokenShardsHaveCause store shards left
broken_shards_have_cause store shards left now after r w s asks broken = broken_cause store shards left now r w s asks broken

pub collected_shards_have_cause : (store shards : ℕ) (left : NodeName → List Record → Type 0) → CollectedShardsHaveCause store shards left
collected_shards_have_cause store shards left now after r w s asks ask = collected_cause store shards left now r w s asks ask

pub full_shards_have_cause : (store shards : ℕ) (left : NodeName → List Record → Type 0) → FullShardsHaveCause store shards left
full_shards_have_cause store shards left now after r w s asks is_record no_room = full_cause store shards left now r w s asks is_record no_room
