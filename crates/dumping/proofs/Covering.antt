-- All tuples that were there at a place have a version that the shards told.
use Rattle.std.proofs.Common.{◌≡◌, ◌⊎◌, inl, inr, ⊎_elim, ◌==◌, ◌&&◌, ◌≤◌, ◌<◌, nat_le, ℕ, zero, suc, Bool, true, false, cond, List, [], ◌∷◌, ◌++◌, map, filter, Contains, Option, Some, None, MatchOption, Ok, Err, refl, sym, ◌∙◌, ap, subst, arith, eq-eqb, if◌then◌else◌}
use Rattle.std.specs.Global.{Vec}
use Rattle.std.proofs.lemmas.Bool.{cases_Bool, eqb-true}
use Rattle.std.proofs.lemmas.List.Elements.{Contains-append_left, Contains-append_right}
use Rattle.std.proofs.lemmas.List.Sorted.{Contains-permutation}
use Rattle.flow_turns.proofs.Standing.{shard_is_seen, shard_is_up, some_coordinator}
use Rattle.flow_turns.specs.StoreCalls.{IsNode}
use Rattle.calls.specs.Rows.{RowsOf}
use Rattle.calls.specs.Views as views
use Rattle.calls.specs.Views.{NodeView}
use Rattle.cluster.specs.Steps.{Takes}
use Rattle.cluster.specs.Worlds.{WorldView, node_at}
use Rattle.cluster.specs.declared.event.Answer.TheVariants.{Done}
use Rattle.cluster.specs.declared.step.Step.TheVariants.{Care as care_for}
use Rattle.device.specs.Device.{State}
use Rattle.headline.specs.Promised.{StepsKeep}
use Rattle.laws.specs.Machines.{Machine}
use Rattle.laws.specs.Nodes.{NodeState, ShardKnows, down, refused, shard, up}
use Rattle.names.specs.declared.care.Care.TheVariants.{Learn}
use Rattle.names.specs.declared.node_name.NodeName.TheVariants.{Shard}
use Rattle.records.specs.Replays.{ShardState, shard_state}
use Rattle.refusal.specs.declared.refusal.Refusal.TheVariants.{BadRequest, Down}
use Rattle.scripts.specs.Stepping.{IsNext, ShowsRows}
use Rattle.shard.specs.Shards.{memory}
use Rattle.tuples.specs.declared.change.Change.{Change}
use Rattle.tuples.specs.declared.change.Change.TheVariants.{Delete, Touch}
use Rattle.tuples.specs.declared.entry.Entry.{Entry}
use Rattle.tuples.specs.declared.entry.WriteId.{WriteId}
use Rattle.tuples.specs.declared.tuple.Tuple.{Tuple}
use Rattle.tuples.specs.declared.version.Version.{Version}
use Rattle.tuples.specs.Changes.{tuple_of}
use Rattle.tuples.specs.Log.{is_at, there_after}
use Rattle.tuples.specs.Order.{tuple_eq}
use Rattle.tuples.specs.Parts.{shard_of}
use Rattle.tuples.specs.Versions.{there_at}
use Rattle.stores.proofs.FlowBegins.{alone}
use Rattle.stores.proofs.ReadAnswer.{rows_show}
use Rattle.stores.specs.Flows.{to_learn}
use Rattle.stores.specs.Moments.{Running}
use Rattle.stores.specs.Replies.{IsLearnAnswer, done}
use Rattle.stores.specs.Stores.{stops}
use Rattle.turns.proofs.ShardSeam.{known_left}
use Rattle.versions.specs.Rows.{AreRows}
use Rattle.dumping.specs.Dumped.{GoesOn}
use Rattle.dumping.specs.Gathering.{AllTell, TellsOne}
use Rattle.dumping.proofs.Flows.{Answered, Standing, played}
use Rattle.dumping.proofs.Machines.{goes_nowhere, goes_then}

-- a version of the tuple is among these
abbrev pub Has : List Version → Tuple → Type 0
Has told t = (v : Version) × Contains told v × (tuple_eq t (tuple_of v.change) ≡ true)

by_change : (t : Tuple) (b : Bool) (c : Change) (rest : List Change) → there_after t b (c ∷ rest) ≡ true → (tuple_eq t (tuple_of c) ≡ true) ⊎ (there_after t b rest ≡ true)
by_change t b (Touch u) rest is = ⊎_elim (λ same. inl same) (λ other. inr (sym (ap (λ (x : Bool). there_after t (if x then true else b) rest) other) ∙ is)) (cases_Bool (tuple_eq t u))
by_change t b (Delete u) rest is = ⊎_elim (λ same. inl same) (λ other. inr (sym (ap (λ (x : Bool). there_after t (if x then false else b) rest) other) ∙ is)) (cases_Bool (tuple_eq t u))

further : (t : Tuple) (v : Version) (rows : List Version) → Has rows t → Has (v ∷ rows) t
further t v rows (u, has, same) = (u, Contains-append_right (v ∷ []) rows u has, same)

-- what is there was changed, unless it was there before
some_change : (t : Tuple) (b : Bool) (p : Version → Bool) (rows : List Version) → there_after t b (map (λ (v : Version). v.change) (filter p rows)) ≡ true → (b ≡ true) ⊎ Has rows t
some_change t b p [] is = inl is
some_change t b p (v ∷ rows) is = ⊎_elim
    (λ kept. ⊎_elim
    (λ same. inr (v, alone v rows, same))
    (λ later. on (some_change t b p rows later))
    (by_change t b v.change (map (λ (u : Version). u.change) (filter p rows)) (sym (ap (λ (x : Bool). there_after t b (map (λ (u : Version). u.change) (cond x (v ∷ filter p rows) (filter p rows)))) kept) ∙ is)))
    (λ dropped. on (some_change t b p rows (sym (ap (λ (x : Bool). there_after t b (map (λ (u : Version). u.change) (cond x (v ∷ filter p rows) (filter p rows)))) dropped) ∙ is)))
    (cases_Bool (p v))
  where
    on : (b ≡ true) ⊎ Has rows t → (b ≡ true) ⊎ Has (v ∷ rows) t
    on (inl before) = inl before
    on (inr has) = inr (further t v rows has)

-- what is there by its versions has one
there_has : (rows : List Version) (place : ℕ) (t : Tuple) → there_at rows place t ≡ true → Has rows t
unfolding there_at
there_has rows place t is = ⊎_elim (λ bad. let no : false ≡ true = bad in absurd cc) (λ has. has) (some_change t false (λ (v : Version). nat_le v.place place) rows is)

-- what a shard knows by its records
abbrev known : NodeState → ShardState
known (up durable staged) = shard_state (durable ++ staged)
known down = shard_state []
known (refused e) = shard_state []

module _ {D : Type 0} (state : D → State) (honest : D → Type 0) (moment : D → ℕ) (left_since : D → ℕ → List ℕ → Type 0) (keep : StepsKeep state honest moment left_since) (store shards : ℕ) (ids : List WriteId) where
  abbrev Stood : WorldView D → Type 0
  Stood = Standing state honest moment left_since keep store shards ids

  -- a shard that shows its versions is up, and shows those that it knows
  module _ (s : ℕ) (w : WorldView D) (st : Stood w) (listed : Vec Version) (shown : ShowsRows state honest w s (Ok listed)) (m : ShardState) (k : ShardKnows st.now.nodes s m) where
    abbrev Shown : Type 0
    Shown = AreRows m.rows listed.items × (m.horizon ≤ st.now.machine.horizon)

    by_node : (o : Option (NodeView D)) → node_at w.nodes (Shard s) ≡ o → MatchOption o (Ok listed ≡ Err BadRequest) (λ node. RowsOf state honest node (Ok listed)) → Shown
    by_node None at is = absurd cc
    by_node (Some (views.coordinator v)) at is = absurd (let bad : Ok listed ≡ Err BadRequest = is in cc)
    by_node (Some (views.refused e a b)) at is = absurd (let bad : Ok listed ≡ Err e = is in cc)
    by_node (Some (views.shard v)) at rows =
        let node : IsNode store shards st.s (shard s) (views.shard v) =
        subst (λ (n : ℕ). IsNode n shards st.s (shard s) (views.shard v)) st.store_is (subst (λ (n : ℕ). IsNode w.store n st.s (shard s) (views.shard v)) st.shards_is (st.shows.nodes (shard s) (views.shard v) at)) in
        let is_up : v.is_down ≡ false = ⊎_elim (λ gone. absurd (let bad : Ok listed ≡ Err Down = rows.down.1 gone in cc)) (λ is. is) (cases_Bool v.is_down) in
        let seen = shard_is_seen state honest store shards st.s st.now st.stands s v node is_up in
        let same : memory v ≡ m = ap known (sym seen.at ∙ k.is_up) ∙ sym k.replayed in
        let left = known_left store shards (stops state honest store shards st.s.devices) st.now v s seen st.stands.stands in
        let means = st.stands.stands.listed s (v.durable ++ v.staged) node.there left in (
          subst (λ (x : ShardState). AreRows x.rows listed.items) same (rows.ok (shard_is_up state honest store shards st.s st.now st.stands s v node is_up)),
          subst (λ (x : ShardState). x.horizon ≤ st.now.machine.horizon) same means.horizon,
        )

    pub shows_known : Shown
    shows_known = by_node (node_at w.nodes (Shard s)) refl shown

  -- After its telling, if the horizon is not above the place: each of its tuples that was there.
  pub record Covers (s place : ℕ) (told : List Version) (before : ℕ → Type 0) (base new : WorldView D) (st : Stood base) : Type 0 where
    pub after : Stood new
    pub on : GoesOn st.now.machine after.now.machine
    pub has : after.now.machine.horizon ≤ place → (t : Tuple) → before (shard_of shards t.object) → is_at st.now.machine.log place t ≡ true → Has told t

  tells_one : (s place : ℕ) (told : List Version) (old new : WorldView D) (st : Stood old) → s < shards → place ≤ st.now.machine.kept
      → TellsOne (Takes state honest moment left_since) IsNext (ShowsRows state honest) s old told new → Covers s place told (λ x. x ≡ s) old new st
  tells_one s place told old new st lt low one =
      let a : Answered state honest moment left_since keep store shards ids (to_learn s) done st.now.machine new =
      played state honest moment left_since keep store shards ids (to_learn s) (λ changes conditions is. cc) (care_for (Learn s)) refl tt Done refl old new st one.learns in
      record { after = a.standing; on = a.on; has = λ above t own is. in_shard a.standing a.on a.seen a.agrees above t own is }
    where
      in_shard : (after : Stood new) → GoesOn st.now.machine after.now.machine → {r : Running} → ((m : Machine) → Contains r.seen m → GoesOn st.now.machine m) → IsLearnAnswer s r after.now
          → after.now.machine.horizon ≤ place → (t : Tuple) → shard_of shards t.object ≡ s → is_at st.now.machine.log place t ≡ true → Has told t
      in_shard after on seen learned above t own is =
          let shown = shows_known s new after one.listed one.shown learned.memory learned.knows in
          let first = seen learned.was.0 learned.was.1 in
          let within : place ≤ learned.memory.learned = omega (arith, low, first.kept, learned.was.2, learned.learned) in
          let beneath : learned.memory.horizon ≤ place = omega (arith, shown.1, above) in
          let kept : place ≤ after.now.machine.kept = omega (arith, low, on.kept) in
          let rows = rows_show store shards (stops state honest store shards after.s.devices) after.now s place learned.memory after.stands.stands
          (some_coordinator state honest store shards after.s after.now after.stands) lt kept learned.knows beneath within in
          let there : there_at learned.memory.rows place t ≡ true =
          ap (λ (f : Tuple → Bool). f t) rows ∙ ap (λ (log : List Entry). is_at log place t && (shard_of shards t.object == s)) on.log
          ∙ ap (λ (b : Bool). b && (shard_of shards t.object == s)) is ∙ eq-eqb (shard_of shards t.object) s own in
          let it = there_has learned.memory.rows place t there in
          (it.0, subst (λ (l : List Version). Contains l it.0) one.listed_is (Contains-permutation learned.memory.rows one.listed.items it.0 shown.0.same it.1), it.2)

  below_next : (x s : ℕ) → x < suc s → (x < s) ⊎ (x ≡ s)
  below_next x s lt = ⊎_elim (λ same. inr (eqb-true x s same)) (λ other. inl (smaller other)) (cases_Bool (x == s))
    where
      smaller : (x == s) ≡ false → x < s
      smaller other = let ne : (x ≡ s) → ⊥ = λ is. (let yes : (x == s) ≡ true = eq-eqb x s is in let no : true ≡ false = sym yes ∙ other in cc) in omega (arith, lt, ne)

  pub tells_all : (s place : ℕ) (told : List Version) (old new : WorldView D) (st : Stood old) → s ≤ shards → place ≤ st.now.machine.kept
      → AllTell (Takes state honest moment left_since) IsNext (ShowsRows state honest) s old told new → Covers s place told (λ x. x < s) old new st
  tells_all zero place told old new st le low (none, is) = subst (λ (w : WorldView D). Covers zero place told (λ x. x < zero) old w st) (sym is)
      (record { after = st; on = goes_nowhere st.now.machine; has = λ above t own there. absurd (omega (arith, own)) })
  tells_all (suc s) place told old new st le low (mid, before, more, first, one, told_is) =
      let a = tells_all s place before old mid st (omega (arith, le)) low first in
      let b = tells_one s place more mid new a.after (omega (arith, le)) (omega (arith, low, a.on.kept)) one in
      record {
        after = b.after;
        on = goes_then st.now.machine a.after.now.machine b.after.now.machine a.on b.on;
        has = λ above t own is. subst (λ (l : List Version). Has l t) (sym told_is) (⊎_elim
            (λ lt. let x = a.has (omega (arith, above, b.on.horizon)) t lt is in (x.0, Contains-append_left before more x.0 x.1, x.2))
            (λ same. let x = b.has above t same (ap (λ (log : List Entry). is_at log place t) a.on.log ∙ is) in (x.0, Contains-append_right before more x.0 x.1, x.2))
            (below_next (shard_of shards t.object) s own));
      }
