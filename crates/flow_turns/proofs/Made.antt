-- What is known of a store after a call of one of its nodes.
use Rattle.std.proofs.Common.{◌≡◌, ◌≢◌, ◌⊎◌, inl, inr, ⊎_elim, ℕ, ◌≤◌, List, [], map, Result, Ok, Err, Some, Contains, refl, sym, ◌∙◌, ap, subst, arith}
use Rattle.std.proofs.Math.Path.{fun_ext}
use Rattle.std.proofs.lemmas.Option.{same_Some}
use Rattle.tuples.specs.declared.entry.Entry.{Entry}
use Rattle.flow_turns.proofs.CallWords.{AreSound, Calls, CoordinatorState, HasDeviceCause, HasItsCause, IsCalled, IsHorizonIn, IsMade, IsQuietCall, Machine, Moment, NamesHorizon, NodeName, NodeState, NodeView, Nodes, Record, Refusal, Running, ShowsNodes, StandFor, StandsOver, State, Store, Unsure, WriteId, coordinator, coordinator_state, down, found, leaves, left, refused, shard, shown, staged_of, stops, up}
use Rattle.decisions.specs.Standing.{IsGivenOut}
use Rattle.records.specs.declared.record.Record.TheVariants.{Epoch}
use Rattle.records.proofs.CoordinatorStates.{state_of_more}
use Rattle.calls.specs.Views as views
use Rattle.calls.specs.Views.{devices_of}
use Rattle.laws.specs.Nodes.{IsThere, SameBut}
use Rattle.laws.specs.Stops.{MeansOne}
use Rattle.turns.specs.Promises.{StopsBetween, stops_since}
use Rattle.stores.specs.Stands.{at_shards}
use Rattle.stores.proofs.DecisionNodes.{epoch_stays}
use Rattle.turns.proofs.QuietTurns.{nothing_changes, of_node, is_same_node}
use Rattle.stores.proofs.Places.{alike_place, each_in_place, forgotten_means, stand_for_itself}
use Rattle.flow_turns.specs.StoreCalls.{KeepsMemory, ShowsMemory}

module _ {D : Type 0} (state : D → State) (honest : D → Type 0) (moment : D → ℕ) (left_since : D → ℕ → List ℕ → Type 0) (store shards : ℕ) (old new : Store D) (now : Moment)
    (standing : StandsOver state honest store shards old now) where
  abbrev pub before : NodeName → List Record → Type 0
  before = stops state honest store shards old.devices

  abbrev pub after : NodeName → List Record → Type 0
  after = stops state honest store shards new.devices

  abbrev since : NodeName → List Record → Type 0
  since = stops_since state honest moment left_since store shards old.devices new.devices

  -- a call that is quiet, with what is known of the store after it
  abbrev pub IsQuietlyMade : Nodes → Machine → Type 0
  IsQuietlyMade next m = IsQuietCall store shards before after now next m × IsMade state honest moment left_since store shards old new now next m

  -- a call that left the nodes as they were, of this node
  abbrev pub still_of : NodeName → IsQuietlyMade now.nodes now.machine → IsQuietlyMade now.nodes now.machine
  still_of n quiet = (of_node store shards before after now now.machine n quiet.0, quiet.1)

  -- a call that failed, or found its node away: it is quiet, and has its cause for each flow that calls the node
  abbrev pub FailsQuietly : NodeName → Refusal → Type 0
  FailsQuietly n e = (next : Nodes) × (quiet : IsQuietlyMade next now.machine)
      × ((r : Running) (ran : Moment) → ran.nodes ≡ next → Calls shards r.asked r.holds n → HasItsCause shards quiet.0.node now ran r e × (e ≢ Unsure))

  -- what an answer comes to: what its value tells, or that the call failed
  abbrev pub Comes : {X : Type 0} → NodeName → Result X Refusal → (X → Type 0) → Type 0
  Comes n (Ok x) P = P x
  Comes n (Err e) P = FailsQuietly n e

  no_epoch : (n : NodeState) → now.nodes.at coordinator ≡ n → (a b c d : ℕ) → Contains (staged_of n) (Epoch a b c d) → ⊥
  no_epoch (up durable staged) is a b c d has = standing.stands.nodes.no_opening coordinator durable staged a b c d is has
  no_epoch down is a b c d has = omega (arith, has.1)
  no_epoch (refused e) is a b c d has = omega (arith, has.1)

  -- with what is staged the coordinator is of no other epoch
  same_epoch : (rs : List Record) → leaves before now.nodes coordinator rs → (was : List Record) × before coordinator was × ((coordinator_state rs).epoch ≡ (coordinator_state was).epoch)
  same_epoch rs (was, is_left, inl same) = (was, is_left, ap (λ (l : List Record). (coordinator_state l).epoch) same)
  same_epoch rs (was, is_left, inr more) = (
    was,
    is_left,
    ap (λ (l : List Record). (coordinator_state l).epoch) more
        ∙ ap (λ (c : CoordinatorState). c.epoch) (state_of_more was (staged_of (now.nodes.at coordinator)))
        ∙ epoch_stays (coordinator_state was) (staged_of (now.nodes.at coordinator)) (no_epoch (now.nodes.at coordinator) refl),
  )

  -- what a stop could leave of a node before the call, with what is staged or without; or records that stand for the same
  abbrev pub WasOrSame : NodeName → List Record → Type 0
  WasOrSame k rs = (was : List Record) × leaves before now.nodes k was × StandFor k was rs

  pub was_itself : (k : NodeName) (rs : List Record) → leaves before now.nodes k rs → WasOrSame k rs
  was_itself k rs is = (rs, is, stand_for_itself k rs)

  -- if a stop inside the call leaves such records of each node, all is well inside
  abbrev pub IsWithin : Type 0
  IsWithin = (k : NodeName) (a b : List ℕ) → IsThere shards k → left_since (new.devices k).0 (moment (old.devices k).0) a → left_since (new.devices k).1 (moment (old.devices k).1) b
      → (rs : List Record) × (found a b ≡ Some rs) × WasOrSame k rs

  -- a node that is there, and what a stop inside the call may leave of it
  abbrev there_since : NodeName → List Record → Type 0
  there_since k rs = since k rs × IsThere shards k

  at_node : IsWithin → (k : NodeName) (rs : List Record) → there_since k rs → WasOrSame k rs
  at_node all k rs ((a, b, in_a, in_b, is), there) =
      let x = all k a b there in_a in_b in
      subst (WasOrSame k) (same_Some x.0 rs (sym x.1 ∙ is)) x.2

  -- so it means a beginning of the log
  means_one : IsWithin → (rs : List Record) → since coordinator rs → MeansOne store shards now.machine.log now.machine.kept now.machine.horizon rs (at_shards since)
  means_one all rs is =
      let was = at_node all coordinator rs (is, tt) in
      let one = each_in_place store shards before now.nodes (λ s. there_since (shard s))
      (λ s c w. let x = at_node all (shard s) c w in (x.0, x.1, alike_place store shards s x.0 c x.2)) now.machine.log now.machine.kept now.machine.horizon standing.stands.rests rs
      (was.0, was.1, λ log h m. forgotten_means store shards log h was.0 rs (at_shards (leaves before now.nodes)) was.2 m) in
      record {
        n = one.0;
        holds = one.1;
        within = one.2;
        means = record { image = one.3.image; decided = one.3.decided; each_shard = λ s c lt w. one.3.each_shard s c lt (w, lt) };
      }

  -- the coordinator is of no lower epoch
  given_in : (id : WriteId) (rs : List Record) → WasOrSame coordinator rs → IsGivenOut (before coordinator) id → id.epoch ≤ (coordinator_state rs).epoch
  given_in id rs was given =
      let e = same_epoch was.0 was.1 in
      let low = given e.0 e.1 in
      let same = was.2.0.epoch in
      omega (arith, low, e.2, same)

  pub inside_by : IsWithin → (m : Machine) → StopsBetween state honest moment left_since store shards old.devices new.devices now.machine m
  inside_by all m = record {
    rests = λ rs is. inl (means_one all rs is);
    readable = λ k a b there in_a in_b. let x = all k a b there in_a in_b in (x.0, x.1);
    given = λ id given rs is. given_in id rs (at_node all coordinator rs (is, tt)) given;
  }

  -- if a stop after the call leaves such records of the coordinator, each id that was given out stays so
  pub given_by : ((rs : List Record) → after coordinator rs → WasOrSame coordinator rs) → (id : WriteId) → IsGivenOut (before coordinator) id → IsGivenOut (after coordinator) id
  given_by all id given rs is = given_in id rs (all rs is) given

  -- and so if no device has changed
  pub still_given : new.devices ≡ old.devices → (id : WriteId) → IsGivenOut (before coordinator) id → IsGivenOut (after coordinator) id
  still_given same id given = subst (λ (f : NodeName → D × D). IsGivenOut (stops state honest store shards f coordinator) id) (sym same) given

  -- if a node's devices have not changed, a stop inside the call leaves what it could leave before
  pub still_at : ((d : D) (c : List ℕ) → honest d → left_since d (moment d) c → left (state d) c) → (k : NodeName) → new.devices k ≡ old.devices k → (a b : List ℕ) → IsThere shards k
      → left_since (new.devices k).0 (moment (old.devices k).0) a → left_since (new.devices k).1 (moment (old.devices k).1) b → (rs : List Record) × (found a b ≡ Some rs) × WasOrSame k rs
  still_at only_now k same a b there in_a in_b =
      let d = old.devices k in
      let in_a_then = only_now d.0 a (standing.sound.honest_a k there) (subst (λ (p : D × D). left_since p.0 (moment d.0) a) same in_a) in
      let in_b_then = only_now d.1 b (standing.sound.honest_b k there) (subst (λ (p : D × D). left_since p.1 (moment d.1) b) same in_b) in
      let rs = standing.sound.readable k a b there in_a_then in_b_then in
      (rs.0, rs.1, was_itself k rs.0 (rs.0, (a, b, in_a_then, in_b_then, rs.1), inl refl))

  -- and each horizon was named before
  pub named_less : (next : Nodes) → ((rs : List Record) → leaves after next coordinator rs → WasOrSame coordinator rs) → (x : ℕ) → IsHorizonIn store shards after next x
      → Contains now.named x ⊎ NamesHorizon state honest store shards old now x
  named_less next less x (some, (rs, there, high)) = let was = less rs there in inr (some, (was.0, was.1, sym was.2.0.horizon ∙ high))

  -- no device has changed
  module _ (only_now : (d : D) (c : List ℕ) → honest d → left_since d (moment d) c → left (state d) c) (same : new.devices ≡ old.devices) where
    pub still_sound : AreSound state honest store shards new.devices
    still_sound = subst (AreSound state honest store shards) (sym same) standing.sound

    pub still_within : IsWithin
    still_within k = still_at only_now k (ap (λ (f : NodeName → D × D). f k) same)

    -- and the coordinator has staged nothing more: each horizon was named before
    pub still_named : (next : Nodes) → next.at coordinator ≡ now.nodes.at coordinator → (x : ℕ) → IsHorizonIn store shards after next x → Contains now.named x ⊎ NamesHorizon state honest store shards old now x
    still_named next is x (some, (rs, there, high)) = inr (
      some,
      (
        rs,
        subst (λ (n : NodeState). leaves before (record { at = λ k. n; open_writes = []; given = 0 }) coordinator rs) is
            (subst (λ (f : NodeName → D × D). leaves (stops state honest store shards f) next coordinator rs) same there),
        high,
      ),
    )

  module _ (n : NodeName) (was is : NodeView D) (called : IsCalled state honest moment left_since store shards n was is old new) where
    pub same_devices : devices_of is ≡ devices_of was → new.devices ≡ old.devices
    same_devices same = fun_ext (λ m. ⊎_elim
        (λ here. ap new.devices here ∙ called.after.devices ∙ same ∙ sym called.before.devices ∙ ap old.devices (sym here))
        (λ other. called.devices m other)
        (is_same_node m n))

    pub shows_nodes : (next : Nodes) → SameBut n now.nodes next → next.at n ≡ shown is → map (λ (w : Entry). w.id) next.open_writes ≡ new.open_ids → next.given ≡ new.given → ShowsNodes next new
    shows_nodes next others at ids given = record {
      at = λ m. ⊎_elim
          (λ here. ap next.at here ∙ at ∙ sym called.after.at ∙ ap new.at (sym here))
          (λ other. others.others m other ∙ standing.nodes.at m ∙ sym (called.at m other))
          (is_same_node m n);
      open_ids = ids;
      given = given;
    }

    pub fails_by : (next : Nodes) → ShowsNodes next new → (k : NodeName) → IsThere shards k → next.at k ≡ down → now.nodes.at k ≢ down
        → HasDeviceCause state honest moment left_since store shards old.devices new.devices k
    fails_by next shows k there is_down not_down = ⊎_elim
        (λ here. subst (HasDeviceCause state honest moment left_since store shards old.devices new.devices) (sym here) (called.fails
        (sym called.after.at ∙ ap new.at (sym here) ∙ sym (shows.at k) ∙ is_down)
        (λ was_down. not_down (standing.nodes.at k ∙ ap old.at here ∙ called.before.at ∙ was_down))))
        (λ other. absurd (not_down (standing.nodes.at k ∙ sym (called.at k other) ∙ sym (shows.at k) ∙ is_down)))
        (is_same_node k n)

    memory_stays : (w i : NodeView D) → i ≡ w → ShowsMemory w old → ShowsMemory i new → KeepsMemory w old new → (new.open_ids ≡ old.open_ids) × (new.given ≡ old.given)
    memory_stays (views.coordinator v) i same first then keeps =
        let last : ShowsMemory (views.coordinator v) new = subst (λ (x : NodeView D). ShowsMemory x new) same then in
        (last.0 ∙ sym first.0, last.1 ∙ sym first.1)
    memory_stays (views.shard v) i same first then keeps = keeps
    memory_stays (views.refused e a b) i same first then keeps = keeps

    -- a call that left its node as it was is quiet
    pub still_made : ((d : D) (c : List ℕ) → honest d → left_since d (moment d) c → left (state d) c) → is ≡ was → IsQuietlyMade now.nodes now.machine
    still_made only_now same =
        let devices = same_devices (ap devices_of same) in
        let memory = memory_stays was is same called.before.memory called.after.memory called.memory in
        let shows = shows_nodes now.nodes (record { others = λ m ne. refl; open_writes = λ ne. refl; given = λ ne. refl }) (standing.nodes.at n ∙ called.before.at ∙ ap shown (sym same))
        (standing.nodes.open_ids ∙ sym memory.0) (standing.nodes.given ∙ sym memory.1) in (
          subst (λ (f : NodeName → D × D). IsQuietCall store shards before (stops state honest store shards f) now now.nodes now.machine) (sym devices) (nothing_changes store shards before now standing.stands),
          record {
            sound = still_sound only_now devices;
            nodes = shows;
            named = still_named only_now devices now.nodes refl;
            fails = fails_by now.nodes shows;
            inside = inside_by (still_within only_now devices) now.machine;
            given = still_given devices;
          },
        )
