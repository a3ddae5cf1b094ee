-- The coordinator of a store that stands is opened, or its opening is refused.
use Rattle.std.proofs.Common.{◌≡◌, ◌≢◌, ◌⊎◌, inl, inr, ⊎_elim, ℕ, zero, suc, max, ◌<◌, ◌≤◌, true, List, [], ◌∷◌, ◌++◌, length, take, Some, slice_get, Contains, All, refl, sym, ◌∙◌, ap, subst, arith, append-nil}
use Rattle.std.proofs.lemmas.Bool.{cases_lt}
use Rattle.std.proofs.lemmas.List.{length-map, length-take-le, take_all}
use Rattle.std.proofs.lemmas.List.Elements.{All-cons, All-nil, Contains-append_right}
use Rattle.turns.proofs.Words.{CoordinatorKnows, CoordinatorState, Epoch, FlowsStand, HeadsStand, IsCoordinatorImage, IsGivenOut, IsHorizonIn, IsOfOpening, IsOfRefusedOpening, IsReopenedCoordinator, IsRight, IsRightVerdict, Machine, MayRise, Means, Moment, Move, Moves, NodeName, Nodes, OpensCoordinator, Record, Refusal, RefusesCoordinator, Restarts, Rests, Running, SameBut, ShardMeans, Stands, WasGiven, WriteId, at_shards, came_up, coordinator, coordinator_last, coordinator_node, coordinator_push, coordinator_state, cut, cut_to, end_of, horizon_rises, id_of, is_write, keep, leaves, less_rests, raise, raised_means, refused, refuses, shard, shard_state, staged_of, up}
use Rattle.records.specs.Coordinators.{MayOpenAgain, coordinator_step}
use Rattle.stores.specs.Moments.{reopened}
use Rattle.turns.specs.RestartLaws.{CoordinatorOpeningsStand, RefusedCoordinatorsStand, with_restart}
use Rattle.stores.proofs.FlowBegins.{alone}
use Rattle.laws.proofs.CoordinatorSteps.{restarts_rest}
use Rattle.stores.proofs.FailedFlush.{CoordinatorStands, nodes_stand, nothing_known}
use Rattle.stores.proofs.CoordinatorOpeningFlows.{Renews, ids_kept, kept_flow, left_before, locks_kept, verdict_kept}
use Rattle.stores.proofs.ShardStages.{durable_in}
use Rattle.stores.proofs.Places.{rests_in_place, still_in_place}
use Rattle.turns.proofs.StopInside.{means_or_opened}
use Rattle.tuples.proofs.Lists.{first_or_later}

-- the horizon that records stand for is none, or a record names it
-- a flow that is marked ran before
marked_was : (rs : List Running) (i : ℕ) (q : Running) → slice_get (reopened rs) i ≡ Some q → (r : Running) × (slice_get rs i ≡ Some r) × (record r { is_reopened = true } ≡ q)
marked_was [] zero q is = absurd cc
marked_was [] (suc i) q is = absurd cc
marked_was (r ∷ rs) zero q is = (r, refl, cc)
marked_was (r ∷ rs) (suc i) q is = marked_was rs i q is

marked_there : (rs : List Running) (q : Running) → Contains (reopened rs) q → (r : Running) × Contains rs r × (record r { is_reopened = true } ≡ q)
marked_there [] q has = absurd (omega (arith, has.1))
marked_there (r ∷ rs) q has = ⊎_elim
    (λ first. (r, alone r rs, first))
    (λ rest. let was = marked_there rs q rest in (was.0, Contains-append_right (r ∷ []) rs was.0 was.1, was.2))
    (first_or_later (record r { is_reopened = true }) q (reopened rs) has)

module _ (store shards : ℕ) (left after : NodeName → List Record → Type 0) (now : Moment) (next : Nodes) (m : Machine) (n : ℕ) (re : Renews store shards left after now next m n) where
  -- flows that are marked hold what is right
  flows_marked : FlowsStand store shards after (with_restart now next m)
  flows_marked = record {
    few = subst (λ k. k ≤ 1024) (sym (length-map now.running (λ (r : Running). record r { is_reopened = true }))) re.stands.flows.few;
    slots = λ i j q r is_q is_r same.
        let a = marked_was now.running i q is_q in
        let b = marked_was now.running j r is_r in
        re.stands.flows.slots i j a.0 b.0 a.1 b.1 (ap (λ (x : Running). x.slot) a.2 ∙ same ∙ ap (λ (x : Running). x.slot) (sym b.2));
    ids = λ i j q r id is_q is_r has also.
        let a = marked_was now.running i q is_q in
        let b = marked_was now.running j r is_r in
        re.stands.flows.ids i j a.0 b.0 id a.1 b.1 (ap (λ (x : Running). id_of x.holds) a.2 ∙ has) (ap (λ (x : Running). id_of x.holds) b.2 ∙ also);
    held = λ q has.
        let a = marked_there now.running q has in
        subst (λ (x : Running). IsRight shards after (with_restart now next m) x x.asked x.holds) a.2
        (kept_flow store shards left after now next m n re (reopened now.running) a.0 (re.stands.flows.held a.0 a.1));
    seen = λ q has p there.
        let a = marked_there now.running q has in
        let was = re.stands.flows.seen a.0 a.1 p (subst (λ (x : Running). Contains x.seen p) (sym a.2) there) in
        (omega (arith, was.0, re.kept), omega (arith, was.1, re.horizon));
    quiet = λ q has none.
        let a = marked_there now.running q has in
        let was = re.stands.flows.quiet a.0 a.1 (ap (λ (x : Running). is_write x.asked) a.2 ∙ none) in
        (ap (λ (x : Running). x.decided) (sym a.2) ∙ was.0, ap (λ (x : Running). x.is_cancelled) (sym a.2) ∙ was.1);
  }

  told_marked : All (IsRightVerdict shards after (with_restart now next m)) now.told
  told_marked j d lt = verdict_kept store shards left after now next m n re (reopened now.running) _ (re.stands.told j d lt)

  same_but : SameBut coordinator now.nodes next
  same_but = record { others = λ k ne. unchanged k ne; open_writes = λ ne. absurd (ne refl); given = λ ne. absurd (ne refl) }
    where
      unchanged : (k : NodeName) → k ≢ coordinator → next.at k ≡ now.nodes.at k
      unchanged coordinator ne = absurd (ne refl)
      unchanged (shard t) ne = re.unchanged t

module _ (store shards : ℕ) (left after : NodeName → List Record → Type 0) (now : Moment) (next : Nodes) (e : Refusal) (stands : Stands store shards left now) (why : IsOfRefusedOpening e)
    (refuses_it : RefusesCoordinator store shards left after e now.nodes next) where
  not_up : (d g : List Record) → next.at coordinator ≡ up d g → ⊥
  not_up d g is = let both : refused e ≡ up d g = sym refuses_it.now ∙ is in cc

  refused_so : (x : Refusal) → next.at coordinator ≡ refused x → IsOfRefusedOpening x
  refused_so x is =
      let both : refused e ≡ refused x = sym refuses_it.now ∙ is in
      let same : e ≡ x = cc in
      subst IsOfRefusedOpening same why

  epoch_on : (id : WriteId) (rs : List Record) → id.epoch ≤ (coordinator_state rs).epoch → (epoch : ℕ) → IsCoordinatorImage (coordinator_node store shards) (rs ++ Epoch epoch store shards 255 ∷ [])
      → id.epoch ≤ (coordinator_state (rs ++ Epoch epoch store shards 255 ∷ [])).epoch
  unfolding coordinator_step
  epoch_on id rs low epoch image =
      let may : MayOpenAgain (coordinator_node store shards) (coordinator_state rs) epoch store shards 255 = coordinator_last (coordinator_node store shards) rs (Epoch epoch store shards 255) image in
      let is : (coordinator_state (rs ++ Epoch epoch store shards 255 ∷ [])).epoch ≡ epoch = ap (λ (c : CoordinatorState). c.epoch) (coordinator_push rs (Epoch epoch store shards 255)) in
      omega (arith, low, is, may.next)

  given : (id : WriteId) → WasGiven shards left now.nodes id → IsGivenOut (after coordinator) id
  given id g rs is = ⊎_elim
      (λ old. g.epoch rs old)
      (λ (re : IsReopenedCoordinator store shards left rs). subst (λ (l : List Record). id.epoch ≤ (coordinator_state l).epoch) (sym re.is) (epoch_on id re.found (g.epoch re.found re.was_left) re.epoch re.image))
      (refuses_it.here rs is)

  renews : Renews store shards left after now next now.machine (length now.machine.log)
  renews = record {
    stands = stands;
    none_open = refuses_it.open_writes;
    unchanged = refuses_it.unchanged;
    same = refuses_it.same;
    log = sym (take_all (length now.machine.log) now.machine.log (omega arith));
    kept = omega arith;
    within = stands.rests.within;
    fits = omega arith;
    horizon = omega arith;
    later = λ kept memory k id g. absurd (not_up k.durable k.staged k.is_up);
    given = given;
  }

  at_coordinator : (rs : List Record) → leaves after next coordinator rs → leaves left now.nodes coordinator rs ⊎ IsReopenedCoordinator store shards left rs
  at_coordinator rs is =
      let same : rs ≡ is.0 = ⊎_elim (λ plain. plain) (λ more. more ∙ ap (λ (l : List Record). is.0 ++ l) (ap staged_of refuses_it.now) ∙ append-nil is.0) is.2 in
      ⊎_elim
      (λ old. inl (is.0, old, inl same))
      (λ (re : IsReopenedCoordinator store shards left is.0). inr (record { found = re.found; epoch = re.epoch; was_left = re.was_left; is = same ∙ re.is; image = re.image }))
      (refuses_it.here is.0 is.1)

  rests : Rests store shards now.machine.log now.machine.kept now.machine.horizon (leaves after next coordinator) (at_shards (leaves after next))
  rests = rests_in_place store shards left now.nodes (at_shards (leaves after next))
      (λ t rs is. still_in_place store shards left now.nodes t rs (left_before store shards left after now next now.machine (length now.machine.log) renews now.running t rs is))
      now.machine.log now.machine.kept now.machine.horizon (leaves after next coordinator) stands.rests (λ rs is. means_or_opened store shards left now.nodes rs (at_coordinator rs is))

  refused_stands : Stands store shards after (with_restart now next now.machine)
  refused_stands =
      let n = length now.machine.log in
      let none = nothing_known store shards left after now next stands refuses_it.unchanged refuses_it.same now.machine not_up refused_so in
      record {
        rests = rests;
        nodes = nodes_stand store shards left after now next stands refuses_it.unchanged refuses_it.same none.0;
        heads = none.1;
        listed = λ t rs lt is. stands.listed t rs lt (left_before store shards left after now next now.machine n renews now.running t rs is);
        locks = locks_kept store shards left after now next now.machine n renews (reopened now.running);
        ids = ids_kept store shards left after now next now.machine n renews (reopened now.running);
        flows = flows_marked store shards left after now next now.machine n renews;
        told = told_marked store shards left after now next now.machine n renews;
      }

  refused_step : Restarts shards (IsHorizonIn store shards left now.nodes) now coordinator (refuses e ∷ []) (with_restart now next now.machine)
  refused_step = record {
    moves = [];
    machine = refl;
    allowed = (All-nil _, refl);
    others = same_but store shards left after now next now.machine (length now.machine.log) renews;
    told_before = refl;
    named = refl;
    tells = (refuses e, refl, (refuses_it.now, why));
  }

pub refused_coordinators_stand : (store shards : ℕ) (left after : NodeName → List Record → Type 0) → RefusedCoordinatorsStand store shards left after
refused_coordinators_stand store shards left after now next e stands why refuses_it =
    (refused_stands store shards left after now next e stands why refuses_it, refused_step store shards left after now next e stands why refuses_it)

module _ (store shards : ℕ) (left after : NodeName → List Record → Type 0) (now : Moment) (next : Nodes) (stands : Stands store shards left now) (opens : OpensCoordinator store shards left after now.nodes next)
    (image : IsCoordinatorImage (coordinator_node store shards) (opens.found ++ Epoch opens.epoch store shards 255 ∷ [])) where
  abbrev m : Machine
  m = cut_to now.machine (coordinator_state opens.found)

  found_left : leaves left now.nodes coordinator opens.found
  found_left = (opens.found, opens.was_left, inl refl)

  may : MayOpenAgain (coordinator_node store shards) (coordinator_state opens.found) opens.epoch store shards 255
  may = coordinator_last (coordinator_node store shards) opens.found (Epoch opens.epoch store shards 255) image

  behind : coordinator_state (opens.found ++ Epoch opens.epoch store shards 255 ∷ []) ≡ record (coordinator_state opens.found) { epoch = opens.epoch }
  unfolding coordinator_step
  behind = coordinator_push opens.found (Epoch opens.epoch store shards 255)

  only : (rs : List Record) → leaves after next coordinator rs → rs ≡ opens.found ++ Epoch opens.epoch store shards 255 ∷ []
  only rs is =
      let same : rs ≡ is.0 = ⊎_elim (λ plain. plain) (λ more. more ∙ ap (λ (l : List Record). is.0 ++ l) (ap staged_of opens.now) ∙ append-nil is.0) is.2 in
      same ∙ (opens.here is.0).0 is.1

  restarted : (now.machine.kept ≤ end_of (coordinator_state opens.found)) × (end_of (coordinator_state opens.found) ≤ length now.machine.log)
      × Rests store shards (take (end_of (coordinator_state opens.found)) now.machine.log) (end_of (coordinator_state opens.found)) now.machine.horizon (leaves after next coordinator) (at_shards (leaves left now.nodes))
      × Means store shards (take (end_of (coordinator_state opens.found)) now.machine.log) now.machine.horizon (opens.found ++ Epoch opens.epoch store shards 255 ∷ []) (at_shards (leaves left now.nodes))
  restarted = restarts_rest (leaves left now.nodes coordinator) (leaves after next coordinator) (at_shards (leaves left now.nodes)) store shards now.machine.log now.machine.kept now.machine.horizon opens.found opens.epoch
      (record { rests = stands.rests; here = found_left; image = image; adds = λ rs is. inr (only rs is) })
      (λ rs is. inr (only rs is))

  low : now.machine.horizon ≤ (coordinator_state opens.found).horizon
  low = subst (λ (c : CoordinatorState). now.machine.horizon ≤ c.horizon) behind restarted.3.decided.above

  size : length (take (end_of (coordinator_state opens.found)) now.machine.log) ≡ end_of (coordinator_state opens.found)
  size = length-take-le (end_of (coordinator_state opens.found)) now.machine.log restarted.1

  high : (coordinator_state opens.found).horizon ≤ end_of (coordinator_state opens.found)
  high =
      let within : (coordinator_state opens.found).horizon ≤ length (take (end_of (coordinator_state opens.found)) now.machine.log) = subst (λ (c : CoordinatorState). c.horizon ≤ length (take (end_of (coordinator_state opens.found)) now.machine.log)) behind restarted.3.decided.within in
      omega (arith, within, size)

  knows : (kept memory : CoordinatorState) → CoordinatorKnows next kept memory → (kept ≡ record (coordinator_state opens.found) { epoch = opens.epoch }) × (memory ≡ record (coordinator_state opens.found) { epoch = opens.epoch })
  knows kept memory k =
      let both : up k.durable k.staged ≡ up (opens.found ++ Epoch opens.epoch store shards 255 ∷ []) [] = sym k.is_up ∙ opens.now in (
        k.durable_state ∙ ap coordinator_state (ap durable_in both) ∙ behind,
        k.replayed ∙ ap (λ (l : List Record). coordinator_state (l ++ k.staged)) (ap durable_in both) ∙ ap (λ (l : List Record). coordinator_state ((opens.found ++ Epoch opens.epoch store shards 255 ∷ []) ++ l)) (ap staged_of both)
            ∙ ap coordinator_state (append-nil (opens.found ++ Epoch opens.epoch store shards 255 ∷ [])) ∙ behind,
      )

  renewed : Renews store shards left after now next m (end_of (coordinator_state opens.found))
  renewed = record {
    stands = stands;
    none_open = opens.open_writes;
    unchanged = opens.unchanged;
    same = opens.same;
    log = refl;
    kept = restarted.0;
    within = omega arith;
    fits = restarted.1;
    horizon = low;
    later = λ kept memory k id g.
        let old : id.epoch ≤ (coordinator_state opens.found).epoch = g.epoch opens.found opens.was_left in
        let is : memory.epoch ≡ opens.epoch = ap (λ (c : CoordinatorState). c.epoch) (knows kept memory k).1 in
        omega (arith, old, is, may.next);
    given = λ id g rs is.
        let old : id.epoch ≤ (coordinator_state opens.found).epoch = g.epoch opens.found opens.was_left in
        let at : (coordinator_state rs).epoch ≡ opens.epoch = ap (λ (l : List Record). (coordinator_state l).epoch) ((opens.here rs).0 is) ∙ ap (λ (c : CoordinatorState). c.epoch) behind in
        omega (arith, old, at, may.next);
  }

  shards_less : (t : ℕ) (rs : List Record) → leaves after next (shard t) rs → leaves left now.nodes (shard t) rs
  shards_less = left_before store shards left after now next m (end_of (coordinator_state opens.found)) renewed now.running

  rests_now : Rests store shards m.log m.kept m.horizon (leaves after next coordinator) (at_shards (leaves after next))
  rests_now =
      let stops = leaves after next coordinator in
      let raised = horizon_rises stops stops (at_shards (leaves left now.nodes)) (at_shards (leaves left now.nodes)) store shards m.log m.kept now.machine.horizon m.horizon low high
      (λ rs is. let same : (coordinator_state rs).horizon ≡ (coordinator_state opens.found).horizon = ap (λ (l : List Record). (coordinator_state l).horizon) (only rs is) ∙ ap (λ (c : CoordinatorState). c.horizon) behind in omega (arith, same))
      restarted.2 in
      (less_rests stops stops (at_shards (leaves left now.nodes)) (at_shards (leaves after next)) store shards m.log m.kept m.horizon (λ rs is. is) shards_less).0 raised

  whole_now : Means store shards m.log m.horizon (opens.found ++ Epoch opens.epoch store shards 255 ∷ []) (at_shards (leaves after next))
  whole_now =
      let stops = leaves after next coordinator in
      let same : (coordinator_state (opens.found ++ Epoch opens.epoch store shards 255 ∷ [])).horizon ≡ (coordinator_state opens.found).horizon = ap (λ (c : CoordinatorState). c.horizon) behind in
      let raised = raised_means stops stops (at_shards (leaves left now.nodes)) (at_shards (leaves left now.nodes)) store shards m.log now.machine.horizon m.horizon (opens.found ++ Epoch opens.epoch store shards 255 ∷ []) low (omega (arith, same)) restarted.3 in
      (less_rests stops stops (at_shards (leaves left now.nodes)) (at_shards (leaves after next)) store shards m.log m.kept m.horizon (λ rs is. is) shards_less).1 (opens.found ++ Epoch opens.epoch store shards 255 ∷ []) raised

  coordinator_now : CoordinatorStands store shards after next
  coordinator_now = record {
    durable = λ d g rs is.
        let both : up d g ≡ up (opens.found ++ Epoch opens.epoch store shards 255 ∷ []) [] = sym is ∙ opens.now in
        (λ x. (opens.here rs).0 x ∙ sym (ap durable_in both), λ x. (opens.here rs).1 (x ∙ ap durable_in both));
    no_opening = λ d g a b c e is has.
        let both : up d g ≡ up (opens.found ++ Epoch opens.epoch store shards 255 ∷ []) [] = sym is ∙ opens.now in
        let empty : Contains [] (Epoch a b c e) = subst (λ (l : List Record). Contains l (Epoch a b c e)) (ap staged_of both) has in
        omega (arith, empty.1);
    opened = λ kept memory k. let at : kept.epoch ≡ opens.epoch = ap (λ (c : CoordinatorState). c.epoch) (knows kept memory k).0 in omega (arith, at, may.next);
    sound = λ e is. let both : refused e ≡ up (opens.found ++ Epoch opens.epoch store shards 255 ∷ []) [] = sym is ∙ opens.now in absurd cc;
  }

  heads_now : HeadsStand store shards after next m
  heads_now = record {
    log = λ kept memory k. ap end_of (knows kept memory k).1 ∙ sym size;
    kept = λ kept memory k. ap end_of (knows kept memory k).0;
    horizon = λ kept memory k. ap (λ (c : CoordinatorState). c.horizon) (knows kept memory k).0;
    whole = λ d g is.
        let both : up (opens.found ++ Epoch opens.epoch store shards 255 ∷ []) [] ≡ up d g = sym opens.now ∙ is in
        let same : opens.found ++ Epoch opens.epoch store shards 255 ∷ [] ≡ d ++ g = sym (append-nil (opens.found ++ Epoch opens.epoch store shards 255 ∷ [])) ∙ ap (λ (l : List Record). l ++ []) (ap durable_in both) ∙ ap (λ (l : List Record). d ++ l) (ap staged_of both) in
        subst (λ (l : List Record). Means store shards m.log m.horizon l (at_shards (leaves after next))) same whole_now;
  }

  opened_stands : Stands store shards after (with_restart now next m)
  opened_stands = record {
    rests = rests_now;
    nodes = nodes_stand store shards left after now next stands opens.unchanged opens.same coordinator_now;
    heads = heads_now;
    listed = λ t rs lt is. let same = ap (λ (c : CoordinatorState). c.horizon) behind in
        subst (λ (k : ℕ). ShardMeans shards t m.log k m.horizon (shard_state rs)) same (whole_now.each_shard t rs lt is).means;
    locks = locks_kept store shards left after now next m (end_of (coordinator_state opens.found)) renewed (reopened now.running);
    ids = ids_kept store shards left after now next m (end_of (coordinator_state opens.found)) renewed (reopened now.running);
    flows = flows_marked store shards left after now next m (end_of (coordinator_state opens.found)) renewed;
    told = told_marked store shards left after now next m (end_of (coordinator_state opens.found)) renewed;
  }

  -- the machine cut, with all of it kept
  abbrev all_of_it : Machine
  all_of_it = record { log = m.log; kept = m.kept; horizon = now.machine.horizon }

  abbrev may_rise : ℕ → Type 0
  may_rise = MayRise shards (IsHorizonIn store shards left now.nodes) now

  keeping : (last : List Move) → Moves all_of_it last m → Moves now.machine (cut (end_of (coordinator_state opens.found)) ∷ keep (end_of (coordinator_state opens.found)) ∷ last) m
  keeping last rest =
      let is_max : max now.machine.kept (end_of (coordinator_state opens.found)) ≡ end_of (coordinator_state opens.found) = omega (arith, restarted.0) in (
        record now.machine { log = m.log },
        (restarted.0, refl),
        (all_of_it, (omega (arith, size), ap (λ (k : ℕ). record now.machine { log = m.log; kept = k }) (sym is_max)), rest),
      )

  first_two : (last : List Move) → All (IsOfOpening may_rise) last → All (IsOfOpening may_rise) (cut (end_of (coordinator_state opens.found)) ∷ keep (end_of (coordinator_state opens.found)) ∷ last)
  first_two last rest =
      let n = end_of (coordinator_state opens.found) in
      All-cons (IsOfOpening may_rise) (cut n) (keep n ∷ last) tt (All-cons (IsOfOpening may_rise) (keep n) last tt rest)

  moved : (moves : List Move) × Moves now.machine moves m × All (IsOfOpening may_rise) moves
  moved = ⊎_elim
      (λ (lt : now.machine.horizon < (coordinator_state opens.found).horizon). (
        cut (end_of (coordinator_state opens.found)) ∷ keep (end_of (coordinator_state opens.found)) ∷ raise (coordinator_state opens.found).horizon ∷ [],
        keeping (raise (coordinator_state opens.found).horizon ∷ []) (m, (low, high, refl), refl),
        first_two (raise (coordinator_state opens.found).horizon ∷ []) (All-cons (IsOfOpening may_rise) (raise (coordinator_state opens.found).horizon) [] (rises lt) (All-nil (IsOfOpening may_rise))),
      ))
      (λ (le : (coordinator_state opens.found).horizon ≤ now.machine.horizon).
      let same : (coordinator_state opens.found).horizon ≡ now.machine.horizon = omega (arith, le, low) in (
        cut (end_of (coordinator_state opens.found)) ∷ keep (end_of (coordinator_state opens.found)) ∷ [],
        keeping [] (ap (λ (h : ℕ). record { log = m.log; kept = m.kept; horizon = h }) same),
        first_two [] (All-nil (IsOfOpening may_rise)),
      ))
      (cases_lt now.machine.horizon (coordinator_state opens.found).horizon)
    where
      rises : now.machine.horizon < (coordinator_state opens.found).horizon → may_rise (coordinator_state opens.found).horizon
      rises lt = inr (omega (arith, lt), (opens.found, found_left, refl))

  opened_step : Restarts shards (IsHorizonIn store shards left now.nodes) now coordinator (came_up ∷ []) (with_restart now next m)
  opened_step = record {
    moves = moved.0;
    machine = moved.1;
    allowed = (moved.2, refl);
    others = same_but store shards left after now next m (end_of (coordinator_state opens.found)) renewed;
    told_before = refl;
    named = refl;
    tells = (came_up, refl, ((opens.found ++ Epoch opens.epoch store shards 255 ∷ [], opens.now), λ is. sym size));
  }

pub coordinator_openings_stand : (store shards : ℕ) (left after : NodeName → List Record → Type 0) → CoordinatorOpeningsStand store shards left after
coordinator_openings_stand store shards left after now next stands opens image =
    (opened_stands store shards left after now next stands opens image, opened_step store shards left after now next stands opens image)
