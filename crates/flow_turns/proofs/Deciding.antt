-- The decision of a write is a turn.
use Rattle.std.proofs.Common.{◌≡◌, ◌≢◌, ◌⊎◌, inl, inr, ⊎_elim, ◌≤◌, ◌<◌, ◌+◌, ◌++◌, ℕ, Bool, true, false, true≢false, List, [], ◌∷◌, length, Result, Ok, Err, Option, Some, None, Contains, refl, sym, ◌∙◌, ap, subst, arith}
use Rattle.std.specs.Prelude.{MatchOption}
use Rattle.std.specs.Global.{Vec}
use Rattle.std.proofs.lemmas.Bool.{cases_Bool, cases_lt}
use Rattle.std.proofs.lemmas.List.{append_assoc}
use Rattle.flow_turns.proofs.WriteWords.{Answered, CoordinatorView, DecidedValue, Down, Entry, FailsQuietly, Full, GivesTo, GoesOut, HasItsCause, HoldsLess, IntentValue, IsCalled, IsHorizonIn, IsIntent, IsMade, IsOnItsWay, IsQuietlyMade, IsReplyTo, IsSeen, IsUndecidedFlow, Machine, Moment, NamesHorizon, NoMemory, NodeName, NodeView, Nodes, Record, Reply, Running, Stands, StandsOver, State, Store, TakesMemory, Turns, TurnsBy, VoteValue, WriteHolds, WriteView, answered_belongs, at_rest, coordinator, down_coordinator_fails, end_of, from_coordinator, goes_on, going_on, greatest_number, is_seen, left, of_coordinator, onward, outward, refused_fails, runs_now, shard, still_made, still_of, stops, told_unless, without_id, writing}
use Rattle.refusal.specs.declared.refusal.Refusal.TheVariants.{Aborted}
use Rattle.refusal.proofs.Cases.{is_full}
use Rattle.records.specs.declared.record.Record.TheVariants.{Decision}
use Rattle.records.specs.Coordinators.{CoordinatorState, coordinator_state, coordinator_step}
use Rattle.records.specs.Format.{IsRecord}
use Rattle.records.specs.Replays.{without}
use Rattle.records.proofs.CoordinatorStates.{coordinator_push}
use Rattle.decisions.specs.Coordinators.{DecidesAt, HasNoPlace, HaveVoted, IsDecidedAbove, memory_of}
use Rattle.coordinator.specs.declared.decided.NotDecided.{NotDecided}
use Rattle.calls.specs.Views as views
use Rattle.calls.specs.declared.call.CoordinatorCall.TheVariants as coordinator_calls
use Rattle.calls.specs.declared.reply.CoordinatorReply.TheVariants as told
use Rattle.commit_flow.specs.Answering.{DecideGives, NotDecidedGives}
use Rattle.commit_flow.specs.WriteHolds as waits
use Rattle.laws.specs.Nodes.{CoordinatorKnows, staged_of}
use Rattle.stores.specs.Causes.{IsFull}
use Rattle.stores.specs.DecidingLaws.{IsDecider, with_decided, with_write}
use Rattle.turns.specs.SeamLaws.{behind}
use Rattle.turns.proofs.DecideCauses.{decide_has_cause}
use Rattle.turns.proofs.DecideSeam.{decide_turns}
use Rattle.turns.proofs.ShardPrepareSeam.{last_sync}
use Rattle.flow_turns.proofs.Catching.{may_ask_coordinator}
use Rattle.flow_turns.proofs.Going.{IsFlow, Promises, asks_own, calls_coordinator, flow_there, goes_out, going, holds_is, moved, none_decided, right, stays_so}
use Rattle.flow_turns.proofs.Memory.{devices, made}
use Rattle.shard.proofs.Tested.{fit}

-- the decision of an intent at a place can be spelled
decision_record : (w : Entry) (place : ℕ) → IsIntent w → place ≤ greatest_number → IsRecord (Decision place w)
decision_record w place intent fits = record { place_fits = omega (arith, fits); id = intent.id.begun; write = intent.whole; wants = fit w.conditions intent.places }

-- a decision raises no horizon
same_horizon : (rs staged : List Record) (place : ℕ) (w : Entry) → (coordinator_state (rs ++ (staged ++ Decision place w ∷ []))).horizon ≡ (coordinator_state (rs ++ staged)).horizon
unfolding coordinator_step
same_horizon rs staged place w =
    ap (λ (l : List Record). (coordinator_state l).horizon) (sym (append_assoc rs staged (Decision place w ∷ [])))
    ∙ ap (λ (c : CoordinatorState). c.horizon) (coordinator_push (rs ++ staged) (Decision place w))

module _ {D : Type 0} (state : D → State) (honest : D → Type 0) (moment : D → ℕ) (left_since : D → ℕ → List ℕ → Type 0)
    (counts_now : (d : D) (t : ℕ) (c : List ℕ) → honest d → t ≤ moment d → left (state d) c → left_since d t c) (only_now : (d : D) (c : List ℕ) → honest d → left_since d (moment d) c → left (state d) c)
    (store shards : ℕ) (old new : Store D) (slot : ℕ) (is_cancelled : Bool) (v later : WriteView) (number : ℕ) (now : Moment) (standing : StandsOver state honest store shards old now)
    (r : Running) (flow : IsFlow state honest moment left_since store shards old new now standing number slot is_cancelled v r) (way : IsOnItsWay v) (some : 1 ≤ shards)
    (intent : IntentValue) (votes : List VoteValue) (has : v.holds.intent ≡ Some intent) (has_id : v.holds.id ≡ Some intent.write.id) (has_votes : v.holds.votes ≡ votes) (voted : HaveVoted shards intent.write votes)
    (whole : IsIntent intent.write) (again : Bool) where
  abbrev Goal : WriteView → Type 0
  Goal = Promises state honest moment left_since store shards old new now standing number slot is_cancelled v

  abbrev before : NodeName → List Record → Type 0
  before = stops state honest store shards old.devices

  abbrev w : Entry
  w = intent.write

  abbrev mid : WriteView
  mid = record v { holds = record v.holds { intent = None; votes = [] }; awaited = Some (waits.decide again) }

  undecided : r.decided ≡ None
  undecided = none_decided state honest moment left_since store shards old new now standing number slot is_cancelled v r flow way.1

  own : IsUndecidedFlow now r v.holds w
  own = record {
    running = flow.running;
    asked = asks_own state honest moment left_since store shards old new now standing number slot is_cancelled v r flow intent has has_id;
    holds = holds_is state honest moment left_since store shards old new now standing number slot is_cancelled v r flow;
    id = has_id;
    undecided = undecided;
  }

  decider : IsDecider store shards before now r v.holds w
  decider = record { running = own.running; asked = own.asked; holds = own.holds; id = has_id; onward_still = way.0 }

  -- a stop leaves some records of each shard
  some_left : (s : ℕ) → s < shards → (rs : List Record) × before (shard s) rs
  some_left s lt =
      let d = old.devices (shard s) in
      let rs = standing.sound.readable (shard s) (state d.0).durable (state d.1).durable lt (last_sync (state d.0)) (last_sync (state d.1)) in
      (rs.0, ((state d.0).durable, (state d.1).durable, last_sync (state d.0), last_sync (state d.1), rs.1))

  alive : r.is_cancelled ≡ false
  alive = by_bool r.is_cancelled refl
    where
      by_bool : (b : Bool) → r.is_cancelled ≡ b → r.is_cancelled ≡ false
      by_bool false is = is
      by_bool true is =
          let gone = (right state honest moment left_since store shards old new now standing number slot is_cancelled v r flow).cancelled is undecided in
          let both = sym way.0 ∙ gone.1 in
          absurd cc

  module _ (x y : CoordinatorView D) (called : IsCalled state honest moment left_since store shards coordinator (views.coordinator x) (views.coordinator y) old new) (is_up : x.is_down ≡ false)
      (d : DecidedValue) (decides : DecidesAt x w d y) where
    abbrev next : Nodes
    next = behind now.nodes y (without w.id now.nodes.open_writes)

    abbrev decided : Running
    decided = with_decided store shards before now r v.holds w

    abbrev m : Machine
    m = with_write now.machine w

    law : IsSeen next y × Stands store shards before (going_on now next m decided) × Turns shards (NamesHorizon state honest store shards old now) now r (goes_on ∷ []) (going_on now next m decided)
    law = decide_turns store shards before D now x y w d r v.holds intent standing.stands some some_left (is_seen state honest store shards old now standing x called.before is_up) decides decider has
        (subst (HaveVoted shards w) (sym has_votes) voted)

    same_devices_then : new.devices ≡ old.devices
    same_devices_then = devices state honest moment left_since only_now store shards old new now standing x y called is_up (x.staged ++ Decision d.place w ∷ []) (without_id w.id x.open_ids) x.given decides.new_is

    staged_now : staged_of (next.at coordinator) ≡ x.staged ++ Decision d.place w ∷ []
    staged_now = ap (λ (z : CoordinatorView D). z.staged) decides.new_is

    staged_then : staged_of (now.nodes.at coordinator) ≡ x.staged
    staged_then = ap staged_of (is_seen state honest store shards old now standing x called.before is_up).at

    -- each horizon was named before
    named : (h : ℕ) → IsHorizonIn store shards (stops state honest store shards new.devices) next h → Contains now.named h ⊎ NamesHorizon state honest store shards old now h
    named h (high, (rs, (was, is_left, is), is_h)) = inr (
      high,
      ⊎_elim
          (λ plain. (was, (was, left_then, inl refl), ap (λ (l : List Record). (coordinator_state l).horizon) (sym plain) ∙ is_h))
          (λ more. (
            was ++ x.staged,
            (was, left_then, inr (ap (λ (l : List Record). was ++ l) (sym staged_then))),
            sym (same_horizon was x.staged d.place w) ∙ ap (λ (l : List Record). (coordinator_state (was ++ l)).horizon) (sym staged_now) ∙ ap (λ (l : List Record). (coordinator_state l).horizon) (sym more) ∙ is_h,
          ))
          is,
    )
      where
        left_then : before coordinator was
        left_then = subst (λ (f : NodeName → D × D). stops state honest store shards f coordinator was) same_devices_then is_left

    made_so : IsMade state honest moment left_since store shards old new now next m
    made_so = made state honest moment left_since only_now store shards old new now standing x y called is_up (x.staged ++ Decision d.place w ∷ []) (without_id w.id x.open_ids) x.given decides.new_is
        next law.0 (λ t. refl) m named

    known : CoordinatorKnows now.nodes (coordinator_state x.durable) (memory_of x)
    known = record { durable = x.durable; staged = x.staged; is_up = (is_seen state honest store shards old now standing x called.before is_up).at; durable_state = refl; replayed = refl }

    make : ℕ → ℕ → DecidedValue
    make n e = record { place = n; epoch = e }

    same_decision : make (length now.machine.log + 1) w.id.epoch ≡ d
    unfolding make
    same_decision =
        let place = decides.place ∙ ap (λ (n : ℕ). n + 1) (standing.stands.heads.log _ _ known) in
        let epoch = decides.epoch ∙ sym decides.own_epoch in
        sym (ap (λ (n : ℕ). make n d.epoch) place ∙ ap (make (length now.machine.log + 1)) epoch)

    holds_so : decided.holds ≡ writing (record v.holds { intent = None; votes = []; decided = Some d })
    unfolding make
    holds_so = ap (λ (z : DecidedValue). writing (record v.holds { intent = None; votes = []; decided = Some z })) same_decision

    decided_up : DecideGives mid again (Ok d) later → Goal later
    decided_up is = subst Goal (sym is)
        (going state honest moment left_since store shards old new now standing number slot is_cancelled v r flow next m (record v.holds { intent = None; votes = []; decided = Some d }) None false w.id
        decided made_so has_id refl holds_so refl (
          moved state honest moment left_since store shards old new now standing number slot is_cancelled v same_devices_then _ law.1,
          subst (λ t. Turns shards (NamesHorizon state honest store shards old now) now r t (going_on now next m decided)) (ap told_unless (sym alive)) law.2,
        ))

  -- no decision: the votes came back, and the intent or not
  module _ (back : NotDecided) (same_votes : back.votes.items ≡ votes) where
    less : (o : Option IntentValue) → ((i : IntentValue) → o ≡ Some i → i ≡ intent) → HoldsLess v.holds (record v.holds { intent = o; votes = back.votes.items; way = outward (Some back.refusal); batch = None })
    less o own_back = record {
      id = refl;
      intent = λ i is. has ∙ ap (λ (z : IntentValue). Some z) (sym (own_back i is));
      tickets = λ t there. there;
      votes = λ z there. subst (λ (zs : List VoteValue). Contains zs z) (same_votes ∙ sym has_votes) there;
      decided = refl;
      batch = λ b is. absurd cc;
      verdict = λ id is. is;
      gave = λ is. let both : outward (Some back.refusal) ≡ onward = is in absurd cc;
    }

    -- the intent is spent, and the write goes out
    spent : (next : Nodes) → (quiet : IsQuietlyMade state honest moment left_since store shards old new now standing next now.machine) → ((ran : Moment) → ran.nodes ≡ next → HasItsCause shards quiet.0.node now ran r back.refusal)
        → (o : Option IntentValue) → ((i : IntentValue) → o ≡ Some i → i ≡ intent) → GoesOut (record v.holds { intent = o; votes = back.votes.items }) back.refusal later → Goal later
    spent next quiet cause o own_back is = subst Goal (sym is)
        (goes_out state honest moment left_since store shards old new now standing number slot is_cancelled v r flow next now.machine quiet
        (record v.holds { intent = o; votes = back.votes.items; way = outward (Some back.refusal); batch = None }) w.id back.refusal has_id way.1 (less o own_back) refl cause)

    gone : (fails : FailsQuietly state honest moment left_since store shards old new now standing coordinator back.refusal) → back.intent ≡ None → NotDecidedGives mid again back.refusal back.intent back.votes.items later → Goal later
    gone fails none gives = spent fails.0 fails.1 (λ ran same. (fails.2 r ran same (calls_coordinator shards r w.changes w.conditions own.asked)).0) None (λ i is. absurd cc)
        (subst (λ (o : Option IntentValue). NotDecidedGives mid again back.refusal o back.votes.items later) none gives)

    module _ (x y : CoordinatorView D) (called : IsCalled state honest moment left_since store shards coordinator (views.coordinator x) (views.coordinator y) old new) (is_up : x.is_down ≡ false) (same : y ≡ x) where
      abbrev quiet : IsQuietlyMade state honest moment left_since store shards old new now standing now.nodes now.machine
      quiet = still_of state honest moment left_since store shards old new now standing coordinator
          (still_made state honest moment left_since store shards old new now standing coordinator (views.coordinator x) (views.coordinator y) called only_now (ap views.coordinator same))

      seen : IsSeen now.nodes x
      seen = is_seen state honest store shards old now standing x called.before is_up

      full_cause : (ran : Moment) → HasNoPlace x w → HasItsCause shards coordinator now ran r Full
      full_cause ran none = ⊎_elim
          (λ room. inl ((decide_has_cause store shards before D now ran x r v.holds w intent standing.stands seen own has).1 (decision_record w (end_of (memory_of x) + 1) whole (omega (arith, room))) none))
          (λ high.
          let known : CoordinatorKnows now.nodes (coordinator_state x.durable) (memory_of x) = record { durable = x.durable; staged = x.staged; is_up = seen.at; durable_state = refl; replayed = refl } in
          let at = standing.stands.heads.log _ _ known in
          inl (subst (IsFull shards coordinator now r) (sym own.asked) (inr (refl, inr (inr (omega (arith, high, at)))))))
          (cases_lt (end_of (memory_of x)) greatest_number)

      up_refused : (i : IntentValue) → back.intent ≡ Some i → i ≡ intent → ((back.refusal ≡ Full) ⊎ (back.refusal ≡ NoMemory)) → (back.refusal ≡ Full → HasNoPlace x w)
          → NotDecidedGives mid again back.refusal back.intent back.votes.items later → Goal later
      up_refused i is_i same_i of room gives = by_full (is_full back.refusal) again refl
        where
          gives_i : NotDecidedGives mid again back.refusal (Some i) back.votes.items later
          gives_i = subst (λ (o : Option IntentValue). NotDecidedGives mid again back.refusal o back.votes.items later) is_i gives

          cause : (ran : Moment) → HasItsCause shards coordinator now ran r back.refusal
          cause ran = ⊎_elim
              (λ full. subst (HasItsCause shards coordinator now ran r) (sym full) (full_cause ran (room full)))
              (λ memory. subst (HasItsCause shards coordinator now ran r) (sym memory) (inl (subst TakesMemory (sym own.asked) tt)))
              of

          out : (back.refusal ≢ Full) ⊎ (again ≡ true) → Goal later
          out why = spent now.nodes quiet (λ ran here. cause ran) (Some i) (λ z is. let one : i ≡ z = cc in sym one ∙ same_i) (gives_i.1 why)

          make : Option IntentValue → List VoteValue → WriteHolds
          make o zs = record v.holds { intent = o; votes = zs }

          whole_again : make (Some i) back.votes.items ≡ make v.holds.intent v.holds.votes
          whole_again = ap (λ (o : Option IntentValue). make o back.votes.items) (ap (λ (z : IntentValue). Some z) same_i ∙ sym has) ∙ ap (make v.holds.intent) (same_votes ∙ sym has_votes)

          wait : back.refusal ≡ Full → again ≡ false → Goal later
          wait full first = stays_so state honest moment left_since store shards old new now standing number slot is_cancelled v r flow now.nodes now.machine quiet later None false w.id has_id
              (gives_i.0 full first ∙ ap at_rest whole_again)

          by_full : (back.refusal ≡ Full) ⊎ (back.refusal ≢ Full) → (b : Bool) → again ≡ b → Goal later
          by_full (inl full) true at = out (inr at)
          by_full (inl full) false at = wait full at
          by_full (inr other) b at = out (inl other)

      up_spent : (back.refusal ≡ Aborted) → back.intent ≡ None → (Contains x.open_ids w.id → ⊥) ⊎ IsDecidedAbove x w.id → NotDecidedGives mid again back.refusal back.intent back.votes.items later → Goal later
      up_spent aborted none cut gives = spent now.nodes quiet
          (λ ran here. subst (HasItsCause shards coordinator now ran r) (sym aborted) (inl ((decide_has_cause store shards before D now ran x r v.holds w intent standing.stands seen own has).0 cut)))
          None (λ i is. absurd cc) (subst (λ (o : Option IntentValue). NotDecidedGives mid again back.refusal o back.votes.items later) none gives)

      by_spent : (back.refusal ≡ Aborted → (Contains x.open_ids w.id → ⊥) ⊎ IsDecidedAbove x w.id) → (back.refusal ≡ Down → ⊥) → (back.refusal ≡ Full → HasNoPlace x w)
          → (((back.refusal ≡ Down) ⊎ (back.refusal ≡ Aborted)) × (back.intent ≡ None)) ⊎ (((back.refusal ≡ Full) ⊎ (back.refusal ≡ NoMemory)) × (back.intent ≡ Some intent))
          → NotDecidedGives mid again back.refusal back.intent back.votes.items later → Goal later
      by_spent cut not_down room (inl (inl down, none)) gives = absurd (not_down down)
      by_spent cut not_down room (inl (inr aborted, none)) gives = up_spent aborted none (cut aborted) gives
      by_spent cut not_down room (inr (of, is)) gives = up_refused intent is refl of room gives

  module _ (ballot : Vec VoteValue) (same_ballot : ballot.items ≡ votes) where
    refused_by : (back : NotDecided) → FailsQuietly state honest moment left_since store shards old new now standing coordinator back.refusal → back.intent ≡ None → back.votes.items ≡ ballot.items
        → NotDecidedGives mid again back.refusal back.intent back.votes.items later → Goal later
    refused_by back fails none same gives = gone back (same ∙ same_ballot) fails none gives

    decide_by : (was is : NodeView D) (reply : Result DecidedValue NotDecided) → IsCalled state honest moment left_since store shards coordinator was is old new
        → Answered state honest moment left_since was (of_coordinator (coordinator_calls.Decide intent ballot)) (from_coordinator (told.Decide reply)) is → DecideGives mid again reply later → Goal later
    decide_by (views.coordinator x) (views.coordinator y) (Ok d) called so gives = ⊎_elim
        (λ down. absurd (true≢false (sym (so.was_up down))))
        (λ is_up. decided_up x y called is_up d (so.ok (runs_now state honest store shards old now standing x called.before is_up)).0 gives)
        (cases_Bool x.is_down)
    decide_by (views.coordinator x) (views.coordinator y) (Err back) called so gives = ⊎_elim
        (λ down.
        let is = so.down.1 down in
        refused_by back (subst (FailsQuietly state honest moment left_since store shards old new now standing coordinator) (sym is)
        (down_coordinator_fails state honest moment left_since counts_now only_now store shards old new now standing x y Down called so.same down refl)) (spent_if is so.spent) so.votes_back gives)
        (λ is_up.
        let runs = runs_now state honest store shards old now standing x called.before is_up in
        by_spent back (so.votes_back ∙ same_ballot) x y called is_up so.same (so.aborted runs).0 (λ is. let both : true ≡ false = sym (so.down.0 is) ∙ is_up in cc) (so.full runs) so.spent gives)
        (cases_Bool x.is_down)
      where
        spent_if : back.refusal ≡ Down → (((back.refusal ≡ Down) ⊎ (back.refusal ≡ Aborted)) × (back.intent ≡ None)) ⊎ (((back.refusal ≡ Full) ⊎ (back.refusal ≡ NoMemory)) × (back.intent ≡ Some intent)) → back.intent ≡ None
        spent_if is (inl (of, none)) = none
        spent_if is (inr (inl full, some_back)) = let both : Down ≡ Full = sym is ∙ full in absurd cc
        spent_if is (inr (inr memory, some_back)) = let both : Down ≡ NoMemory = sym is ∙ memory in absurd cc
    decide_by (views.coordinator x) (views.shard y) reply called so gives = absurd so
    decide_by (views.coordinator x) (views.refused e a b) reply called so gives = absurd so
    decide_by (views.shard x) is reply called so gives = absurd called.before.named
    decide_by (views.refused e a b) is (Ok d) called so gives = absurd so.1
    decide_by (views.refused e a b) is (Err back) called so gives =
        refused_by back (refused_fails state honest moment left_since counts_now only_now store shards old new now standing coordinator e back.refusal a b is called so.0 so.1.0) so.1.1 so.1.2 gives

    decide_reply : (was is : NodeView D) (reply : Reply) → IsCalled state honest moment left_since store shards coordinator was is old new
        → Answered state honest moment left_since was (of_coordinator (coordinator_calls.Decide intent ballot)) reply is → IsReplyTo (of_coordinator (coordinator_calls.Decide intent ballot)) reply
        → GivesTo mid (waits.decide again) reply later → Goal later
    decide_reply was is (from_coordinator (told.Decide reply)) called so fits gives = decide_by was is reply called so gives
    decide_reply was is reply called so fits gives = absurd fits

module _ {D : Type 0} (state : D → State) (honest : D → Type 0) (moment : D → ℕ) (left_since : D → ℕ → List ℕ → Type 0)
    (counts_now : (d : D) (t : ℕ) (c : List ℕ) → honest d → t ≤ moment d → left (state d) c → left_since d t c) (only_now : (d : D) (c : List ℕ) → honest d → left_since d (moment d) c → left (state d) c)
    (store shards : ℕ) where
  pub decides_turn : (intent : IntentValue) (ballot : Vec VoteValue) → TurnsBy state honest moment left_since store shards (of_coordinator (coordinator_calls.Decide intent ballot))
  decides_turn intent ballot old new slot is_cancelled v later c number now standing =
      let flow = flow_there state honest moment left_since store shards old new now standing number slot is_cancelled v _ c.slots in
      let gives = subst (λ (x : WriteView). MatchOption x.awaited ⊥ (λ awaited. GivesTo x awaited c.reply later)) c.asks.1.4 c.gives in
      let fits = answered_belongs state honest moment left_since c.was (of_coordinator (coordinator_calls.Decide intent ballot)) c.reply c.is
      (may_ask_coordinator store shards c.was (coordinator_calls.Decide intent ballot) c.node.before.named c.asks.0) c.answered in
      decide_reply state honest moment left_since counts_now only_now store shards old new slot is_cancelled v later number now standing flow.0 flow.1 c.asks.1.0 c.some intent ballot.items c.asks.1.1 c.asks.1.2
      c.asks.1.3 c.asks.0 c.whole v.flushed ballot refl c.was c.is c.reply c.node c.answered fits gives c.slots
