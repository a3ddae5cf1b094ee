-- A write that came to nothing stays so: its id is given to no other, and no flow that holds it is left to list it.
use Rattle.std.proofs.Common.{◌≡◌, ◌≢◌, ◌⊎◌, inl, inr, ⊎_elim, ◌≤◌, ◌<◌, ◌+◌, ◌==◌, ◌++◌, ℕ, zero, suc, Bool, true, false, List, [], ◌∷◌, Option, Some, None, Contains, All, slice_get, refl, sym, ◌∙◌, ap, subst, arith, append_assoc, if◌then◌else◌}
use Rattle.std.proofs.lemmas.List.{append-nil}
use Rattle.std.proofs.lemmas.List.Elements.{Contains-append_right}
use Rattle.headline.proofs.Words.{Asked, CoordinatorKnows, CoordinatorState, DecidesNothing, EndsAs, Entry, Epoch, IfRunning, IsOfOpening, IsPast, IsUnlisted, Machine, MayRise, Moment, Move, Moves, NamesHorizon, NodeName, NodeState, Nodes, Ran, Record, Restarts, Running, StandsOver, State, Store, Told, Turns, WriteId, alone, answered, append, coordinator, coordinator_push, coordinator_state, cut, down, ended, found_at, id_of, keep, raise, ran_before, refused, refuses, reopened, replaced, restart, shard, turn, up}
use Rattle.records.specs.Coordinators.{coordinator_step}
use Rattle.records.proofs.CoordinatorStates.{state_of_more}
use Rattle.laws.specs.Nodes.{IsGivenBy, NodeTurns, SameBut}
use Rattle.stores.specs.Moments.{begun, flow_at}
use Rattle.turns.specs.Runs.{Decides, Event, IsCancelled, IsQuiet, OpenTurns, Step, Takes, began, came_up, cancel, goes_on, start}
use Rattle.stores.proofs.DecisionNodes.{epoch_stays}
use Rattle.turns.proofs.RunLogs.{opened_log}
use Rattle.stores.proofs.FlowBegins.{no_id}
use Rattle.headline.specs.PastWrites.{PastWritesAreNeverListed, PastWritesStay}
use Rattle.tuples.proofs.Lists.{slice_get_push, first_or_later}

-- a flow of a list in which one was replaced is that one, or was there
in_replaced : (later : Running) (rs : List Running) (q : Running) → Contains (replaced later rs) q → (q ≡ later) ⊎ Contains rs q
in_replaced later [] q has = inr has
in_replaced later (x ∷ rs) q has = by_slot (x.slot == later.slot) has (in_replaced later rs q)
  where
    by_slot : (b : Bool) → Contains (if b then later ∷ rs else x ∷ replaced later rs) q → (Contains (replaced later rs) q → (q ≡ later) ⊎ Contains rs q) → (q ≡ later) ⊎ Contains (x ∷ rs) q
    by_slot true is rest = ⊎_elim (λ same. inl (sym same)) (λ further. inr (Contains-append_right (x ∷ []) rs q further)) (first_or_later later q rs is)
    by_slot false is rest = ⊎_elim
        (λ same. inr (subst (Contains (x ∷ rs)) same (alone x rs)))
        (λ further. ⊎_elim (λ here. inl here) (λ there. inr (Contains-append_right (x ∷ []) rs q there)) (rest further))
        (first_or_later x q (replaced later rs) is)

-- flows that an opening found hold what they held
in_reopened : (rs : List Running) (q : Running) → Contains (reopened rs) q → (r : Running) × Contains rs r × (q.holds ≡ r.holds)
in_reopened [] q has = absurd (omega (arith, has.1))
in_reopened (r ∷ rs) q has = ⊎_elim
    (λ same. (r, alone r rs, ap (λ (x : Running). x.holds) (sym same)))
    (λ further. let one = in_reopened rs q further in (one.0, Contains-append_right (r ∷ []) rs one.0 one.1, one.2))
    (first_or_later (record r { is_reopened = true }) q (reopened rs) has)

pub no_value : {X : Type 0} {x : X} → None ≡ Some x → ⊥
no_value is = cc

-- moves that append nothing list no more
no_more : (P : ℕ → Type 0) (moves : List Move) → All (IsQuiet P) moves → All (IsOfOpening P) moves
no_more P moves all j d lt = of_opening _ (all j d lt)
  where
    of_opening : (move : Move) → IsQuiet P move → IsOfOpening P move
    of_opening (append w) quiet = quiet
    of_opening (keep i) quiet = tt
    of_opening (cut i) quiet = tt
    of_opening (raise x) quiet = quiet

opened_on : (P : ℕ → Type 0) (m n : Machine) (moves : List Move) (id : WriteId) → All (IsOfOpening P) moves → Moves m moves n → IsUnlisted id m.log → IsUnlisted id n.log
opened_on P m n moves id all moved none j w at = opened_log P m n moves all moved 0 id (λ i x is low. none i x is) j w at (omega arith)

pub quiet_on : (P : ℕ → Type 0) (m n : Machine) (moves : List Move) (id : WriteId) → All (IsQuiet P) moves → Moves m moves n → IsUnlisted id m.log → IsUnlisted id n.log
quiet_on P m n moves id all moved none = opened_on P m n moves id (no_more P moves all) moved none

-- the records of a node
abbrev pub records_of : NodeState → List Record
records_of (up durable staged) = durable ++ staged
records_of down = []
records_of (refused e) = []

-- a coordinator that is up after a call was up before it, in the same epoch
abbrev StaysUp : NodeState → NodeState → Type 0
StaysUp old new = (durable staged : List Record) → new ≡ up durable staged
    → (d : List Record) × (g : List Record) × (old ≡ up d g) × ((coordinator_state (durable ++ staged)).epoch ≡ (coordinator_state (d ++ g)).epoch)

stays_up : (old new : NodeState) → NodeTurns coordinator old new → StaysUp old new
stays_up old new (inl same) durable staged is = (durable, staged, sym same ∙ is, refl)
stays_up old new (inr (inl more)) durable staged is = (more.durable, more.staged, more.was, same_epoch)
  where
    none : (a b c d : ℕ) → Contains (more.next ∷ []) (Epoch a b c d) → ⊥
    none a b c d (zero, lt, at) = more.no_opening a b c d at
    none a b c d (suc k, lt, at) = omega (arith, lt)

    all : durable ++ staged ≡ (more.durable ++ more.staged) ++ more.next ∷ []
    all = ap records_of (sym is ∙ more.now) ∙ sym (append_assoc more.durable more.staged (more.next ∷ []))

    same_epoch : (coordinator_state (durable ++ staged)).epoch ≡ (coordinator_state (more.durable ++ more.staged)).epoch
    same_epoch = ap (λ (l : List Record). (coordinator_state l).epoch) all
        ∙ ap (λ (c : CoordinatorState). c.epoch) (state_of_more (more.durable ++ more.staged) (more.next ∷ []))
        ∙ epoch_stays (coordinator_state (more.durable ++ more.staged)) (more.next ∷ []) none
stays_up old new (inr (inr (inl all))) durable staged is = (
  all.durable,
  all.staged,
  all.was,
  ap (λ (l : List Record). (coordinator_state l).epoch) (ap records_of (sym is ∙ all.now) ∙ append-nil all.records) ∙ all.stand_for.0.epoch,
)
stays_up old new (inr (inr (inr gone))) durable staged is = let bad : down ≡ up durable staged = sym gone.now ∙ is in absurd cc

-- so of any call of one node
pub coordinator_stays : (n : NodeName) (old new : Nodes) → SameBut n old new → NodeTurns n (old.at n) (new.at n) → StaysUp (old.at coordinator) (new.at coordinator)
coordinator_stays coordinator old new others turns = stays_up (old.at coordinator) (new.at coordinator) turns
coordinator_stays (shard s) old new others turns = stays_up (old.at coordinator) (new.at coordinator) (inl (others.others coordinator (λ is. cc)))

module _ {D : Type 0} (state : D → State) (honest : D → Type 0) (moment : D → ℕ) (left_since : D → ℕ → List ℕ → Type 0) (store shards : ℕ) where
  -- an id that the coordinator gave it gave, if it stays up and gives no fewer
  pub given_by_it : (before after : Nodes) (id : WriteId) → StaysUp (before.at coordinator) (after.at coordinator) → before.given ≤ after.given
      → ((kept memory : CoordinatorState) → CoordinatorKnows before kept memory → IsGivenBy before memory id) → (kept memory : CoordinatorState) → CoordinatorKnows after kept memory → IsGivenBy after memory id
  given_by_it before after id stays le given kept memory k =
      let was = stays k.durable k.staged k.is_up in
      let gave = given (coordinator_state was.0) (coordinator_state (was.0 ++ was.1)) (record { durable = was.0; staged = was.1; is_up = was.2; durable_state = refl; replayed = refl }) in
      let same : memory.epoch ≡ (coordinator_state (was.0 ++ was.1)).epoch = ap (λ (c : CoordinatorState). c.epoch) k.replayed ∙ was.3 in
      ⊎_elim (λ earlier. inl (omega (arith, earlier, same))) (λ now. inr (now.0 ∙ sym same, omega (arith, now.1, le))) gave

  pub more_given : (old new : Nodes) (r later : Running) → OpenTurns old new r later → old.given ≤ new.given
  more_given old new r later (inl (keeps, same)) = omega (arith, keeps.given)
  more_given old new r later (inr (inl opens)) = omega (arith, opens.given)
  more_given old new r later (inr (inr closes)) = omega (arith, closes.given)

  -- no flow takes an id that was given to another
  module _ (old : Store D) (now : Moment) (id : WriteId) (past : IsPast state honest moment left_since store shards old now id) (r : Running) (running : Contains now.running r) where
    later_unheld : (next : Nodes) (later : Running) → OpenTurns now.nodes next r later → ((i : WriteId) → id_of r.holds ≡ Some i → id_of later.holds ≡ Some i) → id_of later.holds ≢ Some id
    later_unheld next later (inl (keeps, same)) keeps_id is = past.unheld r running (sym same ∙ is)
    later_unheld next later (inr (inl opens)) keeps_id is =
        let both : Some opens.write.id ≡ Some id = sym opens.held ∙ is in
        let own : opens.write.id ≡ id = cc in
        let epoch : id.epoch ≡ opens.memory.epoch = ap (λ (i : WriteId). i.epoch) (sym own) ∙ opens.epoch in
        let number : id.number ≡ now.nodes.given + 1 = ap (λ (i : WriteId). i.number) (sym own) ∙ opens.number in
        ⊎_elim (λ earlier. omega (arith, earlier, epoch)) (λ of_now. omega (arith, of_now.1, number)) (past.given.now opens.kept opens.memory opens.knows)
    later_unheld next later (inr (inr closes)) keeps_id is =
        let kept = keeps_id closes.id closes.held in
        past.unheld r running (closes.held ∙ sym kept ∙ is)

    not_decided : (f : ℕ → Type 0) (moves : List Move) (after : Moment) (later : Running) → Moves now.machine moves after.machine
        → Decides shards f now r moves after later ⊎ DecidesNothing shards f now r moves later → IsUnlisted id after.machine.log
    not_decided f moves after later moved (inl d) =
        let one : Moves now.machine (append d.write ∷ []) after.machine = subst (λ (l : List Move). Moves now.machine l after.machine) d.moves_are moved in
        let longer : after.machine.log ≡ now.machine.log ++ d.write ∷ [] = ap (λ (m : Machine). m.log) one.2 ∙ ap (λ (m : Machine). m.log) one.1.1 in
        λ j w is same_id. ⊎_elim
        (λ there. past.unlisted j w there same_id)
        (λ new. past.unheld r running (d.held ∙ ap (λ (e : Entry). Some e.id) new.1 ∙ ap (λ (i : WriteId). Some i) (sym same_id)))
        (slice_get_push now.machine.log d.write w j (ap (λ (l : List Entry). slice_get l j) (sym longer) ∙ is))
    not_decided f moves after later moved (inr nothing) = quiet_on (MayRise shards f now) now.machine after.machine moves id nothing.moves_are moved past.unlisted

  module _ (old new : Store D) (now : Moment) (number : ℕ) (id : WriteId) (past : IsPast state honest moment left_since store shards old now id) where
    abbrev named : ℕ → Type 0
    named = NamesHorizon state honest store shards old now

    of_new : (step : Step) (events : List Event) (ran : Ran state honest moment left_since store shards old now number step events new)
        → ((kept memory : CoordinatorState) → CoordinatorKnows ran.after.nodes kept memory → IsGivenBy ran.after.nodes memory id) → IsUnlisted id ran.after.machine.log
        → ((r : Running) → Contains ran.after.running r → id_of r.holds ≢ Some id) → IsPast state honest moment left_since store shards new ran.after id
    of_new step events ran given unlisted unheld = record { given = record { epoch = ran.given id past.given.epoch; now = given }; unlisted = unlisted; unheld = unheld }

    -- what a moment says of the id
    record StaysPast (after : Moment) : Type 0 where
      given : (kept memory : CoordinatorState) → CoordinatorKnows after.nodes kept memory → IsGivenBy after.nodes memory id
      unlisted : IsUnlisted id after.machine.log
      unheld : (r : Running) → Contains after.running r → id_of r.holds ≢ Some id

    here : StaysPast now
    here = record { given = past.given.now; unlisted = past.unlisted; unheld = past.unheld }

    idle : (after : Moment) → after ≡ now → StaysPast after
    idle after same = subst StaysPast (sym same) here

    not_replaced : (later : Running) → id_of later.holds ≢ Some id → (rs : List Running) → rs ≡ replaced later now.running → (q : Running) → Contains rs q → id_of q.holds ≢ Some id
    not_replaced later ne rs is q has holds = ⊎_elim
        (λ same. ne (ap (λ (x : Running). id_of x.holds) (sym same) ∙ holds))
        (λ there. past.unheld q there holds)
        (in_replaced later now.running q (subst (λ (l : List Running). Contains l q) is has))

    not_ended : (slot : ℕ) (rs : List Running) → rs ≡ ended slot now.running → (q : Running) → Contains rs q → id_of q.holds ≢ Some id
    not_ended slot rs is q has holds = past.unheld q (ran_before slot now.running q (subst (λ (l : List Running). Contains l q) is has)) holds

    turned : (slot : ℕ) (o : Option Running) → flow_at slot now.running ≡ o → (told : List Told) (after : Moment) → IfRunning shards named (Turns shards named) o now told after → StaysPast after
    turned slot None at told after is = idle after is.1
    turned slot (Some r) at told after is = record {
      given = given_by_it now.nodes after.nodes id (coordinator_stays is.node now.nodes after.nodes is.others is.called) (more_given now.nodes after.nodes r is.later is.open_writes) past.given.now;
      unlisted = not_decided old now id past r running named is.moves after is.later is.machine is.turned.decides;
      unheld = unheld;
    }
      where
        running : Contains now.running r
        running = (found_at slot now.running r at).0

        ne : id_of (is.later).holds ≢ Some id
        ne = later_unheld old now id past r running after.nodes is.later is.open_writes is.turned.same_id

        by_told : (t : Told) → EndsAs shards named now is.later after t → (q : Running) → Contains after.running q → id_of q.holds ≢ Some id
        by_told goes_on ends = not_replaced is.later ne after.running ends.0
        by_told (answered answer) ends = not_ended (is.later).slot after.running ends.1
        by_told (refuses e) ends = not_ended (is.later).slot after.running ends.1
        by_told (began slot) ends = absurd ends
        by_told came_up ends = absurd ends

        unheld : (q : Running) → Contains after.running q → id_of q.holds ≢ Some id
        unheld q has = ⊎_elim
            (λ loud. by_told loud.1.0 loud.1.2 q has)
            (λ silent. ⊎_elim
            (λ goes. not_replaced is.later ne after.running goes q has)
            (λ gone. not_ended (is.later).slot after.running gone q has)
            silent.2.1)
            is.tells

    cancelled : (slot : ℕ) (o : Option Running) → flow_at slot now.running ≡ o → (told : List Told) (after : Moment) → IfRunning shards named (IsCancelled shards named) o now told after → StaysPast after
    cancelled slot None at told after is = idle after is.1
    cancelled slot (Some r) at told after is = record {
      given = subst (λ (n : Nodes). (kept memory : CoordinatorState) → CoordinatorKnows n kept memory → IsGivenBy n memory id) (sym is.nodes) past.given.now;
      unlisted = subst (λ (m : Machine). IsUnlisted id m.log) (sym is.machine) past.unlisted;
      unheld = λ q has. ⊎_elim
          (λ goes. not_replaced goes.1.0 (λ holds. past.unheld r (found_at slot now.running r at).0 (sym goes.1.2 ∙ holds)) after.running goes.1.3 q has)
          (λ gone. not_ended r.slot after.running gone.1 q has)
          is.running;
    }

    started : (asked : Asked) (told : List Told) (after : Moment) → Takes shards named now (start asked) told after → StaysPast after
    started asked told after (inl (whole, inl (slot, free, few, tells, is))) = subst StaysPast (sym is) (record {
      given = past.given.now;
      unlisted = past.unlisted;
      unheld = λ q has holds. ⊎_elim
          (λ same. no_value (sym (no_id asked) ∙ ap (λ (x : Running). id_of x.holds) same ∙ holds))
          (λ there. past.unheld q there holds)
          (first_or_later (begun slot asked) q now.running has);
    })
    started asked told after (inl (whole, inr (many, tells, is))) = idle after is
    started asked told after (inr (away, (tells, is))) = idle after is

    -- the opening of a node again; that of the coordinator is of a later epoch
    restarted : (n : NodeName) (told : List Told) (after : Moment) → Restarts shards named now n told after
        → (n ≡ coordinator → (kept memory : CoordinatorState) → CoordinatorKnows after.nodes kept memory → id.epoch < memory.epoch) → StaysPast after
    restarted coordinator told after is above = record {
      given = λ kept memory k. inl (above refl kept memory k);
      unlisted = opened_on (MayRise shards named now) now.machine after.machine is.moves id is.allowed.0 is.machine past.unlisted;
      unheld = λ q has holds.
          let one = in_reopened now.running q (subst (λ (l : List Running). Contains l q) is.allowed.1 has) in
          past.unheld one.0 one.1 (ap id_of (sym one.2) ∙ holds);
    }
    restarted (shard s) told after is above = record {
      given = given_by_it now.nodes after.nodes id (stays_up (now.nodes.at coordinator) (after.nodes.at coordinator) (inl (is.others.others coordinator (λ same. cc))))
          (let same = is.others.given (λ same. cc) in omega (arith, same)) past.given.now;
      unlisted = subst (λ (m : Machine). IsUnlisted id m.log) (sym (subst (λ (l : List Move). Moves now.machine l after.machine) is.allowed.0 is.machine)) past.unlisted;
      unheld = λ q has. past.unheld q (subst (λ (l : List Running). Contains l q) is.allowed.1 has);
    }

    opened_above : (events : List Event) (ran : Ran state honest moment left_since store shards old now number (restart coordinator) events new) (kept memory : CoordinatorState)
        → CoordinatorKnows ran.after.nodes kept memory → id.epoch < memory.epoch
    unfolding coordinator_step
    opened_above events ran kept memory k =
        let comes = (ran.opens coordinator tt refl).came_up k.durable k.staged k.is_up in
        let low = past.given.epoch comes.was comes.was_left in
        let all : k.durable ++ k.staged ≡ comes.was ++ Epoch ((coordinator_state comes.was).epoch + 1) store shards 255 ∷ [] = ap records_of (sym k.is_up ∙ comes.is_up) ∙ append-nil _ in
        let is : (coordinator_state (k.durable ++ k.staged)).epoch ≡ (coordinator_state comes.was).epoch + 1 = ap (λ (l : List Record). (coordinator_state l).epoch) all
        ∙ ap (λ (c : CoordinatorState). c.epoch) (coordinator_push comes.was (Epoch ((coordinator_state comes.was).epoch + 1) store shards 255)) in
        let same : memory.epoch ≡ (coordinator_state (k.durable ++ k.staged)).epoch = ap (λ (c : CoordinatorState). c.epoch) k.replayed in
        omega (arith, low, is, same)

    by_step : (step : Step) (events : List Event) (ran : Ran state honest moment left_since store shards old now number step events new) → StaysPast ran.after
    by_step (start asked) events ran = started asked ran.told ran.after ran.takes
    by_step (turn slot) events ran = turned slot (flow_at slot now.running) refl ran.told ran.after ran.takes
    by_step (cancel slot) events ran = cancelled slot (flow_at slot now.running) refl ran.told ran.after ran.takes
    by_step (restart n) events ran = ⊎_elim
        (λ opens. restarted n ran.told ran.after opens.1 (above n ran))
        (λ away. idle ran.after away.1.1)
        ran.takes
      where
        above : (m : NodeName) (run : Ran state honest moment left_since store shards old now number (restart m) events new) → m ≡ coordinator → (kept memory : CoordinatorState) → CoordinatorKnows run.after.nodes kept memory → id.epoch < memory.epoch
        above coordinator run same = opened_above events run
        above (shard s) run same = let bad : shard s ≡ coordinator = same in absurd cc

  pub past_writes_stay : PastWritesStay state honest moment left_since store shards
  past_writes_stay old new now number step events id standing ran past =
      let stays = by_step old new now number id past step events ran in
      of_new old new now number id past step events ran stays.given stays.unlisted stays.unheld

  pub past_writes_are_never_listed : PastWritesAreNeverListed state honest moment left_since store shards
  past_writes_are_never_listed old new now number [] events id standing (none, same) past =
      (now, subst (λ (s : Store D). StandsOver state honest store shards s now) (sym same) standing, subst (λ (s : Store D). IsPast state honest moment left_since store shards s now id) (sym same) past)
  past_writes_are_never_listed old new now number (step ∷ steps) events id standing (mid, first, rest, one, all, is) past =
      let ran = one now standing in
      past_writes_are_never_listed mid new ran.after (number + 1) steps rest id ran.stands all (past_writes_stay old mid now number step first id standing ran past)
