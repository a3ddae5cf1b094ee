-- What a flow holds stays right across a step: one walk over all kinds of flow, from what the step keeps of the store and of the flow's write.
use Rattle.std.proofs.Common.{◌≡◌, ◌⊎◌, inl, inr, ⊎_elim, ℕ, ◌<◌, ◌≤◌, ◌+◌, ◌-◌, Bool, true, false, true≢false, ◌&&◌, ◌||◌, nat_lt, List, ◌++◌, length, take, drop, Option, Some, None, slice_get, Contains, refl, sym, ◌∙◌, ap, subst, arith}
use Rattle.std.proofs.Math.Path.{fun_ext}
use Rattle.std.proofs.lemmas.List.{drop-take, take-take}
use Rattle.std.specs.List.{flat_map}
use Rattle.stores.proofs.Words.{AreHeldHeads, AreRightHeads, Asked, BatchValue, CoordinatorKnows, CoordinatorState, DecidedValue, Entry, Freshness, HeadsHeld, HeadsValue, HeldTicket, HeldVote, HoldAfter, Holds, IntentValue, IsAsWanted, IsGivenOut, IsOpen, IsPlaceOf, IsRight, IsRightBatch, IsRightDecision, IsRightIntent, IsRightOwn, IsRightResolved, IsRightTicket, IsRightVerdict, IsRightVote, IsSelection, IsSettled, IsShardEpoch, IsStaged, IsUndecided, IsUnlisted, Moment, NodeName, NodeState, Record, Resolved, Running, ShardKnows, ShardState, Tuple, WasGiven, WriteHolds, WriteId, aborted, at_least, checking, collecting, committed, coordinator, down, exact, find_in_doubt, flushing, id_of, latest, learning, leaves, own_write, part, raising, reading, resolving, shard, shard_of, shard_state, slice_get_taken, staged_of, takes_part, there_after, there_below, to_check, to_collect, to_flush, to_learn, to_raise, to_read, to_resolve, to_watch, to_write, undecided, watching, writing}
use Rattle.tuples.specs.Log.{is_at}
use Rattle.tuples.proofs.Lists.{taken_there}
use Rattle.laws.specs.Walks.{IsWalk}
use Rattle.decisions.specs.Standing.{IsPromised}

-- A store of this many shards makes a step, which may be an opening of the coordinator: then the flows are marked with it. Given are both moments,
-- and what a stop leaves of each node before and after the step.
module _ (shards : ℕ) (left after : NodeName → List Record → Type 0) (now later : Moment) (opens : Bool) where
  -- A coordinator that is up was up before, in the same epoch: ids are not counted back, and the log has lost no write.
  pub record KnewBefore (memory : CoordinatorState) : Type 0 where
    pub kept : CoordinatorState
    pub before : CoordinatorState
    pub knew : CoordinatorKnows now.nodes kept before
    pub epoch : before.epoch ≡ memory.epoch
    pub given : now.nodes.given ≤ later.nodes.given
    pub log : (j : ℕ) (w : Entry) → slice_get now.machine.log j ≡ Some w → slice_get later.machine.log j ≡ Some w
    pub unopened : opens ≡ false

  -- a raise to this place that the coordinator took: it is kept or staged, or the coordinator went down
  abbrev pub IsTaken : (NodeName → List Record → Type 0) → Moment → ℕ → Type 0
  IsTaken leaves_at m x = (x ≤ m.machine.horizon) ⊎ (IsStaged shards leaves_at m.nodes x ⊎ (m.nodes.at coordinator ≡ down))

  -- What a step keeps of the store: what was kept; which ids are listed, open and given out; how often nodes were opened and what they have learned.
  pub record KeepsStore : Type 0 where
    pub kept : now.machine.kept ≤ later.machine.kept
    pub horizon : now.machine.horizon ≤ later.machine.horizon
    pub same_log : take now.machine.kept now.machine.log ≡ take now.machine.kept later.machine.log
    pub listed : (j : ℕ) (w : Entry) → slice_get later.machine.log j ≡ Some w → (slice_get now.machine.log j ≡ Some w) ⊎ IsOpen now.nodes w
    pub was_open : (w : Entry) → WasGiven shards left now.nodes w.id → IsOpen later.nodes w → IsOpen now.nodes w
    pub coordinator_knew : (kept memory : CoordinatorState) → CoordinatorKnows later.nodes kept memory
        → KnewBefore memory ⊎ ((id : WriteId) → WasGiven shards left now.nodes id → id.epoch < memory.epoch)
    pub given_out : (id : WriteId) → WasGiven shards left now.nodes id → IsGivenOut (after coordinator) id
    pub epochs : (t epoch : ℕ) → IsShardEpoch (left (shard t)) epoch → IsShardEpoch (after (shard t)) epoch
    pub settled : (t place : ℕ) → IsSettled (left (shard t)) place → IsSettled (after (shard t)) place
    pub taken : opens ≡ false → (x : ℕ) → IsTaken left now x → IsTaken after later x
    pub named : (x : ℕ) → Contains now.named x → Contains later.named x

  -- What a shard has in doubt under a write's id: it had it before; or, if the step may prepare the write, it is its part, whose conditions hold if the
  -- write is open.
  abbrev pub IsDoubt : Bool → Entry → ℕ → Entry → Type 0
  IsDoubt prepares w t p = ((old : List Record) × leaves left now.nodes (shard t) old × (find_in_doubt w.id (shard_state old).in_doubt ≡ Some p))
      ⊎ ((prepares ≡ true) × (takes_part shards t w ≡ true) × (p ≡ part shards t w) × (IsOpen now.nodes w → HoldAfter later.machine.log p.conditions))

  -- What a step keeps of a write's prepares. Of an open write a shard has its part if it had it, or was opened since.
  pub record KeepsDoubts (prepares : Bool) (w : Entry) : Type 0 where
    pub doubt : (t : ℕ) (found : List Record) (p : Entry) → leaves after later.nodes (shard t) found → find_in_doubt w.id (shard_state found).in_doubt ≡ Some p → IsDoubt prepares w t p
    pub promised : IsOpen now.nodes w → (t : ℕ) → IsPromised (leaves left now.nodes (shard t)) w.id (part shards t w) → IsPromised (leaves after later.nodes (shard t)) w.id (part shards t w)
    pub knew : (t : ℕ) (memory : ShardState) → ShardKnows later.nodes t memory
        → ((before : ShardState) × ShardKnows now.nodes t before × (before.epoch ≡ memory.epoch)
        × (IsOpen now.nodes w → find_in_doubt w.id before.in_doubt ≡ Some (part shards t w) → find_in_doubt w.id memory.in_doubt ≡ Some (part shards t w)))
        ⊎ ((epoch : ℕ) → IsShardEpoch (left (shard t)) epoch → epoch < memory.epoch)

  -- What a step keeps of a flow's write: it stays open unless the coordinator is opened, and is not listed; the conditions of its prepares still
  -- hold; and its prepares are kept.
  pub record KeepsWrite (prepares : Bool) (w : Entry) : Type 0 where
    pub is_open : opens ≡ false → IsOpen now.nodes w → IsOpen later.nodes w
    pub unlisted : IsUnlisted w.id now.machine.log → IsUnlisted w.id later.machine.log
    pub conditions : IsUndecided shards left now w → IsOpen later.nodes w → (t : ℕ) (found : List Record) (p : Entry) → t < shards → leaves left now.nodes (shard t) found
        → find_in_doubt w.id (shard_state found).in_doubt ≡ Some p → HoldAfter now.machine.log p.conditions → HoldAfter later.machine.log p.conditions
    pub doubts : KeepsDoubts prepares w

  module _ (same : (t : ℕ) → later.nodes.at (shard t) ≡ now.nodes.at (shard t)) (less : (t : ℕ) (rs : List Record) → after (shard t) rs → left (shard t) rs) where
    -- if a shard is as it was, a stop leaves no more of it than before, with what is staged
    pub shard_less : (t : ℕ) (found : List Record) → leaves after later.nodes (shard t) found → leaves left now.nodes (shard t) found
    shard_less t found is = (is.0, less t is.0 is.1, ⊎_elim (λ plain. inl plain) (λ more. inr (more ∙ ap (λ (m : NodeState). is.0 ++ staged_of m) (same t))) is.2)

    -- and it has in doubt what it had
    pub same_doubts : (w : Entry) → KeepsDoubts false w
    same_doubts w = record {
      doubt = λ t found p is has. inl (found, shard_less t found is, has);
      promised = λ here t was found is. was found (shard_less t found is);
      knew = λ t m k. inl (m, record { durable = k.durable; staged = k.staged; is_up = sym (same t) ∙ k.is_up; replayed = k.replayed }, refl, λ here has. has);
    }

  -- a coordinator that is as it was
  module _ (same : later.nodes.at coordinator ≡ now.nodes.at coordinator) where
    pub same_taken : now.machine.horizon ≤ later.machine.horizon → (x : ℕ) → IsTaken left now x → IsTaken after later x
    same_taken higher x is = ⊎_elim
        (λ low. inl (omega (arith, low, higher)))
        (λ rest. ⊎_elim
        (λ staged. inr (inl (record { durable = staged.durable; staged = staged.staged; is_up = same ∙ staged.is_up; enough = staged.enough })))
        (λ gone. inr (inr (same ∙ gone)))
        rest)
        is

    pub same_knew : now.nodes.given ≤ later.nodes.given → ((j : ℕ) (w : Entry) → slice_get now.machine.log j ≡ Some w → slice_get later.machine.log j ≡ Some w) → opens ≡ false
        → (kept memory : CoordinatorState) → CoordinatorKnows later.nodes kept memory → KnewBefore memory
    same_knew given log unopened kept memory k = record {
      kept = kept;
      before = memory;
      knew = record { durable = k.durable; staged = k.staged; is_up = sym same ∙ k.is_up; durable_state = k.durable_state; replayed = k.replayed };
      epoch = refl;
      given = given;
      log = log;
      unopened = unopened;
    }

  module _ (on : KeepsStore) where
    pub given_on : (id : WriteId) → WasGiven shards left now.nodes id → WasGiven shards after later.nodes id
    given_on id g = record {
      epoch = on.given_out id g;
      now = λ kept m knows. ⊎_elim
          (λ (was : KnewBefore m). ⊎_elim
          (λ (earlier : id.epoch < was.before.epoch). inl (subst (λ (n : ℕ). id.epoch < n) was.epoch earlier))
          (λ same. inr (same.0 ∙ was.epoch, omega (arith, same.1, was.given)))
          (g.now was.kept was.before was.knew))
          (λ opened. inl (opened id g))
          (on.coordinator_knew kept m knows);
    }

    pub verdict_on : (id : WriteId) → IsRightVerdict shards left now id → IsRightVerdict shards after later id
    verdict_on id v = record {
      given = given_on id v.given;
      closed = λ w here same. v.closed w (on.was_open w (subst (WasGiven shards left now.nodes) (sym same) v.given) here) same;
      none = λ j w is above same. ⊎_elim (λ old. v.none j w old (omega (arith, above, on.horizon)) same) (λ here. v.closed w here (sym same)) (on.listed j w is);
    }

    -- as many writes as were kept are as they were
    beginning : (n : ℕ) → n ≤ now.machine.kept → take n now.machine.log ≡ take n later.machine.log
    beginning n le = sym (take-take n now.machine.kept now.machine.log le) ∙ ap (take n) on.same_log ∙ take-take n now.machine.kept later.machine.log le

    pub same_at : (s : ℕ) → s ≤ now.machine.kept → is_at now.machine.log s ≡ is_at later.machine.log s
    unfolding is_at
    same_at s le = fun_ext (λ t. ap (λ (l : List Entry). there_after t false (flat_map (λ (v : Entry). v.changes) l)) (beginning s le))

    listed_still : (j : ℕ) (w : Entry) → j < now.machine.kept → slice_get now.machine.log j ≡ Some w → slice_get later.machine.log j ≡ Some w
    listed_still j w lt is = slice_get_taken now.machine.kept later.machine.log j w (ap (λ (l : List Entry). slice_get l j) (sym on.same_log) ∙ taken_there now.machine.kept now.machine.log j w lt is)

    pub batch_on : (b : BatchValue) → IsRightBatch now.machine b → IsRightBatch later.machine b
    batch_on b is = record {
      kept = omega (arith, is.kept, on.kept);
      within = omega (arith, is.within, is.kept, on.kept);
      writes =
          let n = length b.writes in
          is.writes ∙ sym (drop-take b.from n now.machine.log) ∙ ap (drop b.from) (beginning (b.from + n) (omega (arith, is.kept, is.within))) ∙ drop-take b.from n later.machine.log;
    }

    resolved_on : (x : Resolved) → IsRightResolved shards left now x → IsRightResolved shards after later x
    resolved_on (committed id p) is =
        let counted : 1 ≤ p = is.1 in
        let low : p ≤ now.machine.kept = is.2 in
        (is.0, is.1, omega (arith, low, on.kept), listed_still (p - 1) is.0 (omega (arith, low, counted)) is.3, is.4)
    resolved_on (aborted id) is = verdict_on id is
    resolved_on (undecided id) is = tt

    -- of a write whose id was given out
    module _ (prepares : Bool) (w : Entry) (given : WasGiven shards left now.nodes w.id) where
      pub undecided_on : (IsUnlisted w.id now.machine.log → IsUnlisted w.id later.machine.log) → KeepsDoubts prepares w → IsUndecided shards left now w → IsUndecided shards after later w
      undecided_on unlisted doubts u = record {
        unlisted = unlisted u.unlisted;
        given = given_on w.id u.given;
        exact = λ t found p lt is has. ⊎_elim (λ was. u.exact t was.0 p lt was.1 was.2) (λ new. (new.1, new.2)) (doubts.doubt t found p is has);
      }

      pub ticket_on : KeepsDoubts prepares w → (t : HeldTicket) → IsRightTicket shards left now w t → IsRightTicket shards after later w t
      ticket_on doubts t k = record {
        own = k.own;
        there = k.there;
        takes = k.takes;
        epoch = on.epochs t.shard t.epoch k.epoch;
        prepared = λ here m knows same.
            let was_here = on.was_open w given here in
            ap (λ (id : WriteId). find_in_doubt id m.in_doubt) k.own ∙ ⊎_elim
            (λ was. was.3 was_here (ap (λ (id : WriteId). find_in_doubt id was.0.in_doubt) (sym k.own) ∙ k.prepared was_here was.0 was.1 (was.2 ∙ same)))
            (λ higher. let above = higher t.epoch k.epoch in absurd (omega (arith, above, same)))
            (doubts.knew t.shard m knows);
      }

      pub vote_on : KeepsDoubts prepares w → (v : HeldVote) → IsRightVote shards left now w v → IsRightVote shards after later w v
      vote_on doubts v k = record {
        own = k.own;
        there = k.there;
        takes = k.takes;
        prepared = λ here.
            let was_here = on.was_open w given here in
            let was = subst (λ (id : WriteId). IsPromised (leaves left now.nodes (shard v.shard)) id (part shards v.shard w)) k.own (k.prepared was_here) in
            subst (λ (id : WriteId). IsPromised (leaves after later.nodes (shard v.shard)) id (part shards v.shard w)) (sym k.own) (doubts.promised was_here v.shard was);
      }

      pub intent_on : KeepsWrite prepares w → IsUndecided shards left now w → (i : IntentValue) → IsRightIntent shards left now w i → IsRightIntent shards after later w i
      intent_on own u i k = record {
        own = k.own;
        kept = omega (arith, k.kept, on.kept);
        opened = λ kept m knows same. ⊎_elim
            (λ (was : KnewBefore m). own.is_open was.unopened (k.opened was.kept was.before was.knew (was.epoch ∙ same)))
            (λ opened. let above = opened w.id given in absurd (omega (arith, above, same)))
            (on.coordinator_knew kept m knows);
        conditions = λ here t found p lt is has.
            let was_here = on.was_open w given here in ⊎_elim
            (λ was. own.conditions u here t was.0 p lt was.1 was.2 (k.conditions was_here t was.0 p lt was.1 was.2))
            (λ new. new.3 was_here)
            (own.doubts.doubt t found p is has);
      }

    pub decision_on : (w : Entry) (d : DecidedValue) → IsRightDecision shards left now w d → IsRightDecision shards after later w d
    decision_on w d k = record {
      counted = k.counted;
      epoch = k.epoch;
      given = given_on w.id k.given;
      there = λ kept m knows same. ⊎_elim
          (λ (was : KnewBefore m). was.log _ w (k.there was.kept was.before was.knew (was.epoch ∙ same)))
          (λ opened. let above = opened w.id k.given in let at = k.epoch in absurd (omega (arith, above, same, at)))
          (on.coordinator_knew kept m knows);
    }

    -- of a flow, which is marked if the coordinator is opened
    module _ (f : Running) where
      abbrev pub marked : Running
      marked = record f { is_reopened = opens || f.is_reopened }

      unmarked : (a b : Bool) → (a || b) ≡ false → (a ≡ false) × (b ≡ false)
      unmarked true b is = absurd (true≢false is)
      unmarked false b is = (refl, is)

      -- the id of a flow's write was given out, whether it has decided or not
      pub own_given : (w : Entry) (h : WriteHolds) → IsRightOwn shards left now f w h → h.decided ≡ f.decided → WasGiven shards left now.nodes w.id
      own_given w h k same = by_decided f.decided refl
        where
          by_decided : (o : Option DecidedValue) → f.decided ≡ o → WasGiven shards left now.nodes w.id
          by_decided None is = (k.undecided is).given
          by_decided (Some d) is = (k.decision d (same ∙ is)).given

      own_on : (w : Entry) (h : WriteHolds) → KeepsWrite false w → h.decided ≡ f.decided → IsRightOwn shards left now f w h → IsRightOwn shards after later marked w h
      own_on w h own same k =
          let given = own_given w h k same in
          record {
            undecided = λ none. undecided_on false w given own.unlisted own.doubts (k.undecided none);
            intent = λ i is. let old = k.intent i is in (old.0, intent_on false w given own (k.undecided old.0) i old.1);
            tickets = λ j d lt. ticket_on false w given own.doubts _ (k.tickets j d lt);
            votes = λ j d lt. vote_on false w given own.doubts _ (k.votes j d lt);
            decision = λ d is. decision_on w d (k.decision d is);
            verdict = λ id is. ((k.verdict id is).0, verdict_on id (k.verdict id is).1);
            not_reopened = λ i is not_since. let both = unmarked opens f.is_reopened not_since in own.is_open both.0 (k.not_reopened i is both.1);
            gave = λ way none t found p lt is has. ⊎_elim (λ was. k.gave way none t was.0 p lt was.1 was.2) (λ new. absurd (true≢false (sym new.0))) (own.doubts.doubt t found p is has);
          }

      heads_on : (h : HeadsValue) → AreRightHeads f now.machine h → AreRightHeads marked later.machine h
      heads_on h is = record { was = is.was; kept = omega (arith, is.kept, on.kept); horizon = omega (arith, is.horizon, on.horizon); ordered = is.ordered; above = is.above }

      wanted_on : (fresh : Freshness) (s : ℕ) → IsAsWanted fresh f s → IsAsWanted fresh marked s
      wanted_on latest s is = is
      wanted_on (at_least z) s is = is
      wanted_on (exact z) s is = is

      place_on : (fresh : Freshness) (s : ℕ) → IsPlaceOf fresh f now.machine s → IsPlaceOf fresh marked later.machine s
      place_on fresh s is = record { wanted = wanted_on fresh s is.wanted; kept = omega (arith, is.kept, on.kept); above = is.above }

      held_on : (h : HeadsHeld) → AreHeldHeads shards left now f h → AreHeldHeads shards after later marked h
      held_on h k = record { heads = λ x is. heads_on x (k.heads x is); batch = λ b is. batch_on b (k.batch b is) }

      -- What the flow holds is right after the step, if its own write is kept.
      pub frame : (a : Asked) (h : Holds) → ((w : Entry) → id_of h ≡ Some w.id → KeepsWrite false w) → IsRight shards left now f a h → IsRight shards after later marked a h
      frame (to_write changes conditions) (writing h) own k = record {
        nothing = λ none. let old = k.nothing none in record { intent = old.intent; tickets = old.tickets; votes = old.votes; decided = old.decided; verdict = old.verdict };
        own = λ id is. own_on (own_write id changes conditions) h (own (own_write id changes conditions) is) k.same_decision (k.own id is);
        same_decision = k.same_decision;
        batch = λ b is. batch_on b (k.batch b is);
        out = k.out;
        cancelled = k.cancelled;
        refused_or_cancelled = k.refused_or_cancelled;
      }
      frame (to_read fresh sets) (reading h) own k = record {
        heads = λ x is. heads_on x (k.heads x is);
        place = λ s is. place_on fresh s (k.place s is);
        done = λ s i q rows is at row. subst (λ (there : Tuple → Bool). IsSelection there q rows) (same_at s (k.place s is).kept) (k.done s i q rows is at row);
        few = k.few;
        rows = λ s q is at.
            let same : there_below shards h.below now.machine.log s ≡ there_below shards h.below later.machine.log s =
            fun_ext (λ t. ap (λ (there : Tuple → Bool). there t && nat_lt (shard_of shards t.object) h.below) (same_at s (k.place s is).kept)) in
            subst (λ (there : Tuple → Bool). IsSelection there q h.rows) same (k.rows s q is at);
        nothing = k.nothing;
        batch = λ b is. batch_on b (k.batch b is);
      }
      frame (to_check fresh x u) (checking h) own k = record {
        heads = λ y is. heads_on y (k.heads y is);
        place = λ s is. place_on fresh s (k.place s is);
        nothing = k.nothing;
        walk = λ s is. subst (λ (there : Tuple → Bool). IsWalk there x u h.walked h.waiting) (same_at s (k.place s is).kept) (k.walk s is);
        batch = λ b is. batch_on b (k.batch b is);
      }
      frame (to_watch c limit names) (watching h) own k = held_on h k
      frame (to_flush n) flushing own k = tt
      frame (to_learn t) (learning h) own k = held_on h k
      frame (to_resolve t) (resolving h) own k = record {
        found = λ j d lt. resolved_on _ (k.found j d lt);
        verdict = λ id is. verdict_on id (k.verdict id is);
        batch = λ b is. batch_on b (k.batch b is);
      }
      frame (to_raise x) (raising h) own k = record {
        named = on.named x k.named;
        heads = λ y is. heads_on y (k.heads y is);
        settled = λ j d lt. let old = k.settled j d lt in record { there = old.there; enough = old.enough; learned = on.settled _ _ old.learned };
        batch = λ b is. batch_on b (k.batch b is);
        raised = λ is not_since. let both = unmarked opens f.is_reopened not_since in on.taken both.0 x (k.raised is both.1);
      }
      frame (to_collect t) (collecting h) own k = held_on h k
      frame a h own k = absurd k
