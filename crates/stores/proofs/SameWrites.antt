-- A step that leaves the log and which writes are open: what a store stands for stays, if its nodes rest and stand.
use Rattle.std.proofs.Common.{◌≡◌, ◌⊎◌, inl, inr, ⊎_elim, ℕ, ◌<◌, ◌≤◌, false, List, length, Contains, refl, sym, ◌∙◌, ap, subst, arith}
use Rattle.stores.proofs.Words.{AreApart, AreNew, CoordinatorKnows, CoordinatorState, Entry, HeadsStand, IsGivenOut, IsOpen, IsSettled, IsShardEpoch, ListedStand, Moment, NodeName, Nodes, NodesStand, Record, Rests, ShardKnows, ShardState, Stands, WriteId, at_shards, coordinator, find_in_doubt, leaves, shard, shard_state}
use Rattle.stores.proofs.Frames.{IsTaken, KeepsStore, KeepsWrite, frame, given_on, shard_less, verdict_on}

module _ (store shards : ℕ) (left after : NodeName → List Record → Type 0) (now : Moment) (next : Nodes) (kept horizon : ℕ) where
  abbrev pub later : Moment
  later = record now { nodes = next; machine = record now.machine { kept = kept; horizon = horizon } }

  -- What is kept and the horizon do not fall; a coordinator that is up was up in the same epoch; what a stop leaves of a shard has in doubt what it could
  -- leave before, and a shard what it had, or it was opened since; and what a stop leaves of a node has no lower epoch, and of a shard has learned no less.
  pub record SameWrites : Type 0 where
    pub stands : Stands store shards left now
    pub kept_on : now.machine.kept ≤ kept
    pub horizon_on : now.machine.horizon ≤ horizon
    pub open_writes : next.open_writes ≡ now.nodes.open_writes
    pub given : next.given ≡ now.nodes.given
    pub coordinator_knew : (k m : CoordinatorState) → CoordinatorKnows next k m → (before : CoordinatorState) × (old : CoordinatorState) × CoordinatorKnows now.nodes before old × (old.epoch ≡ m.epoch)
    pub in_doubt : (t : ℕ) (found : List Record) → leaves after next (shard t) found
        → (old : List Record) × leaves left now.nodes (shard t) old × ((shard_state old).in_doubt ≡ (shard_state found).in_doubt)
    pub shard_knew : (t : ℕ) (m : ShardState) → ShardKnows next t m
        → ((old : ShardState) × ShardKnows now.nodes t old × (old.in_doubt ≡ m.in_doubt) × (old.epoch ≡ m.epoch)) ⊎ ((epoch : ℕ) → IsShardEpoch (left (shard t)) epoch → epoch < m.epoch)
    pub given_out : (id : WriteId) → IsGivenOut (left coordinator) id → IsGivenOut (after coordinator) id
    pub epochs : (t epoch : ℕ) → IsShardEpoch (left (shard t)) epoch → IsShardEpoch (after (shard t)) epoch
    pub settled : (t place : ℕ) → IsSettled (left (shard t)) place → IsSettled (after (shard t)) place
    pub taken : (x : ℕ) → IsTaken shards left after now later false left now x → IsTaken shards left after now later false after later x

  -- so it is if the shards are as they were, and a stop leaves no more of them
  module _ (same : (t : ℕ) → next.at (shard t) ≡ now.nodes.at (shard t)) (less : (t : ℕ) (rs : List Record) → after (shard t) rs → left (shard t) rs) where
    pub same_in_doubt : (t : ℕ) (found : List Record) → leaves after next (shard t) found → (old : List Record) × leaves left now.nodes (shard t) old × ((shard_state old).in_doubt ≡ (shard_state found).in_doubt)
    same_in_doubt t found is = (found, shard_less shards left after now later false same less t found is, refl)

    pub same_shard : (t : ℕ) (m : ShardState) → ShardKnows next t m
        → ((old : ShardState) × ShardKnows now.nodes t old × (old.in_doubt ≡ m.in_doubt) × (old.epoch ≡ m.epoch)) ⊎ ((epoch : ℕ) → IsShardEpoch (left (shard t)) epoch → epoch < m.epoch)
    same_shard t m k = inl (m, record { durable = k.durable; staged = k.staged; is_up = sym (same t) ∙ k.is_up; replayed = k.replayed }, refl, refl)

  module _ (on : SameWrites) where
    was_open : (w : Entry) → IsOpen next w → IsOpen now.nodes w
    was_open w = subst (λ (l : List Entry). Contains l w) on.open_writes

    keeps : KeepsStore shards left after now later false
    keeps = record {
      kept = on.kept_on;
      horizon = on.horizon_on;
      same_log = refl;
      listed = λ j w is. inl is;
      was_open = λ w given. was_open w;
      coordinator_knew = λ k m knows. let was = on.coordinator_knew k m knows in
          inl (record { kept = was.0; before = was.1; knew = was.2; epoch = was.3; given = omega (arith, on.given); log = λ j w is. is; unopened = refl });
      given_out = λ id g. on.given_out id g.epoch;
      epochs = on.epochs;
      settled = on.settled;
      taken = λ same. on.taken;
      named = λ x is. is;
    }

    keeps_write : (w : Entry) → KeepsWrite shards left after now later false false w
    keeps_write w = record {
      is_open = λ same. subst (λ (l : List Entry). Contains l w) (sym on.open_writes);
      unlisted = λ is. is;
      conditions = λ u here t found p lt is has hold. hold;
      doubts = record {
        doubt = λ t found p is has. let old = on.in_doubt t found is in inl (old.0, old.1, ap (find_in_doubt w.id) old.2 ∙ has);
        promised = λ here t was found is. let old = on.in_doubt t found is in ap (find_in_doubt w.id) (sym old.2) ∙ was old.0 old.1;
        knew = λ t m knows. ⊎_elim
            (λ was. inl (was.0, was.1, was.3, λ here has. ap (find_in_doubt w.id) (sym was.2) ∙ has))
            (λ higher. inr higher)
            (on.shard_knew t m knows);
      };
    }

    pub still_stands : Rests store shards now.machine.log kept horizon (leaves after next coordinator) (at_shards (leaves after next)) → NodesStand store shards after next
        → HeadsStand store shards after next later.machine → ListedStand store shards after next later.machine → Stands store shards after later
    still_stands rests nodes heads listed = record {
      rests = rests;
      nodes = nodes;
      heads = heads;
      listed = listed;
      locks = λ t found lt is. let old = on.in_doubt t found is in subst AreApart old.2 (on.stands.locks t old.0 lt old.1);
      ids = record {
        distinct = subst AreNew (sym on.open_writes) on.stands.ids.distinct;
        few = subst (λ (l : List Entry). length l ≤ 1024) (sym on.open_writes) on.stands.ids.few;
        unlisted = λ w is. on.stands.ids.unlisted w (was_open w is);
        of_now = λ w is k m knows.
            let knew = on.coordinator_knew k m knows in
            let was = on.stands.ids.of_now w (was_open w is) knew.0 knew.1 knew.2 in
            (was.0 ∙ knew.3, subst (λ (n : ℕ). w.id.number ≤ n) (sym on.given) was.1);
        log_given = λ w has. given_on shards left after now later false keeps w.id (on.stands.ids.log_given w has);
        prepares_given = λ t found w lt is has.
            let old = on.in_doubt t found is in
            given_on shards left after now later false keeps w.id (on.stands.ids.prepares_given t old.0 w lt old.1 (subst (λ (ws : List Entry). Contains ws w) (sym old.2) has));
      };
      flows = record {
        few = on.stands.flows.few;
        slots = on.stands.flows.slots;
        ids = on.stands.flows.ids;
        held = λ f there. frame shards left after now later false keeps f f.asked f.holds (λ w is. keeps_write w) (on.stands.flows.held f there);
        seen = λ f there m has. let was = on.stands.flows.seen f there m has in (omega (arith, was.0, on.kept_on), omega (arith, was.1, on.horizon_on));
        quiet = on.stands.flows.quiet;
      };
      told = λ j d lt. verdict_on shards left after now later false keeps _ (on.stands.told j d lt);
    }
