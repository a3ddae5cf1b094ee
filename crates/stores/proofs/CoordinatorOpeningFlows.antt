-- The coordinator is opened, or its opening is refused: no write is open any more, and what flows hold stays right.
use Rattle.std.proofs.Common.{◌≡◌, inl, inr, ◌↔◌, ℕ, zero, suc, ◌<◌, ◌≤◌, true, false, List, [], length, take, Some, slice_get, Contains, sym, ◌∙◌, ap, subst, arith, true≢false}
use Rattle.std.proofs.lemmas.List.{take-take}
use Rattle.stores.proofs.Words.{CoordinatorKnows, CoordinatorState, Entry, IdsStand, IsGivenOut, IsOpen, IsRight, IsRightVerdict, LocksStand, Machine, Moment, NodeName, Nodes, Record, Running, Stands, WasGiven, WriteId, coordinator, leaves, shard, slice_get_taken}
use Rattle.stores.proofs.Frames.{KeepsStore, KeepsWrite, frame, given_on, same_doubts, shard_less, verdict_on}
use Rattle.stores.proofs.ShardStagesStands.{contained_at, contained_from}
use Rattle.tuples.proofs.Lists.{nothing_in}

-- The shards are as they were; no write is open; the machine has the first writes of the log from before, all that was kept among them; and each
-- id that was given out is of an epoch that a stop leaves, and of an earlier one than that of a coordinator that is up.
pub record Renews (store shards : ℕ) (left after : NodeName → List Record → Type 0) (now : Moment) (next : Nodes) (m : Machine) (n : ℕ) : Type 0 where
  pub stands : Stands store shards left now
  pub none_open : next.open_writes ≡ []
  pub unchanged : (s : ℕ) → next.at (shard s) ≡ now.nodes.at (shard s)
  pub same : (s : ℕ) (rs : List Record) → after (shard s) rs ↔ left (shard s) rs
  pub log : m.log ≡ take n now.machine.log
  pub kept : now.machine.kept ≤ m.kept
  pub within : m.kept ≤ n
  pub fits : n ≤ length now.machine.log
  pub horizon : now.machine.horizon ≤ m.horizon
  pub later : (kept memory : CoordinatorState) → CoordinatorKnows next kept memory → (id : WriteId) → WasGiven shards left now.nodes id → id.epoch < memory.epoch
  pub given : (id : WriteId) → WasGiven shards left now.nodes id → IsGivenOut (after coordinator) id

module _ (store shards : ℕ) (left after : NodeName → List Record → Type 0) (now : Moment) (next : Nodes) (m : Machine) (n : ℕ) (re : Renews store shards left after now next m n) (running : List Running) where
  abbrev later : Moment
  later = record now { nodes = next; machine = m; running = running }

  not_open : (v : Entry) → IsOpen next v → ⊥
  not_open v has = nothing_in v (subst (λ (l : List Entry). Contains l v) re.none_open has)

  pub left_before : (t : ℕ) (rs : List Record) → leaves after next (shard t) rs → leaves left now.nodes (shard t) rs
  left_before = shard_less shards left after now later true re.unchanged (λ t rs. (re.same t rs).0)

  -- a write of the log was one before
  listed_before : (j : ℕ) (w : Entry) → slice_get m.log j ≡ Some w → slice_get now.machine.log j ≡ Some w
  listed_before j w is = slice_get_taken n now.machine.log j w (ap (λ (l : List Entry). slice_get l j) (sym re.log) ∙ is)

  keeps : KeepsStore shards left after now later true
  keeps = record {
    kept = re.kept;
    horizon = re.horizon;
    same_log = sym (take-take now.machine.kept n now.machine.log (omega (arith, re.kept, re.within))) ∙ ap (take now.machine.kept) (sym re.log);
    listed = λ j w is. inl (listed_before j w is);
    was_open = λ w given here. absurd (not_open w here);
    coordinator_knew = λ kept memory knows. inr (re.later kept memory knows);
    given_out = re.given;
    epochs = λ t epoch is found here. is found ((re.same t found).0 here);
    settled = λ t place is found here. is found ((re.same t found).0 here);
    taken = λ unopened. absurd (true≢false unopened);
    named = λ x is. is;
  }

  keeps_write : (w : Entry) → KeepsWrite shards left after now later true false w
  keeps_write w = record {
    is_open = λ unopened. absurd (true≢false unopened);
    unlisted = λ u j x is. u j x (listed_before j x is);
    conditions = λ u here. absurd (not_open w here);
    doubts = same_doubts shards left after now later true re.unchanged (λ t rs. (re.same t rs).0) w;
  }

  given_kept : (id : WriteId) → WasGiven shards left now.nodes id → WasGiven shards after next id
  given_kept = given_on shards left after now later true keeps

  pub verdict_kept : (id : WriteId) → IsRightVerdict shards left now id → IsRightVerdict shards after later id
  verdict_kept = verdict_on shards left after now later true keeps

  -- what a flow holds stays right, with its mark
  pub kept_flow : (f : Running) → IsRight shards left now f f.asked f.holds → IsRight shards after later (record f { is_reopened = true }) f.asked f.holds
  kept_flow f = frame shards left after now later true keeps f f.asked f.holds (λ w is. keeps_write w)

  pub locks_kept : LocksStand store shards after next
  locks_kept t found lt is = re.stands.locks t found lt (left_before t found is)

  pub ids_kept : IdsStand store shards after next m
  ids_kept = record {
    distinct = λ i j v w is. absurd (no_write i v (ap (λ (l : List Entry). slice_get l i) (sym re.none_open) ∙ is));
    few = subst (λ (l : List Entry). length l ≤ 1024) (sym re.none_open) (omega arith);
    unlisted = λ v is. absurd (not_open v is);
    of_now = λ v is. absurd (not_open v is);
    log_given = λ v has. let at = contained_at m.log v has in given_kept v.id (re.stands.ids.log_given v (contained_from now.machine.log at.0 v (listed_before at.0 v at.1)));
    prepares_given = λ t found v lt is has. given_kept v.id (re.stands.ids.prepares_given t found v lt (left_before t found is) has);
  }
    where
      no_write : (i : ℕ) (v : Entry) → slice_get [] i ≡ Some v → ⊥
      no_write zero v is = cc
      no_write (suc i) v is = cc
