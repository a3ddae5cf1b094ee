-- Causes are those of the call that answers: beside each that is one, its like of another node, another place or another flow, which is not.
use Rattle.std.proofs.Common.{◌≡◌, ◌≢◌, inl, inr, ◌≤◌, ◌<◌, ℕ, Some, None, List, [], ◌∷◌, ◌++◌, refl, sym, ◌∙◌, ap, subst, arith}
use Rattle.std.proofs.lemmas.Option.{same_Some}
use Rattle.turns.proofs.Words.{Calls, Collected, Decision, Down, Full, HasItsCause, HasNoRoom, Horizon, IsRecord, IsToLearn, Key, Learned, Machine, Moment, NoMemory, NodeName, NodeState, PlacedId, Prepare, Record, Running, Tuple, Tupleset, User, Userset, begun, checking, coordinator, down, latest, reading, refused, shard, shard_of, shard_state, three, to_check, to_collect, to_flush, to_learn, to_raise, to_read, to_write, up}
use Rattle.records.specs.Checkpoints.{generation_of}
use Rattle.records.specs.Replays.{greatest_number}
use Rattle.records.specs.declared.mark.Mark.TheVariants.{Begins}
use Rattle.records.specs.declared.record.Record.TheVariants.{Checkpoint}
use Rattle.stores.specs.Causes.{Needs, Stages}
use Rattle.stores.specs.Flows.{nothing_read}
use Rattle.turns.proofs.SmallRuns.{two_kept}

abbrev with_nodes : Machine → (NodeName → NodeState) → Moment
with_nodes m at = record { machine = m; nodes = record { at = at; open_writes = []; given = 0 }; running = []; told = []; named = [] }

up_is_not_down : (durable staged : List Record) → up durable staged ≡ down → ⊥
up_is_not_down durable staged is = cc

-- the coordinator is up, and no shard is
abbrev no_shard : NodeName → NodeState
no_shard coordinator = up [] []
no_shard (shard s) = down

abbrev without_shards : Moment
without_shards = with_nodes two_kept no_shard

-- a check that has no place yet is not refused as down for a shard, whichever node it called
down_before_it_walks : (n : NodeName) (x : Userset) (u : User) → HasItsCause 2 n without_shards without_shards (begun 0 (to_check latest x u)) Down → ⊥
down_before_it_walks coordinator x u (inl (calls, inl is)) = up_is_not_down [] [] is
down_before_it_walks coordinator x u (inl (calls, inr is)) = let bad : up [] [] ≡ refused Down = is in cc
down_before_it_walks coordinator x u (inr (calls, is)) = let bad : up [] [] ≡ refused Down = is in cc
down_before_it_walks (shard s) x u (inl (calls, is)) = calls.1.0 refl
down_before_it_walks (shard s) x u (inr (calls, is)) = calls.1.0 refl

-- a check at a place that walks its own userset next
abbrev walking : ℕ → List Machine → Userset → User → Running
walking place seen x u = record (begun 0 (to_check latest x u)) {
  holds = checking (record { heads = None; place = Some place; walked = []; waiting = x ∷ []; batch = None });
  seen = seen;
}

some_place : (place : ℕ) → Some place ≢ None
some_place place is = cc

-- it is for that userset's shard
down_where_it_walks : (x : Userset) (u : User) → shard_of 2 x.object < 2 → HasItsCause 2 (shard (shard_of 2 x.object)) without_shards without_shards (walking 2 [] x u) Down
down_where_it_walks x u there = inl ((there, (some_place 2, (x, refl, refl))), inl refl)

-- and for no other
down_where_it_does_not_walk : (s : ℕ) (x : Userset) (u : User) → s ≢ shard_of 2 x.object → HasItsCause 2 (shard s) without_shards without_shards (walking 2 [] x u) Down → ⊥
down_where_it_does_not_walk s x u other (inl (calls, is)) = other (calls.1.1.2 ∙ ap (λ (y : Userset). shard_of 2 y.object) (sym (same_Some x calls.1.1.0 calls.1.1.1)))
down_where_it_does_not_walk s x u other (inr (calls, is)) = other (calls.1.1.2 ∙ ap (λ (y : Userset). shard_of 2 y.object) (sym (same_Some x calls.1.1.0 calls.1.1.1)))

-- a read at a place that has done neither of its two tuplesets
abbrev reading_two : Tuple → Tuple → Running
reading_two first second = record (begun 0 (to_read latest (Key first ∷ Key second ∷ []))) { holds = reading (record nothing_read { place = Some 2 }) }

calls_the_first : (first second : Tuple) (s : ℕ) → Calls 2 (reading_two first second).asked (reading_two first second).holds (shard s) → s ≡ shard_of 2 first.object
calls_the_first first second s calls = subst (λ (q : Tupleset). Needs 2 q 0 s) (sym (same_Some (Key first) calls.1.1.0 calls.1.1.1)) calls.1.1.2

-- it is not refused as down for the shard of the second
down_for_a_later_tupleset : (first second : Tuple) (s : ℕ) → s ≢ shard_of 2 first.object → HasItsCause 2 (shard s) without_shards without_shards (reading_two first second) Down → ⊥
down_for_a_later_tupleset first second s other (inl (calls, is)) = other (calls_the_first first second s calls)
down_for_a_later_tupleset first second s other (inr (calls, is)) = other (calls_the_first first second s calls)

-- all nodes are up
abbrev all_up : Moment
all_up = with_nodes two_kept (λ n. up [] [])

-- a collection takes no memory
collected_without_memory : (n : NodeName) (s : ℕ) (after : Moment) → HasItsCause 2 n all_up after (begun 0 (to_collect s)) NoMemory → ⊥
collected_without_memory n s after (inl never) = never
collected_without_memory n s after (inr (calls, is)) = let bad : up [] [] ≡ refused NoMemory = is in cc

-- but a node whose opening had none answers that
opened_without_memory : (s : ℕ) (after : Moment) → s < 2 → HasItsCause 2 (shard s) (with_nodes two_kept (λ n. refused NoMemory)) after (begun 0 (to_flush (shard s))) NoMemory
opened_without_memory s after there = inr ((there, refl), refl)

-- three writes, all kept, and the horizon at the last
abbrev all_kept : Machine
all_kept = record { log = three; kept = 3; horizon = 3 }

-- a check whose place is at the horizon is not refused for a lower one, which was kept after its first turn
collected_for_an_earlier_place : (n : NodeName) (x : Userset) (u : User) (after : Moment)
    → HasItsCause 2 n (with_nodes all_kept (λ k. up [] [])) after (walking 3 (two_kept ∷ all_kept ∷ []) x u) Collected → ⊥
collected_for_an_earlier_place n x u after (inl (s, (found, was, low))) = let same = same_Some 3 s found in omega (arith, low, same)
collected_for_an_earlier_place n x u after (inr (calls, is)) = let bad : up [] [] ≡ refused Collected = is in cc

-- but one that found that place is
collected_for_its_place : (n : NodeName) (x : Userset) (u : User) (after : Moment)
    → HasItsCause 2 n (with_nodes all_kept (λ k. up [] [])) after (walking 2 (two_kept ∷ all_kept ∷ []) x u) Collected
collected_for_its_place n x u after = inl (2, (refl, (two_kept, (0, omega arith, refl), refl), omega arith))

-- each node has these records
abbrev records_of : NodeState → List Record
records_of (up durable staged) = durable ++ staged
records_of down = []
records_of (refused e) = []

-- and these alone are durable
abbrev durable_of : NodeState → List Record
durable_of (up durable staged) = durable
durable_of down = []
durable_of (refused e) = []

abbrev with_records : List Record → List Record → Moment
with_records durable staged = with_nodes two_kept (λ n. up durable staged)

-- a learning stages nothing at a node that has learned all that is kept
nothing_staged : (s : ℕ) (n : NodeName) (next : Record) (known : List Record) → (shard_state known).learned ≡ 2 → Stages 2 two_kept known (to_learn s) None n next → ⊥
nothing_staged s coordinator (Decision place w) known all stages = let bad : to_learn s ≡ to_write w.changes w.conditions = stages.asks in cc
nothing_staged s coordinator (Horizon place) known all stages = let bad : to_learn s ≡ to_raise place = stages in cc
nothing_staged s (shard t) (Prepare p) known all (w, own, is) = let bad : to_learn s ≡ to_write w.changes w.conditions = own.asks in cc
nothing_staged s (shard t) (Learned to placed_ids) known all (lets, more) = let above = more.more in let kept = more.kept in omega (arith, above, kept, all)
nothing_staged s (shard t) (Horizon place) known all stages = let bad : to_learn s ≡ to_collect t = stages in cc
nothing_staged s n next known all stages = absurd stages

-- so it is not full there, whatever the batch holds
full_of_what_is_known : (s : ℕ) (n : NodeName) (durable staged : List Record) (after : Moment) → (shard_state (durable ++ staged)).learned ≡ 2
    → HasItsCause 2 n (with_records durable staged) after (begun 0 (to_learn s)) Full → ⊥
full_of_what_is_known s n durable staged after all (inl full) = nothing_staged s n full.next (full.durable ++ full.staged)
    (subst (λ (known : List Record). (shard_state known).learned ≡ 2) (ap records_of full.is_up) all) full.stages
full_of_what_is_known s n durable staged after all (inr (calls, is)) = let bad : up durable staged ≡ refused Full = is in cc

-- but it is if something is to be learned for which there is no room
full_of_what_is_to_be_learned : (durable staged : List Record) (to : ℕ) (placed_ids : List PlacedId) (after : Moment) → IsToLearn 2 0 two_kept (durable ++ staged) to placed_ids
    → IsRecord (Learned to placed_ids) → HasNoRoom staged (Learned to placed_ids) → HasItsCause 2 (shard 0) (with_records durable staged) after (begun 0 (to_learn 0)) Full
full_of_what_is_to_be_learned durable staged to placed_ids after more spelled no_room = inl (record {
  durable = durable;
  staged = staged;
  next = Learned to placed_ids;
  calls = (omega arith, refl);
  is_up = refl;
  stages = (tt, more);
  is_record = spelled;
  no_room = no_room;
})

-- a flush stages nothing
flush_stages : (m n : NodeName) (next : Record) (known : List Record) → Stages 2 two_kept known (to_flush m) None n next → ⊥
flush_stages m coordinator (Decision place w) known stages = let bad : to_flush m ≡ to_write w.changes w.conditions = stages.asks in cc
flush_stages m coordinator (Horizon place) known stages = let bad : to_flush m ≡ to_raise place = stages in cc
flush_stages m (shard t) (Prepare p) known (w, own, is) = let bad : to_flush m ≡ to_write w.changes w.conditions = own.asks in cc
flush_stages m (shard t) (Learned to placed_ids) known stages = absurd stages.0
flush_stages m (shard t) (Horizon place) known stages = let bad : to_flush m ≡ to_collect t = stages in cc
flush_stages m n next known stages = absurd stages

-- so it is full only after the last generation, and not if there was no checkpoint
full_without_checkpoint : (n m : NodeName) (after : Moment) → HasItsCause 2 n all_up after (begun 0 (to_flush m)) Full → ⊥
unfolding generation_of
full_without_checkpoint n m after (inl (inl full)) = flush_stages m n full.next (full.durable ++ full.staged) full.stages
full_without_checkpoint n m after (inl (inr full)) =
    let none : full.durable ≡ [] = ap durable_of (sym full.is_up) in
    let last = subst (λ (rs : List Record). greatest_number ≤ generation_of rs) none full.last in
    omega (arith, last)
full_without_checkpoint n m after (inr (calls, is)) = let bad : up [] [] ≡ refused Full = is in cc

full_behind_the_last : (staged : List Record) (s : ℕ) (after : Moment) → s < 2
    → HasItsCause 2 (shard s) (with_records (Checkpoint (Begins greatest_number) ∷ []) staged) after (begun 0 (to_flush (shard s))) Full
unfolding generation_of
full_behind_the_last staged s after there = inl (inr (record { durable = Checkpoint (Begins greatest_number) ∷ []; staged = staged; calls = (there, refl); is_up = refl; last = omega arith }))
