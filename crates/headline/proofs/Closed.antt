-- A store that is closed stands with all nodes down, at what its coordinator is found to hold, or at all of its log.
use Rattle.std.proofs.Common.{◌≡◌, ⊎_elim, ◌≤◌, ◌<◌, ℕ, List, take, Option, Some, None, slice_get, Contains, All, refl, sym, ◌∙◌, subst, arith, append-nil}
use Rattle.std.proofs.lemmas.List.Elements.{All-nil}
use Rattle.headline.proofs.Words.{Entry, IsGivenOut, Machine, Moment, NodeName, Record, Refusal, Rests, ShardMeans, Stands, WasGiven, WriteId, at_shards, closed_nodes, contained_at, coordinator, coordinator_state, down, leaves, less_rests, refused, shard, shard_node, shard_state, slice_get_taken}
use Rattle.records.specs.Replays.{find_in_doubt}
use Rattle.laws.specs.ShardLaws.{IsUnlistedAbove}
use Rattle.laws.proofs.Locks.{doubts_apart, not_found}
use Rattle.stores.specs.Held.{IsRightVerdict}
use Rattle.turns.specs.ReopenLaws.{closed_at}
use Rattle.turns.proofs.ClosedStore.{nothing_is_up}
use Rattle.tuples.proofs.Lists.{nothing_in}

-- the same with these ids, of which somebody was told
abbrev pub closed_with : Machine → List WriteId → Moment
closed_with m told = record (closed_at m) { told = told }

never_refused : (e : Refusal) → down ≡ refused e → ⊥
never_refused e is = cc

-- an id that somebody was told is aborted: it was given out, and no write above the horizon has it
abbrev pub IsSoTold : (List Record → Type 0) → Machine → WriteId → Type 0
IsSoTold at_coordinator m id = IsGivenOut at_coordinator id × IsUnlistedAbove m.horizon id m.log

-- nothing is staged at nodes that are down
pub only_left : (left : NodeName → List Record → Type 0) (n : NodeName) (rs : List Record) → leaves left closed_nodes n rs → left n rs
only_left left n rs (was, is_left, which) = subst (left n) (sym (⊎_elim (λ plain. plain) (λ more. more ∙ append-nil was) which)) is_left

pub closed_rests : (store shards : ℕ) (left : NodeName → List Record → Type 0) (m : Machine) → Rests store shards m.log m.kept m.horizon (left coordinator) (at_shards left)
    → Rests store shards m.log m.kept m.horizon (leaves left closed_nodes coordinator) (at_shards (leaves left closed_nodes))
closed_rests store shards left m rests = (less_rests (left coordinator) (leaves left closed_nodes coordinator) (at_shards left) (at_shards (leaves left closed_nodes)) store shards m.log m.kept m.horizon
    (λ rs is. only_left left coordinator rs is) (λ s rs is. only_left left (shard s) rs is)).0 rests

module _ (store shards : ℕ) (left : NodeName → List Record → Type 0) (m : Machine) where
  -- with what was told it stands as it stood
  pub stands_told : (told : List WriteId) → Stands store shards left (closed_at m) → All (IsSoTold (left coordinator) m) told → Stands store shards left (closed_with m told)
  stands_told told st all = record {
    rests = st.rests;
    nodes = st.nodes;
    heads = st.heads;
    listed = st.listed;
    locks = st.locks;
    ids = st.ids;
    flows = record {
      few = omega arith;
      slots = λ i j q r is_q is_r same. absurd cc;
      ids = λ i j q r id is_q is_r same also. absurd cc;
      held = λ r has. absurd (nothing_in _ has);
      seen = λ r has. absurd (nothing_in _ has);
      quiet = λ r has. absurd (nothing_in _ has);
    };
    told = λ j d lt.
        let told_so = all j d lt in
        record { given = record { epoch = told_so.0; now = λ kept memory k. absurd (nothing_is_up k.is_up) }; closed = λ w has. absurd (nothing_in _ has); none = told_so.1 };
  }

  -- If whatever a stop leaves of a shard means the whole log, the store stands at all of it, whatever is left of the coordinator.
  module _ (rests : Rests store shards m.log m.kept m.horizon (left coordinator) (at_shards left)) (some : (rs : List Record) × left coordinator rs)
      (listed : (s : ℕ) (found : List Record) → s < shards → left (shard s) found → ShardMeans shards s m.log m.horizon m.horizon (shard_state found))
      (given : (w : Entry) → Contains m.log w → IsGivenOut (left coordinator) w.id) where
    was_given : (id : WriteId) → IsGivenOut (left coordinator) id → WasGiven shards left closed_nodes id
    was_given id out = record { epoch = out; now = λ kept memory k. absurd (nothing_is_up k.is_up) }

    in_doubt_given : (s : ℕ) (rs : List Record) (w : Entry) → s < shards → left (shard s) rs → Contains (shard_state rs).in_doubt w → IsGivenOut (left coordinator) w.id
    in_doubt_given s rs w lt is has found at_found =
        let at = contained_at (shard_state rs).in_doubt w has in
        by_found at.0 at.1 (find_in_doubt w.id (shard_state rs).in_doubt) refl
      where
        by_found : (j : ℕ) → slice_get (shard_state rs).in_doubt j ≡ Some w → (o : Option Entry) → find_in_doubt w.id (shard_state rs).in_doubt ≡ o → w.id.epoch ≤ (coordinator_state found).epoch
        by_found j at None none = absurd (not_found w.id (shard_state rs).in_doubt j w none at refl)
        by_found j at (Some p) is_there = ((rests.each found at_found).3.each_shard s rs lt is).given w.id p is_there

    pub stands_uncut : Stands store shards left (closed_at m)
    stands_uncut = record {
      rests = closed_rests store shards left m rests;
      nodes = record {
        durable = λ k d g rs is. absurd (nothing_is_up is);
        no_opening = λ k d g a b c e is has. nothing_is_up is;
        coordinator_opened = λ kept memory k. absurd (nothing_is_up k.is_up);
        shard_opened = λ s d g is. absurd (nothing_is_up is);
        sound = λ k e is. absurd (never_refused e is);
      };
      heads = record {
        log = λ kept memory k. absurd (nothing_is_up k.is_up);
        kept = λ kept memory k. absurd (nothing_is_up k.is_up);
        horizon = λ kept memory k. absurd (nothing_is_up k.is_up);
        whole = λ d g is. absurd (nothing_is_up is);
      };
      listed = λ s rs lt is. listed s rs lt (only_left left (shard s) rs is);
      locks = λ s rs lt is. doubts_apart (shard_node store shards s) rs ((rests.each some.0 some.1).3.each_shard s rs lt (only_left left (shard s) rs is)).image;
      ids = record {
        distinct = λ i j v w is_v is_w same. absurd cc;
        few = omega arith;
        unlisted = λ w has. absurd (nothing_in _ has);
        of_now = λ w has. absurd (nothing_in _ has);
        log_given = λ w has. was_given w.id (given w has);
        prepares_given = λ s rs w lt is has. was_given w.id (in_doubt_given s rs w lt (only_left left (shard s) rs is) has);
      };
      flows = record {
        few = omega arith;
        slots = λ i j q r is_q is_r same. absurd cc;
        ids = λ i j q r id is_q is_r same also. absurd cc;
        held = λ r has. absurd (nothing_in _ has);
        seen = λ r has. absurd (nothing_in _ has);
        quiet = λ r has. absurd (nothing_in _ has);
      };
      told = All-nil (IsRightVerdict shards left (closed_at m));
    }

-- what was told stays so of a log that was cut, with a horizon that rose
pub told_cut : (m : Machine) (n h : ℕ) (id : WriteId) → m.horizon ≤ h → IsUnlistedAbove m.horizon id m.log → IsUnlistedAbove h id (take n m.log)
told_cut m n h id low none j w is above = none j w (slice_get_taken n m.log j w is) (omega (arith, low, above))
