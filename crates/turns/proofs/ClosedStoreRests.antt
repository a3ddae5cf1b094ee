-- A store that stands rests over its devices once it is closed, and unmade devices rest at the empty log.
use Rattle.std.proofs.Common.{◌≡◌, ◌≤◌, inl, ℕ, List, [], take, Some, refl, sym, ◌∙◌, ap, subst, arith}
use Rattle.std.proofs.lemmas.List.{take_all}
use Rattle.turns.proofs.Words.{AreSound, Entry, IsThere, NodeName, Record, Rests, ShardMeans, ShardState, State, at_shards, coordinator, coordinator_state, empty_rests, leaves, left, less_rests, shard, shard_state, stops}
use Rattle.journal.specs.Records.{found}
use Rattle.journal.proofs.Joined.{found_nothing}
use Rattle.turns.specs.StoreLaws.{ClosedStoresRest, IsUnmade, UnmadeStoresRest}
use Rattle.turns.proofs.ShardPrepareSeam.{last_sync}
use Rattle.device.proofs.States.{unmade_left}

-- what a shard's records mean, seen with the coordinator's horizon, they mean with a lower one
pub means_lower : (shards s : ℕ) (log : List Entry) (hc h : ℕ) (found : ShardState) → h ≤ hc → ShardMeans shards s log hc h found → ShardMeans shards s log h h found
means_lower shards s log hc h found le m = record { learned = m.learned; horizon = m.horizon; rows = m.rows; settled = omega (arith, le, m.settled); in_doubt = m.in_doubt }

module _ {D : Type 0} (state : D → State) (honest : D → Type 0) (moment : D → ℕ) (left_since : D → ℕ → List ℕ → Type 0) (store shards : ℕ) where
  pub closed_stores_rest : ClosedStoresRest state honest moment left_since store shards
  closed_stores_rest s now st =
      let left = stops state honest store shards s.devices in
      let with = leaves left now.nodes in (
        record {
          sound = st.sound;
          rests = (less_rests (with coordinator) (left coordinator) (at_shards with) (at_shards left) store shards now.machine.log now.machine.kept now.machine.horizon
              (λ found is. (found, is, inl refl)) (λ t found is. (found, is, inl refl))).0 st.stands.rests;
          listed = λ t found lt is. st.stands.listed t found lt (found, is, inl refl);
          given = λ w has. (st.stands.ids.log_given w has).epoch;
        },
        λ j d lt. let verdict = st.stands.told j d lt in record { given = verdict.given.epoch; none = verdict.none },
      )

  module _ (devices : NodeName → D × D) (un : (n : NodeName) → IsThere shards n → IsUnmade (state (devices n).0) × IsUnmade (state (devices n).1)) where
    records_none : (n : NodeName) (a b : List ℕ) → IsThere shards n → left (state (devices n).0) a → left (state (devices n).1) b → found a b ≡ Some []
    records_none n a b there in_a in_b =
        ap (λ (x : List ℕ). found x b) (unmade_left (state (devices n).0) a (un n there).0.durable (un n there).0.written in_a) ∙ ap (found []) (unmade_left (state (devices n).1) b (un n there).1.durable (un n there).1.written in_b) ∙ found_nothing

    pub stops_none : (n : NodeName) (rs : List Record) → IsThere shards n → stops state honest store shards devices n rs → rs ≡ []
    stops_none n rs there (a, b, in_a, in_b, is) = let both : Some [] ≡ Some rs = sym (records_none n a b there in_a in_b) ∙ is in cc

    -- a stop leaves no records of the coordinator
    pub left_empty : stops state honest store shards devices coordinator []
    left_empty =
        let a = state (devices coordinator).0 in
        let b = state (devices coordinator).1 in
        (a.durable, b.durable, last_sync a, last_sync b, records_none coordinator a.durable b.durable tt (last_sync a) (last_sync b))

    pub unmade_sound : (honest_devices : (n : NodeName) → IsThere shards n → honest (devices n).0 × honest (devices n).1) → AreSound state honest store shards devices
    unmade_sound both = record {
      honest_a = λ n there. (both n there).0;
      honest_b = λ n there. (both n there).1;
      readable = λ n a b there in_a in_b. ([], records_none n a b there in_a in_b);
    }

pub unmade_stores_rest : {D : Type 0} (state : D → State) (honest : D → Type 0) (moment : D → ℕ) (left_since : D → ℕ → List ℕ → Type 0) (store shards : ℕ) → UnmadeStoresRest state honest moment left_since store shards
unmade_stores_rest state honest moment left_since store shards devices both un =
    let left = stops state honest store shards devices in
    let rests : Rests store shards [] 0 0 (left coordinator) (at_shards left) = empty_rests (left coordinator) (left coordinator) (at_shards left) (at_shards left) store shards
    (λ found is. inl (stops_none state honest moment left_since store shards devices un coordinator found tt is))
    (λ s found lt is. inl (stops_none state honest moment left_since store shards devices un (shard s) found lt is)) in
    record {
      sound = unmade_sound state honest moment left_since store shards devices un both;
      rests = rests;
      listed = λ s found lt is.
          let each = rests.each [] (left_empty state honest moment left_since store shards devices un) in
          let none : take each.0 [] ≡ [] = take_all each.0 [] (omega arith) in
          means_lower shards s [] (coordinator_state []).horizon 0 (shard_state found) (omega arith)
          (subst (λ (l : List Entry). ShardMeans shards s l (coordinator_state []).horizon 0 (shard_state found)) none (each.3.each_shard s found lt is).means);
      given = λ w has. absurd (omega (arith, has.1));
    }
