-- A shard of a store that stands stages one more record: what is known of the nodes then.
use Rattle.std.proofs.Common.{◌≡◌, ◌≢◌, ◌⊎◌, inl, inr, ⊎_elim, ℕ, ◌<◌, ◌≤◌, List, [], ◌∷◌, ◌++◌, refl, sym, ◌∙◌, ap, subst, arith, append_assoc, append-nil}
use Rattle.stores.proofs.Words.{CoordinatorKnows, CoordinatorState, Entry, IsGivenBy, IsOpen, IsRightVerdict, IsStaging, Moment, NodeName, NodeState, Nodes, Record, ShardKnows, ShardState, WasGiven, WriteId, coordinator, coordinator_state, down, leaves, refused, same_or_not, shard, shard_state, staged_of, up, with_nodes}
use Rattle.laws.specs.ShardLaws.{IsEpochGiven}

-- a node's records, told apart
abbrev pub durable_in : NodeState → List Record
durable_in (up durable staged) = durable
durable_in down = []
durable_in (refused e) = []

abbrev pub shard_number : NodeName → ℕ
shard_number coordinator = 0
shard_number (shard s) = s

abbrev pub is_shard : NodeName → ℕ
is_shard coordinator = 0
is_shard (shard s) = 1

module _ (store shards : ℕ) (left : NodeName → List Record → Type 0) (now : Moment) (next : Nodes) (s : ℕ) (r : Record) (st : IsStaging store shards left now next s r) where
  abbrev pub memory : List Record
  memory = st.step.durable ++ st.step.staged

  abbrev pub longer : List Record
  longer = (st.step.durable ++ st.step.staged) ++ r ∷ []

  staged_was : staged_of (now.nodes.at (shard s)) ≡ st.step.staged
  staged_was = ap staged_of st.step.was

  staged_now : staged_of (next.at (shard s)) ≡ st.step.staged ++ r ∷ []
  staged_now = ap staged_of st.step.now

  only_durable : (before : List Record) → left (shard s) before → before ≡ st.step.durable
  only_durable before is = (st.stands.nodes.durable (shard s) st.step.durable st.step.staged before st.step.was).0 is

  pub memory_left : leaves left now.nodes (shard s) memory
  memory_left = (st.step.durable, (st.stands.nodes.durable (shard s) st.step.durable st.step.staged st.step.durable st.step.was).1 refl, inr (ap (λ (l : List Record). st.step.durable ++ l) (sym staged_was)))

  other_shard : (t : ℕ) → t ≢ s → next.at (shard t) ≡ now.nodes.at (shard t)
  other_shard t ne = st.step.others.others (shard t) (λ same. ne (ap shard_number same))

  pub same_coordinator : next.at coordinator ≡ now.nodes.at coordinator
  same_coordinator = st.step.others.others coordinator (λ same. let no_shard : 0 ≡ 1 = ap is_shard same in absurd (omega (arith, no_shard)))

  no_coordinator : shard s ≢ coordinator
  no_coordinator same = let no_shard : 1 ≡ 0 = ap is_shard same in absurd (omega (arith, no_shard))

  pub same_open : next.open_writes ≡ now.nodes.open_writes
  same_open = st.step.others.open_writes no_coordinator

  pub same_given : next.given ≡ now.nodes.given
  same_given = st.step.others.given no_coordinator

  -- a stop leaves what it could leave, or at this shard the longer list
  pub left_now : (t : ℕ) (found : List Record) → leaves left next (shard t) found → leaves left now.nodes (shard t) found ⊎ ((t ≡ s) × (found ≡ longer))
  left_now t found is = ⊎_elim
      (λ (same : t ≡ s). ⊎_elim
      (λ plain. inl (is.0, is.1, inl plain))
      (λ more. inr (
        same,
        more
            ∙ ap (λ (l : List Record). is.0 ++ l) (ap (λ (k : ℕ). staged_of (next.at (shard k))) same ∙ staged_now)
            ∙ ap (λ (l : List Record). l ++ (st.step.staged ++ r ∷ [])) (only_durable is.0 (subst (λ (k : ℕ). left (shard k) is.0) same is.1))
            ∙ sym (append_assoc st.step.durable st.step.staged (r ∷ [])),
      ))
      is.2)
      (λ ne. inl (is.0, is.1, ⊎_elim (λ plain. inl plain) (λ more. inr (more ∙ ap (λ (n : NodeState). is.0 ++ staged_of n) (other_shard t ne))) is.2))
      (same_or_not t s)

  pub coordinator_left : (found : List Record) → leaves left next coordinator found → leaves left now.nodes coordinator found
  coordinator_left found is = (is.0, is.1, ⊎_elim (λ plain. inl plain) (λ more. inr (more ∙ ap (λ (n : NodeState). is.0 ++ staged_of n) same_coordinator)) is.2)

  -- a shard knows what it knew, or the longer list
  pub shard_knows : (t : ℕ) (m : ShardState) → ShardKnows next t m → ShardKnows now.nodes t m ⊎ ((t ≡ s) × (m ≡ shard_state longer))
  shard_knows t m k = ⊎_elim
      (λ (same : t ≡ s).
      let is : up k.durable k.staged ≡ up st.step.durable (st.step.staged ++ r ∷ []) = sym k.is_up ∙ ap (λ (j : ℕ). next.at (shard j)) same ∙ st.step.now in
      inr (
        same,
        k.replayed
            ∙ ap (λ (l : List Record). shard_state (l ++ k.staged)) (ap durable_in is)
            ∙ ap (λ (l : List Record). shard_state (st.step.durable ++ l)) (ap staged_of is)
            ∙ ap shard_state (sym (append_assoc st.step.durable st.step.staged (r ∷ []))),
      ))
      (λ ne. inl (record { durable = k.durable; staged = k.staged; is_up = sym (other_shard t ne) ∙ k.is_up; replayed = k.replayed }))
      (same_or_not t s)

  -- before, the shard knew its memory
  pub shard_knew : ShardKnows now.nodes s (shard_state memory)
  shard_knew = record { durable = st.step.durable; staged = st.step.staged; is_up = st.step.was; replayed = refl }

  pub coordinator_knew : (kept m : CoordinatorState) → CoordinatorKnows next kept m → CoordinatorKnows now.nodes kept m
  coordinator_knew kept m k = record { durable = k.durable; staged = k.staged; is_up = sym same_coordinator ∙ k.is_up; durable_state = k.durable_state; replayed = k.replayed }

  pub was_open : (w : Entry) → IsOpen next w → IsOpen now.nodes w
  was_open w = subst (λ (l : List Entry). IsOpen (record next { open_writes = l }) w) same_open

  pub is_open : (w : Entry) → IsOpen now.nodes w → IsOpen next w
  is_open w = subst (λ (l : List Entry). IsOpen (record next { open_writes = l }) w) (sym same_open)

  pub is_given : (m : CoordinatorState) (id : WriteId) → IsGivenBy now.nodes m id → IsGivenBy next m id
  is_given m id given = ⊎_elim (λ earlier. inl earlier) (λ of_now. inr (of_now.0, subst (λ (n : ℕ). id.number ≤ n) (sym same_given) of_now.1)) given

  pub given_kept : (id : WriteId) → WasGiven shards left now.nodes id → WasGiven shards left next id
  given_kept id g = record { epoch = g.epoch; now = λ kept m k. is_given m id (g.now kept m (coordinator_knew kept m k)) }

  pub verdict_kept : (id : WriteId) → IsRightVerdict shards left now id → IsRightVerdict shards left (with_nodes now next) id
  verdict_kept id v = record { given = given_kept id v.given; closed = λ w here. v.closed w (was_open w here); none = v.none }

  -- an id that was given out is at or below the epoch of all that a stop may leave of the coordinator, with what is staged or without
  pub epoch_given : (id : WriteId) → WasGiven shards left now.nodes id → IsEpochGiven (leaves left now.nodes coordinator) id.epoch
  epoch_given id g found is = ⊎_elim
      (λ plain. subst (λ (l : List Record). id.epoch ≤ (coordinator_state l).epoch) (sym plain) (g.epoch is.0 is.1))
      (λ more. by_state (now.nodes.at coordinator) refl more)
      is.2
    where
      by_state : (n : NodeState) → now.nodes.at coordinator ≡ n → found ≡ is.0 ++ staged_of (now.nodes.at coordinator) → id.epoch ≤ (coordinator_state found).epoch
      by_state (up durable staged) at more =
          let whole : found ≡ durable ++ staged = more ∙ ap (λ (n : NodeState). is.0 ++ staged_of n) at ∙ ap (λ (l : List Record). l ++ staged) ((st.stands.nodes.durable coordinator durable staged is.0 at).0 is.1) in
          let known : IsGivenBy now.nodes (coordinator_state (durable ++ staged)) id = g.now (coordinator_state durable) (coordinator_state (durable ++ staged)) (record { durable = durable; staged = staged; is_up = at; durable_state = refl; replayed = refl }) in
          let low : id.epoch ≤ (coordinator_state (durable ++ staged)).epoch = ⊎_elim (λ (earlier : id.epoch < (coordinator_state (durable ++ staged)).epoch). omega arith) (λ of_now. let same = of_now.0 in omega (arith, same)) known in
          subst (λ (l : List Record). id.epoch ≤ (coordinator_state l).epoch) (sym whole) low
      by_state down at more = subst (λ (l : List Record). id.epoch ≤ (coordinator_state l).epoch) (sym (more ∙ ap (λ (n : NodeState). is.0 ++ staged_of n) at ∙ append-nil is.0)) (g.epoch is.0 is.1)
      by_state (refused e) at more = subst (λ (l : List Record). id.epoch ≤ (coordinator_state l).epoch) (sym (more ∙ ap (λ (n : NodeState). is.0 ++ staged_of n) at ∙ append-nil is.0)) (g.epoch is.0 is.1)
