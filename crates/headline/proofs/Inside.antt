-- At every moment since some nodes were opened again a stop leaves of each what it could leave before, or that with the record of an opening.
use Rattle.std.proofs.Common.{◌≡◌, ◌⊎◌, inl, inr, ⊎_elim, ◌≤◌, ◌+◌, ◌++◌, ℕ, List, [], ◌∷◌, Some, refl, sym, ◌∙◌, ap, subst, arith, append-nil}
use Rattle.std.proofs.lemmas.Option.{same_Some}
use Rattle.headline.proofs.Words.{AreSound, CoordinatorState, Epoch, IsCoordinatorImage, IsGivenOut, IsHorizonIn, IsThere, Machine, NodeName, NodeView, Nodes, Record, Rests, State, WriteId, at_shards, coordinator, coordinator_node, coordinator_push, coordinator_state, devices_of, found, leaves, left, shard, shard_state, staged_of, stops, stops_since}
use Rattle.records.specs.Coordinators.{MayOpenAgain, coordinator_step}
use Rattle.laws.proofs.CoordinatorStates.{coordinator_last}
use Rattle.stores.proofs.Places.{each_in_place}
use Rattle.turns.specs.Promises.{StopsBetween}
use Rattle.turns.specs.RestartLaws.{IsReopenedCoordinator, IsReopenedShard}
use Rattle.turns.proofs.StopInside.{left_or_opened, means_or_opened}
use Rattle.headline.proofs.Reopening.{AreOver, image_of, opening_of}
use Rattle.headline.proofs.Within.{IsLonger, WasOrIsLonger, opened_now, opened_since}

-- with the record of an opening the coordinator is of a later epoch, and its horizon is as it was
module _ (store shards : ℕ) (rs : List Record) (epoch : ℕ) where
  longer_epoch : IsCoordinatorImage (coordinator_node store shards) (rs ++ Epoch epoch store shards 255 ∷ []) → (coordinator_state rs).epoch ≤ (coordinator_state (rs ++ Epoch epoch store shards 255 ∷ [])).epoch
  unfolding coordinator_step
  longer_epoch image =
      let may : MayOpenAgain (coordinator_node store shards) (coordinator_state rs) epoch store shards 255 = coordinator_last (coordinator_node store shards) rs (Epoch epoch store shards 255) image in
      let is : (coordinator_state (rs ++ Epoch epoch store shards 255 ∷ [])).epoch ≡ epoch = ap (λ (c : CoordinatorState). c.epoch) (coordinator_push rs (Epoch epoch store shards 255)) in
      omega (arith, is, may.next)

  longer_horizon : (coordinator_state (rs ++ Epoch epoch store shards 255 ∷ [])).horizon ≡ (coordinator_state rs).horizon
  unfolding coordinator_step
  longer_horizon = ap (λ (c : CoordinatorState). c.horizon) (coordinator_push rs (Epoch epoch store shards 255))

module _ {D : Type 0} (state : D → State) (honest : D → Type 0) (moment : D → ℕ) (left_since : D → ℕ → List ℕ → Type 0)
    (counts_now : (d : D) (t : ℕ) (c : List ℕ) → honest d → t ≤ moment d → left (state d) c → left_since d t c) (only_now : (d : D) (c : List ℕ) → honest d → left_since d (moment d) c → left (state d) c)
    (store shards : ℕ) (old new : NodeName → D × D) where
  abbrev before : NodeName → List Record → Type 0
  before = stops state honest store shards old

  abbrev since : NodeName → List Record → Type 0
  since = stops_since state honest moment left_since store shards old new

  -- records that a stop could leave of the node, with the record of an opening after them
  abbrev pub IsReopenedNode : NodeName → List Record → Type 0
  IsReopenedNode coordinator rs = IsReopenedCoordinator store shards before rs
  IsReopenedNode (shard s) rs = IsReopenedShard store shards s before rs

  -- these contents hold records that a stop could leave, with the record of an opening or without
  abbrev pub HoldsAsBefore : NodeName → List ℕ → List ℕ → Type 0
  HoldsAsBefore n c d = (rs : List Record) × (found c d ≡ Some rs) × (before n rs ⊎ IsReopenedNode n rs)

  -- the devices of the node are honest, and whatever a stop leaves of them, or might have left since they were as before, holds that
  pub record HoldsOn (n : NodeName) : Type 0 where
    pub honest_a : honest (new n).0
    pub honest_b : honest (new n).1
    pub since_then : (c d : List ℕ) → left_since (new n).0 (moment (old n).0) c → left_since (new n).1 (moment (old n).1) d → HoldsAsBefore n c d
    pub now : (c d : List ℕ) → left (state (new n).0) c → left (state (new n).1) d → HoldsAsBefore n c d

  -- so it is of a node that was not opened
  pub holds_still : AreSound state honest store shards old → (n : NodeName) → IsThere shards n → new n ≡ old n → HoldsOn n
  holds_still sound n there same = record {
    honest_a = subst (λ (p : D × D). honest p.0) (sym same) (sound.honest_a n there);
    honest_b = subst (λ (p : D × D). honest p.1) (sym same) (sound.honest_b n there);
    since_then = λ c d in_c in_d. could_be c d
        (only_now (old n).0 c (sound.honest_a n there) (subst (λ (p : D × D). left_since p.0 (moment (old n).0) c) same in_c))
        (only_now (old n).1 d (sound.honest_b n there) (subst (λ (p : D × D). left_since p.1 (moment (old n).1) d) same in_d));
    now = λ c d in_c in_d. could_be c d (subst (λ (p : D × D). left (state p.0) c) same in_c) (subst (λ (p : D × D). left (state p.1) d) same in_d);
  }
    where
      could_be : (c d : List ℕ) → left (state (old n).0) c → left (state (old n).1) d → HoldsAsBefore n c d
      could_be c d in_c in_d = let rs = sound.readable n c d there in_c in_d in (rs.0, rs.1, inl (c, d, in_c, in_d, rs.1))

  -- and of one that was
  as_reopened : (n : NodeName) (rs : List Record) → IsLonger state honest moment left_since counts_now only_now (image_of store shards n) (opening_of store shards n) (old n).0 (old n).1 rs → IsReopenedNode n rs
  as_reopened coordinator rs (was, could, image, is) = record { found = was; epoch = (coordinator_state was).epoch + 1; was_left = could; is = is; image = image }
  as_reopened (shard s) rs (was, could, image, is) = record { found = was; epoch = (shard_state was).epoch + 1; was_left = could; is = is; image = image }

  pub holds_opened : AreSound state honest store shards old → (n : NodeName) → IsThere shards n → (is : NodeView D) → new n ≡ devices_of is
      → AreOver state honest moment left_since counts_now only_now store shards n (old n).0 (old n).1 is → HoldsOn n
  holds_opened sound n there is same over = record {
    honest_a = subst (λ (p : D × D). honest p.0) (sym same) over.honest_a;
    honest_b = subst (λ (p : D × D). honest p.1) (sym same) over.honest_b;
    since_then = λ c d in_c in_d. in_words c d (opened_since state honest moment left_since counts_now only_now (image_of store shards n) (opening_of store shards n) (old n).0 (old n).1 (devices_of is).0 (devices_of is).1
        (sound.honest_a n there) (sound.honest_b n there) readable over c d
        (subst (λ (p : D × D). left_since p.0 (moment (old n).0) c) same in_c) (subst (λ (p : D × D). left_since p.1 (moment (old n).1) d) same in_d));
    now = λ c d in_c in_d. in_words c d (opened_now state honest moment left_since counts_now only_now (image_of store shards n) (opening_of store shards n) (old n).0 (old n).1 (devices_of is).0 (devices_of is).1
        (sound.honest_a n there) (sound.honest_b n there) readable over c d (subst (λ (p : D × D). left (state p.0) c) same in_c) (subst (λ (p : D × D). left (state p.1) d) same in_d));
  }
    where
      readable : (c d : List ℕ) → left (state (old n).0) c → left (state (old n).1) d → (rs : List Record) × (found c d ≡ Some rs)
      readable c d in_c in_d = sound.readable n c d there in_c in_d

      in_words : (c d : List ℕ) → WasOrIsLonger state honest moment left_since counts_now only_now (image_of store shards n) (opening_of store shards n) (old n).0 (old n).1 c d → HoldsAsBefore n c d
      in_words c d (rs, is_found, which) = (rs, is_found, ⊎_elim (λ was. inl was) (λ longer. inr (as_reopened n rs longer)) which)

  -- if it is so of each node that is there
  module _ (all : (n : NodeName) → IsThere shards n → HoldsOn n) where
    pub sound_now : AreSound state honest store shards new
    sound_now = record {
      honest_a = λ n there. (all n there).honest_a;
      honest_b = λ n there. (all n there).honest_b;
      readable = λ n c d there in_c in_d. let x = (all n there).now c d in_c in_d in (x.0, x.1);
    }

    at_node : (n : NodeName) (rs : List Record) → since n rs → IsThere shards n → before n rs ⊎ IsReopenedNode n rs
    at_node n rs (c, d, in_c, in_d, is) there =
        let x = (all n there).since_then c d in_c in_d in
        subst (λ (l : List Record). before n l ⊎ IsReopenedNode n l) (same_Some x.0 rs (sym x.1 ∙ is)) x.2

    pub now_left : (n : NodeName) (rs : List Record) → stops state honest store shards new n rs → IsThere shards n → before n rs ⊎ IsReopenedNode n rs
    now_left n rs (c, d, in_c, in_d, is) there =
        let x = (all n there).now c d in_c in_d in
        subst (λ (l : List Record). before n l ⊎ IsReopenedNode n l) (same_Some x.0 rs (sym x.1 ∙ is)) x.2

    abbrev there_since : NodeName → List Record → Type 0
    there_since n rs = since n rs × IsThere shards n

    of_shard : (nodes : Nodes) (s : ℕ) (rs : List Record) → there_since (shard s) rs → leaves before nodes (shard s) rs ⊎ IsReopenedShard store shards s before rs
    of_shard nodes s rs is = ⊎_elim (λ was. inl (rs, was, inl refl)) (λ longer. inr longer) (at_node (shard s) rs is.0 is.1)

    of_coordinator : (nodes : Nodes) (rs : List Record) → since coordinator rs → leaves before nodes coordinator rs ⊎ IsReopenedCoordinator store shards before rs
    of_coordinator nodes rs is = ⊎_elim (λ was. inl (rs, was, inl refl)) (λ longer. inr longer) (at_node coordinator rs is tt)

    pub given_still : (id : WriteId) (rs : List Record) → IsGivenOut (before coordinator) id → before coordinator rs ⊎ IsReopenedCoordinator store shards before rs → id.epoch ≤ (coordinator_state rs).epoch
    given_still id rs given (inl was) = given rs was
    given_still id rs given (inr re) =
        let low = given re.found re.was_left in
        let on = longer_epoch store shards re.found re.epoch re.image in
        let same : (coordinator_state rs).epoch ≡ (coordinator_state (re.found ++ Epoch re.epoch store shards 255 ∷ [])).epoch = ap (λ (l : List Record). (coordinator_state l).epoch) re.is in
        omega (arith, low, on, same)

    -- a stop inside leaves what means what rested before
    pub inside : (nodes : Nodes) (m later : Machine) → Rests store shards m.log m.kept m.horizon (leaves before nodes coordinator) (at_shards (leaves before nodes))
        → StopsBetween state honest moment left_since store shards old new m later
    inside nodes m later rests = record {
      rests = λ rs is.
          let one = each_in_place store shards before nodes (λ s. there_since (shard s)) (λ s c left_there. left_or_opened store shards before nodes s c (of_shard nodes s c left_there)) m.log m.kept m.horizon rests rs
          (means_or_opened store shards before nodes rs (of_coordinator nodes rs is)) in
          inl (record { n = one.0; holds = one.1; within = one.2; means = record { image = one.3.image; decided = one.3.decided; each_shard = λ s c lt left_there. one.3.each_shard s c lt (left_there, lt) } });
      readable = λ n c d there in_c in_d. let x = (all n there).since_then c d in_c in_d in (x.0, x.1);
      given = λ id given rs is. given_still id rs given (at_node coordinator rs is tt);
    }

    -- and no horizon is new, if the coordinator has staged nothing
    pub old_horizon : (next nodes : Nodes) → staged_of (next.at coordinator) ≡ [] → (x : ℕ) → IsHorizonIn store shards (stops state honest store shards new) next x → IsHorizonIn store shards before nodes x
    old_horizon next nodes none x (some, (rs, (was, is_left, which), high)) =
        let same : rs ≡ was = ⊎_elim (λ plain. plain) (λ more. more ∙ ap (λ (l : List Record). was ++ l) none ∙ append-nil was) which in
        by_records was (sym (ap (λ (l : List Record). (coordinator_state l).horizon) same) ∙ high) (now_left coordinator was is_left tt)
      where
        by_records : (was : List Record) → (coordinator_state was).horizon ≡ x → before coordinator was ⊎ IsReopenedCoordinator store shards before was → IsHorizonIn store shards before nodes x
        by_records was at (inl could) = (some, (was, (was, could, inl refl), at))
        by_records was at (inr re) = (
          some,
          (
            re.found,
            (re.found, re.was_left, inl refl),
            sym (longer_horizon store shards re.found re.epoch) ∙ sym (ap (λ (l : List Record). (coordinator_state l).horizon) re.is) ∙ at,
          ),
        )
