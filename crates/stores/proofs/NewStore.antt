-- A store that was just made stands for the empty log.
use Rattle.std.proofs.Common.{◌≡◌, inr, ⊎_elim, ℕ, ◌≤◌, List, [], ◌++◌, length, Contains, refl, sym, ◌∙◌, ap, subst, arith}
use Rattle.std.proofs.lemmas.List.Elements.{All-nil}
use Rattle.stores.proofs.Words.{AreApart, CoordinatorKnows, CoordinatorState, Epoch, HeadsStand, IsRightVerdict, ListedStand, Means, NodeName, NodeState, NodesStand, Record, Refusal, Rests, Stands, at_shards, coordinator, down, empty_rests, end_of, leaves, only_opened, opened, opened_nodes, opening_of, refused, shard, up, whole_rests}
use Rattle.records.specs.Coordinators.{coordinator_state, coordinator_step}
use Rattle.records.specs.Replays.{shard_state, shard_step}
use Rattle.stores.specs.NewStores.{empty_machine}

durable_part : NodeState → List Record
durable_part (up durable staged) = durable
durable_part down = []
durable_part (refused e) = []

staged_part : NodeState → List Record
staged_part (up durable staged) = staged
staged_part down = []
staged_part (refused e) = []

module _ (store shards : ℕ) where
  durable_is : (n : NodeName) (durable staged : List Record) → up (opening_of store shards n) [] ≡ up durable staged → durable ≡ opening_of store shards n
  unfolding durable_part
  durable_is n durable staged is = sym (ap durable_part is)

  staged_is : (n : NodeName) (durable staged : List Record) → up (opening_of store shards n) [] ≡ up durable staged → staged ≡ []
  unfolding staged_part
  staged_is n durable staged is = sym (ap staged_part is)

  left_is : (n : NodeName) (found : List Record) → leaves (only_opened store shards) (opened_nodes store shards) n found → found ≡ opening_of store shards n
  left_is n found (before, is, same) = ⊎_elim (λ e. e ∙ is) (λ e. e ∙ ap (λ l. l ++ []) is ∙ nothing_more n) same
    where
      nothing_more : (n : NodeName) → opening_of store shards n ++ [] ≡ opening_of store shards n
      nothing_more coordinator = refl
      nothing_more (shard s) = refl

  -- what a stop leaves of the coordinator, and of the shards
  abbrev at_coordinator : List Record → Type 0
  at_coordinator = leaves (only_opened store shards) (opened_nodes store shards) coordinator

  abbrev at_all_shards : ℕ → List Record → Type 0
  at_all_shards = at_shards (leaves (only_opened store shards) (opened_nodes store shards))

  rests : Rests store shards [] 0 0 at_coordinator at_all_shards
  rests = empty_rests at_coordinator at_coordinator at_all_shards at_all_shards store shards
      (λ found left. inr (left_is coordinator found left)) (λ s found lt left. inr (left_is (shard s) found left))

  rests_alone : Rests store shards [] 0 0 (λ found. found ≡ opening_of store shards coordinator) at_all_shards
  rests_alone = empty_rests (λ found. found ≡ opening_of store shards coordinator) at_coordinator at_all_shards at_all_shards store shards
      (λ found left. inr left) (λ s found lt left. inr (left_is (shard s) found left))

  no_staged : (n : NodeName) (durable staged : List Record) (epoch a b c : ℕ) → up (opening_of store shards n) [] ≡ up durable staged → Contains staged (Epoch epoch a b c) → ⊥
  no_staged n durable staged epoch a b c is has =
      let none : length staged ≡ 0 = ap length (staged_is n durable staged is) in
      omega (arith, has.1, none)

  -- what the coordinator knows: nothing but its epoch
  alone : CoordinatorState
  alone = record { base = 0; log = []; horizon = 0; epoch = 1 }

  kept_state : (k m : CoordinatorState) → CoordinatorKnows (opened_nodes store shards) k m → k ≡ alone
  unfolding coordinator_state coordinator_step alone
  kept_state k m knows = knows.durable_state ∙ ap coordinator_state (durable_is coordinator knows.durable knows.staged knows.is_up)

  memory_state : (k m : CoordinatorState) → CoordinatorKnows (opened_nodes store shards) k m → m ≡ alone
  unfolding coordinator_state coordinator_step alone
  memory_state k m knows = knows.replayed
      ∙ ap (λ rs. coordinator_state (rs ++ knows.staged)) (durable_is coordinator knows.durable knows.staged knows.is_up)
      ∙ ap (λ rs. coordinator_state (opening_of store shards coordinator ++ rs)) (staged_is coordinator knows.durable knows.staged knows.is_up)

  shard_opened_once : (s : ℕ) (durable staged : List Record) → up (opening_of store shards (shard s)) [] ≡ up durable staged → 1 ≤ (shard_state durable).epoch
  unfolding shard_state shard_step
  shard_opened_once s durable staged is = subst (λ rs. 1 ≤ (shard_state rs).epoch) (sym (durable_is (shard s) durable staged is)) (omega arith)

  nodes : NodesStand store shards (only_opened store shards) (opened_nodes store shards)
  unfolding alone
  nodes = record {
    durable = λ n durable staged found is. let same = durable_is n durable staged is in (λ e. e ∙ sym same, λ e. e ∙ same);
    no_opening = λ n durable staged epoch a b c is has. no_staged n durable staged epoch a b c is has;
    coordinator_opened = λ k m knows. subst (λ (x : CoordinatorState). 1 ≤ x.epoch) (sym (kept_state k m knows)) (omega arith);
    shard_opened = shard_opened_once;
    sound = λ n e is. absurd (up_is_not is);
  }
    where
      up_is_not : {a b : List Record} {e : Refusal} → up a b ≡ refused e → ⊥
      up_is_not is = cc

  heads : HeadsStand store shards (only_opened store shards) (opened_nodes store shards) empty_machine
  unfolding alone
  heads = record {
    log = λ k m knows. ap end_of (memory_state k m knows);
    kept = λ k m knows. ap end_of (kept_state k m knows);
    horizon = λ k m knows. ap (λ (x : CoordinatorState). x.horizon) (kept_state k m knows);
    whole = λ durable staged is. subst (λ rs. Means store shards [] 0 rs at_all_shards) (sym (both_are durable staged is))
        ((whole_rests at_coordinator at_coordinator at_all_shards at_all_shards store shards [] 0 (opening_of store shards coordinator) rests.is_log (omega arith)).1 rests_alone);
  }
    where
      both_are : (durable staged : List Record) → up (opening_of store shards coordinator) [] ≡ up durable staged → durable ++ staged ≡ opening_of store shards coordinator
      both_are durable staged is = ap (λ rs. rs ++ staged) (durable_is coordinator durable staged is) ∙ ap (λ rs. opening_of store shards coordinator ++ rs) (staged_is coordinator durable staged is)

  none_in_doubt : (s : ℕ) (found : List Record) → at_all_shards s found → (shard_state found).in_doubt ≡ []
  unfolding shard_state shard_step
  none_in_doubt s found left = ap (λ rs. (shard_state rs).in_doubt) (left_is (shard s) found left)

  none_apart : AreApart []
  none_apart = record { ids = λ i j v w is_v is_w same. absurd cc; tuples = λ i j v w t is_v is_w has_v has_w. absurd cc }

  nothing_has : {X : Type 0} {x : X} → Contains [] x → ⊥
  nothing_has has = omega (arith, has.1)

  listed : ListedStand store shards (only_opened store shards) (opened_nodes store shards) empty_machine
  unfolding coordinator_state coordinator_step
  listed s found lt left =
      let whole = heads.whole (opening_of store shards coordinator) [] refl in
      let here = whole.each_shard s found lt left in
      here.means

  pub stands : Stands store shards (only_opened store shards) (opened store shards)
  stands = record {
    rests = rests;
    nodes = nodes;
    heads = heads;
    listed = listed;
    locks = λ s found lt left. subst AreApart (sym (none_in_doubt s found left)) none_apart;
    ids = record {
      distinct = λ i j v w is_v is_w same. absurd cc;
      few = omega arith;
      unlisted = λ w has. absurd (nothing_has has);
      of_now = λ w has. absurd (nothing_has has);
      log_given = λ w has. absurd (nothing_has has);
      prepares_given = λ s found w lt left has. absurd (nothing_has (subst (λ ws. Contains ws w) (none_in_doubt s found left) has));
    };
    flows = record {
      few = omega arith;
      slots = λ i j q r is_q is_r same. absurd cc;
      ids = λ i j q r id is_q is_r same also. absurd cc;
      held = λ r has. absurd (nothing_has has);
      seen = λ r has. absurd (nothing_has has);
      quiet = λ r has. absurd (nothing_has has);
    };
    told = All-nil (IsRightVerdict shards (only_opened store shards) (opened store shards));
  }
