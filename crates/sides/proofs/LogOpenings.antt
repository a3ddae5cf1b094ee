-- What a coordinator that is opened again found may join the list.
use Rattle.std.proofs.Common.{⊎_elim, ℕ, ◌≤◌, true≢false, List, Option, Some, None, sym, ◌∙◌, subst}
use Rattle.sides.proofs.Words.{Anywhere, Attempt, coordinator, coordinator_node, CoordinatorOpens, devices_of, Entry, IsTied, IsTiedThere, left, LogOpenedIn, LogReopens, LogRestartedIn, MayJoin, NodeView, Refusal, refused, shard, State}
use Rattle.ties.proofs.Opening.{openings_stay_tied, refused_openings_stay_tied}
use Rattle.sides.proofs.Revived.{left_before, reads_itself, still}

module _ {D : Type 0} (state : D → State) (honest : D → Type 0) (moment : D → ℕ) (left_since : D → ℕ → List ℕ → Type 0) (counts_now : (d : D) (t : ℕ) (c : List ℕ) → honest d → t ≤ moment d → left (state d) c → left_since d t c)
    (store shards : ℕ) where
  -- Given the devices of before, of which a stop leaves the list and perhaps more, and the coordinator that was opened over them
  module _ (old_a old_b : D) (is : NodeView D) (seen : List Entry) (low : ℕ) (tried : List Attempt) (was : Anywhere state honest old_a old_b seen low tried)
      (r : LogReopens state honest moment left_since (coordinator_node store shards) old_a old_b is) where
    anywhere_now : Anywhere state honest r.a r.b seen low tried
    anywhere_now = record {
      honest_a = still state honest old_a r.a was.honest_a r.revived_a;
      honest_b = still state honest old_b r.b was.honest_b r.revived_b;
      each = λ rs finds. was.each rs (finds.0, finds.1, left_before state honest old_a r.a was.honest_a r.revived_a finds.0 finds.2, left_before state honest old_b r.b was.honest_b r.revived_b finds.1 finds.3, finds.4);
    }

    opened : (node : NodeView D) → left (state r.a) (state r.a).seen → left (state r.b) (state r.b).seen → CoordinatorOpens state honest moment left_since r.a r.b (coordinator_node store shards) node
        → MayJoin state honest store shards (Some node) seen low tried
    opened (coordinator v) reads_a reads_b comes = record {
      up = λ up. openings_stay_tied state honest moment left_since counts_now store shards r.a r.b v seen low tried anywhere_now reads_a reads_b comes;
      down = λ down. absurd (true≢false (sym down ∙ comes.fresh.1));
      me = comes.fresh.2;
    }
    opened (refused e x y) reads_a reads_b stays = refused_openings_stay_tied state honest moment left_since counts_now store shards r.a r.b x y e seen low tried anywhere_now reads_a reads_b stays
    opened (shard v) reads_a reads_b opens = absurd opens

    pub reopened : MayJoin state honest store shards (Some is) seen low tried
    reopened = ⊎_elim
        (λ up. opened is (reads_itself (state old_a) (state r.a) (up.0.found was.honest_a)) (reads_itself (state old_b) (state r.b) (up.1.found was.honest_b)) up.2)
        (λ down. subst (λ (n : NodeView D). MayJoin state honest store shards (Some n) seen low tried) (sym down.0) anywhere_now)
        r.opens

  anywhere_of : (node : NodeView D) (seen : List Entry) (low : ℕ) (tried : List Attempt) → IsTied state honest store shards node seen low tried → Anywhere state honest (devices_of node).0 (devices_of node).1 seen low tried
  anywhere_of (coordinator v) seen low tried tied = tied.anywhere
  anywhere_of (refused e a b) seen low tried tied = tied
  anywhere_of (shard v) seen low tried tied = absurd tied

  -- what a coordinator that was opened found
  pub opening_may_join : (a b : D) (is : Option (NodeView D)) (seen : List Entry) (low : ℕ) (tried : List Attempt) → Anywhere state honest a b seen low tried
      → LogOpenedIn state honest moment left_since (coordinator_node store shards) a b is → MayJoin state honest store shards is seen low tried
  opening_may_join a b (Some is) seen low tried was r = reopened a b is seen low tried was r
  opening_may_join a b None seen low tried was r = absurd r

  -- and what one that was opened again found
  pub restart_may_join : (was is : Option (NodeView D)) (told : Option Refusal) (seen : List Entry) (low : ℕ) (tried : List Attempt) → IsTiedThere state honest store shards was seen low tried
      → LogRestartedIn state honest moment left_since (coordinator_node store shards) was told is → MayJoin state honest store shards is seen low tried
  restart_may_join (Some was) (Some is) told seen low tried tied r = reopened (devices_of was).0 (devices_of was).1 is seen low tried (anywhere_of was seen low tried tied) r.0
  restart_may_join was is told seen low tried tied r = absurd r
