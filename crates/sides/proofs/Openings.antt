-- A shard that is opened again is tied to what the pass beside it knows.
use Rattle.std.proofs.Common.{⊎_elim, ℕ, ◌≤◌, List, Option, Some, None, sym, subst}
use Rattle.sides.proofs.Words.{coordinator, devices_of, Entry, IsShardTied, IsTiedIn, Known, left, NodeView, OpenedIn, Refusal, refused, RestartedIn, RowsAnywhere, shard, shard_node, shard_tied_up_is_tied, ShardOpens, ShardReopens, State}
use Rattle.ties.proofs.ShardOpening.{refused_shard_openings_stay_tied, shard_openings_stay_tied}
use Rattle.sides.proofs.Revived.{left_before, reads_itself, still}

module _ {D : Type 0} (state : D → State) (honest : D → Type 0) (moment : D → ℕ) (left_since : D → ℕ → List ℕ → Type 0) (counts_now : (d : D) (t : ℕ) (c : List ℕ) → honest d → t ≤ moment d → left (state d) c → left_since d t c)
    (store shards s : ℕ) where
  -- Given the devices of before, of which a stop leaves rows of the list, and the shard that was opened over them
  module _ (old_a old_b : D) (is : NodeView D) (seen : List Entry) (low : ℕ) (was : RowsAnywhere state honest shards s old_a old_b seen low)
      (r : ShardReopens state honest moment left_since (shard_node store shards s) old_a old_b is) where
    rows : RowsAnywhere state honest shards s r.a r.b seen low
    rows = record {
      honest_a = still state honest old_a r.a was.honest_a r.revived_a;
      honest_b = still state honest old_b r.b was.honest_b r.revived_b;
      each = λ rs finds. was.each rs (finds.0, finds.1, left_before state honest old_a r.a was.honest_a r.revived_a finds.0 finds.2, left_before state honest old_b r.b was.honest_b r.revived_b finds.1 finds.3, finds.4);
    }

    opened : (node : NodeView D) → left (state r.a) (state r.a).seen → left (state r.b) (state r.b).seen → ShardOpens state honest moment left_since r.a r.b (shard_node store shards s) node
        → IsShardTied state honest store shards s node seen low
    opened (shard v) reads_a reads_b comes =
        shard_tied_up_is_tied state honest store shards s v seen low (shard_openings_stay_tied state honest moment left_since counts_now store shards s r.a r.b v seen low rows reads_a reads_b comes)
    opened (refused e x y) reads_a reads_b stays = refused_shard_openings_stay_tied state honest moment left_since counts_now store shards s r.a r.b x y e seen low rows reads_a reads_b stays
    opened (coordinator v) reads_a reads_b opens = absurd opens

    pub reopened : IsShardTied state honest store shards s is seen low
    reopened = ⊎_elim
        (λ up. opened is (reads_itself (state old_a) (state r.a) (up.0.found was.honest_a)) (reads_itself (state old_b) (state r.b) (up.1.found was.honest_b)) up.2)
        (λ down. subst (λ (n : NodeView D). IsShardTied state honest store shards s n seen low) (sym down.0) rows)
        r.opens

  anywhere : (node : NodeView D) (seen : List Entry) (low : ℕ) → IsShardTied state honest store shards s node seen low → RowsAnywhere state honest shards s (devices_of node).0 (devices_of node).1 seen low
  anywhere (shard v) seen low tied = tied.anywhere
  anywhere (refused e a b) seen low tied = tied
  anywhere (coordinator v) seen low tied = absurd tied

  -- a shard that was opened is tied
  pub opens_tied : (a b : D) (is : Option (NodeView D)) (pass : Known Entry) → RowsAnywhere state honest shards s a b pass.seen pass.horizon
      → OpenedIn state honest moment left_since (shard_node store shards s) a b is → IsTiedIn state honest store shards s is pass
  opens_tied a b (Some is) pass was r = reopened a b is pass.seen pass.horizon was r
  opens_tied a b None pass was r = absurd r

  -- and one that was opened again stays so
  pub restart_stays : (was is : Option (NodeView D)) (told : Option Refusal) (pass : Known Entry) → IsTiedIn state honest store shards s was pass
      → RestartedIn state honest moment left_since (shard_node store shards s) was told is → IsTiedIn state honest store shards s is pass
  restart_stays (Some was) (Some is) told pass tied r = reopened (devices_of was).0 (devices_of was).1 is pass.seen pass.horizon (anywhere was pass.seen pass.horizon tied) r.0
  restart_stays was is told pass tied r = absurd r
