-- A shard whose devices were lent is tied as it was, and so is one that has them again.
use Rattle.std.proofs.Common.{◌≡◌, ◌++◌, ℕ, false, List, take, drop, Option, Some, None, sym, ◌∙◌, ap, subst, append_assoc}
use Rattle.std.proofs.lemmas.List.{take-append-drop}
use Rattle.std.proofs.lemmas.Bool.{or_parts}
use Rattle.sides.proofs.Words.{Away, coordinator, Entry, Flying, IsOfShard, IsOpenedShardTied, IsTiedIn, Known, LandsIn, LandsRows, left, LendsIn, lent_honest, lent_state, MayLandIn, NodeView, Record, refused, RowsAnywhere, shard, ShardView, State, View}
use Rattle.records.specs.Replays.{shard_state}
use Rattle.shard.specs.declared.lending.Flying.{Flying as OfShard}
use Rattle.calls.specs.Lending.{ShardLands, ShardLends, ShardMayLand}
use Rattle.calls.specs.declared.lending.Flying.TheVariants as flies
use Rattle.ties.specs.ShardTies.{AreRowsOf, IsShardTiedUp}

module _ {D : Type 0} (state : D → State) (honest : D → Type 0) (store shards s : ℕ) where
  -- Given a shard, and what stays if its devices are elsewhere
  module _ (v : ShardView D) (u : ShardView (Away D)) (flight : View D) (flying : OfShard) (lends : ShardLends state honest v u flight flying) (seen : List Entry) (low : ℕ) where
    same_records : u.durable ++ u.staged ≡ v.durable ++ v.staged
    same_records = ap (λ (l : List Record). l ++ u.staged) lends.stays.durable ∙ ap (λ (l : List Record). v.durable ++ l) lends.stays.staged

    lent_up : IsShardTiedUp state honest store shards s v seen low → IsShardTiedUp (lent_state state) (lent_honest honest) store shards s u seen low
    lent_up tied = record {
      up = lends.up tied.up;
      now = subst (λ (l : List Record). AreRowsOf shards s seen low (shard_state l)) (sym same_records) tied.now;
      kept = subst (λ (l : List Record). AreRowsOf shards s seen low (shard_state l)) (sym lends.stays.durable) tied.kept;
      me = lends.stays.me ∙ tied.me;
    }

    lent_anywhere : RowsAnywhere state honest shards s v.a v.b seen low → RowsAnywhere (lent_state state) (lent_honest honest) shards s u.a u.b seen low
    lent_anywhere was = record {
      honest_a = subst honest (sym lends.stays.a.was) was.honest_a;
      honest_b = subst honest (sym lends.stays.b.was) was.honest_b;
      each = λ rs finds. was.each rs (
        finds.0,
        finds.1,
        subst (λ (d : D). left (state d) finds.0) lends.stays.a.was finds.2,
        subst (λ (d : D). left (state d) finds.1) lends.stays.b.was finds.3,
        finds.4,
      );
    }

    lent_opened : IsOpenedShardTied state honest store shards s v seen low → IsOpenedShardTied (lent_state state) (lent_honest honest) store shards s u seen low
    lent_opened tied = record {
      up = λ up. lent_up (tied.up (sym lends.stays.is_down ∙ up));
      anywhere = lent_anywhere tied.anywhere;
      me = lends.stays.me ∙ tied.me;
    }

  -- what stays is the same shard, tied as it was
  pub lent_is_tied : (old : Option (NodeView D)) (new : Option (NodeView (Away D))) (flight : View D) (flying : Flying) (pass : Known Entry) → LendsIn state honest old new flight flying → IsTiedIn state honest store shards s old pass
      → IsTiedIn (lent_state state) (lent_honest honest) store shards s new pass
  lent_is_tied (Some (shard v)) (Some (shard u)) flight (flies.Shard flying) pass lends tied = lent_opened v u flight flying lends pass.seen pass.horizon tied
  lent_is_tied (Some (shard v)) (Some (shard u)) flight (flies.Coordinator flying) pass lends tied = absurd lends
  lent_is_tied (Some (shard v)) (Some (coordinator u)) flight flying pass lends tied = absurd lends
  lent_is_tied (Some (shard v)) (Some (refused e a b)) flight flying pass lends tied = absurd lends
  lent_is_tied (Some (coordinator v)) (Some u) flight flying pass lends tied = absurd tied
  lent_is_tied (Some (refused e a b)) (Some u) flight flying pass lends tied = absurd lends
  lent_is_tied (Some v) None flight flying pass lends tied = absurd lends
  lent_is_tied None new flight flying pass lends tied = absurd tied

  pub lent_is_there : (old : Option (NodeView D)) (new : Option (NodeView (Away D))) (flight : View D) (flying : Flying) → LendsIn state honest old new flight flying → IsOfShard store shards s old → IsOfShard store shards s new
  lent_is_there (Some (shard v)) (Some (shard u)) flight (flies.Shard flying) lends is = lends.stays.me ∙ is
  lent_is_there (Some (shard v)) (Some (shard u)) flight (flies.Coordinator flying) lends is = absurd lends
  lent_is_there (Some (shard v)) (Some (coordinator u)) flight flying lends is = absurd lends
  lent_is_there (Some (shard v)) (Some (refused e a b)) flight flying lends is = absurd lends
  lent_is_there (Some (coordinator v)) (Some u) flight flying lends is = absurd is
  lent_is_there (Some (refused e a b)) (Some u) flight flying lends is = absurd lends
  lent_is_there (Some v) None flight flying lends is = absurd lends
  lent_is_there None new flight flying lends is = absurd is

  -- Given a shard without its devices, and the flight that brings them back
  module _ (v : ShardView (Away D)) (flown : View D) (flying : OfShard) (new : ShardView D) (seen : List Entry) (low : ℕ) (may : ShardMayLand state honest v flown flying) (lands : ShardLands state honest v flown flying new)
      (rows : LandsRows state honest shards s flown seen low) (tied : IsOpenedShardTied (lent_state state) (lent_honest honest) store shards s v seen low) where
    landed_up : v.is_down ≡ false → flown.is_down ≡ false → IsShardTiedUp state honest store shards s new seen low
    landed_up up flew =
        let flight = may.has_flown up flew rows.anywhere.honest_a rows.anywhere.honest_b in
        let was = tied.up up in
        let durable : new.durable ≡ flown.durable = ap (λ (x : ShardView D). x.durable) lands.landed in
        let staged : new.staged ≡ drop flying.sent.count v.staged = ap (λ (x : ShardView D). x.staged) lands.landed in
        let all : new.durable ++ new.staged ≡ v.durable ++ v.staged =
        ap (λ (l : List Record). l ++ new.staged) (durable ∙ flight.durable)
        ∙ ap (λ (l : List Record). (v.durable ++ take flying.sent.count v.staged) ++ l) staged
        ∙ append_assoc v.durable (take flying.sent.count v.staged) (drop flying.sent.count v.staged)
        ∙ ap (λ (l : List Record). v.durable ++ l) (take-append-drop flying.sent.count v.staged) in
        record {
          up = lands.up up flew rows.anywhere.honest_a rows.anywhere.honest_b;
          now = subst (λ (l : List Record). AreRowsOf shards s seen low (shard_state l)) (sym all) was.now;
          kept = subst (λ (l : List Record). AreRowsOf shards s seen low (shard_state l)) (sym durable) (rows.kept flew);
          me = ap (λ (x : ShardView D). x.me) lands.landed ∙ was.me;
        }

    landed_opened : IsOpenedShardTied state honest store shards s new seen low
    landed_opened = record {
      up = λ up. let both = or_parts v.is_down flown.is_down (sym (ap (λ (x : ShardView D). x.is_down) lands.landed) ∙ up) in landed_up both.0 both.1;
      anywhere = subst (λ (x : ShardView D). RowsAnywhere state honest shards s x.a x.b seen low) (sym lands.landed) rows.anywhere;
      me = ap (λ (x : ShardView D). x.me) lands.landed ∙ tied.me;
    }

  -- a shard that has its devices again is tied
  pub landed_is_tied : (old : Option (NodeView (Away D))) (flown : View D) (flying : Flying) (new : Option (NodeView D)) (pass : Known Entry) → MayLandIn state honest old flown flying → LandsIn state honest old flown flying new
      → LandsRows state honest shards s flown pass.seen pass.horizon → IsTiedIn (lent_state state) (lent_honest honest) store shards s old pass → IsTiedIn state honest store shards s new pass
  landed_is_tied (Some (shard v)) flown (flies.Shard flying) (Some (shard new)) pass may lands rows tied = landed_opened v flown flying new pass.seen pass.horizon may lands rows tied
  landed_is_tied (Some (shard v)) flown (flies.Shard flying) (Some (coordinator new)) pass may lands rows tied = absurd lands
  landed_is_tied (Some (shard v)) flown (flies.Shard flying) (Some (refused e a b)) pass may lands rows tied = absurd lands
  landed_is_tied (Some (shard v)) flown (flies.Shard flying) None pass may lands rows tied = absurd lands
  landed_is_tied (Some (shard v)) flown (flies.Coordinator flying) new pass may lands rows tied = absurd may
  landed_is_tied (Some (coordinator v)) flown flying new pass may lands rows tied = absurd tied
  landed_is_tied (Some (refused e a b)) flown flying new pass may lands rows tied = absurd may
  landed_is_tied None flown flying new pass may lands rows tied = absurd may

  pub landed_is_there : (old : Option (NodeView (Away D))) (flown : View D) (flying : Flying) (new : Option (NodeView D)) → LandsIn state honest old flown flying new → IsOfShard store shards s old → IsOfShard store shards s new
  landed_is_there (Some (shard v)) flown (flies.Shard flying) (Some (shard new)) lands is = ap (λ (x : ShardView D). x.me) lands.landed ∙ is
  landed_is_there (Some (shard v)) flown (flies.Shard flying) (Some (coordinator new)) lands is = absurd lands
  landed_is_there (Some (shard v)) flown (flies.Shard flying) (Some (refused e a b)) lands is = absurd lands
  landed_is_there (Some (shard v)) flown (flies.Shard flying) None lands is = absurd lands
  landed_is_there (Some (shard v)) flown (flies.Coordinator flying) (Some new) lands is = absurd lands
  landed_is_there (Some (shard v)) flown (flies.Coordinator flying) None lands is = absurd lands
  landed_is_there (Some (coordinator v)) flown flying new lands is = absurd is
  landed_is_there (Some (refused e a b)) flown flying (Some new) lands is = absurd lands
  landed_is_there (Some (refused e a b)) flown flying None lands is = absurd lands
  landed_is_there None flown flying new lands is = absurd lands
