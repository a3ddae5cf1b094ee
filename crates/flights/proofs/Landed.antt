-- What comes back, and what the shard is then.
use Rattle.std.proofs.Common.{◌≡◌, ◌++◌, ◌≤◌, ⊎_elim, inl, inr, ℕ, zero, suc, Bool, true, false, true≢false, Result, Ok, Err, OnOk, IfErr, List, [], ◌∷◌, length, take, Option, Some, None, slice_get, refl, sym, ◌∙◌, ap, subst, arith}
use Rattle.std.proofs.lemmas.List.{append-nil}
use Rattle.std.proofs.lemmas.Option.{same_Some}
use Rattle.std.proofs.lemmas.Bool.{or_parts}
use mathlib.Core.List.{IsPrefix}
use Rattle.flights.proofs.Words.{AreRowsAround, AreRowsOf, Away, batch_size, Coordinator, coordinator, Entry, Flying, HasFlown, IsReady, IsSoundIn, IsSoundShard, Known, Launch, launch_of, lent_honest, lent_state, MayLandIn, NodeView, OfShard, Record, refused, Shard, shard, shard_state, ShardView, State, StaysIn, View}
use Rattle.device.specs.Device.{left}
use Rattle.journal.specs.Records.{HasOldOrNew, HasRecords, LeavesBoth}
use Rattle.shard.specs.Keeping.{prepared_ids}
use Rattle.calls.specs.Lending.{ShardLands, ShardMayLand}
use Rattle.sides.specs.Lending.{LandsIn, LandsRows}
use Rattle.flights.specs.Flights.{StaysBehind}
use Rattle.tuples.proofs.Lists.{prefix_length}

pub taken : {X : Type 0} (xs ys : List X) (n : ℕ) → IsPrefix xs ys → n ≡ length xs → take n ys ≡ xs
taken [] ys zero pre is = refl
taken [] ys (suc n) pre is = absurd (omega (arith, is))
taken (x ∷ xs) ys zero pre is = absurd (omega (arith, is))
taken (x ∷ xs) [] (suc n) pre is = absurd (cc (pre.1))
taken (x ∷ xs) (y ∷ ys) (suc n) pre is = let rest = taken xs ys n (pre.0, cc (pre.1)) (omega (arith, is)) in cc (pre.1, rest)

-- two that know the same list know the same flight
pub same_launch : {X : Type 0} (one other all : List X) (n : ℕ) (x y : X) → IsPrefix one all → IsPrefix other all → slice_get one n ≡ Some x → slice_get other n ≡ Some y → x ≡ y
same_launch [] other all n x y p q is at = absurd (let bad : None ≡ Some x = is in cc)
same_launch (a ∷ one) [] all n x y p q is at = absurd (let bad : None ≡ Some y = at in cc)
same_launch (a ∷ one) (b ∷ other) [] n x y p q is at = absurd (cc (p.1))
same_launch (a ∷ one) (b ∷ other) (c ∷ all) zero x y p q is at = same_Some x y (sym is ∙ ap Some (cc (p.1, q.1)) ∙ at)
same_launch (a ∷ one) (b ∷ other) (c ∷ all) (suc n) x y p q is at = same_launch one other all n x y (p.0, cc (p.1)) (q.0, cc (q.1)) is at

-- it is still there in what is longer
pub still_there : {X : Type 0} (xs ys : List X) (n : ℕ) (x : X) → IsPrefix xs ys → slice_get xs n ≡ Some x → slice_get ys n ≡ Some x
still_there [] ys n x p is = absurd (let bad : None ≡ Some x = is in cc)
still_there (a ∷ xs) [] n x p is = absurd (cc (p.1))
still_there (a ∷ xs) (b ∷ ys) zero x p is = ap Some (let e : b ≡ a = cc (p.1) in e) ∙ is
still_there (a ∷ xs) (b ∷ ys) (suc n) x p is = still_there xs ys n x (p.0, cc (p.1)) is

-- what holds after a call that went well holds if the node is up, since one that did not puts it down
pub on_up : {U E P : Type 0} (Q : E → Type 0) {down : Bool} (r : Result U E) → OnOk r P → IfErr r (λ e. Q e × (down ≡ true)) → down ≡ false → P
on_up Q (Ok u) ok err up = ok
on_up Q (Err e) ok err up = absurd (true≢false (sym err.1 ∙ up))

module _ {D : Type 0} (state : D → State) (honest : D → Type 0) where
  -- Given a journal that was ready, and what its flush made of it
  module _ (moment : D → ℕ) (left_since : D → ℕ → List ℕ → Type 0) (counts_now : (d : D) (t : ℕ) (c : List ℕ) → honest d → t ≤ moment d → left (state d) c → left_since d t c)
      (old new : View D) (honest_a : honest new.a) (honest_b : honest new.b) (leaves : LeavesBoth moment left_since old.a old.b new.a new.b (HasOldOrNew old.durable old.staged))
      (kept : new.is_down ≡ false → (new.durable ≡ old.durable ++ old.staged) × HasRecords (state new.a) (state new.b) new.durable) where
    pub has_flown : (flying : Flying) → IsReady state honest old flying → HasFlown state honest (launch_of old flying) new flying
    has_flown flying ready = record {
      honest_a = honest_a;
      honest_b = honest_b;
      told = ready.told;
      kept = kept;
      leaves = λ rs finds. ⊎_elim
          (λ before. inl (same_Some rs old.durable (sym finds.4 ∙ before)))
          (λ after. inr (same_Some rs (old.durable ++ old.staged) (sym finds.4 ∙ after)))
          (leaves.each finds.0 finds.1 (counts_now new.a (moment old.a) finds.0 honest_a leaves.later_a finds.2) (counts_now new.b (moment old.b) finds.1 honest_b leaves.later_b finds.3));
    }

  -- Given a shard without its devices, and what comes back of the launch with which they left
  module _ (v : ShardView (Away D)) (x : Launch) (flown : View D) (flying : OfShard) (sound : IsSoundShard (lent_state state) (lent_honest honest) v) (stays : StaysBehind x v) (came : HasFlown state honest x flown (Shard flying)) where
    first : take flying.sent.count v.staged ≡ x.staged
    first = taken x.staged v.staged flying.sent.count stays.staged came.told.all

    may_land_shard : ShardMayLand state honest v flown flying
    may_land_shard = record {
      sent = record {
        count = let n = prefix_length x.staged v.staged stays.staged in omega (arith, n, came.told.all);
        len = ap batch_size (first ∙ sym (taken x.staged x.staged flying.sent.count ([], append-nil x.staged) came.told.all)) ∙ came.told.sent.len;
      };
      prepares = λ up flew. came.told.prepares ∙ ap (λ (l : List Record). length (prepared_ids l)) (sym first);
      has_flown = λ up flew ha hb. record {
        honest_a = sound.honest_a;
        honest_b = sound.honest_b;
        durable = (came.kept flew).0 ∙ ap (λ (l : List Record). l ++ x.staged) (sym stays.durable) ∙ ap (λ (l : List Record). v.durable ++ l) (sym first);
        rest = (came.kept flew).1;
        learned = came.told.learned ∙ ap (λ (l : List Record). (shard_state l).learned) (sym (came.kept flew).0);
      };
    }

    landed_shard_sound : (new : ShardView D) → ShardLands state honest v flown flying new → IsSoundShard state honest new
    landed_shard_sound new lands = record {
      running = λ up.
          let both = or_parts v.is_down flown.is_down (sym (ap (λ (y : ShardView D). y.is_down) lands.landed) ∙ up) in
          lands.up both.0 both.1 came.honest_a came.honest_b;
      honest_a = subst honest (sym (ap (λ (y : ShardView D). y.a) lands.landed)) came.honest_a;
      honest_b = subst honest (sym (ap (λ (y : ShardView D). y.b) lands.landed)) came.honest_b;
    }

  pub may_land : (node : Option (NodeView (Away D))) (x : Launch) (flown : View D) (flying : Flying) → IsSoundIn (lent_state state) (lent_honest honest) node → StaysIn x node → HasFlown state honest x flown flying → MayLandIn state honest node flown flying
  may_land (Some (shard v)) x flown (Shard flying) sound stays came = may_land_shard v x flown flying sound stays came
  may_land (Some (shard v)) x flown (Coordinator flying) sound stays came = absurd (true≢false (sym came.told.of ∙ stays.of))
  may_land (Some (coordinator v)) x flown flying sound stays came = absurd stays
  may_land (Some (refused e a b)) x flown flying sound stays came = absurd stays
  may_land None x flown flying sound stays came = absurd stays

  pub landed_sound : (node : Option (NodeView (Away D))) (x : Launch) (flown : View D) (flying : Flying) (new : Option (NodeView D)) → IsSoundIn (lent_state state) (lent_honest honest) node → StaysIn x node → HasFlown state honest x flown flying
      → LandsIn state honest node flown flying new → IsSoundIn state honest new
  landed_sound (Some (shard v)) x flown (Shard flying) (Some (shard new)) sound stays came lands = landed_shard_sound v x flown flying sound stays came new lands
  landed_sound (Some (shard v)) x flown (Shard flying) (Some (coordinator new)) sound stays came lands = absurd lands
  landed_sound (Some (shard v)) x flown (Shard flying) (Some (refused e a b)) sound stays came lands = absurd lands
  landed_sound (Some (shard v)) x flown (Shard flying) None sound stays came lands = absurd lands
  landed_sound (Some (shard v)) x flown (Coordinator flying) new sound stays came lands = absurd (true≢false (sym came.told.of ∙ stays.of))
  landed_sound (Some (coordinator v)) x flown flying new sound stays came lands = absurd stays
  landed_sound (Some (refused e a b)) x flown flying new sound stays came lands = absurd stays
  landed_sound None x flown flying new sound stays came lands = absurd stays

  -- what comes back are rows of the list
  pub lands_rows : (shards s : ℕ) (x : Launch) (flown : View D) (flying : Flying) (pass : Known Entry) → HasFlown state honest x flown flying → AreRowsAround shards s x pass → LandsRows state honest shards s flown pass.seen pass.horizon
  lands_rows shards s x flown flying pass came rows = record {
    kept = λ flew. subst (λ (l : List Record). AreRowsOf shards s pass.seen pass.horizon (shard_state l)) (sym (came.kept flew).0) rows.behind;
    anywhere = record {
      honest_a = came.honest_a;
      honest_b = came.honest_b;
      each = λ rs finds. ⊎_elim
          (λ before. subst (λ (l : List Record). AreRowsOf shards s pass.seen pass.horizon (shard_state l)) (sym before) rows.without)
          (λ after. subst (λ (l : List Record). AreRowsOf shards s pass.seen pass.horizon (shard_state l)) (sym after) rows.behind)
          (came.leaves rs finds);
    };
  }
