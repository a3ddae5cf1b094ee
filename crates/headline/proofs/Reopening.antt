-- What the contract of an opening says of the devices that it left.
use Rattle.std.proofs.Common.{◌≡◌, inl, inr, ⊎_elim, ◌≤◌, ◌↔◌, ℕ, List, sym, ap, subst}
use Rattle.headline.proofs.Words.{Down, IsCoordinatorImage, IsFound, IsRevived, LeavesBoth, NodeName, NodeView, Opens, Record, Reopened, State, coordinator, coordinator_node, devices_of, left, named, shard, shard_node}
use Rattle.records.specs.Replays.{IsShardImage}
use Rattle.decisions.specs.Coordinators.{coordinator_opening}
use Rattle.shard.specs.Shards.{opening}
use Rattle.calls.specs.Views as views
use Rattle.headline.proofs.Within.{AreOpenedOver, WasLeftOrLonger}

-- what the records of the node are, and the record of an opening of it
abbrev pub image_of : ℕ → ℕ → NodeName → List Record → Type 0
image_of store shards coordinator = IsCoordinatorImage (coordinator_node store shards)
image_of store shards (shard s) = IsShardImage (shard_node store shards s)

abbrev pub opening_of : ℕ → ℕ → NodeName → List Record → Record
opening_of store shards coordinator = coordinator_opening (coordinator_node store shards)
opening_of store shards (shard s) = opening (shard_node store shards s)

module _ {D : Type 0} (state : D → State) (honest : D → Type 0) (moment : D → ℕ) (left_since : D → ℕ → List ℕ → Type 0)
    (counts_now : (d : D) (t : ℕ) (c : List ℕ) → honest d → t ≤ moment d → left (state d) c → left_since d t c) (only_now : (d : D) (c : List ℕ) → honest d → left_since d (moment d) c → left (state d) c)
    (store shards : ℕ) where
  -- the devices of the node, and those that its opening left
  abbrev pub AreOver : NodeName → D → D → NodeView D → Type 0
  AreOver n old_a old_b is = AreOpenedOver state honest moment left_since counts_now only_now (image_of store shards n) (opening_of store shards n) old_a old_b (devices_of is).0 (devices_of is).1

  module _ (old_a old_b a b : D) (hon_a : honest old_a) (hon_b : honest old_b) (revived_a : IsRevived state honest moment left_since old_a a) (revived_b : IsRevived state honest moment left_since old_b b) where
    first : honest a
    first = revived_a.still_honest.0 hon_a

    second : honest b
    second = revived_b.still_honest.0 hon_b

    by_opening : (n : NodeName) (x y : D) → (honest a ↔ honest x) × (honest b ↔ honest y) → IsFound state honest moment left_since old_a a → IsFound state honest moment left_since old_b b
        → LeavesBoth moment left_since a b x y (WasLeftOrLonger (image_of store shards n) (opening_of store shards n) (state a) (state b))
        → AreOpenedOver state honest moment left_since counts_now only_now (image_of store shards n) (opening_of store shards n) old_a old_b x y
    by_opening n x y still fa fb moments = record {
      a = a;
      b = b;
      revived_a = revived_a;
      revived_b = revived_b;
      honest_a = still.0.0 first;
      honest_b = still.1.0 second;
      left_by = inl (fa.0 hon_a, fb.0 hon_b, moments);
    }

    by_view : IsFound state honest moment left_since old_a a → IsFound state honest moment left_since old_b b → (n : NodeName) (is : NodeView D)
        → Opens state honest moment left_since store shards (named n) a b is → AreOver n old_a old_b is
    by_view fa fb coordinator (views.coordinator v) o = by_opening coordinator v.a v.b o.still_honest fa fb (o.any_moment first second)
    by_view fa fb coordinator (views.shard v) o = absurd o
    by_view fa fb coordinator (views.refused e x y) o = by_opening coordinator x y o.still_honest fa fb (o.any_moment first second)
    by_view fa fb (shard s) (views.coordinator v) o = absurd o
    by_view fa fb (shard s) (views.shard v) o = by_opening (shard s) v.a v.b o.still_honest fa fb (o.any_moment first second)
    by_view fa fb (shard s) (views.refused e x y) o = by_opening (shard s) x y o.still_honest fa fb (o.any_moment first second)

    by_failure : (n : NodeName) (is : NodeView D) → is ≡ views.refused Down a b → AreOver n old_a old_b is
    by_failure n is same = record {
      a = a;
      b = b;
      revived_a = revived_a;
      revived_b = revived_b;
      honest_a = subst (λ (v : NodeView D). honest (devices_of v).0) (sym same) first;
      honest_b = subst (λ (v : NodeView D). honest (devices_of v).1) (sym same) second;
      left_by = inr (ap (λ (v : NodeView D). (devices_of v).0) same, ap (λ (v : NodeView D). (devices_of v).1) same);
    }

  pub are_over : (n : NodeName) (old_a old_b : D) (is : NodeView D) → honest old_a → honest old_b → Reopened state honest moment left_since store shards (named n) old_a old_b is → AreOver n old_a old_b is
  are_over n old_a old_b is hon_a hon_b r = ⊎_elim
      (λ found. by_view old_a old_b r.a r.b hon_a hon_b r.revived_a r.revived_b found.0 found.1 n is found.2)
      (λ failed. by_failure old_a old_b r.a r.b hon_a hon_b r.revived_a r.revived_b n is failed.0)
      r.opens
