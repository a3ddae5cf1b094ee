-- What leaves, and what stays behind it.
use Rattle.std.proofs.Common.{◌≡◌, ◌++◌, ℕ, zero, suc, false, List, [], ◌∷◌, length, Option, Some, None, slice_get, refl, sym, ◌∙◌, ap, subst, arith}
use Rattle.std.proofs.lemmas.List.{append-nil}
use Rattle.flights.proofs.Words.{AreRowsAround, Away, Coordinator, coordinator, Entry, Flying, IsReady, IsSoundIn, IsSoundShard, Known, launch_of, LendsIn, lent_honest, lent_state, NodeView, OfShard, refusal_in, refused, Shard, shard, ShardView, State, StaysIn, View}
use Rattle.calls.specs.Lending.{ShardLends}
use Rattle.sides.specs.Lending.{IsUpIn}
use Rattle.sides.specs.Sides.{IsTiedIn}

-- what is added to a list stands at its end
pub at_the_end : {X : Type 0} (xs : List X) (x : X) (n : ℕ) → n ≡ length xs → slice_get (xs ++ x ∷ []) n ≡ Some x
at_the_end [] x zero is = refl
at_the_end [] x (suc n) is = absurd (omega (arith, is))
at_the_end (y ∷ ys) x zero is = absurd (omega (arith, is))
at_the_end (y ∷ ys) x (suc n) is = at_the_end ys x n (omega (arith, is))

-- the opening of a shard that is up was not refused
pub up_is_opened : {D : Type 0} (node : Option (NodeView D)) → IsUpIn node → refusal_in node ≡ None
up_is_opened (Some (shard v)) up = refl
up_is_opened (Some (coordinator v)) up = absurd up
up_is_opened (Some (refused e a b)) up = absurd up
up_is_opened None up = absurd up

module _ {D : Type 0} (state : D → State) (honest : D → Type 0) where
  -- Given a shard that is up, and what stays if its devices leave
  module _ (v : ShardView D) (u : ShardView (Away D)) (flight : View D) (flying : OfShard) (lends : ShardLends state honest v u flight flying) (sound : IsSoundShard state honest v) (up : v.is_down ≡ false) where
    ready_shard : IsReady state honest flight (Shard flying)
    ready_shard = subst (λ (j : View D). IsReady state honest j (Shard flying)) (sym lends.flight_is) (record {
      honest_a = sound.honest_a;
      honest_b = sound.honest_b;
      up = up;
      told = record { of = refl; sent = lends.sent; all = lends.all; prepares = lends.prepares up; learned = lends.learned up sound.honest_a sound.honest_b };
    })

    sound_shard : IsSoundShard (lent_state state) (lent_honest honest) u
    sound_shard = record {
      running = λ is_up. lends.up (sound.running up);
      honest_a = subst honest (sym lends.stays.a.was) sound.honest_a;
      honest_b = subst honest (sym lends.stays.b.was) sound.honest_b;
    }

    stays_shard : StaysIn (launch_of flight (Shard flying)) (Some (shard u))
    stays_shard = record {
      of = refl;
      durable = lends.stays.durable ∙ ap (λ (j : View D). j.durable) (sym lends.flight_is);
      staged = ([], append-nil flight.staged ∙ ap (λ (j : View D). j.staged) lends.flight_is ∙ sym lends.stays.staged);
    }

  pub is_ready : (old : Option (NodeView D)) (new : Option (NodeView (Away D))) (flight : View D) (flying : Flying) → LendsIn state honest old new flight flying → IsSoundIn state honest old → IsUpIn old → IsReady state honest flight flying
  is_ready (Some (shard v)) (Some (shard u)) flight (Shard flying) lends sound up = ready_shard v u flight flying lends sound up
  is_ready (Some (shard v)) (Some (shard u)) flight (Coordinator flying) lends sound up = absurd lends
  is_ready (Some (shard v)) (Some (coordinator u)) flight flying lends sound up = absurd lends
  is_ready (Some (shard v)) (Some (refused e a b)) flight flying lends sound up = absurd lends
  is_ready (Some (shard v)) None flight flying lends sound up = absurd lends
  is_ready (Some (coordinator v)) new flight flying lends sound up = absurd up
  is_ready (Some (refused e a b)) new flight flying lends sound up = absurd up
  is_ready None new flight flying lends sound up = absurd up

  pub lent_sound : (old : Option (NodeView D)) (new : Option (NodeView (Away D))) (flight : View D) (flying : Flying) → LendsIn state honest old new flight flying → IsSoundIn state honest old → IsUpIn old
      → IsSoundIn (lent_state state) (lent_honest honest) new
  lent_sound (Some (shard v)) (Some (shard u)) flight (Shard flying) lends sound up = sound_shard v u flight flying lends sound up
  lent_sound (Some (shard v)) (Some (shard u)) flight (Coordinator flying) lends sound up = absurd lends
  lent_sound (Some (shard v)) (Some (coordinator u)) flight flying lends sound up = absurd lends
  lent_sound (Some (shard v)) (Some (refused e a b)) flight flying lends sound up = absurd lends
  lent_sound (Some (shard v)) None flight flying lends sound up = absurd lends
  lent_sound (Some (coordinator v)) new flight flying lends sound up = absurd up
  lent_sound (Some (refused e a b)) new flight flying lends sound up = absurd up
  lent_sound None new flight flying lends sound up = absurd up

  pub left_behind : (old : Option (NodeView D)) (new : Option (NodeView (Away D))) (flight : View D) (flying : Flying) → LendsIn state honest old new flight flying → IsSoundIn state honest old → IsUpIn old → StaysIn (launch_of flight flying) new
  left_behind (Some (shard v)) (Some (shard u)) flight (Shard flying) lends sound up = stays_shard v u flight flying lends sound up
  left_behind (Some (shard v)) (Some (shard u)) flight (Coordinator flying) lends sound up = absurd lends
  left_behind (Some (shard v)) (Some (coordinator u)) flight flying lends sound up = absurd lends
  left_behind (Some (shard v)) (Some (refused e a b)) flight flying lends sound up = absurd lends
  left_behind (Some (shard v)) None flight flying lends sound up = absurd lends
  left_behind (Some (coordinator v)) new flight flying lends sound up = absurd up
  left_behind (Some (refused e a b)) new flight flying lends sound up = absurd up
  left_behind None new flight flying lends sound up = absurd up

  -- the records with what flies and without it are rows of the list
  pub rows_around : (store shards s : ℕ) (old : Option (NodeView D)) (new : Option (NodeView (Away D))) (flight : View D) (flying : Flying) (pass : Known Entry) → LendsIn state honest old new flight flying → IsUpIn old
      → IsTiedIn state honest store shards s old pass → AreRowsAround shards s (launch_of flight flying) pass
  rows_around store shards s (Some (shard v)) (Some (shard u)) flight (Shard flying) pass lends up tied =
      let is = tied.up up in
      subst (λ (j : View D). AreRowsAround shards s (launch_of j (Shard flying)) pass) (sym lends.flight_is) (record { without = is.kept; behind = is.now })
  rows_around store shards s (Some (shard v)) (Some (shard u)) flight (Coordinator flying) pass lends up tied = absurd lends
  rows_around store shards s (Some (shard v)) (Some (coordinator u)) flight flying pass lends up tied = absurd lends
  rows_around store shards s (Some (shard v)) (Some (refused e a b)) flight flying pass lends up tied = absurd lends
  rows_around store shards s (Some (shard v)) None flight flying pass lends up tied = absurd lends
  rows_around store shards s (Some (coordinator v)) new flight flying pass lends up tied = absurd up
  rows_around store shards s (Some (refused e a b)) new flight flying pass lends up tied = absurd up
  rows_around store shards s None new flight flying pass lends up tied = absurd up
