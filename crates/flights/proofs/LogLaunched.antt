-- What leaves of a coordinator, and what stays behind it.
use Rattle.std.proofs.Common.{◌≡◌, ℕ, false, [], Option, Some, None, refl, sym, ◌∙◌, ap, subst}
use Rattle.std.proofs.lemmas.List.{append-nil}
use Rattle.flights.proofs.Words.{Away, Coordinator, coordinator, CoordinatorView, Flying, IsReady, IsSound, launch_of, LendsIn, LogStaysIn, NodeView, OfCoordinator, refusal_in, refused, Shard, shard, State, View}
use Rattle.calls.specs.Lending.{CoordinatorLends}
use Rattle.sides.specs.Lending.{IsUpThere}

-- the opening of a coordinator that is up was not refused
pub log_up_is_opened : {D : Type 0} (node : Option (NodeView D)) → IsUpThere node → refusal_in node ≡ None
log_up_is_opened (Some (coordinator v)) up = refl
log_up_is_opened (Some (shard v)) up = absurd up
log_up_is_opened (Some (refused e a b)) up = absurd up
log_up_is_opened None up = absurd up

module _ {D : Type 0} (state : D → State) (honest : D → Type 0) (store shards : ℕ) where
  -- Given a coordinator that is up, and what stays if its devices leave
  module _ (v : CoordinatorView D) (u : CoordinatorView (Away D)) (flight : View D) (flying : OfCoordinator) (lends : CoordinatorLends state honest v u flight flying) (up : v.is_down ≡ false) where
    ready_one : IsSound state honest store shards v → IsReady state honest flight (Coordinator flying)
    ready_one sound = subst (λ (j : View D). IsReady state honest j (Coordinator flying)) (sym lends.flight_is) (record {
      honest_a = sound.honest_a;
      honest_b = sound.honest_b;
      up = up;
      told = record { of = refl; sent = lends.sent; all = lends.all; told = lends.told up };
    })

    stays_one : LogStaysIn (launch_of flight (Coordinator flying)) (Some (coordinator u))
    stays_one = record {
      of = refl;
      durable = lends.stays.durable ∙ ap (λ (j : View D). j.durable) (sym lends.flight_is);
      staged = ([], append-nil flight.staged ∙ ap (λ (j : View D). j.staged) lends.flight_is ∙ sym lends.stays.staged);
      up = lends.stays.is_down ∙ up;
    }

  pub log_left_behind : (old : Option (NodeView D)) (new : Option (NodeView (Away D))) (flight : View D) (flying : Flying) → LendsIn state honest old new flight flying → IsUpThere old → LogStaysIn (launch_of flight flying) new
  log_left_behind (Some (coordinator v)) (Some (coordinator u)) flight (Coordinator flying) lends up = stays_one v u flight flying lends up
  log_left_behind (Some (coordinator v)) (Some (coordinator u)) flight (Shard flying) lends up = absurd lends
  log_left_behind (Some (coordinator v)) (Some (shard u)) flight flying lends up = absurd lends
  log_left_behind (Some (coordinator v)) (Some (refused e a b)) flight flying lends up = absurd lends
  log_left_behind (Some (coordinator v)) None flight flying lends up = absurd lends
  log_left_behind (Some (shard v)) new flight flying lends up = absurd up
  log_left_behind (Some (refused e a b)) new flight flying lends up = absurd up
  log_left_behind None new flight flying lends up = absurd up
