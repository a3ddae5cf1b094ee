-- What comes back to a coordinator is what left it.
use Rattle.std.proofs.Common.{◌≡◌, ◌++◌, ⊎_elim, inl, inr, ℕ, true≢false, List, [], take, Option, Some, None, sym, ◌∙◌, ap, subst, arith}
use Rattle.std.proofs.lemmas.List.{append-nil}
use Rattle.flights.proofs.Words.{Away, batch_size, Coordinator, coordinator, CoordinatorView, Flying, HasFlown, IsSound, IsSoundThere, Launch, lent_honest, lent_state, LogStaysIn, MayLandIn, NodeView, OfCoordinator, Record, refused, Shard, shard, State, View}
use Rattle.coordinator.specs.Lending.{IsToldOf}
use Rattle.calls.specs.Lending.{CoordinatorMayLand}
use Rattle.sides.specs.Lending.{ComesBack, ComesBackIn}
use Rattle.flights.specs.Flights.{LogStaysBehind}
use Rattle.flights.proofs.Landed.{taken}
use Rattle.tuples.proofs.Lists.{prefix_length}

module _ {D : Type 0} (state : D → State) (honest : D → Type 0) (store shards : ℕ) where
  -- Given a coordinator without its devices, and what comes back of the launch with which they left
  module _ (v : CoordinatorView (Away D)) (x : Launch) (flown : View D) (flying : OfCoordinator) (stays : LogStaysBehind x v) (came : HasFlown state honest x flown (Coordinator flying)) where
    first : take flying.sent.count v.staged ≡ x.staged
    first = taken x.staged v.staged flying.sent.count stays.staged came.told.all

    may_land_one : IsSound (lent_state state) (lent_honest honest) store shards v → CoordinatorMayLand state honest v flown flying
    may_land_one sound = record {
      sent = record {
        count = let n = prefix_length x.staged v.staged stays.staged in omega (arith, n, came.told.all);
        len = ap batch_size (first ∙ sym (taken x.staged x.staged flying.sent.count ([], append-nil x.staged) came.told.all)) ∙ came.told.sent.len;
      };
      told = λ up flew. subst (λ (l : List Record). IsToldOf l flying) (sym first) came.told.told;
      has_flown = λ up flew ha hb. record {
        honest_a = sound.honest_a;
        honest_b = sound.honest_b;
        durable = (came.kept flew).0 ∙ ap (λ (l : List Record). l ++ x.staged) (sym stays.durable) ∙ ap (λ (l : List Record). v.durable ++ l) (sym first);
        rest = (came.kept flew).1;
      };
    }

    comes_back : ComesBack state honest v flown flying.sent.count
    comes_back = record {
      up = stays.up;
      honest_a = came.honest_a;
      honest_b = came.honest_b;
      leaves = λ rs finds. ⊎_elim
          (λ before. inl (before ∙ sym stays.durable))
          (λ after. inr (after ∙ ap (λ (l : List Record). l ++ x.staged) (sym stays.durable) ∙ ap (λ (l : List Record). v.durable ++ l) (sym first)))
          (came.leaves rs finds);
    }

  pub log_may_land : (node : Option (NodeView (Away D))) (x : Launch) (flown : View D) (flying : Flying) → IsSoundThere (lent_state state) (lent_honest honest) store shards node → LogStaysIn x node → HasFlown state honest x flown flying
      → MayLandIn state honest node flown flying
  log_may_land (Some (coordinator v)) x flown (Coordinator flying) sound stays came = may_land_one v x flown flying stays came sound
  log_may_land (Some (coordinator v)) x flown (Shard flying) sound stays came = absurd (true≢false (sym stays.of ∙ came.told.of))
  log_may_land (Some (shard v)) x flown flying sound stays came = absurd stays
  log_may_land (Some (refused e a b)) x flown flying sound stays came = absurd stays
  log_may_land None x flown flying sound stays came = absurd stays

  pub log_comes_back : (node : Option (NodeView (Away D))) (x : Launch) (flown : View D) (flying : Flying) → LogStaysIn x node → HasFlown state honest x flown flying → ComesBackIn state honest node flown flying
  log_comes_back (Some (coordinator v)) x flown (Coordinator flying) stays came = comes_back v x flown flying stays came
  log_comes_back (Some (coordinator v)) x flown (Shard flying) stays came = absurd (true≢false (sym stays.of ∙ came.told.of))
  log_comes_back (Some (shard v)) x flown flying stays came = absurd stays
  log_comes_back (Some (refused e a b)) x flown flying stays came = absurd stays
  log_comes_back None x flown flying stays came = absurd stays
