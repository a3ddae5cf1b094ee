-- The coordinator whose devices were lent is tied as it was, and what they made durable may join the list once it has them again.
use Rattle.std.proofs.Common.{◌≡◌, ◌++◌, ◌≤◌, ℕ, List, length, take, drop, Option, Some, None, slice_get, Contains, ⊎_elim, sym, ◌∙◌, ap, subst, arith, append_assoc, length-append}
use Rattle.std.proofs.lemmas.List.{drop-append-le, take-append-drop, append_cancel_left}
use Rattle.std.proofs.lemmas.Bool.{or_parts}
use Rattle.sides.proofs.Words.{Anywhere, Attempt, Away, ComesBackIn, coordinator, CoordinatorMayJoin, CoordinatorView, end_of, Entry, Flying, IsOpenedTied, IsSound, IsSoundThere, IsTiedThere, IsTiedUp, kept_of, landings_stay_tied, LandsIn, left, LendsIn, lent_honest, lent_state, MayJoin, MayLandIn, memory_of, NodeView, Record, refused, shard, State, View, WriteId}
use Rattle.records.specs.Coordinators.{CoordinatorState, coordinator_from, coordinator_state}
use Rattle.records.proofs.CoordinatorStates.{state_of_more}
use Rattle.coordinator.specs.declared.lending.Flying.{Flying as OfCoordinator}
use Rattle.coordinator.specs.Staged.{decided}
use Rattle.coordinator.proofs.Staged.{decided_behind}
use Rattle.calls.specs.Lending.{CoordinatorLands, CoordinatorLends, CoordinatorMayLand}
use Rattle.calls.specs.declared.lending.Flying.TheVariants as flies
use Rattle.ties.specs.Ties.{AreListed, AreOf, AreStaged, AreTried, IsLonger}
use Rattle.ties.proofs.Decided.{base_behind, base_staged, decided-append, staged_in_two, staged_whole, staged_within}
use Rattle.ties.proofs.Opening.{durable_longer}
use Rattle.ties.proofs.Outside.{still_outside}
use Rattle.sides.specs.Lending.{ComesBack}
use Rattle.tuples.proofs.Lists.{slice_get_longer}

-- Given a coordinator that is up and tied, the records with the first of what is staged are the list, and perhaps more.
module _ {E : Type 0} (state_of : E → State) (honest_of : E → Type 0) (v : CoordinatorView E) (count : ℕ) (seen : List Entry) (low : ℕ) (tried : List Attempt) (tied : IsTiedUp state_of honest_of v seen low tried) where
  abbrev first : List Record
  first = take count v.staged

  abbrev rest : List Record
  rest = drop count v.staged

  abbrev now : CoordinatorState
  now = coordinator_from (kept_of v) first

  in_two : AreStaged low (length seen) (first ++ rest)
  in_two = subst (AreStaged low (length seen)) (sym (take-append-drop count v.staged)) tied.staged

  parts : ((kept_of v).horizon ≤ now.horizon) × AreStaged now.horizon (length seen) rest × (now.epoch ≡ (kept_of v).epoch)
  parts = staged_in_two (kept_of v) (length seen) first rest (subst (λ (n : ℕ). AreStaged n (length seen) (first ++ rest)) tied.horizon in_two)

  base_is : now.base ≡ (kept_of v).base
  base_is = base_behind low (length seen) (kept_of v) first rest in_two

  low_base : (kept_of v).base ≤ length seen
  low_base = let b = tied.kept.base in let w = tied.kept.within in omega (arith, b, w)

  within : now.horizon ≤ length seen
  within = staged_within now.horizon (length seen) rest parts.1

  decisions_are : now.log ≡ drop now.base (seen ++ decided first)
  decisions_are =
      decided_behind (kept_of v) first
      ∙ ap (λ (l : List Entry). l ++ decided first) tied.kept.decisions
      ∙ sym (drop-append-le (kept_of v).base seen (decided first) low_base)
      ∙ ap (λ (n : ℕ). drop n (seen ++ decided first)) (sym base_is)

  whole_base : (memory_of v).base ≡ (kept_of v).base
  whole_base = ap (λ (s : CoordinatorState). s.base) (state_of_more v.durable v.staged) ∙ base_staged low (length seen) (kept_of v) v.staged tied.staged

  whole_log : (memory_of v).log ≡ (kept_of v).log ++ decided v.staged
  whole_log = ap (λ (s : CoordinatorState). s.log) (state_of_more v.durable v.staged) ∙ decided_behind (kept_of v) v.staged

  more_is : tied.more ≡ decided first ++ decided rest
  more_is =
      append_cancel_left (drop (kept_of v).base seen) tied.more (decided v.staged)
      (sym (drop-append-le (kept_of v).base seen tied.more low_base)
      ∙ ap (λ (n : ℕ). drop n (seen ++ tied.more)) (sym whole_base)
      ∙ sym tied.all.decisions
      ∙ whole_log
      ∙ ap (λ (l : List Entry). l ++ decided v.staged) tied.kept.decisions)
      ∙ ap decided (sym (take-append-drop count v.staged))
      ∙ decided-append first rest

  list_is : seen ++ tied.more ≡ (seen ++ decided first) ++ decided rest
  list_is = ap (λ (l : List Entry). seen ++ l) more_is ∙ sym (append_assoc seen (decided first) (decided rest))

  epoch_is : now.epoch ≡ (memory_of v).epoch
  epoch_is =
      let whole = staged_whole (kept_of v) (length seen) v.staged (subst (λ (n : ℕ). AreStaged n (length seen) v.staged) tied.horizon tied.staged) in
      parts.2 ∙ sym whole.2 ∙ ap (λ (s : CoordinatorState). s.epoch) (sym (state_of_more v.durable v.staged))

  there : (j : ℕ) (w : Entry) → slice_get (seen ++ decided first) j ≡ Some w → slice_get (seen ++ tied.more) j ≡ Some w
  there j w is = subst (λ (l : List Entry). slice_get l j ≡ Some w) (sym list_is) (slice_get_longer (seen ++ decided first) (decided rest) j w is)

  pub first_longer : IsLonger seen low tried (coordinator_state (v.durable ++ first))
  first_longer = subst (IsLonger seen low tried) (sym (state_of_more v.durable first)) (record {
    more = decided first;
    are = record {
      decisions = decisions_are;
      base = let b = tied.kept.base in let p = parts.0 in omega (arith, b, p, base_is);
      within = omega (arith, within, length-append seen (decided first));
    };
    listed = record {
      whole = λ j w is. tied.listed.whole j w (there j w is);
      new = λ i j u w at_i at_j same. tied.listed.new i j u w (there i u at_i) (there j w at_j) same;
      given = λ j w is. let g = tied.listed.given j w (there j w is) in omega (arith, g, epoch_is);
    };
    raised = let p = parts.0 in omega (arith, p, tied.horizon);
    within = within;
    past = λ j x is. ⊎_elim (λ before. omega (arith, before, epoch_is)) (λ here. omega (arith, here.0, epoch_is)) (tied.attempts j x is);
  })

module _ {D : Type 0} (state : D → State) (honest : D → Type 0) (store shards : ℕ) where
  -- Given a coordinator, and what stays if its devices are elsewhere
  module _ (v : CoordinatorView D) (u : CoordinatorView (Away D)) (flight : View D) (flying : OfCoordinator) (lends : CoordinatorLends state honest v u flight flying) where
    same_records : u.durable ++ u.staged ≡ v.durable ++ v.staged
    same_records = ap (λ (l : List Record). l ++ u.staged) lends.stays.durable ∙ ap (λ (l : List Record). v.durable ++ l) lends.stays.staged

    lent_sound_one : IsSound state honest store shards v → IsSound (lent_state state) (lent_honest honest) store shards u
    lent_sound_one sound = record {
      running = λ up. lends.running (sound.running (sym lends.stays.is_down ∙ up));
      honest_a = subst honest (sym lends.stays.a.was) sound.honest_a;
      honest_b = subst honest (sym lends.stays.b.was) sound.honest_b;
      me = lends.stays.me ∙ sound.me;
    }

    -- Given the list
    module _ (seen : List Entry) (low : ℕ) (tried : List Attempt) where
      lent_up : IsTiedUp state honest v seen low tried → IsTiedUp (lent_state state) (lent_honest honest) u seen low tried
      lent_up tied = record {
        running = lends.running tied.running;
        kept = subst (λ (l : List Record). AreOf seen (coordinator_state l)) (sym lends.stays.durable) tied.kept;
        whole = tied.whole ∙ ap (λ (l : List Record). end_of (coordinator_state l)) (sym lends.stays.durable);
        horizon = tied.horizon ∙ ap (λ (l : List Record). (coordinator_state l).horizon) (sym lends.stays.durable);
        staged = subst (AreStaged low (length seen)) (sym lends.stays.staged) tied.staged;
        more = tied.more;
        all = subst (λ (l : List Record). AreOf (seen ++ tied.more) (coordinator_state l)) (sym same_records) tied.all;
        listed = subst (λ (l : List Record). AreListed (coordinator_state l).epoch (seen ++ tied.more)) (sym same_records) tied.listed;
        outside = still_outside v u (seen ++ tied.more) (ap (λ (l : List Record). (coordinator_state l).epoch) same_records) lends.stays.given (λ id there. subst (λ (ids : List WriteId). Contains ids id) lends.stays.open_ids there) tied.outside;
        attempts = subst (λ (l : List Record). AreTried (coordinator_state l).epoch (seen ++ tied.more) tried) (sym same_records) tied.attempts;
      }

      lent_anywhere : Anywhere state honest v.a v.b seen low tried → Anywhere (lent_state state) (lent_honest honest) u.a u.b seen low tried
      lent_anywhere was = record {
        honest_a = subst honest (sym lends.stays.a.was) was.honest_a;
        honest_b = subst honest (sym lends.stays.b.was) was.honest_b;
        each = λ rs finds. was.each rs (
          finds.0,
          finds.1,
          subst (λ (d : D). left (state d) finds.0) lends.stays.a.was finds.2,
          subst (λ (d : D). left (state d) finds.1) lends.stays.b.was finds.3,
          finds.4,
        );
      }

      lent_opened : IsOpenedTied state honest store shards v seen low tried → IsOpenedTied (lent_state state) (lent_honest honest) store shards u seen low tried
      lent_opened tied = record {
        up = λ up. lent_up (tied.up (sym lends.stays.is_down ∙ up));
        anywhere = lent_anywhere tied.anywhere;
        me = lends.stays.me ∙ tied.me;
      }

  pub lent_log_sound : (old : Option (NodeView D)) (new : Option (NodeView (Away D))) (flight : View D) (flying : Flying) → LendsIn state honest old new flight flying → IsSoundThere state honest store shards old
      → IsSoundThere (lent_state state) (lent_honest honest) store shards new
  lent_log_sound (Some (coordinator v)) (Some (coordinator u)) flight (flies.Coordinator flying) lends sound = lent_sound_one v u flight flying lends sound
  lent_log_sound (Some (coordinator v)) (Some (coordinator u)) flight (flies.Shard flying) lends sound = absurd lends
  lent_log_sound (Some (coordinator v)) (Some (shard u)) flight flying lends sound = absurd lends
  lent_log_sound (Some (coordinator v)) (Some (refused e a b)) flight flying lends sound = absurd lends
  lent_log_sound (Some (shard v)) (Some u) flight flying lends sound = absurd sound
  lent_log_sound (Some (refused e a b)) (Some u) flight flying lends sound = absurd lends
  lent_log_sound (Some v) None flight flying lends sound = absurd lends
  lent_log_sound None new flight flying lends sound = absurd sound

  -- what stays is the same coordinator, tied as it was
  pub lent_log_tied : (old : Option (NodeView D)) (new : Option (NodeView (Away D))) (flight : View D) (flying : Flying) (seen : List Entry) (low : ℕ) (tried : List Attempt) → LendsIn state honest old new flight flying
      → IsTiedThere state honest store shards old seen low tried → IsTiedThere (lent_state state) (lent_honest honest) store shards new seen low tried
  lent_log_tied (Some (coordinator v)) (Some (coordinator u)) flight (flies.Coordinator flying) seen low tried lends tied = lent_opened v u flight flying lends seen low tried tied
  lent_log_tied (Some (coordinator v)) (Some (coordinator u)) flight (flies.Shard flying) seen low tried lends tied = absurd lends
  lent_log_tied (Some (coordinator v)) (Some (shard u)) flight flying seen low tried lends tied = absurd lends
  lent_log_tied (Some (coordinator v)) (Some (refused e a b)) flight flying seen low tried lends tied = absurd lends
  lent_log_tied (Some (shard v)) (Some u) flight flying seen low tried lends tied = absurd tied
  lent_log_tied (Some (refused e a b)) (Some u) flight flying seen low tried lends tied = absurd lends
  lent_log_tied (Some v) None flight flying seen low tried lends tied = absurd lends
  lent_log_tied None new flight flying seen low tried lends tied = absurd tied

  -- Given a coordinator without its devices, and the flight that brings them back
  module _ (v : CoordinatorView (Away D)) (flown : View D) (flying : OfCoordinator) (new : CoordinatorView D) (comes : ComesBack state honest v flown flying.sent.count) (lands : CoordinatorLands state honest v flown flying new) where
    landed_sound_one : IsSound (lent_state state) (lent_honest honest) store shards v → IsSound state honest store shards new
    landed_sound_one sound = record {
      running = λ up.
          let both = or_parts v.is_down flown.is_down (sym (ap (λ (x : CoordinatorView D). x.is_down) lands.landed) ∙ up) in
          lands.running both.0 both.1 comes.honest_a comes.honest_b;
      honest_a = subst honest (sym (ap (λ (x : CoordinatorView D). x.a) lands.landed)) comes.honest_a;
      honest_b = subst honest (sym (ap (λ (x : CoordinatorView D). x.b) lands.landed)) comes.honest_b;
      me = ap (λ (x : CoordinatorView D). x.me) lands.landed ∙ sound.me;
    }

    -- Given the list
    module _ (seen : List Entry) (low : ℕ) (tried : List Attempt) (may : CoordinatorMayLand state honest v flown flying) (tied : IsOpenedTied (lent_state state) (lent_honest honest) store shards v seen low tried) where
      joins_one : CoordinatorMayJoin state honest store shards new seen low tried
      joins_one = record {
        up = λ up.
            let both = or_parts v.is_down flown.is_down (sym (ap (λ (x : CoordinatorView D). x.is_down) lands.landed) ∙ up) in
            let flight = may.has_flown both.0 both.1 comes.honest_a comes.honest_b in
            landings_stay_tied state honest (lent_state state) (lent_honest honest) v new flying.sent.count seen low tried (tied.up both.0)
            (record {
              durable = ap (λ (x : CoordinatorView D). x.durable) lands.landed ∙ flight.durable;
              staged = ap (λ (x : CoordinatorView D). x.staged) lands.landed;
              open_ids = ap (λ (x : CoordinatorView D). x.open_ids) lands.landed;
              given = ap (λ (x : CoordinatorView D). x.given) lands.landed;
            })
            (lands.running both.0 both.1 comes.honest_a comes.honest_b);
        down = λ down. subst (λ (x : CoordinatorView D). Anywhere state honest x.a x.b seen low tried) (sym lands.landed) (record {
          honest_a = comes.honest_a;
          honest_b = comes.honest_b;
          each = λ rs finds. ⊎_elim
              (λ before. subst (λ (l : List Record). IsLonger seen low tried (coordinator_state l)) (sym before) (durable_longer (lent_state state) (lent_honest honest) v seen low tried (tied.up comes.up)))
              (λ after. subst (λ (l : List Record). IsLonger seen low tried (coordinator_state l)) (sym after) (first_longer (lent_state state) (lent_honest honest) v flying.sent.count seen low tried (tied.up comes.up)))
              (comes.leaves rs finds);
        });
        me = ap (λ (x : CoordinatorView D). x.me) lands.landed ∙ tied.me;
      }

  pub landed_log_sound : (old : Option (NodeView (Away D))) (flown : View D) (flying : Flying) (new : Option (NodeView D)) → ComesBackIn state honest old flown flying → LandsIn state honest old flown flying new
      → IsSoundThere (lent_state state) (lent_honest honest) store shards old → IsSoundThere state honest store shards new
  landed_log_sound (Some (coordinator v)) flown (flies.Coordinator flying) (Some (coordinator new)) comes lands sound = landed_sound_one v flown flying new comes lands sound
  landed_log_sound (Some (coordinator v)) flown (flies.Coordinator flying) (Some (shard new)) comes lands sound = absurd lands
  landed_log_sound (Some (coordinator v)) flown (flies.Coordinator flying) (Some (refused e a b)) comes lands sound = absurd lands
  landed_log_sound (Some (coordinator v)) flown (flies.Coordinator flying) None comes lands sound = absurd lands
  landed_log_sound (Some (coordinator v)) flown (flies.Shard flying) new comes lands sound = absurd comes
  landed_log_sound (Some (shard v)) flown flying new comes lands sound = absurd sound
  landed_log_sound (Some (refused e a b)) flown flying new comes lands sound = absurd comes
  landed_log_sound None flown flying new comes lands sound = absurd sound

  -- what comes back may join the list
  pub landed_may_join : (old : Option (NodeView (Away D))) (flown : View D) (flying : Flying) (new : Option (NodeView D)) (seen : List Entry) (low : ℕ) (tried : List Attempt) → MayLandIn state honest old flown flying
      → ComesBackIn state honest old flown flying → LandsIn state honest old flown flying new → IsTiedThere (lent_state state) (lent_honest honest) store shards old seen low tried → MayJoin state honest store shards new seen low tried
  landed_may_join (Some (coordinator v)) flown (flies.Coordinator flying) (Some (coordinator new)) seen low tried may comes lands tied = joins_one v flown flying new comes lands seen low tried may tied
  landed_may_join (Some (coordinator v)) flown (flies.Coordinator flying) (Some (shard new)) seen low tried may comes lands tied = absurd lands
  landed_may_join (Some (coordinator v)) flown (flies.Coordinator flying) (Some (refused e a b)) seen low tried may comes lands tied = absurd lands
  landed_may_join (Some (coordinator v)) flown (flies.Coordinator flying) None seen low tried may comes lands tied = absurd lands
  landed_may_join (Some (coordinator v)) flown (flies.Shard flying) new seen low tried may comes lands tied = absurd comes
  landed_may_join (Some (shard v)) flown flying new seen low tried may comes lands tied = absurd tied
  landed_may_join (Some (refused e a b)) flown flying new seen low tried may comes lands tied = absurd comes
  landed_may_join None flown flying new seen low tried may comes lands tied = absurd tied
