-- A write that came to nothing, over devices that rest: through an opening, and after a stop.
use Rattle.std.proofs.Common.{◌≡◌, ⊎_elim, inl, ◌<◌, ◌+◌, ◌++◌, ℕ, zero, suc, List, [], ◌∷◌, All, Some, Contains, length, slice_get, take, sym, ◌∙◌, ap, subst, arith}
use Rattle.std.proofs.lemmas.List.{append-nil}
use Rattle.std.proofs.lemmas.List.Elements.{All-cons, All-head, All-nil}
use Rattle.tuples.specs.declared.entry.Entry.{Entry}
use Rattle.tuples.specs.declared.entry.WriteId.{WriteId}
use Rattle.decisions.specs.Standing.{IsGivenOut}
use Rattle.device.specs.Device.{State}
use Rattle.journal.specs.Records.{found}
use Rattle.records.specs.declared.record.Record.{Record}
use Rattle.records.specs.declared.record.Record.TheVariants.{Epoch}
use Rattle.records.specs.Coordinators.{CoordinatorState, coordinator_state, coordinator_step}
use Rattle.laws.specs.LogLaws.{IsUnlisted}
use Rattle.laws.specs.Machines.{Machine}
use Rattle.laws.specs.Nodes.{CoordinatorKnows, IsThere, NodeName, coordinator, up}
use Rattle.laws.proofs.CoordinatorStates.{coordinator_push}
use Rattle.stores.specs.Held.{IsRightVerdict}
use Rattle.stores.specs.Moments.{Running}
use Rattle.stores.specs.Stores.{IsToldOver, RestsOver, Store, stops}
use Rattle.turns.specs.Promises.{StopsBetween, stops_since}
use Rattle.turns.specs.Reopens.{FoundHorizon, Reopened, Reopens}
use Rattle.turns.specs.StoreLaws.{IsStopOf, IsStopped}
use Rattle.turns.proofs.RunLogs.{opened_log}
use Rattle.headline.specs.PastWrites.{IsPast, IsPastOver}
use Rattle.headline.proofs.PastWrites.{records_of}

-- a beginning of a log lists no more than the log
slice_of_take : (n : ℕ) (log : List Entry) (j : ℕ) (w : Entry) → slice_get (take n log) j ≡ Some w → slice_get log j ≡ Some w
slice_of_take zero log j w at = absurd cc
slice_of_take (suc n) [] j w at = at
slice_of_take (suc n) (x ∷ log) zero w at = at
slice_of_take (suc n) (x ∷ log) (suc j) w at = slice_of_take n log j w at

unlisted_in : (n : ℕ) (log part : List Entry) (id : WriteId) → part ≡ take n log → IsUnlisted id log → IsUnlisted id part
unlisted_in n log part id is none j w at = none j w (slice_of_take n log j w (subst (λ (l : List Entry). slice_get l j ≡ Some w) is at))

module _ {D : Type 0} (state : D → State) (honest : D → Type 0) (moment : D → ℕ) (left_since : D → ℕ → List ℕ → Type 0) (store shards : ℕ) where
  module _ (old new stopped : NodeName → D × D) (stop : IsStopped state honest moment left_since store shards old new stopped) where
    -- what a stop leaves of devices that it left, it could leave before
    was_stopped : (n : NodeName) → IsThere shards n → (rs : List Record) → stops state honest store shards stopped n rs → stops_since state honest moment left_since store shards old new n rs
    was_stopped n there rs (a, b, in_a, in_b, is) =
        let of_a = stop.a n there in
        let of_b = stop.b n there in (
          of_a.content,
          of_b.content,
          of_a.was_left,
          of_b.was_left,
          subst (λ (x : List ℕ). found x of_b.content ≡ Some rs) (of_a.only a in_a) (subst (λ (y : List ℕ). found a y ≡ Some rs) (of_b.only b in_b) is),
        )

    pub past_stopped : (before after m : Machine) (id : WriteId) → StopsBetween state honest moment left_since store shards old new before after → IsStopOf before after m
        → IsGivenOut (stops state honest store shards old coordinator) id → IsUnlisted id before.log → IsUnlisted id after.log → IsPastOver state honest moment left_since store shards stopped m id
    past_stopped before after m id between is given none_before none_after = record {
      given = λ rs there. between.given id given rs (was_stopped coordinator tt rs there);
      unlisted = ⊎_elim
          (λ first. unlisted_in (length m.log) before.log m.log id first none_before)
          (λ first. unlisted_in (length m.log) after.log m.log id first none_after)
          is.log;
    }

  module _ (old : NodeName → D × D) (m : Machine) (ids : List WriteId) (new : Store D) (reopens : Reopens state honest moment left_since store shards old new) (rests : RestsOver state honest store shards old m)
      (told_all : All (IsToldOver state honest store shards old m) ids) (id : WriteId) (past : IsPastOver state honest moment left_since store shards old m id) where
    abbrev reopened : Reopened state honest moment left_since store shards old m ids new
    reopened = (reopens m ids rests told_all).0

    -- it may be told that the write is aborted, and what is told is given out after the opening
    given_out : IsGivenOut (stops state honest store shards new.devices coordinator) id
    given_out =
        let one : IsToldOver state honest store shards old m id = record { given = past.given; none = λ j w at above. past.unlisted j w at } in
        let all = (reopens m (id ∷ []) rests (All-cons (IsToldOver state honest store shards old m) id [] one (All-nil _))).0 in
        let verdicts = subst (λ (l : List WriteId). All (IsRightVerdict shards (stops state honest store shards new.devices) all.after) l) all.told_before all.stands.stands.told in
        (All-head (IsRightVerdict shards (stops state honest store shards new.devices) all.after) id [] verdicts).given.epoch

    given_before : (kept memory : CoordinatorState) → CoordinatorKnows reopened.after.nodes kept memory → id.epoch < memory.epoch
    unfolding coordinator_step
    given_before kept memory k =
        let is_up : new.at coordinator ≡ up k.durable k.staged = sym (reopened.stands.nodes.at coordinator) ∙ k.is_up in
        let comes = (reopened.causes coordinator tt).came_up k.durable k.staged is_up in
        let low = past.given comes.was comes.was_left in
        let all : k.durable ++ k.staged ≡ comes.was ++ Epoch ((coordinator_state comes.was).epoch + 1) store shards 255 ∷ [] = ap records_of (sym is_up ∙ comes.is_up) ∙ append-nil _ in
        let is : (coordinator_state (k.durable ++ k.staged)).epoch ≡ (coordinator_state comes.was).epoch + 1 = ap (λ (l : List Record). (coordinator_state l).epoch) all
        ∙ ap (λ (c : CoordinatorState). c.epoch) (coordinator_push comes.was (Epoch ((coordinator_state comes.was).epoch + 1) store shards 255)) in
        let same : memory.epoch ≡ (coordinator_state (k.durable ++ k.staged)).epoch = ap (λ (c : CoordinatorState). c.epoch) k.replayed in
        omega (arith, low, is, same)

    unlisted_then : IsUnlisted id reopened.after.machine.log
    unlisted_then j w at = opened_log (FoundHorizon state honest moment left_since store shards old) m reopened.after.machine reopened.opened.moves reopened.opened.allowed reopened.opened.machine 0 id
        (λ i x there low. past.unlisted i x there) j w at (omega arith)

    pub past_opened : IsPast state honest moment left_since store shards new reopened.after id
    past_opened = record {
      given = record { epoch = given_out; now = λ kept memory k. inl (given_before kept memory k) };
      unlisted = unlisted_then;
      unheld = λ r has. absurd (let none = (subst (λ (l : List Running). Contains l r) reopened.running has).1 in omega (arith, none));
    }
