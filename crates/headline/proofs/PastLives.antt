-- What is left of a life keeps that a write came to nothing.
use Rattle.std.proofs.Common.{◌≢◌, ◌≤◌, ℕ, List, [], Option, refl, sym, ◌∙◌, subst}
use Rattle.tuples.specs.declared.entry.WriteId.{WriteId}
use Rattle.device.specs.Device.{State, left}
use Rattle.device.specs.declared.tear.Tear.{Tear}
use Rattle.cluster.specs.Worlds.{WorldView}
use Rattle.cluster.specs.declared.event.What.{What}
use Rattle.laws.specs.Machines.{Machine}
use Rattle.stores.specs.Moments.{Moment}
use Rattle.stores.specs.Stores.{RestsOver, StandsOver, Store}
use Rattle.turns.specs.Promises.{Ran, events_of}
use Rattle.turns.proofs.Chains.{stopped_steps_rest}
use Rattle.turns.proofs.ClosedStoreRests.{closed_stores_rest}
use Rattle.headline.specs.Acts.{Act, KeepsActs}
use Rattle.headline.specs.ManyLives.{End, EndsOver, closes, stops_opening, stops_within}
use Rattle.headline.specs.PastLives.{PastWritesOutlive}
use Rattle.headline.specs.PastWrites.{IsPast, IsPastOver}
use Rattle.headline.specs.Promised.{devices_at}
use Rattle.headline.specs.Shown.{Shows}
use Rattle.headline.specs.Told.{all_told, step_of}
use Rattle.headline.proofs.Acting.{acts_keep}
use Rattle.headline.proofs.Joined.{steps_keep}
use Rattle.headline.proofs.ManyLives.{same_devices, same_rest, same_stop}
use Rattle.headline.proofs.PastRests.{past_stopped}
use Rattle.headline.proofs.PastWrites.{past_writes_stay}

module _ {D : Type 0} (set : D → ℕ → Tear → Type 0) (state : D → State) (honest : D → Type 0) (moment : D → ℕ) (left_since : D → ℕ → List ℕ → Type 0)
    (counts_now : (d : D) (t : ℕ) (c : List ℕ) → honest d → t ≤ moment d → left (state d) c → left_since d t c)
    (only_now : (d : D) (c : List ℕ) → honest d → left_since d (moment d) c → left (state d) c) where
  module _ (any : D) (w : WorldView D) (s : Store D) (now : Moment) (acts : List Act) (told : List (Option What)) (new : List D) (id : WriteId) (shows : Shows w s)
      (standing : StandsOver state honest w.store w.shards s now) (past : IsPast state honest moment left_since w.store w.shards s now id) where
    abbrev IsOver : Type 0
    IsOver = (after : Machine) × RestsOver state honest w.store w.shards (devices_at any new) after × IsPastOver state honest moment left_since w.store w.shards (devices_at any new) after id

    by_end : (end : End) → end ≢ stops_opening → EndsOver set state honest moment left_since w.store w.shards any [] w acts told end new → IsOver
    by_end closes other (last, whole, acted, are) =
        let over : KeepsActs set state honest moment left_since w.store w.shards s now 0 acts told last =
        acts_keep set state honest moment left_since (steps_keep state honest moment left_since counts_now only_now) w last s now 0 acts told shows whole acted standing in
        let closed = closed_stores_rest state honest moment left_since w.store w.shards over.later over.after over.stands in
        let same = same_devices set state honest moment left_since counts_now only_now w.store w.shards any last over.later (devices_at any new) over.shards_is over.shows are in
        let likewise = same_rest state honest moment left_since w.store w.shards over.later.devices (devices_at any new) same over.after.machine closed.0 in
        let still = over.past id past in
        (over.after.machine, likewise.rests, likewise.past id (record { given = still.given.epoch; unlisted = still.unlisted }))
    by_end stops_opening other ends = absurd (other refl)
    by_end (stops_within step) other (last, next, tells, devices, later, whole, acted, whole_step, takes, are, are_next, stop) =
        let over : KeepsActs set state honest moment left_since w.store w.shards s now 0 acts told last =
        acts_keep set state honest moment left_since (steps_keep state honest moment left_since counts_now only_now) w last s now 0 acts told shows whole acted standing in
        let keeps = steps_keep state honest moment left_since counts_now only_now step last next over.later tells over.shows whole_step takes in
        let standing_there = subst (λ (n : ℕ). StandsOver state honest n last.shards over.later over.after) (sym over.store_is)
        (subst (λ (n : ℕ). StandsOver state honest w.store n over.later over.after) (sym over.shards_is) over.stands) in
        let ran_there = keeps.runs 0 over.after standing_there in
        let ran : Ran state honest moment left_since w.store w.shards over.later over.after 0 (step_of step) (events_of 0 (all_told tells)) keeps.later =
        subst (λ (n : ℕ). Ran state honest moment left_since n w.shards over.later over.after 0 (step_of step) (events_of 0 (all_told tells)) keeps.later) over.store_is
        (subst (λ (n : ℕ). Ran state honest moment left_since last.store n over.later over.after 0 (step_of step) (events_of 0 (all_told tells)) keeps.later) over.shards_is ran_there) in
        let same = same_devices set state honest moment left_since counts_now only_now w.store w.shards any last over.later devices over.shards_is over.shows are in
        let same_next = same_devices set state honest moment left_since counts_now only_now w.store w.shards any next keeps.later later (keeps.shards_is ∙ over.shards_is)
        (keeps.shows over.after standing_there) are_next in
        let stop_there = same_stop set state honest moment left_since counts_now only_now w.store w.shards any devices over.later.devices later keeps.later.devices (devices_at any new) same same_next stop in
        let stopped = stopped_steps_rest state honest moment left_since w.store w.shards over.later keeps.later over.after 0 (step_of step) (events_of 0 (all_told tells)) (devices_at any new) over.stands ran stop_there in
        let still = over.past id past in
        let next_past = past_writes_stay state honest moment left_since w.store w.shards over.later keeps.later over.after 0 (step_of step) (events_of 0 (all_told tells)) id over.stands ran still in (
          stopped.0,
          stopped.2,
          past_stopped state honest moment left_since w.store w.shards over.later.devices keeps.later.devices (devices_at any new) stop_there over.after.machine ran.after.machine stopped.0 id
              ran.inside stopped.1 still.given.epoch still.unlisted next_past.unlisted,
        )

  pub past_writes_outlive : PastWritesOutlive set state honest moment left_since
  past_writes_outlive any w s now acts told end new id shows standing past other ends = by_end any w s now acts told new id shows standing past end other ends
