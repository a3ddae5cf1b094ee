-- What the run of a list of steps promises: a chain of the promises of its steps, each with every moment inside it.
use Rattle.std.specs.Prelude.{◌≡◌, ◌≢◌, ◌⊎◌, ◌<◌, ◌+◌, ℕ, max, List, [], ◌∷◌, ◌++◌, length, map, Some, Contains}
use Rattle.tuples.specs.declared.entry.WriteId.{WriteId}
use Rattle.refusal.specs.declared.refusal.Refusal.TheVariants.{Down, Full}
use Rattle.decisions.specs.Standing.{IsGivenOut}
use Rattle.records.specs.declared.record.Record.{Record}
use Rattle.records.specs.Replays.{greatest_number}
use Rattle.device.specs.Device.{HasFailed, State, reach}
use Rattle.gated.specs.Gated.{max_body, max_device, record_head}
use Rattle.journal.specs.Records.{Finds, found}
use Rattle.laws.specs.Machines.{Machine}
use Rattle.laws.specs.Nodes.{IsThere, NodeName, NodeState, coordinator, down, epoch_of, opening_record, refused, up}
use Rattle.laws.specs.Stops.{RestsBetween}
use Rattle.stores.specs.Moments.{Moment}
use Rattle.stores.specs.Stands.{at_shards}
use Rattle.stores.specs.Stores.{NamesHorizon, StandsOver, Store, stops}
use Rattle.turns.specs.Runs.{Event, Step, Takes, Told, restart}

-- the events of one step, under its number
abbrev pub events_of : ℕ → List Told → List Event
events_of number told = map (λ t. record { step = number; told = t }) told

-- one more batch, with its gates and length, may not fit into the greatest device
abbrev pub IsNearlyFull : State → Type 0
IsNearlyFull s = max_device < max (length s.seen) (reach s.written (length s.durable)) + record_head + max_body

-- Given what a device holds and whether it is honest, how often a stop may have come at it, what a stop since then may have left, and a store's id
-- and number of shards
module _ {D : Type 0} (state : D → State) (honest : D → Type 0) (moment : D → ℕ) (left_since : D → ℕ → List ℕ → Type 0) (store shards : ℕ) where
  -- what a stop at some moment since the old store may leave of a node
  abbrev pub stops_since : (NodeName → D × D) → (NodeName → D × D) → NodeName → List Record → Type 0
  stops_since old new n = Finds (left_since (new n).0 (moment (old n).0)) (left_since (new n).1 (moment (old n).1))

  -- A stop at any moment between two stores leaves what means the log from before, or the log from after; each content that it may leave of a node
  -- holds records; and an id that was given out before stays so.
  pub record StopsBetween (old new : NodeName → D × D) (before after : Machine) : Type 0 where
    pub rests : RestsBetween store shards before after (stops_since old new coordinator) (at_shards (stops_since old new))
    pub readable : (n : NodeName) (a b : List ℕ) → IsThere shards n → left_since (new n).0 (moment (old n).0) a → left_since (new n).1 (moment (old n).1) b
        → (rs : List Record) × (found a b ≡ Some rs)
    pub given : (id : WriteId) → IsGivenOut (stops state honest store shards old coordinator) id → IsGivenOut (stops_since old new coordinator) id

  -- a device of the node failed since, or has no room for one more batch, before or after
  abbrev pub HasDeviceCause : (NodeName → D × D) → (NodeName → D × D) → NodeName → Type 0
  HasDeviceCause old new n = HasFailed (state (old n).0) (state (new n).0) ⊎ (HasFailed (state (old n).1) (state (new n).1)
      ⊎ (IsNearlyFull (state (old n).0) ⊎ (IsNearlyFull (state (old n).1)
      ⊎ (IsNearlyFull (state (new n).0) ⊎ IsNearlyFull (state (new n).1)))))

  -- a node came up: with records that a stop could leave of it, followed by the record of one more opening
  pub record ComesUp (old : NodeName → D × D) (n : NodeName) (now : NodeState) : Type 0 where
    pub was : List Record
    pub was_left : stops state honest store shards old n was
    pub is_up : now ≡ up (was ++ opening_record store shards n (epoch_of n was + 1) ∷ []) []

  -- a node that opened is up; or it is refused, for Down if a device has the cause, and for Full if it was opened as often as possible
  pub record OpensWithCause (old new : NodeName → D × D) (n : NodeName) (now : NodeState) : Type 0 where
    pub came_up : (durable staged : List Record) → now ≡ up durable staged → ComesUp old n now
    pub down : now ≡ refused Down → HasDeviceCause old new n
    pub full : now ≡ refused Full → (was : List Record) × stops state honest store shards old n was × (epoch_of n was ≡ greatest_number)

  -- A step, and what it leads to: the moment after it, for which the store then stands, and what it tells. A node goes down if a device of it failed,
  -- and a node that is opened is up or refused with its cause. A horizon is new only if a flow was asked for it. And at every moment inside the step a
  -- stop leaves what means the log. An id that was given out stays so.
  pub record Ran (old : Store D) (now : Moment) (number : ℕ) (step : Step) (events : List Event) (new : Store D) : Type 0 where
    pub after : Moment
    pub told : List Told
    pub takes : Takes shards (NamesHorizon state honest store shards old now) now step told after
    pub tells : events ≡ events_of number told
    pub stands : StandsOver state honest store shards new after
    pub named : (x : ℕ) → NamesHorizon state honest store shards new after x → Contains after.named x ⊎ NamesHorizon state honest store shards old now x
    pub fails : (n : NodeName) → IsThere shards n → after.nodes.at n ≡ down → now.nodes.at n ≢ down → HasDeviceCause old.devices new.devices n
    pub opens : (n : NodeName) → IsThere shards n → step ≡ restart n → OpensWithCause old.devices new.devices n (after.nodes.at n)
    pub inside : StopsBetween old.devices new.devices now.machine after.machine
    pub given : (id : WriteId) → IsGivenOut (stops state honest store shards old.devices coordinator) id → IsGivenOut (stops state honest store shards new.devices coordinator) id

  -- the promise of one step: from whatever moment the store stands for
  abbrev pub RunsOne : Store D → ℕ → Step → List Event → Store D → Type 0
  RunsOne old number step events new = (now : Moment) → StandsOver state honest store shards old now → Ran old now number step events new

  -- the headline: the promise of a list of steps, the first of which has this number, is that of the first and then that of the rest, with a store
  -- between them; with no step the store is as it was
  abbrev pub RunsAll : Store D → ℕ → List Step → List Event → Store D → Type 0
  RunsAll old number [] events new = (events ≡ []) × (new ≡ old)
  RunsAll old number (step ∷ steps) events new = (mid : Store D) × (first rest : List Event) × RunsOne old number step first mid
      × RunsAll mid (number + 1) steps rest new × (events ≡ first ++ rest)
