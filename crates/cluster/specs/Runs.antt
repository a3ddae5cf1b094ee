-- A run: what a list of steps does to a store, and the events that it reports.
use Rattle.std.specs.Prelude.{◌≡◌, ◌+◌, ◌++◌, ℕ, List, [], ◌∷◌, Option}
use Rattle.device.specs.Device.{State}
use Rattle.cluster.specs.declared.event.Event.{Event}
use Rattle.cluster.specs.declared.event.What.{What}
use Rattle.cluster.specs.declared.step.Step.{Step}
use Rattle.cluster.specs.Steps.{Takes, events_of}
use Rattle.cluster.specs.Worlds.{WorldView}

module _ {D : Type 0} (state : D → State) (honest : D → Type 0) (moment : D → ℕ) (left_since : D → ℕ → List ℕ → Type 0) where
  -- the step of this number was taken, and reported these events
  abbrev pub Took : WorldView D → ℕ → Step → List Event → WorldView D → Type 0
  Took old number step events new = (told : Option What) × Takes state honest moment left_since old step told new × (events ≡ events_of number told)

  -- These steps, numbered from this number on, were taken one after another, and reported these events.
  abbrev pub TookAll : WorldView D → ℕ → List Step → List Event → WorldView D → Type 0
  TookAll old number [] events new = (events ≡ []) × (new ≡ old)
  TookAll old number (step ∷ steps) events new = (mid : WorldView D) × (first rest : List Event) × Took old number step first mid
      × TookAll mid (number + 1) steps rest new × (events ≡ first ++ rest)
