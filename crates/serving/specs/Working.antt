-- What a worker's sessions are asked.
use Rattle.std.specs.Prelude.{ℕ, List, All}
use Rattle.std.specs.declared.snapshot.Snapshot.{Snapshot}
use Rattle.sessions.specs.Sessions.{Giving, Session}

-- nothing was asked but the requests of some lines, each once and in order
abbrev pub HasServed : {A : Type 0} → ℕ → Giving A → A → A → Type 0
HasServed store gives a b = (lines : List (List ℕ)) × (text : List ℕ) × Session store gives a lines text b

-- each session, as it began and as it ended, began as one may, and was asked just that
abbrev pub AreServed : {A : Type 0} → (A → Type 0) → ℕ → Giving A → List (Snapshot A × A) → Type 0
AreServed {A} begins store gives served = All (λ (pair : Snapshot A × A). begins pair.0.value × HasServed store gives pair.0.value pair.1) served
