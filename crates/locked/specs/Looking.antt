-- What a store is looked over for before anybody is served.
use Rattle.std.specs.Prelude.{◌≤◌, ℕ, List, All}

-- No shard has learned less than the horizon, or more than is kept.
abbrev pub AreOfOneStore : ℕ → ℕ → List ℕ → Type 0
AreOfOneStore horizon latest learned = All (λ (place : ℕ). (horizon ≤ place) × (place ≤ latest)) learned
