-- A session more that was served.
use Rattle.std.proofs.Common.{ℕ, List, [], ◌∷◌, ◌++◌}
use Rattle.std.proofs.lemmas.List.Elements.{All-push}
use Rattle.std.specs.declared.snapshot.Snapshot.{Snapshot}
use Rattle.sessions.specs.Sessions.{Giving}
use Rattle.serving.specs.Working.{AreServed, HasServed}

module _ {A : Type 0} (begins : A → Type 0) (store : ℕ) (gives : Giving A) where
  pub one_more : (served : List (Snapshot A × A)) (first : Snapshot A) (last : A) → AreServed begins store gives served → begins first.value → HasServed store gives first.value last
      → AreServed begins store gives (served ++ (first, last) ∷ [])
  one_more served first last before begun asked =
      All-push (λ (pair : Snapshot A × A). begins pair.0.value × HasServed store gives pair.0.value pair.1) served (first, last) before (begun, asked)
