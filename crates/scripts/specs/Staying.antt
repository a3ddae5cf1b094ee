-- A script none of whose lines carries the store over.
use Rattle.std.specs.Prelude.{◌≡◌, ℕ, List, [], ◌∷◌, All, codes}
use Rattle.std.specs.Fmt.{decimal}
use Rattle.cluster.specs.Steps.{Takes}
use Rattle.cluster.specs.Worlds.{WorldView}
use Rattle.device.specs.Device.{State}
use Rattle.device.specs.declared.tear.Tear.{Tear}
use Rattle.script_text.specs.Words.{words_of}
use Rattle.scripts.specs.Resharding.{Reshards}
use Rattle.scripts.specs.Runs.{Prints}
use Rattle.scripts.specs.Scripts.{ScriptView}
use Rattle.scripts.specs.Stepping.{IsNext, SetsScript, ShowsRows, shards_in}
use Rattle.scripts.specs.Deeds.{Deed, done_for, one_life}

-- the line asks for no other number of shards
abbrev pub Stays : List ℕ → Type 0
Stays line = (count : ℕ) → words_of line ≡ codes "reshard" ∷ decimal count ∷ [] → ⊥

module _ {D : Type 0} (gives : D → Type 0) (set : D → ℕ → Tear → Type 0) (state : D → State) (honest : D → Type 0) (moment : D → ℕ) (left_since : D → ℕ → List ℕ → Type 0) where
  -- what was done for such lines is the story of one life
  abbrev pub StayingIsOneLife : Type 0
  StayingIsOneLife = (a c : ScriptView (WorldView D)) (lines : List (List ℕ)) (text : List ℕ)
      → (p : Prints (Takes state honest moment left_since) IsNext (ShowsRows state honest) (SetsScript set state honest moment left_since) (Reshards gives state honest moment left_since) shards_in a lines text c)
      → All Stays lines → (deeds : List Deed)
      × (done_for (Takes state honest moment left_since) IsNext (ShowsRows state honest) (SetsScript set state honest moment left_since) (Reshards gives state honest moment left_since) shards_in a lines text c p ≡ one_life deeds)
