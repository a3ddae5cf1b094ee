-- The turns of a flow, one after another.
use Rattle.std.specs.Prelude.{◌≡◌, ◌≤◌, ◌<◌, ◌⊎◌, ℕ, List, [], ◌∷◌, length, Option, Some, None}
use Rattle.names.specs.declared.call_name.CallName.{CallName}
use Rattle.cluster.specs.declared.event.What.{What}
use Rattle.cluster.specs.declared.step.Step.{Step}
use Rattle.cluster.specs.declared.step.Step.TheVariants.{Turn}
use Rattle.script_text.specs.declared.flow.Handling.TheVariants as handling

-- the call is the one that is asked for; if none is, no call is it
abbrev pub IsAsked : Option CallName → CallName → Type 0
IsAsked None call = ⊥
IsAsked (Some name) call = name ≡ call

-- a flow with this next call goes on: it has one, and that is another than the one that is asked for
abbrev pub GoesOn : Option CallName → Option CallName → Type 0
GoesOn until None = ⊥
GoesOn until (Some call) = IsAsked until call → ⊥

-- what the last turn told
abbrev pub last_told : List (Option What) → Option What
last_told [] = None
last_told (told ∷ before) = told

-- as many calls as can be counted, which no flow makes
abbrev pub most_calls : ℕ
most_calls = 18446744073709551615

module _ {S : Type 0} (takes : S → Step → Option What → S → Type 0) (nexts : S → ℕ → Option CallName → Type 0) (slot : ℕ) (until : Option CallName) where
  -- the flow in the slot goes on from here
  abbrev pub GoesOnFrom : S → Type 0
  GoesOnFrom s = (next : Option CallName) × nexts s slot next × GoesOn until next

  -- it stands still
  abbrev pub StandsStill : S → Type 0
  StandsStill s = (next : Option CallName) × nexts s slot next × (GoesOn until next → ⊥)

  -- The flow in the slot makes its turns, each because it goes on. What they tell stands with the last turn first.
  abbrev pub Turns : List (Option What) → S → S → Type 0
  Turns [] old new = new ≡ old
  Turns (told ∷ before) old new = (mid : S) × Turns before old mid × GoesOnFrom mid × takes mid (Turn slot) told new

  -- it makes them until it stands still, and this is told by the last of them
  pub record Goes (old : S) (told : Option What) (new : S) : Type 0 where
    pub all : List (Option What)
    pub turns : Turns all old new
    pub last : told ≡ last_told all
    pub ends : StandsStill new

  -- It made some of them and still goes on: memory was refused to what it may print, of which each call asks for this much more; or it has made as many calls as can be
  -- counted.
  pub record LeavesOff (each : ℕ) (old new : S) : Type 0 where
    pub all : List (Option What)
    pub turns : Turns all old new
    pub goes_on : GoesOnFrom new
    pub cause : (0 < each) ⊎ (most_calls ≤ length all)
