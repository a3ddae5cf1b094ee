-- What holds of all lines: each is read in one way.
use Rattle.std.specs.Prelude.{◌≡◌, ◌<◌, ◌^◌, ◌⊎◌, ℕ, List, All}
use Rattle.refusal.specs.declared.refusal.Refusal.{Refusal}
use Rattle.refusal.specs.declared.refusal.Refusal.TheVariants.{NoMemory}
use Rattle.tuples.specs.declared.change.Condition.{Condition}
use Rattle.tuples.specs.declared.change.Want.{Want}
use Rattle.tuples.specs.declared.change.Want.TheVariants.{NotAfter, Exists, Absent}
use Rattle.tuples.specs.Changes.{IsWrite}
use Rattle.tuples.specs.Names.{IsName}
use Rattle.tuples.specs.Texts.{IsTuple, IsTupleset}
use Rattle.tuples.specs.declared.freshness.Freshness.{Freshness}
use Rattle.tuples.specs.declared.freshness.Freshness.TheVariants as freshness
use Rattle.tuples.specs.declared.request.Request.{Request}
use Rattle.tuples.specs.declared.request.Request.TheVariants.{Write, Read, Check, Watch}
use Rattle.json_lines.specs.Causes.{Cause}
use Rattle.json_lines.specs.Lines.{IsObject, Spells}
use Rattle.json_lines.specs.Shapes.{Field}

-- a place is a number of 64 bits
abbrev pub IsPlace : ℕ → Type 0
IsPlace place = place < 2 ^ 64

abbrev pub IsWant : Want → Type 0
IsWant (NotAfter place) = IsPlace place
IsWant Exists = Unit {0}
IsWant Absent = Unit {0}

abbrev pub IsFreshness : Freshness → Type 0
IsFreshness freshness.Latest = Unit {0}
IsFreshness (freshness.AtLeast place) = IsPlace place
IsFreshness (freshness.Exact place) = IsPlace place

-- what the types of a request keep of it
abbrev pub IsRequest : Request → Type 0
IsRequest (Write w) = IsWrite w.changes w.conditions × All (λ (c : Condition). IsWant c.want) w.conditions
IsRequest (Read fresh sets) = IsFreshness fresh × All IsTupleset sets.items
IsRequest (Check fresh tuple) = IsFreshness fresh × IsTuple tuple
IsRequest (Watch from limit namespaces) = IsPlace from × All IsName namespaces.items

-- the line spells the request, at this store
abbrev pub IsSpelled : ℕ → List ℕ → Request → Type 0
IsSpelled store line r = (fields : List Field) × IsObject line fields × Spells store fields r × IsRequest r

-- A line that spells a request is refused only for lack of memory.
abbrev pub NoneIsSpelledAndRefused : Type 0
NoneIsSpelledAndRefused = (store : ℕ) (line : List ℕ) (r : Request) (e : Refusal) → store < 2 ^ 64 → IsSpelled store line r → Cause store line e → e ≡ NoMemory

-- A line is refused for one cause, or for lack of memory.
abbrev pub OneCauseALine : Type 0
OneCauseALine = (store : ℕ) (line : List ℕ) (e other : Refusal) → store < 2 ^ 64 → Cause store line e → Cause store line other → (e ≡ other) ⊎ ((e ≡ NoMemory) ⊎ (other ≡ NoMemory))
