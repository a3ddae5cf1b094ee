-- The numbers and names of the refusals.
use Rattle.std.specs.Prelude.{◌≡◌, ◌⊎◌, ℕ, List, [], ◌∷◌, ◌++◌, codes}
use Rattle.std.specs.Fmt.{decimal}
use Rattle.refusal.specs.declared.refusal.Refusal.{Refusal}
use Rattle.refusal.specs.declared.refusal.Refusal.TheVariants.{BadRequest, BadTuple, TooLarge, Repeated, BadZookie, WrongStore, Future, Collected, Precondition, Busy, Aborted, Unsure, Down, NoMemory, Full, Damaged}

-- from 1 to 16
abbrev pub number_of : Refusal → ℕ
number_of BadRequest = 1
number_of BadTuple = 2
number_of TooLarge = 3
number_of Repeated = 4
number_of BadZookie = 5
number_of WrongStore = 6
number_of Future = 7
number_of Collected = 8
number_of Precondition = 9
number_of Busy = 10
number_of Aborted = 11
number_of Unsure = 12
number_of Down = 13
number_of NoMemory = 14
number_of Full = 15
number_of Damaged = 16

-- as it is printed
abbrev pub name_of : Refusal → List ℕ
name_of BadRequest = codes "BadRequest"
name_of BadTuple = codes "BadTuple"
name_of TooLarge = codes "TooLarge"
name_of Repeated = codes "Repeated"
name_of BadZookie = codes "BadZookie"
name_of WrongStore = codes "WrongStore"
name_of Future = codes "Future"
name_of Collected = codes "Collected"
name_of Precondition = codes "Precondition"
name_of Busy = codes "Busy"
name_of Aborted = codes "Aborted"
name_of Unsure = codes "Unsure"
name_of Down = codes "Down"
name_of NoMemory = codes "NoMemory"
name_of Full = codes "Full"
name_of Damaged = codes "Damaged"

-- the number, a space and the name
abbrev pub refusal_text : Refusal → List ℕ
refusal_text r = decimal (number_of r) ++ 32 ∷ name_of r

-- it is one of these
abbrev pub IsOneOf : Refusal → List Refusal → Type 0
IsOneOf e [] = ⊥
IsOneOf e (r ∷ []) = e ≡ r
IsOneOf e (r ∷ s ∷ others) = (e ≡ r) ⊎ IsOneOf e (s ∷ others)

-- a number is that of one refusal
abbrev pub OneRefusalANumber : Type 0
OneRefusalANumber = (a b : Refusal) → number_of a ≡ number_of b → a ≡ b

-- a name is that of one refusal
abbrev pub OneRefusalAName : Type 0
OneRefusalAName = (a b : Refusal) → name_of a ≡ name_of b → a ≡ b
