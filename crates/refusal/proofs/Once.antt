-- A refusal is found again from its number, and from its name.
use Rattle.std.proofs.Common.{◌≡◌, ◌==◌, ◌+◌, ◌*◌, ℕ, List, [], ◌∷◌, length, if◌then◌else◌, refl, sym, ap, ◌∙◌}
use Rattle.refusal.specs.Refusals.{number_of, name_of}
use Rattle.refusal.specs.declared.refusal.Refusal.{Refusal}
use Rattle.refusal.specs.declared.refusal.Refusal.TheVariants.{BadRequest, BadTuple, TooLarge, Repeated, BadZookie, WrongStore, Future, Collected, Precondition, Busy, Aborted, Unsure, Down, NoMemory, Full, Damaged}

-- the refusal of a number
abbrev of_number : ℕ → Refusal
of_number n = if n == 1 then BadRequest else if n == 2 then BadTuple else if n == 3 then TooLarge else if n == 4 then Repeated else if n == 5 then BadZookie else if n == 6 then WrongStore else if n == 7 then Future else if n == 8 then Collected else if n == 9 then Precondition else if n == 10 then Busy else if n == 11 then Aborted else if n == 12 then Unsure else if n == 13 then Down else if n == 14 then NoMemory else if n == 15 then Full else Damaged

of_its_number : (r : Refusal) → of_number (number_of r) ≡ r
of_its_number BadRequest = refl
of_its_number BadTuple = refl
of_its_number TooLarge = refl
of_its_number Repeated = refl
of_its_number BadZookie = refl
of_its_number WrongStore = refl
of_its_number Future = refl
of_its_number Collected = refl
of_its_number Precondition = refl
of_its_number Busy = refl
of_its_number Aborted = refl
of_its_number Unsure = refl
of_its_number Down = refl
of_its_number NoMemory = refl
of_its_number Full = refl
of_its_number Damaged = refl

pub number_once : (a b : Refusal) → number_of a ≡ number_of b → a ≡ b
number_once a b e = sym (of_its_number a) ∙ (ap of_number e ∙ of_its_number b)

abbrev first_byte : List ℕ → ℕ
first_byte [] = 0
first_byte (x ∷ xs) = x

-- no two names have one length and one first byte
abbrev name_key : List ℕ → ℕ
name_key name = length name * 256 + first_byte name

abbrev of_key : ℕ → Refusal
of_key k = if k == 2626 then BadRequest else if k == 2114 then BadTuple else if k == 2132 then TooLarge else if k == 2130 then Repeated else if k == 2370 then BadZookie else if k == 2647 then WrongStore else if k == 1606 then Future else if k == 2371 then Collected else if k == 3152 then Precondition else if k == 1090 then Busy else if k == 1857 then Aborted else if k == 1621 then Unsure else if k == 1092 then Down else if k == 2126 then NoMemory else if k == 1094 then Full else Damaged

of_its_name : (r : Refusal) → of_key (name_key (name_of r)) ≡ r
of_its_name BadRequest = refl
of_its_name BadTuple = refl
of_its_name TooLarge = refl
of_its_name Repeated = refl
of_its_name BadZookie = refl
of_its_name WrongStore = refl
of_its_name Future = refl
of_its_name Collected = refl
of_its_name Precondition = refl
of_its_name Busy = refl
of_its_name Aborted = refl
of_its_name Unsure = refl
of_its_name Down = refl
of_its_name NoMemory = refl
of_its_name Full = refl
of_its_name Damaged = refl

pub name_once : (a b : Refusal) → name_of a ≡ name_of b → a ≡ b
name_once a b e = sym (of_its_name a) ∙ (ap (λ (name : List ℕ). of_key (name_key name)) e ∙ of_its_name b)
