-- How short the text of a refusal is.
use Rattle.std.proofs.Common.{◌≡◌, ◌≤◌, ◌<◌, ◌+◌, ◌++◌, ◌∷◌, [], ℕ, suc, List, length, codes, arith, rules}
use Rattle.std.specs.Fmt.{decimal}
use Rattle.std.proofs.lemmas.Fmt.{length-decimal-le}
use Rattle.std.proofs.lemmas.List.{length-append}
use Rattle.refusal.specs.declared.refusal.Refusal.{Refusal}
use Rattle.refusal.specs.declared.refusal.Refusal.TheVariants.{BadRequest, BadTuple, TooLarge, Repeated, BadZookie, WrongStore, Future, Collected, Precondition, Busy, Aborted, Unsure, Down, NoMemory, Full, Damaged}
use Rattle.refusal.specs.Refusals.{name_of}
use Rattle.script_text.specs.PrintedTexts.{refusal_line}

line_short : (number : ℕ) (name : List ℕ) → number < 100 → length name ≤ 100 → length (codes "refused " ++ decimal number ++ 32 ∷ name ++ 10 ∷ []) ≤ 128
line_short number name few short =
    let number_short : length (decimal number) ≤ 2 = length-decimal-le 2 number (search rules) few (omega (arith, few)) in
    let word = codes "refused " in
    let first : length (word ++ decimal number) ≡ 8 + length (decimal number) = length-append word (decimal number) in
    let second : length (word ++ decimal number ++ 32 ∷ name) ≡ length (word ++ decimal number) + suc (length name) = length-append (word ++ decimal number) (32 ∷ name) in
    let third : length (word ++ decimal number ++ 32 ∷ name ++ 10 ∷ []) ≡ length (word ++ decimal number ++ 32 ∷ name) + 1 = length-append (word ++ decimal number ++ 32 ∷ name) (10 ∷ []) in
    omega (arith, number_short, first, second, third, short)

pub refusal_short : (e : Refusal) → length (refusal_line e) ≤ 128
refusal_short BadRequest = line_short 1 (name_of BadRequest) (search rules) (search rules)
refusal_short BadTuple = line_short 2 (name_of BadTuple) (search rules) (search rules)
refusal_short TooLarge = line_short 3 (name_of TooLarge) (search rules) (search rules)
refusal_short Repeated = line_short 4 (name_of Repeated) (search rules) (search rules)
refusal_short BadZookie = line_short 5 (name_of BadZookie) (search rules) (search rules)
refusal_short WrongStore = line_short 6 (name_of WrongStore) (search rules) (search rules)
refusal_short Future = line_short 7 (name_of Future) (search rules) (search rules)
refusal_short Collected = line_short 8 (name_of Collected) (search rules) (search rules)
refusal_short Precondition = line_short 9 (name_of Precondition) (search rules) (search rules)
refusal_short Busy = line_short 10 (name_of Busy) (search rules) (search rules)
refusal_short Aborted = line_short 11 (name_of Aborted) (search rules) (search rules)
refusal_short Unsure = line_short 12 (name_of Unsure) (search rules) (search rules)
refusal_short Down = line_short 13 (name_of Down) (search rules) (search rules)
refusal_short NoMemory = line_short 14 (name_of NoMemory) (search rules) (search rules)
refusal_short Full = line_short 15 (name_of Full) (search rules) (search rules)
refusal_short Damaged = line_short 16 (name_of Damaged) (search rules) (search rules)
