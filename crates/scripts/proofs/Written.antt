-- The texts of a write's flow, and that of a refusal.
use Rattle.std.proofs.Common.{◌≡◌, ◌≤◌, ◌+◌, ◌++◌, ◌∷◌, [], ℕ, suc, List, length, codes, get_or, refl, ap, arith, rules}
use Rattle.std.proofs.lemmas.List.{length-append}
use Rattle.std.specs.Fmt.{digits}
use Rattle.names.specs.declared.call_name.CallName.{CallName}
use Rattle.names.specs.declared.call_name.CallName.TheVariants as call
use Rattle.names.specs.Names.{call_text}
use Rattle.script_text.specs.PrintedTexts.{named_line, refusal_line, told_line}
use Rattle.refusal.specs.declared.refusal.Refusal.{Refusal}
use Rattle.refusal.specs.declared.refusal.Refusal.TheVariants.{BadRequest, BadTuple, TooLarge, Repeated, BadZookie, WrongStore, Future, Collected, Precondition, Busy, Aborted, Unsure, Down, NoMemory, Full, Damaged}
use Rattle.zookie.specs.Zookies.{zookie_bytes, zookie_text}
use Rattle.zookie.proofs.Encodings.{length_text}

token_length : (id place : ℕ) → length (zookie_text id place) ≡ 24
unfolding zookie_text
token_length id place = length_text (zookie_bytes id place) refl

pub wrote_short : (id place : ℕ) → length (told_line (codes "ok") id place) ≤ 128
wrote_short id place =
    let one : length (codes "ok" ++ 32 ∷ zookie_text id place ++ 10 ∷ []) ≡ 2 + suc (length (zookie_text id place ++ 10 ∷ [])) = length-append (codes "ok") (32 ∷ zookie_text id place ++ 10 ∷ []) in
    let two : length (zookie_text id place ++ 10 ∷ []) ≡ length (zookie_text id place) + 1 = length-append (zookie_text id place) (10 ∷ []) in
    omega (arith, one, two, token_length id place)

line_short : (name : List ℕ) → length name ≤ 100 → length (named_line (codes "next ") name) ≤ 128
line_short name short =
    let one : length (codes "next " ++ name ++ 10 ∷ []) ≡ 5 + length (name ++ 10 ∷ []) = length-append (codes "next ") (name ++ 10 ∷ []) in
    let two : length (name ++ 10 ∷ []) ≡ length name + 1 = length-append name (10 ∷ []) in
    omega (arith, one, two, short)

pub next_short : (name : CallName) → length (named_line (codes "next ") (call_text name)) ≤ 128
next_short call.Begin = line_short (codes "begin") (search rules)
next_short call.Heads = line_short (codes "heads") (search rules)
next_short call.Learned = line_short (codes "learned") (search rules)
next_short call.Batch = line_short (codes "batch") (search rules)
next_short call.Learn = line_short (codes "learn") (search rules)
next_short call.StagePrepare = line_short (codes "stage_prepare") (search rules)
next_short call.Flush = line_short (codes "flush") (search rules)
next_short call.Vote = line_short (codes "vote") (search rules)
next_short call.Decide = line_short (codes "decide") (search rules)
next_short call.Outcome = line_short (codes "outcome") (search rules)
next_short call.Abort = line_short (codes "abort") (search rules)
next_short call.DropWrite = line_short (codes "drop_write") (search rules)
next_short call.Inquire = line_short (codes "inquire") (search rules)
next_short call.InDoubt = line_short (codes "in_doubt") (search rules)
next_short call.Read = line_short (codes "read") (search rules)
next_short call.Settle = line_short (codes "settle") (search rules)
next_short call.Raise = line_short (codes "raise") (search rules)
next_short call.Collect = line_short (codes "collect") (search rules)
next_short call.Checkpoint = line_short (codes "checkpoint") (search rules)

-- the byte at a number
abbrev at : ℕ → List ℕ → ℕ
at k text = get_or text k 0

pub wrote_other : (id place : ℕ) → told_line (codes "ok") id place ≡ refusal_line NoMemory → ⊥
wrote_other id place is = let first : 111 ≡ 114 = ap (at 0) is in omega (arith, first)

pub next_other : (name : CallName) → named_line (codes "next ") (call_text name) ≡ refusal_line NoMemory → ⊥
next_other name is = let first : 110 ≡ 114 = ap (at 0) is in omega (arith, first)

pub refusal_once : (e : Refusal) → refusal_line e ≡ refusal_line NoMemory → e ≡ NoMemory
unfolding digits
refusal_once NoMemory is = refl
refusal_once BadRequest is = absurd (let digit : 32 ≡ 52 = ap (at 9) is in omega (arith, digit))
refusal_once BadTuple is = absurd (let digit : 50 ≡ 49 = ap (at 8) is in omega (arith, digit))
refusal_once TooLarge is = absurd (let digit : 51 ≡ 49 = ap (at 8) is in omega (arith, digit))
refusal_once Repeated is = absurd (let digit : 52 ≡ 49 = ap (at 8) is in omega (arith, digit))
refusal_once BadZookie is = absurd (let digit : 53 ≡ 49 = ap (at 8) is in omega (arith, digit))
refusal_once WrongStore is = absurd (let digit : 54 ≡ 49 = ap (at 8) is in omega (arith, digit))
refusal_once Future is = absurd (let digit : 55 ≡ 49 = ap (at 8) is in omega (arith, digit))
refusal_once Collected is = absurd (let digit : 56 ≡ 49 = ap (at 8) is in omega (arith, digit))
refusal_once Precondition is = absurd (let digit : 57 ≡ 49 = ap (at 8) is in omega (arith, digit))
refusal_once Busy is = absurd (let digit : 48 ≡ 52 = ap (at 9) is in omega (arith, digit))
refusal_once Aborted is = absurd (let digit : 49 ≡ 52 = ap (at 9) is in omega (arith, digit))
refusal_once Unsure is = absurd (let digit : 50 ≡ 52 = ap (at 9) is in omega (arith, digit))
refusal_once Down is = absurd (let digit : 51 ≡ 52 = ap (at 9) is in omega (arith, digit))
refusal_once Full is = absurd (let digit : 53 ≡ 52 = ap (at 9) is in omega (arith, digit))
refusal_once Damaged is = absurd (let digit : 54 ≡ 52 = ap (at 9) is in omega (arith, digit))
