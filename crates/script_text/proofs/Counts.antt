-- A number has one text.
use Rattle.std.proofs.Common.{◌≡◌, ◌≢◌, ℕ, suc, zero, ◌<◌, ◌≤◌, ◌^◌, List, length, get_or, codes, Option, Some, None, Result, Ok, Err, refl, sym, ap, ◌∙◌, subst, arith}
use Rattle.std.specs.Fmt.{decimal}
use Rattle.std.specs.Str.{IsUtf8}
use Rattle.std.specs.Str.Parse.{IsNumeral, AllDigits, digits_value, without_leading_plus}
use Rattle.std.proofs.lemmas.Fmt.{decimal_is_IsNumeral, decimal-digits_value, first_decimal, IsAscii-decimal, parse-decimal, decimal_nonempty, decimal_digit, decimal_injective}
use Rattle.std.proofs.lemmas.Str.{IsUtf8-from_ascii}
use Rattle.std.proofs.lemmas.Str.Parse.{IsNumeralModel, numerals_by_value, tells_digits, without_leading_plus_none, digit_at}
use Rattle.tuples.specs.Parsing.{SpellsNone}
use Rattle.script_text.specs.Texts.{IsCount, IsPlace, ReadsText}

own : IsNumeralModel (AllDigits 10) (digits_value 10)
own = numerals_by_value (AllDigits 10) tells_digits

pub decimal_is_text : (n : ℕ) → n < 2 ^ 64 → IsUtf8 (decimal n)
decimal_is_text n small = IsUtf8-from_ascii (decimal n) (IsAscii-decimal n small)

-- the first digit of a count
pub first_of_count : (n : ℕ) → IsCount n → (49 ≤ get_or (decimal n) 0 0) × (get_or (decimal n) 0 0 ≤ 57) × (0 < length (decimal n))
first_of_count n h =
    let small : n < 2 ^ 64 = omega (arith, h.1) in
    let first = first_decimal n (omega (arith, h.0)) small in
    let some = decimal_nonempty n small in
    let digit = digit_at (decimal n) 0 ((decimal_is_IsNumeral n small).0).1 some in
    (omega arith, omega (arith, digit.1), some)

-- digits after no sign or zero are the text of their value
pub count_text : (bs : List ℕ) (n : ℕ) → 49 ≤ get_or bs 0 0 → IsNumeral 10 (without_leading_plus bs) → digits_value 10 (without_leading_plus bs) < 2 ^ 64 → n ≡ digits_value 10 (without_leading_plus bs) → bs ≡ decimal n
count_text bs n first numeral small e =
    let none : get_or bs 0 0 ≢ 43 = omega arith in
    let same = without_leading_plus_none bs none in
    let digits : AllDigits 10 bs = subst (AllDigits 10) same numeral.1 in
    let some : 0 < length bs = subst (λ (x : List ℕ). 0 < length x) same numeral.0 in
    let low : digits_value 10 bs < 2 ^ 64 = subst (λ (x : List ℕ). digits_value 10 x < 2 ^ 64) same small in
    sym (ap decimal (e ∙ ap (digits_value 10) same) ∙ decimal-digits_value own bs digits some (λ zero. absurd (omega arith)) low)

-- and they are no zero
pub count_some : (bs : List ℕ) (n : ℕ) → 49 ≤ get_or bs 0 0 → bs ≡ decimal n → 1 ≤ n
count_some bs zero first e = let h : get_or bs 0 0 ≡ 48 = ap (λ (x : List ℕ). get_or x 0 0) (e ∙ decimal_digit 0 (omega arith)) in absurd (omega arith)
count_some bs (suc n) first e = omega arith

err_is_not_ok : (x d : ℕ) (r : Result ℕ ℕ) → r ≡ Err d → r ≡ Ok x → ⊥
err_is_not_ok x d r e h = cc

-- `parse` takes the text of each number
pub count_read : (bs : List ℕ) (n : ℕ) → n < 2 ^ 64 → bs ≡ decimal n → (IsNumeral 10 (without_leading_plus bs) × (digits_value 10 (without_leading_plus bs) < 2 ^ 64) → ⊥) → ⊥
count_read bs n small e h = err_is_not_ok n 0 (Err 0) refl (parse-decimal 64 n bs (Err 0) small small e h)

-- a text that is read as one number is the text of no other
pub count_same : (bs : List ℕ) (m n : ℕ) → 49 ≤ get_or bs 0 0 → IsNumeral 10 (without_leading_plus bs) → digits_value 10 (without_leading_plus bs) < 2 ^ 64 → m ≡ digits_value 10 (without_leading_plus bs) → bs ≡ decimal n → IsCount n → m ≡ n
count_same bs m n first numeral small e text h =
    let low : m < 2 ^ 64 = subst (λ (x : ℕ). x < 2 ^ 64) (sym e) small in
    decimal_injective m n low (omega (arith, h.1)) (sym (count_text bs m first numeral small e) ∙ text)

zero_is : codes "0" ≡ decimal 0
zero_is = sym (decimal_digit 0 (omega arith))

pub zero_text : (bs : List ℕ) → bs ≡ codes "0" → bs ≡ decimal 0
zero_text bs e = e ∙ zero_is

-- a place is zero or a count
pub place_read : (bs : List ℕ) (r : Option ℕ) → bs ≢ codes "0" → ReadsText IsCount decimal bs r → ReadsText IsPlace decimal bs r
place_read bs None other h = λ n small e. none_of bs n other h small e
  where
    none_of : (bs : List ℕ) (n : ℕ) → bs ≢ codes "0" → SpellsNone IsCount decimal bs → IsPlace n → bs ≡ decimal n → ⊥
    none_of bs zero other h small e = other (e ∙ sym zero_is)
    none_of bs (suc n) other h small e = h (suc n) (omega arith, small) e
place_read bs (Some n) other h = (h.0.1, h.1)
