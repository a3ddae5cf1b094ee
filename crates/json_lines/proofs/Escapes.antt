-- What stands in a string for a text.
use Rattle.std.proofs.Common.{◌≡◌, ℕ, ◌+◌, ◌<◌, ◌≤◌, ◌/◌, ◌%◌, cond, nat_lt, List, [], ◌∷◌, ◌++◌, length, take, get_or, refl, sym, ap, ◌∙◌, arith}
use Rattle.std.proofs.lemmas.List.{append-nil, take_more}
use Rattle.std.proofs.lemmas.Grind.{flat_map-append}
use Rattle.std.proofs.lemmas.Bool.Decides.{nat_tests}
use Rattle.std.specs.Char.{digit_char}
use Rattle.json.specs.Print.{escape, escape_byte, escape_letter}

taken : (l : ℕ) (a b : List ℕ) → 0 < l → cond (nat_lt 0 l) a b ≡ a
taken l a b h = grind (arith, nat_tests)

passed : (l : ℕ) (a b : List ℕ) → l ≤ 0 → cond (nat_lt 0 l) a b ≡ b
passed l a b h = grind (arith, nat_tests)

below_space : (x : ℕ) (a b : List ℕ) → x < 32 → cond (nat_lt x 32) a b ≡ a
below_space x a b h = grind (arith, nat_tests)

from_space : (x : ℕ) (a b : List ℕ) → 32 ≤ x → cond (nat_lt x 32) a b ≡ b
from_space x a b h = grind (arith, nat_tests)

pub short : (x l : ℕ) → l ≡ escape_letter x → 0 < l → 92 ∷ l ∷ [] ≡ escape_byte x
unfolding escape_byte
short x l e h = ap (λ (n : ℕ). 92 ∷ n ∷ []) e ∙ sym (taken (escape_letter x) _ _ (omega (arith, e, h)))

pub coded : (x l p q : ℕ) → l ≡ escape_letter x → l ≤ 0 → x < 32 → p ≡ digit_char (x / 16) → q ≡ digit_char (x % 16) → 92 ∷ 117 ∷ 48 ∷ 48 ∷ p ∷ q ∷ [] ≡ escape_byte x
unfolding escape_byte
coded x l p q e none low hp hq = ap (λ (n : ℕ). 92 ∷ 117 ∷ 48 ∷ 48 ∷ n ∷ q ∷ []) hp ∙ ap (λ (n : ℕ). 92 ∷ 117 ∷ 48 ∷ 48 ∷ digit_char (x / 16) ∷ n ∷ []) hq
    ∙ sym (passed (escape_letter x) _ _ (omega (arith, e, none)) ∙ below_space x _ _ low)

pub as_it_is : (x l : ℕ) → l ≡ escape_letter x → l ≤ 0 → 32 ≤ x → x ∷ [] ≡ escape_byte x
unfolding escape_byte
as_it_is x l e none high = sym (passed (escape_letter x) _ _ (omega (arith, e, none)) ∙ from_space x _ _ high)

-- a byte that is not escaped
no_letter : (x : ℕ) → 32 ≤ x → (x ≡ 34 → ⊥) → (x ≡ 92 → ⊥) → 0 ≡ escape_letter x
no_letter x high quote slash = grind (arith, nat_tests)

-- one more byte
pub one_byte_more : (text : List ℕ) (i : ℕ) → i < length text → escape (take i text) ++ escape_byte (get_or text i 0) ≡ escape (take (i + 1) text)
one_byte_more text i h =
    let x : ℕ = get_or text i 0 in
    sym (ap escape (take_more text i 0 h) ∙ flat_map-append escape_byte (take i text) (x ∷ []) ∙ ap (λ (l : List ℕ). escape (take i text) ++ l) (append-nil (escape_byte x)))

-- one more that stands as it is
pub one_plain_more : (text : List ℕ) (i : ℕ) → i < length text → 32 ≤ get_or text i 0 → (get_or text i 0 ≡ 34 → ⊥) → (get_or text i 0 ≡ 92 → ⊥) → escape (take i text) ≡ take i text → escape (take (i + 1) text) ≡ take (i + 1) text
one_plain_more text i h high quote slash so_far =
    let x : ℕ = get_or text i 0 in
    let stays : x ∷ [] ≡ escape_byte x = as_it_is x 0 (no_letter x high quote slash) (omega arith) high in
    sym (one_byte_more text i h) ∙ ap (λ (l : List ℕ). l ++ escape_byte x) so_far ∙ ap (λ (l : List ℕ). take i text ++ l) (sym stays) ∙ sym (take_more text i 0 h)

-- two texts with a mark between them, which stands as it is
marked : (m : ℕ) (a b : List ℕ) → escape_byte m ≡ m ∷ [] → escape a ++ (m ∷ escape b) ≡ escape (a ++ m ∷ b)
marked m a b h = sym (flat_map-append escape_byte a (m ∷ b) ∙ ap (λ (l : List ℕ). escape a ++ (l ++ escape b)) h)

pub with_colon : (a b : List ℕ) → escape a ++ (58 ∷ escape b) ≡ escape (a ++ 58 ∷ b)
unfolding escape_byte
with_colon a b = marked 58 a b refl

pub with_hash : (a b : List ℕ) → escape a ++ (35 ∷ escape b) ≡ escape (a ++ 35 ∷ b)
unfolding escape_byte
with_hash a b = marked 35 a b refl

pub with_at : (a b : List ℕ) → escape a ++ (64 ∷ escape b) ≡ escape (a ++ 64 ∷ b)
unfolding escape_byte
with_at a b = marked 64 a b refl
