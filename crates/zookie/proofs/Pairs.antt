-- The bytes of a store and a place.
use Rattle.std.proofs.Common.{◌≡◌, ℕ, zero, suc, ◌<◌, ◌^◌, List, [], ◌++◌, length, take, drop, refl, sym, ap, ◌∙◌, arith, Option, Some, None, Ok, MatchOption}
use Rattle.std.specs.Int.{w64, byte_at, bytes_high_first, to_be_bytes, from_be_bytes}
use Rattle.std.proofs.Math.Nat.{mod-lt}
use Rattle.std.proofs.lemmas.Nat.{from_be_bytes-to_be_bytes_8}
use Rattle.base64.specs.GeneralPurpose.{IsBytes}
use Rattle.zookie.specs.Zookies.{ArePair, IsNoZookie, IsOfAnotherStore, OneZookieAText, zookie_bytes, zookie_text}
use Rattle.base64.specs.Engines.{standard}
use Rattle.base64.specs.GeneralPurpose.{decode_of, encode_of}
use Rattle.zookie.specs.Bytes.{AreNoZookie, IsTextOfNone}
use Rattle.zookie.specs.declared.zookie.Zookie.{Zookie}
use Rattle.zookie.proofs.Encodings.{encoded_once, decoded_once}

byte_at-lt : (k n : ℕ) → byte_at k n < 256
byte_at-lt zero n = mod-lt n (omega arith)
byte_at-lt (suc k) n = mod-lt _ (omega arith)

high_first_bytes : (k n : ℕ) (rest : List ℕ) → IsBytes rest → IsBytes (bytes_high_first k n ++ rest)
high_first_bytes zero n rest h i = h i
high_first_bytes (suc k) n rest h zero = byte_at-lt k n
high_first_bytes (suc k) n rest h (suc i) = high_first_bytes k n rest h i

no_bytes : IsBytes []
no_bytes i = omega arith

pub zookie_bytes_are_bytes : (store place : ℕ) → IsBytes (zookie_bytes store place)
zookie_bytes_are_bytes store place zero = omega arith
zookie_bytes_are_bytes store place (suc zero) = omega arith
zookie_bytes_are_bytes store place (suc (suc i)) = high_first_bytes 8 store (to_be_bytes w64 place) (high_first_bytes 8 place [] no_bytes) i

pub one_zookie : OneZookieAText
unfolding zookie_text
one_zookie s p t q pair other e =
    let bytes : zookie_bytes s p ≡ zookie_bytes t q = encoded_once (zookie_bytes s p) (zookie_bytes t q) (zookie_bytes_are_bytes s p) (zookie_bytes_are_bytes t q) e in
    let store : to_be_bytes w64 s ≡ to_be_bytes w64 t = ap (λ (l : List ℕ). take 8 (drop 2 l)) bytes in
    let place : to_be_bytes w64 p ≡ to_be_bytes w64 q = ap (λ (l : List ℕ). drop 10 l) bytes in
    (number s t pair.0 other.0 store, number p q pair.1 other.1 place)
  where
    number : (a b : ℕ) → a < 2 ^ 64 → b < 2 ^ 64 → to_be_bytes w64 a ≡ to_be_bytes w64 b → a ≡ b
    number a b fa fb h = sym (from_be_bytes-to_be_bytes_8 a fa) ∙ ap (from_be_bytes w64) h ∙ from_be_bytes-to_be_bytes_8 b fb

zookie_length : (store place : ℕ) → length (zookie_bytes store place) ≡ 18
zookie_length store place = refl

-- a text of no 18 bytes is no token's
pub no_text : (text : List ℕ) → IsTextOfNone text → IsNoZookie text
unfolding zookie_text
no_text text none store place pair e = none (zookie_bytes store place) (zookie_bytes_are_bytes store place) (zookie_length store place) e

-- a text is the token's that has its bytes
pub read_text : (text bytes : List ℕ) → decode_of standard text ≡ Ok bytes → text ≡ encode_of standard bytes → (z : Option Zookie)
    → MatchOption z (AreNoZookie bytes) (λ z. ArePair z.store z.place × (bytes ≡ zookie_bytes z.store z.place))
    → MatchOption z (IsNoZookie text) (λ z. ArePair z.store z.place × (text ≡ zookie_text z.store z.place))
unfolding zookie_text
read_text text bytes decodes e None none = λ store place pair same.
    none store place pair (decoded_once text bytes (zookie_bytes store place) decodes (zookie_bytes_are_bytes store place) same)
read_text text bytes decodes e (Some z) found = (found.0, e ∙ ap (encode_of standard) found.1)

-- a text of a store is that of no other
pub of_no_other : (text : List ℕ) (s p : ℕ) → ArePair s p → text ≡ zookie_text s p → (store : ℕ) → s ≡ store → IsOfAnotherStore store text → ⊥
of_no_other text s p pair e store same other = other.3 (sym (one_zookie s p other.0 other.1 pair other.2 (sym e ∙ other.4)).0 ∙ same)
