-- Bytes and texts that no token has.
use Rattle.std.specs.Prelude.{◌≡◌, ℕ, List, length}
use Rattle.base64.specs.Engines.{standard}
use Rattle.base64.specs.GeneralPurpose.{IsBytes, encode_of}
use Rattle.zookie.specs.Zookies.{ArePair, zookie_bytes}

-- the bytes of no token
abbrev pub AreNoZookie : List ℕ → Type 0
AreNoZookie bytes = (store place : ℕ) → ArePair store place → bytes ≡ zookie_bytes store place → ⊥

-- the text of no 18 bytes
abbrev pub IsTextOfNone : List ℕ → Type 0
IsTextOfNone text = (bytes : List ℕ) → IsBytes bytes → length bytes ≡ 18 → text ≡ encode_of standard bytes → ⊥
