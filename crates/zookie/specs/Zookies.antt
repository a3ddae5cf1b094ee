-- The bytes and the text of a token, and which texts are a token's.
use Rattle.std.specs.Prelude.{◌≡◌, ◌≢◌, ◌<◌, ◌^◌, ℕ, List, ◌∷◌, ◌++◌}
use Rattle.std.specs.Int.{w64, to_be_bytes}
use Rattle.base64.specs.Engines.{standard}
use Rattle.base64.specs.GeneralPurpose.{encode_of}

-- version 1, a reserved 0, the id of the store and the place
abbrev pub zookie_bytes : ℕ → ℕ → List ℕ
zookie_bytes store place = 1 ∷ 0 ∷ to_be_bytes w64 store ++ to_be_bytes w64 place

-- the 24 characters
unfoldable pub zookie_text : ℕ → ℕ → List ℕ
zookie_text store place = encode_of standard (zookie_bytes store place)

-- a store and a place of it, which are numbers of 64 bits
abbrev pub ArePair : ℕ → ℕ → Type 0
ArePair store place = (store < 2 ^ 64) × (place < 2 ^ 64)

-- the text of no store and place
abbrev pub IsNoZookie : List ℕ → Type 0
IsNoZookie text = (store place : ℕ) → ArePair store place → text ≡ zookie_text store place → ⊥

-- the text of a place of some other store
abbrev pub IsOfAnotherStore : ℕ → List ℕ → Type 0
IsOfAnotherStore store text = (other : ℕ) × (place : ℕ) × ArePair other place × (other ≢ store) × (text ≡ zookie_text other place)

-- a text is that of one store and place at most
abbrev pub OneZookieAText : Type 0
OneZookieAText = (store place other_store other_place : ℕ) → ArePair store place → ArePair other_store other_place
    → zookie_text store place ≡ zookie_text other_store other_place → (store ≡ other_store) × (place ≡ other_place)
