-- What the next process finds in the files of a store: what a stop left of its devices, and perhaps more after it.
use Rattle.std.specs.Prelude.{◌≡◌, ◌<◌, ◌⊎◌, ◌+◌, ◌*◌, ◌++◌, ℕ, List, length, slice_index_or}
use Rattle.tuples.specs.declared.entry.WriteId.{WriteId}
use Rattle.device.specs.Device.{State, left}
use Rattle.gated.specs.Gated.{IsSpelled, gated}
use Rattle.journal.specs.Records.{found}
use Rattle.laws.specs.Machines.{Machine}
use Rattle.laws.specs.Nodes.{NodeName}
use Rattle.stores.specs.Stores.{IsToldOver, RestsOver}
use Rattle.headline.specs.PastWrites.{IsPastOver}
use Rattle.headline.specs.Promised.{devices_at}

-- A device that was left with this content finds it, or, if a closed gate ends its list, it with more bytes after it, whichever these are.
abbrev pub IsFoundIn : List ℕ → List ℕ → Type 0
IsFoundIn content seen = (seen ≡ content) ⊎ ((bodies : List (List ℕ)) × (end : ℕ) × (more : List ℕ) × IsSpelled content bodies end × (seen ≡ content ++ more))

-- What follows counts for nothing: the list is that of the content, and the records of two banks are those of their contents.
pub record CountsForNothing : Type 0 where
  pub list : (content seen : List ℕ) → IsFoundIn content seen → gated seen ≡ gated content
  pub records : (a b seen_a seen_b : List ℕ) → IsFoundIn a seen_a → IsFoundIn b seen_b → found seen_a seen_b ≡ found a b

module _ {D : Type 0} (state : D → State) (honest : D → Type 0) where
  -- The second device found what a stop left of the first: whatever may be left of it by now is found in what a stop may leave of the first.
  pub record IsFoundOf (old new : D) : Type 0 where
    pub is_honest : honest new
    pub each : (seen : List ℕ) → left (state new) seen → (content : List ℕ) × left (state old) content × IsFoundIn content seen

  -- and so each device of as many
  pub record AreFoundOf (olds news : List D) : Type 0 where
    pub count : length news ≡ length olds
    pub each : (i : ℕ) (any : D) → i < length olds → IsFoundOf (slice_index_or olds i any) (slice_index_or news i any)

  module _ (moment : D → ℕ) (left_since : D → ℕ → List ℕ → Type 0) where
    -- the devices rest at the machine; whoever was told that a write is aborted was told so of them too; and what came to nothing over the others has over them
    pub record RestLikewise (store shards : ℕ) (olds news : NodeName → D × D) (m : Machine) : Type 0 where
      pub rests : RestsOver state honest store shards news m
      pub told : (id : WriteId) → IsToldOver state honest store shards olds m id → IsToldOver state honest store shards news m id
      pub past : (id : WriteId) → IsPastOver state honest moment left_since store shards olds m id → IsPastOver state honest moment left_since store shards news m id

    -- Whatever machine devices rest at, those that are found of them rest there likewise.
    abbrev pub WhatIsFoundRests : Type 0
    WhatIsFoundRests = (store shards : ℕ) (any : D) (olds news : List D) (m : Machine) → length olds ≡ 2 * (shards + 1) → AreFoundOf olds news
        → RestsOver state honest store shards (devices_at any olds) m → RestLikewise store shards (devices_at any olds) (devices_at any news) m
