-- What a loop over the calls of a disk in memory has: the durable content, and what was written since.
use Rattle.std.specs.Prelude.{◌≡◌, ◌≤◌, ℕ, List, [], ◌∷◌, length, take, drop}
use Rattle.device.specs.Device.{patched}
use Rattle.device.specs.Sim.{Image, replay}
use Rattle.device.specs.declared.call.Call.{Call}
use Rattle.device.specs.declared.call.Call.TheVariants.{Write, Sync, Revive}

abbrev pub IsWrite : Call → Type 0
IsWrite (Write at bytes) = Unit {0}
IsWrite Sync = ⊥
IsWrite (Revive tear) = ⊥

-- the content with all that the calls write
abbrev pub rewritten : List ℕ → List Call → List ℕ
rewritten content [] = content
rewritten content (Write at bytes ∷ calls) = rewritten (patched content at bytes.items) calls
rewritten content (Sync ∷ calls) = rewritten content calls
rewritten content (Revive tear ∷ calls) = rewritten content calls

-- the ranges that they write
abbrev pub ranges : List Call → List (ℕ × ℕ)
ranges [] = []
ranges (Write at bytes ∷ calls) = (at, length bytes.items) ∷ ranges calls
ranges (Sync ∷ calls) = ranges calls
ranges (Revive tear ∷ calls) = ranges calls

-- a durable content with these writes since
abbrev pub unsynced : List ℕ → List Call → Image
unsynced content calls = record { seen = rewritten content calls; durable = content; written = ranges calls }

-- after the first i calls this content is durable, and the calls from the index `since` on are the writes after it
pub record IsReplayed (first : List ℕ) (calls : List Call) (content : List ℕ) (since i : ℕ) : Type 0 where
  pub within : since ≤ i
  pub image : replay first (take i calls) ≡ unsynced content (drop since (take i calls))
