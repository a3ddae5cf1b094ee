-- What a write that failed leaves.
use Rattle.std.specs.Prelude.{◌≡◌, ◌<◌, ℕ, List, [], ◌++◌, length, Option}
use Rattle.std.specs.Io.KnownBytes.{Appends}
use Rattle.line_io.specs.Lines.{HasNoFeed}

-- a beginning of the bytes was written
pub record HasBegun (before after : Option (List ℕ)) (bytes : List ℕ) : Type 0 where
  pub sent : List ℕ
  pub unsent : List ℕ
  pub whole : bytes ≡ sent ++ unsent
  pub written : Appends before after sent

-- of what waited, the beginning was written, and the rest waits still
pub record Sends (before after : Option (List ℕ)) (old new : List ℕ) : Type 0 where
  pub sent : List ℕ
  pub whole : old ≡ sent ++ new
  pub written : Appends before after sent

-- What may wait while input is read: less than a block, and nothing if no whole line of what was read waits to be answered, since
-- whoever sent the lines before may send no more until they are answered.
pub record MayWait (unread waiting : List ℕ) : Type 0 where
  pub bounded : length waiting < 16384
  pub prompt : HasNoFeed unread → waiting ≡ []
