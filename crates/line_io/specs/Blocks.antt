-- Bytes that were read, and what is taken of them.
use Rattle.std.specs.Prelude.{◌≡◌, ℕ, Bool, true, false, List, [], ◌∷◌, ◌++◌, ◌-◌, take, drop, Option}
use Rattle.std.specs.Io.KnownBytes.{Consumes, IsAtEnd}
use Rattle.line_io.specs.declared.held.Block.{Block}
use Rattle.line_io.specs.declared.line.Line.{Line}
use Rattle.line_io.specs.declared.input.Ending.{Ending}
use Rattle.line_io.specs.declared.input.Ending.TheVariants.{Feed, Input}
use Rattle.line_io.specs.Lines.{HasNoFeed, Holds}

-- what was read and is not taken yet
abbrev pub unread : Block → List ℕ
unread b = take (b.filled - b.taken) (drop b.taken b.bytes.items)

-- What is taken of these bytes, to a line with this front: up to the line feed, which is taken too, or all, which have none.
pub record TakesPart (has_feed : Bool) (old new front : List ℕ) (line : Line) : Type 0 where
  pub part : List ℕ
  pub no_feed : HasNoFeed part
  pub held : Holds line (front ++ part)
  pub feed : has_feed ≡ true → old ≡ part ++ 10 ∷ new
  pub all : has_feed ≡ false → (old ≡ part) × (new ≡ [])

-- bytes are there, or all were taken and the input has ended
pub record Refills (has : Bool) (before after : Option (List ℕ)) (old new : List ℕ) : Type 0 where
  pub read : List ℕ
  pub consumed : Consumes before after read
  pub bytes : old ++ read ≡ new
  pub at_end : has ≡ false → (new ≡ []) × IsAtEnd after

-- a line while it is gathered: its bytes so far, of what was there first and what was read since
pub record Gathers (before now : Option (List ℕ)) (first left : List ℕ) (line : Line) : Type 0 where
  pub read : List ℕ
  pub front : List ℕ
  pub consumed : Consumes before now read
  pub whole : first ++ read ≡ front ++ left
  pub no_feed : HasNoFeed front
  pub held : Holds line front

-- some bytes were read
abbrev pub HasRead : Option (List ℕ) → Option (List ℕ) → Type 0
HasRead before after = (read : List ℕ) × Consumes before after read

-- the line is what stood up to the first line feed; or the input has ended, and it is what was left
abbrev pub Ends : Ending → Option (List ℕ) → List ℕ → List ℕ → List ℕ → Type 0
Ends Feed after all line rest = all ≡ line ++ 10 ∷ rest
Ends Input after all line rest = IsAtEnd after × (all ≡ line) × (rest ≡ [])

-- a line was taken of what was not taken yet and what was read after it
pub record HasTaken (ending : Ending) (before after : Option (List ℕ)) (old new : List ℕ) (line : Line) : Type 0 where
  pub read : List ℕ
  pub bytes : List ℕ
  pub consumed : Consumes before after read
  pub no_feed : HasNoFeed bytes
  pub held : Holds line bytes
  pub ends : Ends ending after (old ++ read) bytes new
