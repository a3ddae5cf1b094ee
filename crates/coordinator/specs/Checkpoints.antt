-- What a coordinator tells in a checkpoint.
use Rattle.std.specs.Prelude.{◌≡◌, ◌+◌, ◌-◌, ◌^◌, ℕ, List, [], ◌∷◌, ◌++◌, drop, min}
use Rattle.journal.specs.Ahead.{checkpoint_of}
use Rattle.journal.specs.Measures.{bytes_of}
use Rattle.records.specs.Checkpoints.{decisions_from}
use Rattle.records.specs.Identity.{Identity}
use Rattle.records.specs.declared.record.Record.{Record}
use Rattle.records.specs.declared.record.Record.TheVariants.{Epoch, Horizon}
use Rattle.ledger.specs.Ledgers.{LedgerValue}

-- the decisions of a ledger from a place on
abbrev pub told_from : ℕ → LedgerValue → List Record
told_from place l = decisions_from place (drop (place - l.base - 1) l.log)

-- before the decisions: the openings so far and the horizon
abbrev pub heads_of : Identity → ℕ → ℕ → List Record
heads_of me epoch horizon = Epoch epoch me.store me.shards me.node ∷ Horizon horizon ∷ []

-- the records between the begin and the end of a checkpoint
abbrev pub told_by : Identity → ℕ → ℕ → LedgerValue → List Record
told_by me epoch horizon l = heads_of me epoch horizon ++ told_from (horizon + 1) l

-- the records between those that begin and end this checkpoint have so many bytes, as far as 64 bits can say
pub record HasLen (checkpoint : List Record) (n : ℕ) : Type 0 where
  pub generation : ℕ
  pub told : List Record
  pub is : checkpoint ≡ checkpoint_of generation told
  pub len : n ≡ min (2 ^ 64 - 1) (bytes_of told)
