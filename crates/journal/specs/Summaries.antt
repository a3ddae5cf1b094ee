-- What is to be known of the records of a bank, to tell which bank is the current one.
use Rattle.std.specs.Prelude.{◌≡◌, ◌||◌, ℕ, Bool, true, false, List, [], ◌∷◌, Option, Some, None, if◌then◌else◌}
use Rattle.records.specs.declared.record.Record.{Record}
use Rattle.records.specs.Checkpoints.{generation_of, is_end}
use Rattle.records.specs.Inside.{begun_by}
use Rattle.records.specs.declared.mark.Inside.{Inside}
use Rattle.journal.specs.Records.{batches, current_bank, later_bank}
use Rattle.journal.specs.Rest.{bank_of}
use Rattle.journal.specs.declared.summary.Summary.{Summary}

-- of no record
abbrev pub no_summary : Summary
no_summary = record { generation = 0; is_complete = false; is_empty = true }

abbrev pub generation_in : Option Inside → Option ℕ
generation_in None = None
generation_in (Some i) = Some i.generation

-- of a first record, which begins this generation or none
abbrev pub first_summary : Option ℕ → Summary
first_summary None = record { generation = 0; is_complete = true; is_empty = false }
first_summary (Some generation) = record { generation = generation; is_complete = false; is_empty = false }

-- of one record more
abbrev pub summary_step : Summary → Record → Summary
summary_step s r = if s.is_empty then first_summary (generation_in (begun_by r)) else record s { is_complete = s.is_complete || is_end s.generation r }

abbrev pub summary_from : Summary → List Record → Summary
summary_from s [] = s
summary_from s (r ∷ rs) = summary_from (summary_step s r) rs

-- of the records of batches, if they are batches
abbrev pub then_summary : Summary → Option (List Record) → Option Summary
then_summary s None = None
then_summary s (Some rs) = Some (summary_from s rs)

-- which bank is the current one, by their summaries
abbrev pub current_by : Summary → Summary → Option Bool
current_by s t = later_bank s.is_complete t.is_complete (if s.is_empty then t.is_empty else false) s.generation t.generation

-- of the records of two banks' batches these are current, of this generation
pub record IsChosen (in_a in_b : List (List ℕ)) (is_b : Bool) (generation : ℕ) (records : Option (List Record)) : Type 0 where
  pub first : List Record
  pub other : List Record
  pub a : batches in_a ≡ Some first
  pub b : batches in_b ≡ Some other
  pub leads : current_bank first other ≡ Some is_b
  pub generation_is : generation ≡ generation_of (bank_of is_b first other)
  pub records_are : records ≡ Some (bank_of is_b first other)
