-- The record that is told by parts that lie elsewhere.
use Rattle.records.specs.Checkpoints.{row_record}
use Rattle.records.specs.declared.record.Record.{Record}
use Rattle.records.specs.declared.record.Record.TheVariants as records
use Rattle.journal.specs.declared.record_ref.RecordRef.{RecordRef}
use Rattle.journal.specs.declared.record_ref.RecordRef.TheVariants as told

abbrev pub record_of : RecordRef → Record
record_of (told.Whole r) = r.now
record_of (told.Row place t is_touch) = row_record place is_touch t.now
record_of (told.Prepare w) = records.Prepare w.now
record_of (told.Decision place w) = records.Decision place w.now
