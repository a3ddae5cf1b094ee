use Rattle.std.proofs.Common.{◌≡◌, ◌∙◌, Bool, true, false, refl, sym, ap}
use Rattle.records.specs.declared.record.Record.{Record}
use Rattle.records.specs.Laws.{HasSpelling}
use Rattle.records.specs.Reading.{record_at}
use Rattle.records.proofs.Fields.{some_is}
use Rattle.records.proofs.Records.{IsSpelled, record_field}
use Rattle.records.proofs.laws.no_record_begins_another.Goals as goal

spelled : (first : Bool) (r : Record) → HasSpelling first r → IsSpelled first r
spelled true r h = (h.is_record, h.of_first refl)
spelled false r h = (h.is_record, tt)

pub returns : goal.returns
returns c first r s behind_r behind_s fits_r fits_s e =
    let read : (r, behind_r) ≡ (s, behind_s) = some_is (r, behind_r) (s, behind_s)
    (sym ((record_field first).again r behind_r (spelled first r fits_r)) ∙ ap (record_at first) e ∙ (record_field first).again s behind_s (spelled first s fits_s)) in
    (ap (λ x. x.0) read, ap (λ x. x.1) read)
