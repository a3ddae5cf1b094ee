use Rattle.std.proofs.Common.{List, subst}
use Rattle.records.specs.declared.record.Record.{Record}
use Rattle.journal.specs.Records.{HasNoRoom}
use Rattle.journal.specs.Sources.{record_of}
use Rattle.journal.proofs.Short.{fits_alone}
use Rattle.journal.proofs.checkpoint.put_first.Goals as goal

pub unreachable-requires : goal.unreachable-requires
unreachable-requires c =
    let next = record_of c.args.next in
    fits_alone next c.requires.spelled (subst (λ (rs : List Record). HasNoRoom rs next) c.requires.empty c.in-Err.ensures.full)
