use Rattle.std.proofs.Common.{List, subst, arith}
use Rattle.std.proofs.lemmas.Bool.{leb-true, leb-false}
use Rattle.records.specs.declared.record.Record.{Record}
use Rattle.journal.specs.Records.{HasNoRoom}
use Rattle.journal.proofs.Fitting.{room_for}
use Rattle.journal.proofs.Staged.{no_room_few, no_room_long}
use Rattle.journal.proofs.batch.Batch.has_room_for.Goals as goal

pub returns-then-count-eq-MAX_RECORDS-clause-full : goal.returns-then-count-eq-MAX_RECORDS-clause-full
returns-then-count-eq-MAX_RECORDS-clause-full c = λ r len is.
    subst (λ (v : List Record). HasNoRoom v r) c.self.view_is (no_room_few _ _ _ c.self.invariant r c.if-count-eq-MAX_RECORDS.true)

pub returns-clause-room : goal.returns-clause-room
returns-clause-room c = λ r len is.
    subst (λ (v : List Record). HasNoRoom v r → ⊥) c.self.view_is
    (room_for _ _ _ c.self.invariant r c.if-count-eq-MAX_RECORDS.false (omega (arith, len, leb-true _ _ is, c.len.ensures, c.self.invariant.fits)))

pub returns-clause-full : goal.returns-clause-full
returns-clause-full c = λ r len is.
    subst (λ (v : List Record). HasNoRoom v r) c.self.view_is
    (no_room_long _ _ _ c.self.invariant r (omega (arith, len, leb-false _ _ is, c.len.ensures, c.self.invariant.fits)))
