use Rattle.std.proofs.Common.{List, subst}
use Rattle.records.specs.declared.record.Record.{Record}
use Rattle.journal.specs.Records.{HasNoRoom}
use Rattle.journal.proofs.Staged.{no_room_few, no_room_long, has_room}
use Rattle.journal.proofs.batch.Batch.has_room.Goals as goal

pub returns-then-count-eq-MAX_RECORDS-clause-full : goal.returns-then-count-eq-MAX_RECORDS-clause-full
returns-then-count-eq-MAX_RECORDS-clause-full c = λ is.
    subst (λ (v : List Record). HasNoRoom v c.args.next.now) c.self.view_is (no_room_few _ _ _ c.self.invariant c.args.next.now c.if-count-eq-MAX_RECORDS.true)

pub returns-in-Err-clause-full : goal.returns-in-Err-clause-full
returns-in-Err-clause-full c = λ is.
    subst (λ (v : List Record). HasNoRoom v c.args.next.now) c.self.view_is (no_room_long _ _ _ c.self.invariant c.args.next.now c.in-Err.ensures.full)

pub returns-in-Ok-clause-room : goal.returns-in-Ok-clause-room
returns-in-Ok-clause-room c = λ is.
    subst (λ (v : List Record). HasNoRoom v c.args.next.now → ⊥) c.self.view_is
    (has_room _ _ _ c.self.invariant c.args.next.now c.requires _ _ c.in-Ok.ensures.ok.0 c.in-Ok.ensures.ok.1 c.if-count-eq-MAX_RECORDS.false c.in-Ok.ensures.capacity)
