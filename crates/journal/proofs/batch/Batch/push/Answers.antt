use Rattle.std.proofs.Common.{◌++◌, ◌∷◌, [], List, ap, subst, ◌∙◌}
use Rattle.records.specs.declared.record.Record.{Record}
use Rattle.journal.specs.Records.{HasNoRoom}
use Rattle.journal.specs.Sources.{record_of}
use Rattle.journal.proofs.Staged.{no_room_few, no_room_long, pushed, pushed_view, has_room}
use Rattle.journal.proofs.batch.Batch.push.Goals as goal
use Rattle.tuples.proofs.Options.{on_err}

pub returns-then-self-eq-MAX_RECORDS-clause-full : goal.returns-then-self-eq-MAX_RECORDS-clause-full
returns-then-self-eq-MAX_RECORDS-clause-full c =
    subst (λ (v : List Record). HasNoRoom v (record_of c.args.next)) c.self.view_is (no_room_few _ _ _ c.self.invariant (record_of c.args.next) c.if-self-eq-MAX_RECORDS.true)

pub returns-in_err-spell-clause-full : goal.returns-in_err-spell-clause-full
returns-in_err-spell-clause-full c =
    on_err c.from_residual.result (subst (λ (v : List Record). HasNoRoom v (record_of c.args.next)) c.self.view_is (no_room_long _ _ _ c.self.invariant (record_of c.args.next) c.in_err-spell.ensures.full))

pub invariant_of-self-2 : goal.invariant_of-self-2
invariant_of-self-2 c = pushed _ _ _ c.self.invariant (record_of c.args.next) c.requires _ _ c.in_ok-spell.ensures.ok.0 c.in_ok-spell.ensures.ok.1 c.if-self-eq-MAX_RECORDS.false c.in_ok-spell.ensures.capacity

pub returns-clause-ok : goal.returns-clause-ok
returns-clause-ok c =
    pushed_view _ _ _ c.self.invariant (record_of c.args.next) c.requires _ _ c.in_ok-spell.ensures.ok.0 c.in_ok-spell.ensures.ok.1 c.if-self-eq-MAX_RECORDS.false c.in_ok-spell.ensures.capacity
    ∙ ap (λ (v : List Record). v ++ (record_of c.args.next) ∷ []) c.self.view_is

pub returns-clause-room : goal.returns-clause-room
returns-clause-room c =
    subst (λ (v : List Record). HasNoRoom v (record_of c.args.next) → ⊥) c.self.view_is
    (has_room _ _ _ c.self.invariant (record_of c.args.next) c.requires _ _ c.in_ok-spell.ensures.ok.0 c.in_ok-spell.ensures.ok.1 c.if-self-eq-MAX_RECORDS.false c.in_ok-spell.ensures.capacity)
