use Rattle.std.proofs.Common.{◌+◌, sym, refl}
use Rattle.records.specs.declared.record.Record.TheVariants.{Decision}
use Rattle.coordinator.proofs.deciding.make_room.Goals as goal

pub returns-clause-room : goal.returns-clause-room
returns-clause-room g c = λ no_room. c.if-not-has_room_for.ensures.room (Decision (c.end-end.result + 1) c.args.write.now) (sym (c.decision_len.ensures (c.end-end.result + 1))) refl no_room
