-- What a flow holds of a prepare.
use Rattle.tuples.specs.declared.entry.WriteId.{WriteId}
use Rattle.decisions.specs.declared.held.Held.{Held}
use Rattle.decisions.specs.declared.held.Held.TheVariants.{Ticket, Vote}

-- the id of the write
abbrev pub held_id : Held → WriteId
held_id (Ticket t) = t.id
held_id (Vote v) = v.id
