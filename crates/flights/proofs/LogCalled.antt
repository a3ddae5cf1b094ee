-- A call of the coordinator whose devices are out.
use Rattle.std.proofs.Common.{ℕ, List, Option, Some, ◌∙◌}
use Rattle.flights.proofs.Words.{Away, coordinator, Launch, LogStaysIn, NodeView, prefix_trans}
use Rattle.sides.specs.CoordinatorSides.{LogSide}
use Rattle.sides.specs.Lending.{LogStagesMoreIn}
use Rattle.flights.specs.Flights.{IsLogOutOn}

-- what left stays the first of what is staged
log_stays_behind : {D : Type 0} (x : Launch) (old new : Option (NodeView (Away D))) → LogStagesMoreIn old new → LogStaysIn x old → LogStaysIn x new
log_stays_behind x (Some (coordinator old)) (Some (coordinator new)) more stays = record {
  of = stays.of;
  durable = more.0 ∙ stays.durable;
  staged = prefix_trans x.staged old.staged new.staged stays.staged more.1;
  up = more.2 ∙ stays.up;
}
log_stays_behind x (Some (coordinator old)) new more stays = absurd more
log_stays_behind x old new more stays = absurd stays

-- it stays as they left it, and may have staged more
pub log_stays_out : {D : Type 0} (launches : List Launch) (old new : LogSide (Away D)) (launch : ℕ) → LogStagesMoreIn old.node new.node → IsLogOutOn launches old launch → IsLogOutOn launches new launch
log_stays_out launches old new launch more was = (was.0, was.1, log_stays_behind was.0 old.node new.node more was.2)
