-- A care of a shared store goes on to hold what is of the list and of the horizon, turn by turn.
use Rattle.std.proofs.Common.{ℕ, List, Bool}
use Rattle.locked.proofs.Words.{Attempt, Entry, IsCareOf, Known, Turns}
use Rattle.calls.specs.Flows.{IfNext}
use Rattle.calls.specs.declared.call.NodeCall.{NodeCall}
use Rattle.calls.specs.declared.progress.Progress.{Progress}
use Rattle.calls.specs.declared.progress.Progress.TheVariants.{Next, Ended}
use Rattle.care_flow.specs.declared.care.CareCall.{CareCall}
use Rattle.care_flow.specs.declared.care.CareFlow.{CareFlow}
use Rattle.care_flow.specs.declared.end.CareEnd.{CareEnd}
use Rattle.care_flow.specs.Cares.{AsksCare, MakesCare, while_out}
use Rattle.flow_ties.specs.Cares.{CareTurns}
use Rattle.flow_ties.proofs.SeenCares.{cares_go_on}

-- what it holds after a turn is of them
pub care_goes_on : {tried more : Known Attempt} (rests : Type 0) (shards : ℕ) (old new : Known Entry) (marks later_marks : List Bool) (v : CareFlow) (made : Progress CareFlow CareEnd) → IsCareOf old.seen old.horizon v
    → Turns (λ (f : CareFlow) (call : NodeCall) (out : CareCall). AsksCare f call (while_out out)) rests MakesCare shards old new tried more marks later_marks v made → rests → IfNext made (IsCareOf new.seen new.horizon)
care_goes_on rests shards old new marks later_marks v (Next later) is t h =
    let turn : CareTurns shards new.seen new.horizon v later = record {
      call = t.call;
      out = while_out t.out;
      reply = t.reply;
      asks = t.asked;
      belongs = t.serves.belongs;
      told = t.serves.told h;
      tells = t.serves.care h;
      gives = t.given;
    } in
    cares_go_on shards old.seen new.seen old.horizon new.horizon v later t.serves.later.seen t.serves.later.horizon is turn
care_goes_on rests shards old new marks later_marks v (Ended end) is t h = tt
