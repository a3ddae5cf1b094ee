-- A flow other than a write keeps the promise of a step if it is cancelled.
use Rattle.std.proofs.Common.{◌≡◌, inr, ℕ, false, List, [], Option, None, refl, sym, ◌∙◌, ap, subst}
use Rattle.std.proofs.Math.Path.{fun_ext}
use Rattle.flow_turns.proofs.CallWords.{AreSound, IfRunning, IsHorizonIn, Moment, NamesHorizon, NodeName, Running, Stands, State, ended, is_write, left, restart, shown_flow, stops}
use Rattle.stores.proofs.FlowEnds.{flows_end}
use Rattle.turns.specs.Runs.{IsCancelled, cancel}
use Rattle.flow_turns.specs.Steps.{CancelledFlowsEnd}
use Rattle.flow_turns.proofs.Made.{inside_by, still_given, still_within}
use Rattle.flow_turns.proofs.Turned.{runs, shows_ended, the_flow}

pub cancelled_flows_end : {D : Type 0} (state : D → State) (honest : D → Type 0) (moment : D → ℕ) (left_since : D → ℕ → List ℕ → Type 0)
    (only_now : (d : D) (c : List ℕ) → honest d → left_since d (moment d) c → left (state d) c) (store shards : ℕ) → CancelledFlowsEnd state honest moment left_since store shards
cancelled_flows_end {D} state honest moment left_since only_now store shards old new slot asked holds there number now standing =
    let devices : new.devices ≡ old.devices = fun_ext (λ n. there.store_stays.devices n) in
    let flow = the_flow state honest moment left_since store shards old new now standing number slot (shown_flow asked holds) None there.slots in
    let r = flow.0 in
    let running = runs state honest moment left_since store shards old new now standing number slot (shown_flow asked holds) None there.slots r flow.1 in
    let no_write : is_write r.asked ≡ false = ap is_write (sym (flow.2.asked asked refl)) ∙ there.no_write in
    let after : Moment = record now { running = ended r.slot now.running } in
    record {
      after = after;
      told = [];
      takes = subst (λ (o : Option Running). IfRunning shards (NamesHorizon state honest store shards old now) (IsCancelled shards (NamesHorizon state honest store shards old now)) o now [] after) (sym flow.1)
          (record { tells = refl; machine = refl; nodes = refl; told_before = refl; named = refl; running = inr ((standing.stands.flows.quiet r running no_write).0, refl); others_end = λ is. refl });
      tells = refl;
      stands = record {
        sound = subst (λ (f : NodeName → D × D). AreSound state honest store shards f) (sym devices) standing.sound;
        nodes = record {
          at = λ n. standing.nodes.at n ∙ sym (there.store_stays.at n);
          open_ids = standing.nodes.open_ids ∙ sym there.store_stays.open_ids;
          given = standing.nodes.given ∙ sym there.store_stays.given;
        };
        flows = shows_ended state honest moment left_since store shards old new now standing number slot (shown_flow asked holds) None there.slots r flow.1 refl;
        stands = subst (λ (f : NodeName → D × D). Stands store shards (stops state honest store shards f) after) (sym devices) (flows_end store shards (stops state honest store shards old.devices) now r.slot standing.stands);
      };
      named = λ x is. inr (subst (λ (f : NodeName → D × D). IsHorizonIn store shards (stops state honest store shards f) now.nodes x) devices is);
      fails = λ n is_there is_down not_down. absurd (not_down is_down);
      opens = λ n is_there is. absurd (no_restart n is);
      inside = inside_by state honest moment left_since store shards old new now standing (still_within state honest moment left_since store shards old new now standing only_now devices) now.machine;
      given = still_given state honest moment left_since store shards old new now standing devices;
    }
  where
    no_restart : (n : NodeName) → cancel slot ≡ restart n → ⊥
    no_restart n is = cc
