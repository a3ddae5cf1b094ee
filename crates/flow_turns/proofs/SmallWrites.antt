-- A small turn: a write flow begins its write at a coordinator whose opening was refused, and ends with that refusal. So a flow can make a call as the laws
-- ask for it.
use Rattle.std.proofs.Common.{◌≡◌, ◌≢◌, ℕ, zero, suc, false, List, [], ◌∷◌, Option, Err, Some, None, refl, arith}
use Rattle.flow_turns.proofs.WriteWords.{Coordinator, Down, FlowView, Refused, State, Store, WriteValue, WriteView, coordinator, from_coordinator, refuses, shown, told_of, view_ended}
use Rattle.calls.specs.Views as views
use Rattle.calls.specs.declared.call.CoordinatorCall.TheVariants.{Begin}
use Rattle.calls.specs.declared.reply.CoordinatorReply.TheVariants as told
use Rattle.commit_flow.specs.WriteHolds.{nothing_begun}
use Rattle.commit_flow.specs.WriteHolds as waits
use Rattle.laws.specs.Nodes.{refused}
use Rattle.flow_turns.specs.StoreCalls.{IsNode}
use Rattle.flow_turns.specs.WriteTurns.{MakesCall}

module _ {D : Type 0} (state : D → State) (honest : D → Type 0) (moment : D → ℕ) (left_since : D → ℕ → List ℕ → Type 0) (a b : D) (write : WriteValue) where
  -- a write flow before its first call
  abbrev fresh : WriteView
  fresh = record { write = Some write; holds = nothing_begun; caught = None; flushed = false; awaited = None; ended = None }

  -- a store whose nodes were all refused, with the flow in its first slot, and without it
  abbrev first_slot : ℕ → Option FlowView
  first_slot zero = Some (shown fresh false)
  first_slot (suc t) = None

  abbrev before : Store D
  before = record { devices = λ n. (a, b); at = λ n. refused Down; open_ids = []; given = 0; flows = first_slot }

  abbrev behind : Store D
  behind = record before { flows = λ t. None }

  is_out : (s : Store D) → s.devices coordinator ≡ (a, b) → s.at coordinator ≡ refused Down → IsNode 7 1 s coordinator (views.refused Down a b)
  is_out s devices at = record { there = tt; named = tt; devices = devices; at = at; memory = tt }

  others : (t : ℕ) → t ≢ 0 → behind.flows t ≡ before.flows t
  others zero ne = absurd (ne refl)
  others (suc t) ne = refl

  makes : MakesCall state honest moment left_since 7 1 before behind 0 false fresh (view_ended (Refused Down)) (Coordinator (Begin write))
  makes = record {
    some = omega arith;
    mid = record fresh { write = None; awaited = Some waits.begin };
    asks = (tt, ((refl, refl), refl));
    fits = tt;
    whole = tt;
    was = views.refused Down a b;
    is = views.refused Down a b;
    reply = from_coordinator (told.Begin (Err Down));
    answered = (refl, refl);
    node = record {
      before = is_out before refl refl;
      after = is_out behind refl refl;
      devices = λ m ne. refl;
      at = λ m ne. refl;
      memory = (refl, refl);
      fails = λ is not_was. absurd (not_was is);
    };
    gives = refl;
    slots = record { before = refl; after = refl; others = others };
  }

  -- it tells the refusal
  tells : told_of false (Some (Refused Down)) ≡ refuses Down ∷ []
  tells = refl
