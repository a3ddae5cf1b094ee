-- Any care takes its turn: its kind stays.
use Rattle.std.proofs.Common.{◌≤◌, ℕ, List, Some}
use Rattle.flow_turns.proofs.CareWords.{CareFlow, Collect, Flush, Learn, NextCall, NodeCall, Raise, Reply, Resolve, State, left}
use Rattle.care_flow.specs.Cares.{Answered}
use Rattle.flow_turns.specs.CareTurns.{CaresTurn, IsRunTurn}
use Rattle.flow_turns.proofs.Collects.{collects_turn}
use Rattle.flow_turns.proofs.Flushes.{flushes_turn}
use Rattle.flow_turns.proofs.Learns.{learns_turn}
use Rattle.flow_turns.proofs.Raises.{raises_take_their_turn}
use Rattle.flow_turns.proofs.Resolves.{resolves_turn}

-- what comes of a care is of its kind
abbrev OfOneKind : CareFlow → CareFlow → Type 0
OfOneKind (Flush v) (Flush w) = Unit {0}
OfOneKind (Learn v) (Learn w) = Unit {0}
OfOneKind (Resolve v) (Resolve w) = Unit {0}
OfOneKind (Raise v) (Raise w) = Unit {0}
OfOneKind (Collect v) (Collect w) = Unit {0}
OfOneKind flow next = ⊥

one_kind : (flow out next : CareFlow) (call : NodeCall) (reply : Reply) → NextCall flow (Some call) out → Answered out reply next → OfOneKind flow next
one_kind (Flush v) (Flush u) (Flush w) call reply asks gives = tt
one_kind (Learn v) (Learn u) (Learn w) call reply asks gives = tt
one_kind (Resolve v) (Resolve u) (Resolve w) call reply asks gives = tt
one_kind (Raise v) (Raise u) (Raise w) call reply asks gives = tt
one_kind (Collect v) (Collect u) (Collect w) call reply asks gives = tt
one_kind (Flush v) (Flush u) next call reply asks gives = absurd gives
one_kind (Learn v) (Learn u) next call reply asks gives = absurd gives
one_kind (Resolve v) (Resolve u) next call reply asks gives = absurd gives
one_kind (Raise v) (Raise u) next call reply asks gives = absurd gives
one_kind (Collect v) (Collect u) next call reply asks gives = absurd gives
one_kind flow out next call reply asks gives = absurd asks

module _ {D : Type 0} (state : D → State) (honest : D → Type 0) (moment : D → ℕ) (left_since : D → ℕ → List ℕ → Type 0)
    (counts_now : (d : D) (t : ℕ) (c : List ℕ) → honest d → t ≤ moment d → left (state d) c → left_since d t c) (only_now : (d : D) (c : List ℕ) → honest d → left_since d (moment d) c → left (state d) c)
    (store shards : ℕ) where
  by_kind : (flow next : CareFlow) → OfOneKind flow next → IsRunTurn state honest moment left_since store shards flow next
  by_kind (Flush v) (Flush w) kind = flushes_turn state honest moment left_since counts_now only_now store shards v w
  by_kind (Learn v) (Learn w) kind = learns_turn state honest moment left_since counts_now only_now store shards v w
  by_kind (Resolve v) (Resolve w) kind = resolves_turn state honest moment left_since counts_now only_now store shards v w
  by_kind (Raise v) (Raise w) kind = raises_take_their_turn state honest moment left_since counts_now only_now store shards v w
  by_kind (Collect v) (Collect w) kind = collects_turn state honest moment left_since counts_now only_now store shards v w
  by_kind flow next kind = absurd kind

  pub cares_turn : CaresTurn state honest moment left_since store shards
  cares_turn flow next old new slot t = by_kind flow next (one_kind flow t.out next t.call t.reply t.asks t.gives) old new slot t
