-- Steps of the coordinator: what is known as it takes one, what it leaves, and that all nodes go on to agree.
use Rattle.std.specs.Prelude.{◌≡◌, ◌≤◌, ◌<◌, ◌+◌, ℕ, true, List, [], ◌∷◌, ◌++◌, take, Contains}
use Rattle.tuples.specs.declared.entry.Entry.{Entry}
use Rattle.tuples.specs.declared.entry.WriteId.{WriteId}
use Rattle.tuples.specs.Parts.{takes_part}
use Rattle.records.specs.declared.record.Record.{Record}
use Rattle.records.specs.declared.record.Record.TheVariants.{Decision, Epoch}
use Rattle.records.specs.Coordinators.{IsCoordinatorImage, coordinator_state, end_of}
use Rattle.records.specs.Identity.{coordinator_number}
use Rattle.records.specs.Replays.{greatest_number, without}
use Rattle.decisions.specs.Values.{IsIntent}
use Rattle.laws.specs.Worlds.{coordinator_node}
use Rattle.accord.specs.declared.fact.Fact.TheVariants.{Voted}
use Rattle.accord.specs.Agreeing.{Agree, AllNodes, IsRightOf, IsVoted}

-- What is known as the coordinator stages a decision, by its own contract, by the goods of its caller, and by what the caller knows of votes.
pub record Decides (shards : ℕ) (n : AllNodes) (place : ℕ) (w : Entry) : Type 0 where
  pub some : 1 ≤ shards
  pub up : n.coordinator.is_up ≡ true
  pub is_open : Contains n.coordinator.open_writes w
  pub intent : IsIntent w
  pub epoch : w.id.epoch ≡ (coordinator_state n.coordinator.known).epoch
  pub place_is : place ≡ end_of (coordinator_state n.coordinator.known) + 1
  pub fits : place ≤ greatest_number
  pub voted : (s : ℕ) → s < shards → takes_part shards s w ≡ true → IsVoted shards n s w.id

abbrev pub with_decision : AllNodes → ℕ → Entry → AllNodes
with_decision n place w = record n {
  coordinator = record n.coordinator {
    known = n.coordinator.known ++ Decision place w ∷ [];
    log = n.coordinator.log ++ w ∷ [];
    open_writes = without w.id n.coordinator.open_writes;
  };
}

abbrev pub DecisionsAgree : Type 0
DecisionsAgree = (store shards : ℕ) (n : AllNodes) (place : ℕ) (w : Entry) → Agree store shards n → Decides shards n place w → Agree store shards (with_decision n place w)

abbrev pub VotesStayAtDecisions : Type 0
VotesStayAtDecisions = (shards : ℕ) (n : AllNodes) (place : ℕ) (w : Entry) (s : ℕ) (id : WriteId) → IsRightOf shards n (Voted s id) → IsRightOf shards (with_decision n place w) (Voted s id)

-- What is known as the coordinator's devices come back from a flight: this list was announced as it left, and is durable now. Records after it raise no less, and
-- decide no fewer.
pub record Lands (n : AllNodes) (flown : List Record) : Type 0 where
  pub up : n.coordinator.is_up ≡ true
  pub flew : Contains n.coordinator.left flown
  pub raised : n.coordinator.horizon ≤ (coordinator_state flown).horizon
  pub raises : (coordinator_state flown).horizon ≤ (coordinator_state n.coordinator.known).horizon
  pub decides : end_of (coordinator_state flown) ≤ end_of (coordinator_state n.coordinator.known)

abbrev pub with_landing : AllNodes → List Record → AllNodes
with_landing n flown = record n {
  coordinator = record n.coordinator {
    left = flown ∷ [];
    kept = end_of (coordinator_state flown);
    horizon = (coordinator_state flown).horizon;
  };
}

abbrev pub LandingsAgree : Type 0
LandingsAgree = (store shards : ℕ) (n : AllNodes) (flown : List Record) → Agree store shards n → Lands n flown → Agree store shards (with_landing n flown)

-- What is known as the coordinator comes up again: its devices held one of the lists that a stop could leave, and one opening more is durable.
pub record Opens (store shards : ℕ) (n : AllNodes) (found : List Record) (epoch : ℕ) : Type 0 where
  pub was_left : Contains n.coordinator.left found
  pub image : IsCoordinatorImage (coordinator_node store shards) (found ++ Epoch epoch store shards coordinator_number ∷ [])

abbrev pub with_opening : ℕ → ℕ → AllNodes → List Record → ℕ → AllNodes
with_opening store shards n found epoch =
    let records = found ++ Epoch epoch store shards coordinator_number ∷ [] in
    record n {
      coordinator = record {
        left = records ∷ [];
        known = records;
        is_up = true;
        log = take (end_of (coordinator_state found)) n.coordinator.log;
        kept = end_of (coordinator_state found);
        horizon = (coordinator_state records).horizon;
        open_writes = [];
      };
    }

abbrev pub OpeningsAgree : Type 0
OpeningsAgree = (store shards : ℕ) (n : AllNodes) (found : List Record) (epoch : ℕ) → Agree store shards n → Opens store shards n found epoch → Agree store shards (with_opening store shards n found epoch)
