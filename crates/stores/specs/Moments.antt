-- A store at a moment: the machine that it stands for, its nodes, and the flows that run with what they have seen.
use Rattle.std.specs.Prelude.{◌≡◌, ◌==◌, ℕ, Bool, true, false, List, [], ◌∷◌, map, Option, Some, None, Contains, if◌then◌else◌, slice_get}
use Rattle.tuples.specs.declared.entry.WriteId.{WriteId}
use Rattle.refusal.specs.declared.refusal.Refusal.{Refusal}
use Rattle.decisions.specs.Standing.{DecidedValue}
use Rattle.laws.specs.Machines.{Machine}
use Rattle.laws.specs.Nodes.{Nodes}
use Rattle.stores.specs.Flows.{Asked, Holds, nothing_held, to_write, to_read, to_check, to_watch, to_flush, to_learn, to_resolve, to_raise, to_collect}

-- A flow that runs: its slot, what it is asked and what it holds; the machine after each of its turns so far; the decision that it made;
-- the refusal that a call gave it; whether it was cancelled; and whether the coordinator was opened since it began.
pub record Running : Type 0 where
  pub slot : ℕ
  pub asked : Asked
  pub holds : Holds
  pub seen : List Machine
  pub decided : Option DecidedValue
  pub met : Option Refusal
  pub is_cancelled : Bool
  pub is_reopened : Bool

-- a flow before its first turn
abbrev pub begun : ℕ → Asked → Running
begun slot asked = record {
  slot = slot;
  asked = asked;
  holds = nothing_held asked;
  seen = [];
  decided = None;
  met = None;
  is_cancelled = false;
  is_reopened = false;
}

-- The machine; the nodes; the flows that run; the ids that someone was told are aborted; and the places to which a flow was asked to
-- raise the horizon.
pub record Moment : Type 0 where
  pub machine : Machine
  pub nodes : Nodes
  pub running : List Running
  pub told : List WriteId
  pub named : List ℕ

-- the flow in a slot
abbrev pub flow_at : ℕ → List Running → Option Running
flow_at slot [] = None
flow_at slot (r ∷ rs) = if r.slot == slot then Some r else flow_at slot rs

-- the flows with this one instead of the one in its slot
abbrev pub replaced : Running → List Running → List Running
replaced r [] = []
replaced r (q ∷ rs) = if q.slot == r.slot then r ∷ rs else q ∷ replaced r rs

-- the flows without the one in a slot
abbrev pub ended : ℕ → List Running → List Running
ended slot [] = []
ended slot (r ∷ rs) = if r.slot == slot then rs else r ∷ ended slot rs

-- the coordinator was opened while they ran
abbrev pub reopened : List Running → List Running
reopened = map (λ (r : Running). record r { is_reopened = true })

-- it was asked to write
abbrev pub is_write : Asked → Bool
is_write (to_write changes conditions) = true
is_write (to_read fresh sets) = false
is_write (to_check fresh x u) = false
is_write (to_watch c limit names) = false
is_write (to_flush n) = false
is_write (to_learn s) = false
is_write (to_resolve s) = false
is_write (to_raise x) = false
is_write (to_collect s) = false

-- the kept place was s after one of its turns
abbrev pub WasKept : Running → ℕ → Type 0
WasKept r s = (m : Machine) × Contains r.seen m × (m.kept ≡ s)

-- the machine after its first turn
abbrev pub SawFirst : Running → Machine → Type 0
SawFirst r m = slice_get r.seen 0 ≡ Some m
