-- The calls of a watch, and what each reply makes of it.
use Rattle.std.specs.Prelude.{◌≡◌, ◌⊎◌, ◌+◌, ℕ, min, List, Result, Ok, Err}
use Rattle.refusal.specs.declared.refusal.Refusal.{Refusal}
use Rattle.refusal.specs.declared.refusal.Refusal.TheVariants.{NoMemory}
use Rattle.tuples.specs.Watching.{events_from}
use Rattle.decisions.specs.Flows.{exact, no_heads}
use Rattle.decisions.specs.Standing.{HeadsValue}
use Rattle.decisions.specs.Values.{BatchValue}
use Rattle.calls.specs.Asking.{MayBeMade}
use Rattle.calls.specs.declared.call.NodeCall.{NodeCall}
use Rattle.calls.specs.declared.call.NodeCall.TheVariants.{Coordinator}
use Rattle.calls.specs.declared.call.CoordinatorCall.TheVariants as calls
use Rattle.calls.specs.declared.reply.Reply.{Reply}
use Rattle.calls.specs.declared.reply.Reply.TheVariants.{Coordinator as from_coordinator}
use Rattle.calls.specs.declared.reply.CoordinatorReply.TheVariants as told
use Rattle.answer_flow.specs.Finding.{FindsPlace, IsNotKept, IsRefused}
use Rattle.answer_flow.specs.WatchViews.{WatchStep, WatchView, at_rest, batch, ended, flush, heads, listed, refused, waiting, with_heads}

-- the place up to which a watch lists all: so many after its cursor, or the kept place
abbrev pub heartbeat : ℕ → ℕ → HeadsValue → ℕ
heartbeat cursor limit v = min (cursor + limit) v.kept

-- which call is made next: the one that is seen, and of the coordinator
abbrev pub AsksFor : ℕ → ℕ → WatchView → NodeCall → Type 0
AsksFor cursor limit v (Coordinator calls.Heads) = v.next ≡ heads
AsksFor cursor limit v (Coordinator calls.Flush) = v.next ≡ flush
AsksFor cursor limit v (Coordinator (calls.Batch from to)) = (v.next ≡ batch) × ((held : HeadsValue) × (v.holds ≡ with_heads held) × (from ≡ cursor) × (to ≡ heartbeat cursor limit held))
AsksFor cursor limit v call = ⊥

-- Which call is made next. What the coordinator is owed is kept, and what is held stays.
pub record Asks (cursor limit : ℕ) (v : WatchView) (call : NodeCall) (after : WatchView) : Type 0 where
  pub owed : (shards : ℕ) → MayBeMade shards call
  pub asks : AsksFor cursor limit v call
  pub out : after ≡ waiting v.next v.holds

-- the heads tell that the cursor is kept, or not yet, or that it is refused
abbrev pub HeadsGive : ℕ → Result HeadsValue Refusal → WatchView → Type 0
HeadsGive cursor (Ok v) after = (FindsPlace (exact cursor) v cursor × (after ≡ at_rest batch (with_heads v)))
    ⊎ ((IsNotKept (exact cursor) v × (after ≡ at_rest flush no_heads)) ⊎ ((e : Refusal) × IsRefused (exact cursor) v e × (after ≡ ended (refused e))))
HeadsGive cursor (Err e) after = after ≡ ended (refused e)

-- after a flush it asks for heads again
abbrev pub FlushGives : Result (Unit {0}) Refusal → WatchView → Type 0
FlushGives (Ok done) after = after ≡ at_rest heads no_heads
FlushGives (Err e) after = after ≡ ended (refused e)

-- the decisions have come, and it lists all of them; or memory is refused
abbrev pub BatchGives : ℕ → ℕ → List (List ℕ) → WatchView → Result BatchValue Refusal → WatchView → Type 0
BatchGives cursor limit names v (Ok b) after = ((held : HeadsValue) → v.holds ≡ with_heads held → after ≡ ended (listed (heartbeat cursor limit held) (events_from (b.from + 1) names b.writes)))
    ⊎ (after ≡ ended (refused NoMemory))
BatchGives cursor limit names v (Err e) after = after ≡ ended (refused e)

-- What a reply makes of a watch that waits for it.
abbrev pub GivesTo : ℕ → ℕ → List (List ℕ) → WatchView → WatchStep → Reply → WatchView → Type 0
GivesTo cursor limit names v heads (from_coordinator (told.Heads r)) after = HeadsGive cursor r after
GivesTo cursor limit names v flush (from_coordinator (told.Flush r)) after = FlushGives r after
GivesTo cursor limit names v batch (from_coordinator (told.Batch r)) after = BatchGives cursor limit names v r after
GivesTo cursor limit names v call reply after = ⊥

-- the reply is one to the call that is out
abbrev pub Fits : WatchStep → Reply → Type 0
Fits heads (from_coordinator (told.Heads r)) = Unit {0}
Fits flush (from_coordinator (told.Flush r)) = Unit {0}
Fits batch (from_coordinator (told.Batch r)) = Unit {0}
Fits call reply = ⊥
