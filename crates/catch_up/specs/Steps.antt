-- What is seen of the steps.
use Rattle.std.specs.Prelude.{◌<◌, ℕ, Bool, false, Option, Some, None}
use Rattle.decisions.specs.Values.{BatchValue}
use Rattle.names.specs.declared.call_name.CallName.{CallName}
use Rattle.names.specs.declared.call_name.CallName.TheVariants as names
use Rattle.catch_up.specs.Held.{Awaited, decisions, flushing, learned, learning}
use Rattle.catch_up.specs.declared.catch_up.Step.{Step}
use Rattle.catch_up.specs.declared.catch_up.Step.TheVariants.{Learned, Batch, Learn, Flush}
use Rattle.catch_up.specs.declared.caught.Asked.{Asked}
use Rattle.catch_up.specs.declared.caught.Asked.TheVariants.{Learned as asked_learned, Batch as asked_batch, Learn as asked_learn, Flush as asked_flush}

-- the decisions that are held before a call
abbrev pub batch_of : Step → Option BatchValue
batch_of Learned = None
batch_of (Batch from) = None
batch_of (Learn batch again) = Some batch
batch_of (Flush batch) = Some batch

-- the name of the call of a step
abbrev pub name_of : Step → CallName
name_of Learned = names.Learned
name_of (Batch from) = names.Batch
name_of (Learn batch again) = names.Learn
name_of (Flush batch) = names.Flush

-- the place after which decisions are fetched
abbrev pub from_of : Step → Option ℕ
from_of Learned = None
from_of (Batch from) = Some from
from_of (Learn batch again) = None
from_of (Flush batch) = None

-- whether the shard was flushed for what it is handed
abbrev pub flushed_of : Step → Bool
flushed_of Learned = false
flushed_of (Batch from) = false
flushed_of (Learn batch again) = again
flushed_of (Flush batch) = false

-- decisions are fetched from below the place
abbrev pub IsBelow : ℕ → Step → Type 0
IsBelow to Learned = Unit {0}
IsBelow to (Batch from) = from < to
IsBelow to (Learn batch again) = Unit {0}
IsBelow to (Flush batch) = Unit {0}

-- those that are held while it is out
abbrev pub held_by : Asked → Option BatchValue
held_by asked_learned = None
held_by asked_batch = None
held_by (asked_learn again) = None
held_by (asked_flush batch) = Some batch

-- which call is out
abbrev pub awaited_by : Asked → Awaited
awaited_by asked_learned = learned
awaited_by asked_batch = decisions
awaited_by (asked_learn again) = learning again
awaited_by (asked_flush batch) = flushing

-- and what that call is called
abbrev pub name_out : Asked → CallName
name_out asked_learned = names.Learned
name_out asked_batch = names.Batch
name_out (asked_learn again) = names.Learn
name_out (asked_flush batch) = names.Flush
