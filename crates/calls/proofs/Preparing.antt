-- What a shard's contract says of a prepare, as one fact for a ticket and one for a refusal.
use Rattle.std.proofs.Common.{◌≡◌, ◌↔◌, ap, Result, Ok, Err, IfOk, IfErr, OnOk, IsErrOf}
use Rattle.tuples.specs.declared.entry.Entry.{Entry}
use Rattle.refusal.specs.declared.refusal.Refusal.{Refusal}
use Rattle.refusal.specs.declared.refusal.Refusal.TheVariants.{Busy, Collected, Full, NoMemory, Precondition}
use Rattle.records.specs.declared.record.Record.TheVariants.{Prepare}
use Rattle.device.specs.Device.{State}
use Rattle.journal.specs.Records.{HasNoRoom}
use Rattle.decisions.specs.Values.{TicketValue}
use Rattle.shard.specs.Shards.{AreFree, AskBelow, HoldHere, IsBroken, IsBusy, IsPreparable, IsUp, ShardView, Stages, memory, own_part}
use Rattle.shard.specs.Calls.{PrepareRefused, PreparesAt}

module _ {D : Type 0} (state : D → State) (honest : D → Type 0) (old new : ShardView D) (w : Entry) where
  pub prepares : (r : Result TicketValue Refusal)
      → IfOk r (λ t. Stages old (Prepare (own_part old w)) new × IsUp state honest new × (t.epoch ≡ (memory old).epoch))
      → IfOk r (λ t. t.id ≡ w.id)
      → OnOk r (AskBelow (memory old).horizon (own_part old w).conditions → ⊥)
      → OnOk r (AreFree (memory old) (own_part old w))
      → OnOk r (HoldHere (memory old) (own_part old w).conditions)
      → IfOk r (λ t. PreparesAt state honest old w t new)
  prepares (Ok t) ok id above free hold = record { preparable = record { above = above; free = free; hold = hold }; stages = ok.0; up = ok.1; id = id; epoch = ok.2 }
  prepares (Err e) ok id above free hold = tt

  pub prepare_refused : (r : Result TicketValue Refusal)
      → (IsErrOf r Collected ↔ AskBelow (memory old).horizon (own_part old w).conditions)
      → (IsErrOf r Busy ↔ IsBusy (memory old) (own_part old w))
      → (IsErrOf r Precondition ↔ IsBroken (memory old) (own_part old w))
      → (IsErrOf r Full ↔ (IsPreparable (memory old) (own_part old w) × HasNoRoom old.staged (Prepare (own_part old w))))
      → (IsErrOf r NoMemory → IsPreparable (memory old) (own_part old w) × (HasNoRoom old.staged (Prepare (own_part old w)) → ⊥))
      → IfErr r (PrepareRefused old w)
  prepare_refused (Ok t) collected busy broken full no_memory = tt
  prepare_refused (Err e) collected busy broken full no_memory = record {
    collected = λ is. collected.0 (ap Err is);
    busy = λ is. busy.0 (ap Err is);
    broken = λ is. broken.0 (ap Err is);
    full = λ is. full.0 (ap Err is);
    memory_refused = λ is. no_memory (ap Err is);
  }
