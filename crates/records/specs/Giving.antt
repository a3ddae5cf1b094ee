-- What a reader returns, against what the bytes are read as.
use Rattle.std.specs.Prelude.{◌≡◌, Option, Some, None, Result, Ok, Err}
use Rattle.refusal.specs.declared.refusal.Refusal.{Refusal}
use Rattle.refusal.specs.declared.refusal.Refusal.TheVariants as refusals
use Rattle.records.specs.declared.unread.Unread.{Unread}
use Rattle.records.specs.declared.unread.Unread.TheVariants.{Damaged, NoMemory}

-- damaged bytes are read as nothing; refused memory says nothing of them
abbrev pub Fails : {Y : Type 0} → Unread → Option Y → Type 0
Fails Damaged read = read ≡ None
Fails NoMemory read = Unit {0}

-- what was returned, seen by view, is what the bytes are read as, unless memory was refused
abbrev pub Gives : {X Y : Type 0} → (X → Y) → Result X Unread → Option Y → Type 0
Gives view (Ok x) read = read ≡ Some (view x)
Gives view (Err e) read = Fails e read

abbrev pub refusal_of : Unread → Refusal
refusal_of Damaged = refusals.Damaged
refusal_of NoMemory = refusals.NoMemory
