-- What a reply makes of a flow: one that waits for its next turn, or its end.
use Rattle.calls.specs.declared.progress.Progress.{Progress}
use Rattle.calls.specs.declared.progress.Progress.TheVariants.{Next, Ended}

-- if it goes on, this is so of it
abbrev pub IfNext : {F E : Type 0} → Progress F E → (F → Type 0) → Type 0
IfNext (Next later) P = P later
IfNext (Ended end) P = Unit {0}
