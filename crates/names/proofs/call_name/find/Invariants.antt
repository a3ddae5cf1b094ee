use Rattle.std.proofs.Common.{◌≡◌, All, take}
use Rattle.names.specs.Names.{call_text}
use Rattle.names.proofs.call_name.find.Given as goal

-- it is none of those that were looked at
abbrev pub invariant-loop-call : goal.invariant-loop-call
invariant-loop-call l = All (λ call. l.text ≡ call_text call → ⊥) (take l.call-index l.calls)
