use Rattle.std.proofs.Common.{All, take}
use Rattle.serving.specs.Protocols.{Begins}
use Rattle.serving.proofs.protocols.may_begin.Given as goal

-- none of those that were looked at begins with the bytes
abbrev pub invariant-loop-mark : goal.invariant-loop-mark
invariant-loop-mark l = All (λ mark. Begins mark.now l.bytes → ⊥) (take l.mark-index l.marks)
