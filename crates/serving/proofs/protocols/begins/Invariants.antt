use Rattle.std.proofs.Common.{All, take}
use Rattle.serving.specs.Protocols.{Begins}
use Rattle.serving.proofs.protocols.begins.Given as goal

-- the bytes begin with none of those that were looked at
abbrev pub invariant-loop-mark : goal.invariant-loop-mark
invariant-loop-mark l = All (λ mark. Begins l.bytes mark.now → ⊥) (take l.mark-index l.marks)
