use Rattle.std.proofs.Common.{All, subst, arith}
use Rattle.std.proofs.lemmas.List.{take_all}
use Rattle.std.proofs.lemmas.List.Elements.{All-map, All-more}
use Rattle.serving.specs.Protocols.{Begins}
use Rattle.serving.proofs.protocols.begins.Goals as goal

pub loop-mark-preserved : goal.loop-mark-preserved
loop-mark-preserved c =
    All-more (λ mark. Begins c.args.bytes.now mark.now → ⊥) _ _ _ (omega arith) c.loop-mark.invariant (c.has_prefix.ensures.none c.if-has_prefix.false)

pub returns-clause-none : goal.returns-clause-none
returns-clause-none c = λ same.
    All-map (λ mark. Begins c.args.bytes.now mark → ⊥) (λ mark. mark.now) c.args.marks.now
    (subst (All (λ mark. Begins c.args.bytes.now mark.now → ⊥)) (take_all _ c.args.marks.now (omega arith)) c.loop-mark.invariant)
