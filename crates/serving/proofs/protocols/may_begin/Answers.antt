use Rattle.std.proofs.Common.{All, subst, arith}
use Rattle.std.proofs.lemmas.List.{take_all}
use Rattle.std.proofs.lemmas.List.Elements.{All-map, All-more}
use Rattle.serving.specs.Protocols.{Begins}
use Rattle.serving.proofs.protocols.may_begin.Goals as goal

pub loop-mark-preserved : goal.loop-mark-preserved
loop-mark-preserved c =
    All-more (λ mark. Begins mark.now c.args.bytes.now → ⊥) _ _ _ (omega arith) c.loop-mark.invariant (c.has_prefix.ensures.none c.if-has_prefix.false)

pub returns : goal.returns
returns c = record {
  none = λ same.
      All-map (λ mark. Begins mark c.args.bytes.now → ⊥) (λ mark. mark.now) c.args.marks.now
      (subst (All (λ mark. Begins mark.now c.args.bytes.now → ⊥)) (take_all _ c.args.marks.now (omega arith)) c.loop-mark.invariant);
}
