use Rattle.std.proofs.Common.{◌≡◌, All, true, false, sym, subst, true≢false}
use Rattle.std.proofs.lemmas.List.Elements.{All-drop}
use Rattle.journal.specs.Rest.{IsPlain}
use Rattle.journal.proofs.lending.Journal+Away+D.land.Goals.{then-is_down, else-is_down}
use Rattle.journal.proofs.lending.Journal+Away+D.land.Goals as goal

pub invariant_of-back : goal.invariant_of-back
invariant_of-back g c = (
  subst (All IsPlain) (sym c.forget_first.ensures) (All-drop IsPlain c.args.sent.count c.self.inside.staged c.self.invariant.0),
  λ up. c.flown.invariant.1 (elim c.if-is_down.branch [
    | then-is_down w ↦ let e : true ≡ false = cc in absurd (true≢false e)
    | else-is_down w ↦ let e : c.flown.inside.is_down ≡ false = cc in e
  ]),
)
