use Rattle.std.proofs.Common.{◌∷◌, None, refl, sym, subst}
use Rattle.scripts.specs.Going.{GoesOn}
use Rattle.dumping.proofs.Looks.{looks_then, turns_look}
use Rattle.dumping.proofs.playing.run_out.Goals as goal

pub loop-preserved : goal.loop-preserved
loop-preserved g c =
    let before = c.loop.invariant in
    let goes = subst (GoesOn None) (sym c.in-Some.is) (λ x. x) in
    (c.in_ok-told.told ∷ before.0, (c.loop.store, before.1, (c.next.result, c.next.ensures, goes), c.in_ok-told.ensures.ok), refl)

pub returns-in_default-clause-looks : goal.returns-in_default-clause-looks
returns-in_default-clause-looks g c = turns_look g.S.Store.takes g.S.Store.nexts c.args.slot None c.loop.invariant.0 c.args.store.now c.loop.store c.loop.invariant.1

pub returns-in_err-told-clause-looks : goal.returns-in_err-told-clause-looks
returns-in_err-told-clause-looks g c =
    looks_then g.S.Store.takes c.args.store.now c.loop.store c.turn.new.store (turns_look g.S.Store.takes g.S.Store.nexts c.args.slot None c.loop.invariant.0 c.args.store.now c.loop.store c.loop.invariant.1) c.turn.ensures.looks

pub returns-clause-looks : goal.returns-clause-looks
returns-clause-looks g c = turns_look g.S.Store.takes g.S.Store.nexts c.args.slot None c.loop.invariant.0 c.args.store.now c.loop.store c.loop.invariant.1
