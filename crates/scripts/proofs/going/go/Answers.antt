use Rattle.std.proofs.Common.{◌∙◌, ◌∷◌, refl, arith, inl}
use Rattle.scripts.proofs.Rooms.{some_each}
use Rattle.scripts.proofs.going.go.Goals as goal
use Rattle.tuples.proofs.Options.{on_err}

pub loop-preserved : goal.loop-preserved
loop-preserved g c =
    let before = c.loop.invariant in
    let goes = c.if-not-goes_on.ensures.0 refl in (
      c.in_ok-make_room.ensures.same ∙ before.0,
      omega (arith, before.1, c.in_ok-make_room.ensures.capacity),
      (λ some. some_each c.loop.room c.args.each c.saturating_add-room.result before.2 (omega arith) some),
      (c.in_ok-told.told ∷ before.3.0, (c.loop.store, before.3.1, (c.next.result, c.next.ensures, goes), c.in_ok-told.ensures.ok), refl, omega (arith, before.3.3)),
    )

pub returns-in_err-make_room-clause-left : goal.returns-in_err-make_room-clause-left
returns-in_err-make_room-clause-left g c =
    let before = c.loop.invariant in
    let goes = c.if-not-goes_on.ensures.0 refl in
    on_err c.from_residual.result (record {
      all = before.3.0;
      turns = before.3.1;
      goes_on = (c.next.result, c.next.ensures, goes);
      cause = inl (some_each c.loop.room c.args.each c.saturating_add-room.result before.2 (omega arith) c.in_err-make_room.ensures.some);
    })
