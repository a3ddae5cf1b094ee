use Rattle.std.proofs.Common.{◌≡◌, All, None, arith, subst, sym}
use Rattle.std.proofs.lemmas.List.Elements.{All-push, All-take}
use Rattle.std.specs.declared.net.tcp.TcpStream.{TcpStream}
use Rattle.connections.specs.declared.connections.pass.WorkerPass.{WorkerPass}
use Rattle.serving.specs.declared.working.Worker.{Worker}
use Rattle.serving.proofs.serving.equipped.Goals as goal

pub loop-fork-preserved : goal.loop-fork-preserved
loop-fork-preserved g c =
    let was = c.loop-fork.invariant in
    let step = c.in-Some.ensures.steps in
    let popped = c.in-Some-pop.ensures in
    let Own : WorkerPass TcpStream → Type 0 = λ w. (w.queue ≡ c.args.hall.now.queue) × (w.passes ≡ 1) × (w.end ≡ None) in
    let InHall : Worker g.row.F.Denot → Type 0 = λ worker. worker.hall.now.queue ≡ c.args.hall.now.queue in
    record {
      own = subst (All Own) (sym popped.rest) (All-take Own _ c.loop-fork.passes.items was.own);
      count = omega (arith, popped.cases, step.1, was.count);
      made = omega (arith, c.in_ok-push.ensures.len, step.1, was.made);
      hall = subst (All InHall) (sym c.in_ok-push.ensures.items) (All-push InHall c.loop-fork.equipped.items c.in_ok-equip.field-0 was.hall c.in_ok-equip.ensures.hall);
      bells = omega (arith, c.in_ok-equip.ensures.bells, step.1, was.bells);
    }
