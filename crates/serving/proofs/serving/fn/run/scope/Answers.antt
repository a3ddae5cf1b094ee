use Rattle.std.proofs.Common.{◌≡◌, ◌+◌, ◌∙◌, All, ap, arith, rules, subst, sym}
use Rattle.std.proofs.lemmas.List.Elements.{All-push}
use Rattle.std.specs.declared.net.tcp.TcpStream.{TcpStream}
use Rattle.std.specs.declared.thread.PromisedHandle.{PromisedHandle}
use Rattle.connections.specs.declared.connections.pass.WorkerPass.{WorkerPass}
use Rattle.serving.specs.declared.gathering.PassOf.{PassOf}
use Rattle.serving.proofs.serving.fn.run.scope.Goals as goal

-- The worker whose thread was made stood first among the rest.
pub loop-worker-preserved : goal.loop-worker-preserved
loop-worker-preserved g c =
    let was = c.loop-worker.invariant in
    let step = c.in-Some.ensures.steps in
    let pushed = c.push_reserved.ensures in
    let hall : c.in-Some.worker.hall.now.queue ≡ c.captures.acceptor.hall.now.queue = let h = was.workers 0 c.in-Some.worker in grind rules in
    let made : c.in-Ok.thread.promise.0.value ≡ c.captures.acceptor.hall.now.queue = ap (λ (p : PassOf). p.0.value) c.in-Ok.ensures.ok ∙ c.of.ensures ∙ hall in
    let P : PromisedHandle (WorkerPass TcpStream) PassOf → Type 0 = λ thread. thread.promise.0.value ≡ c.captures.acceptor.hall.now.queue in
    record {
      workers = λ k d below. let h = was.workers (k + 1) d in grind rules;
      count = omega (arith, step.1, was.count, pushed.len);
      room = omega (arith, step.1, was.room, pushed.len, pushed.capacity);
      threads = subst (All P) (sym pushed.items) (All-push P c.loop-worker.threads.items c.in-Ok.thread was.threads made);
    }
