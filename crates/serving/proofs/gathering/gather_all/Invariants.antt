use Rattle.std.proofs.Common.{◌≡◌, ◌+◌, All, vec_len}
use Rattle.std.specs.Vec.Iter.{into_iter_items, into_iter_len}
use Rattle.serving.proofs.gathering.gather_all.Given as goal

abbrev pub invariant-loop-thread : goal.invariant-loop-thread
invariant-loop-thread g l = record {
  queue : l.pass.queue ≡ l.hall.queue;
  passes : l.pass.passes + into_iter_len l.thread-iterator ≡ l.fn.pass.passes + vec_len l.fn.threads;
  end : l.pass.end ≡ l.fn.pass.end;
  threads : All (λ thread. thread.promise.0.value ≡ l.hall.queue) (into_iter_items l.thread-iterator);
}
