use Rattle.std.proofs.Common.{◌≡◌, ◌+◌, All, None, vec_len}
use Rattle.std.specs.Vec.Iter.{into_iter_len}
use Rattle.serving.proofs.serving.equipped.Given as goal

abbrev pub invariant-loop-fork : goal.invariant-loop-fork
invariant-loop-fork g l = record {
  own : All (λ w. (w.queue ≡ l.hall.queue) × (w.passes ≡ 1) × (w.end ≡ None)) l.passes.items;
  count : vec_len l.passes ≡ into_iter_len l.fork-iterator;
  made : vec_len l.equipped + into_iter_len l.fork-iterator ≡ vec_len l.fn.workers;
  hall : All (λ worker. worker.hall.now.queue ≡ l.hall.queue) l.equipped.items;
  bells : vec_len l.bells + into_iter_len l.fork-iterator ≡ vec_len l.initial.bells + vec_len l.fn.workers;
}
