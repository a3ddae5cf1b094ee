use Rattle.std.proofs.Common.{subst, sym}
use Rattle.replay.proofs.Fit.{image_fit}
use Rattle.versions.specs.Alike.{of_tuple}
use Rattle.versions.specs.Walks.{Rise}
use Rattle.shard.proofs.Checkpointed.{rise_of}
use Rattle.shard.proofs.shard.Shard.known.Goals as goal

pub returns-clause-rise : goal.returns-clause-rise
returns-clause-rise g c = λ t.
    let kept = c.self.invariant in
    subst Rise (sym (kept.replayed.rows.each t)) (rise_of 1 (of_tuple t _) ((image_fit c.self.inside.me kept.rs kept.image).rows.rise t))
