use Rattle.std.proofs.Common.{ap}
use Rattle.connections.specs.declared.connections.rule.View.{View}
use Rattle.connections.proofs.Keeping.{forks_note, merges_note, all_put, none_twice}
use Rattle.connections.proofs.connections.Connections.audit.Goals as goal

pub another-note-requires-clause-rule : goal.another-note-requires-clause-rule
another-note-requires-clause-rule g c = forks_note _ _

pub absorb-requires-clause-rule : goal.absorb-requires-clause-rule
absorb-requires-clause-rule g c = merges_note _ _ _ _ (ap (λ (v : View). v.taken) c.another-note.ensures.rule.1) (ap (λ (v : View). v.share) c.another-note.ensures.rule.1)

pub learn_as-requires-clause-rule : goal.learn_as-requires-clause-rule
learn_as-requires-clause-rule g c = all_put _ _

pub learn_as-requires-2-clause-rule : goal.learn_as-requires-2-clause-rule
learn_as-requires-2-clause-rule g c = none_twice _ _
