-- One more write was found, the one that comes next.
use Rattle.care_flow.proofs.Found.{one_more_is_found}
use Rattle.care_flow.proofs.findings.Findings.note.Goals as goal

pub invariant_of-self-clause-so_far : goal.invariant_of-self-clause-so_far
invariant_of-self-clause-so_far c = let f = c.args.self.now in
    rw c.push_reserved.ensures.items (one_more_is_found f.doubts.items f.found.items c.args.resolved f.so_far c.requires)
