-- The write stays in doubt, and the flow goes on.
use Rattle.std.proofs.Common.{None, refl}
use Rattle.decisions.specs.Flows.{undecided}
use Rattle.care_flow.specs.Resolving.{finding}
use Rattle.care_flow.specs.ResolvePhases.{holding}
use Rattle.care_flow.proofs.resolving.inquired.Goals as goal

pub returns-in-Ok-Undecided-clause-gives : goal.returns-in-Ok-Undecided-clause-gives
returns-in-Ok-Undecided-clause-gives c =
    let s = c.in-Ok-Undecided in
    let f = c.args.findings.now in
    let note = c.note-in-Ok-Undecided.ensures in
    rw (s.is, s.field-0-is) (c.go_on.ensures.goes f.doubts.items (finding (undecided c.args.id) None (holding f None None)) (rw note.doubts refl) (rw note.values refl))
