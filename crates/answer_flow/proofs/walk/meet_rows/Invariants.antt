-- Of the rows so far, those wait that were not met before.
use Rattle.std.proofs.Common.{List, take}
use Rattle.tuples.specs.declared.object.Userset.{Userset}
use Rattle.answer_flow.specs.Walking.{IsWalk, LetsWait}
use Rattle.answer_flow.proofs.walk.meet_rows.Given as goal

abbrev pub invariant-loop-row : goal.invariant-loop-row
invariant-loop-row l = (known : List Userset) → IsWalk l.fn.met.keys known → LetsWait l.userset (take l.row-index l.rows) known l.met.keys l.waiting.items l.fn.waiting.items
