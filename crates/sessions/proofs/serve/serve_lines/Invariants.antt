use Rattle.std.proofs.Common.{◌≡◌, List, ℕ}
use Rattle.std.specs.Io.KnownBytes.{Appends, Consumes}
use Rattle.sessions.specs.Machines.{Stands}
use Rattle.sessions.specs.declared.machine.Phase.TheVariants.{Open}
use Rattle.sessions.proofs.serve.serve_lines.Given as goal

abbrev pub invariant-loop : goal.invariant-loop
invariant-loop g l =
    (got : List ℕ) × (written : List ℕ) × Consumes (g.R.Read.remaining l.fn.input) (g.R.Read.remaining l.input) got × Appends (g.W.Write.contents l.fn.output) (g.W.Write.contents l.output) written
    × Stands l.fn.store g.A.Answers.gives l.fn.answers got written l.machine l.answers × (l.machine.phase ≡ Open)
