use Rattle.std.proofs.Common.{rules}
use Rattle.serving.proofs.patient.PatientRead.read.Goals as goal

pub returns-in-Ok-clause-ticks : goal.returns-in-Ok-clause-ticks
returns-in-Ok-clause-ticks g c = search rules
