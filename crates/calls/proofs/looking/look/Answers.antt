use Rattle.std.proofs.Common.{rules}
use Rattle.calls.proofs.Reading.{read_error}
use Rattle.calls.proofs.looking.look.Goals as goal

pub returns-in-Err-clause-told : goal.returns-in-Err-clause-told
returns-in-Err-clause-told g c = rw (read_error c.args.call.now c.look_at-answer.result c.in-Err.refusal c.requires c.in-Err.is) (search rules)
